use Rattle.std.proofs.Common.{◌≡◌, ◌<◌, ◌∷◌, ℕ, subst, arith}
use Rattle.std.specs.declared.cmp.Ordering.TheVariants.{Greater}
use Rattle.adb_write.specs.Keys.{fingerprint_of_locator, key_of_locator}
use Rattle.adb_write.proofs.Nearby.{above_locator, lower_front}
use Rattle.adb_write.proofs.Rising.{cmp}
use Rattle.adb_write.proofs.word_pages.lower_end.Goals as goal

pub returns-in-Some-clause-lower : goal.returns-in-Some-clause-lower
returns-in-Some-clause-lower c payload content rising =
    let w : ℕ = c.in-Some.locator.now in
    let less : fingerprint_of_locator w < c.args.fingerprint = omega (arith, c.fingerprint_of_locator.ensures, c.if-fingerprint_of_locator-fingerprint.true) in
    lower_front payload (c.args.fingerprint ∷ content) c.args.page.now c.saturating_sub-low.result w rising c.in-Some.ensures.lookup.3.0
    (subst (λ (v : ℕ). cmp (c.args.fingerprint ∷ content) (key_of_locator payload v) ≡ Greater) (c.in-Some.ensures.lookup.3.1 w) (above_locator payload content c.args.fingerprint w less))
