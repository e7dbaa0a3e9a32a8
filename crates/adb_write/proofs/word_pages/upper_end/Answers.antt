use Rattle.std.proofs.Common.{◌≡◌, ◌<◌, ◌∷◌, ℕ, subst, arith}
use Rattle.std.specs.declared.cmp.Ordering.TheVariants.{Less}
use Rattle.adb_write.specs.Keys.{fingerprint_of_locator, key_of_locator}
use Rattle.adb_write.proofs.Nearby.{below_locator, higher_back}
use Rattle.adb_write.proofs.Rising.{cmp}
use Rattle.adb_write.proofs.word_pages.upper_end.Goals as goal

pub returns-in-Some-clause-higher : goal.returns-in-Some-clause-higher
returns-in-Some-clause-higher c payload content rising =
    let w : ℕ = c.in-Some.locator.now in
    let less : c.args.fingerprint < fingerprint_of_locator w = omega (arith, c.fingerprint_of_locator.ensures, c.if-fingerprint-fingerprint_of_locator.true) in
    higher_back payload (c.args.fingerprint ∷ content) c.args.page.now c.saturating_add-high.result w rising c.in-Some.ensures.lookup.3.0
    (subst (λ (v : ℕ). cmp (c.args.fingerprint ∷ content) (key_of_locator payload v) ≡ Less) (c.in-Some.ensures.lookup.3.1 w) (below_locator payload content c.args.fingerprint w less))
