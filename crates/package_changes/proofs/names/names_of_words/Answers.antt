use Rattle.std.proofs.Common.{arith, drop, ◌+◌, ℕ, List, Bor}
use Rattle.std.proofs.lemmas.List.{drop_all}
use Rattle.package_changes.proofs.Lists.{all_told, left_at, pushed}
use Rattle.package_changes.proofs.names.names_of_words.Goals as goal

pub loop-i-preserved : goal.loop-i-preserved
loop-i-preserved c =
    pushed (λ (n : Bor (List ℕ)). n.now) c.loop-i.names.items _ _ _ (drop (c.loop-i.i + 1) c.args.words.now) _
    c.in_ok-push.ensures.items (left_at c.args.words.now c.loop-i.i _ c.word.ensures) c.loop-i.invariant

pub returns : goal.returns
returns c =
    all_told _ _ _ (drop_all c.loop-i.i c.args.words.now (omega (arith, c.len-i-end.ensures.value, c.loop-i-test.false, c.loop-i.auto.i-end))) c.loop-i.invariant
