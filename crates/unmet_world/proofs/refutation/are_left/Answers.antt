use Rattle.std.proofs.Common.{◌++◌, List, ℕ, take, sym, subst, arith}
use Rattle.std.specs.Prelude.{option_to_list}
use Rattle.std.proofs.lemmas.List.{take_all}
use Rattle.search_tables.specs.candidate_core.Options.{IsIn}
use Rattle.search_tables.proofs.candidate_core.Steps.{take_one_more}
use Rattle.search_tables.proofs.ListLoops.{in_more}
use Rattle.unmet_world.proofs.refutation.are_left.Goals as goal

pub loop-i-init : goal.loop-i-init
loop-i-init c = λ k h. absurd h

pub returns : goal.returns
returns c = λ is k h. c.loop-i.invariant k (subst (λ (z : List ℕ). IsIn k z) (sym (take_all c.loop-i.i c.args.options.now (omega arith))) h)

pub loop-i-preserved : goal.loop-i-preserved
loop-i-preserved c =
    let ids : List ℕ = option_to_list c.args.kept.now ++ c.args.out.now in
    let one = take_one_more c.args.options.now c.loop-i.i c.get.result c.get.ensures in
    λ k h. in_more (λ j. IsIn j ids) (take c.loop-i.i c.args.options.now) c.get.result c.loop-i.invariant (c.is_left.ensures c.if-not-is_left.false) k (subst (λ (z : List ℕ). IsIn k z) one h)
