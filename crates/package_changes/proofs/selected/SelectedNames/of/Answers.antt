use Rattle.std.proofs.Common.{ap, arith}
use Rattle.std.specs.List.{find}
use Rattle.solve_core.specs.candidate_core.Rank.{candidate_at_passes}
use Rattle.package_changes.specs.Changes.{is_candidate_named}
use Rattle.package_changes.specs.SelectedNames.{place_paired_with_name}
use Rattle.std.specs.Option.{option_or}
use Rattle.package_changes.proofs.NameTable.{found_all, found_further}
use Rattle.package_changes.proofs.selected.SelectedNames.of.Goals as goal

pub loop-i-init : goal.loop-i-init
loop-i-init c = λ name.
    ap (λ z. option_or (place_paired_with_name name z) (find (candidate_at_passes c.args.pool.now (is_candidate_named name)) c.args.trace.now)) c.new-names.ensures

pub loop-i-preserved : goal.loop-i-preserved
loop-i-preserved c = λ name.
    found_further (candidate_at_passes c.args.pool.now (is_candidate_named name)) _ _ _ c.args.trace.now c.loop-i.i _ c.get.ensures (c.in_ok-add.ensures name) (c.loop-i.invariant name)

pub returns : goal.returns
returns c = λ name.
    found_all (candidate_at_passes c.args.pool.now (is_candidate_named name)) _ _ c.args.trace.now c.loop-i.i
    (omega (arith, c.len-i-end.ensures, c.loop-i-test.false, c.loop-i.auto.i-end)) (c.loop-i.invariant name)
