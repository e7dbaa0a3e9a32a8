use Rattle.std.proofs.Common.{◌∙◌, ◌++◌, [], map, ap, arith}
use Rattle.std.specs.List.{flat_map}
use Rattle.std.specs.Option.{option_map_or}
use Rattle.audit_core.specs.Records.{package_records}
use Rattle.audit_core.specs.Seen.{record_seen}
use Rattle.audit_core.proofs.RecordSteps.{added_more, all_taken, at_place, flat_taken}
use Rattle.db_core.specs.Seen.{packages_of}
use Rattle.audit_core.proofs.records.database_records.Goals as goal

pub loop-i-preserved : goal.loop-i-preserved
loop-i-preserved c =
    let packages = packages_of c.args.db.now in
    let p = at_place packages c.loop-i.i (omega (arith, c.len-i-end.ensures.value, c.loop-i-test.true)) in
    added_more [] _ _ (package_records p.0) _ _
    (c.in_ok-add_package.ensures ∙ ap (λ o. map record_seen c.loop-i.records.items ++ option_map_or package_records o []) p.1)
    c.loop-i.invariant (flat_taken package_records packages c.loop-i.i p.0 p.1)

pub returns : goal.returns
returns c =
    let packages = packages_of c.args.db.now in
    c.loop-i.invariant ∙ ap (flat_map package_records) (all_taken packages c.loop-i.i (omega (arith, c.len-i-end.ensures.value, c.loop-i-test.false, c.loop-i.auto.i-end)))
