use Rattle.std.proofs.Common.{arith}
use Rattle.change_outcome.specs.adb_fields.ListValue.{list_value}
use Rattle.change_outcome.specs.adb_schema.Views.{package_value}
use Rattle.change_report.proofs.Watching.{no_pattern, pattern_fails, pattern_matches}
use Rattle.change_report.proofs.watched.watches_folder.Goals as goal

pub returns : goal.returns
returns c =
    no_pattern c.args.folder.now (package_value c.args.pkg.now) (list_value c.triggers-patterns.result) c.loop-i.i c.triggers-patterns.ensures
    (omega (arith, c.len-i-end.ensures.value, c.loop-i-test.false)) c.loop-i.invariant

pub returns-then-is_matched_at : goal.returns-then-is_matched_at
returns-then-is_matched_at c =
    pattern_matches c.args.folder.now (package_value c.args.pkg.now) (list_value c.triggers-patterns.result) c.loop-i.i c.is_matched_at.result c.triggers-patterns.ensures
    (omega (arith, c.len-i-end.ensures.value, c.loop-i-test.true)) c.is_matched_at.ensures c.if-is_matched_at.true c.loop-i.invariant

pub loop-i-preserved : goal.loop-i-preserved
loop-i-preserved c =
    pattern_fails c.args.folder.now (list_value c.triggers-patterns.result) c.loop-i.i c.is_matched_at.result
    (omega (arith, c.len-i-end.ensures.value, c.loop-i-test.true)) c.is_matched_at.ensures c.if-is_matched_at.false c.loop-i.invariant
