use Rattle.std.proofs.Common.{◌≡◌, [], Ok, sym, subst}
use Rattle.std.specs.Prelude.{OnOk, IfErr}
use Rattle.adb_dump.specs.ReadBack.{value_of_lines_below_schema_line}
use Rattle.gen_core.specs.Reads.{DraftOrBadLine, IsTextFault, block_taken}
use Rattle.gen_core.proofs.KindShapes.{root_taken_as}
use Rattle.gen_core.proofs.Reading.{taken}
use Rattle.gen_core.proofs.read.read_root.Goals as goal

pub returns-clause-ok : goal.returns-clause-ok
returns-clause-ok c =
    subst (λ (read : DraftOrBadLine). OnOk c.read_object.result (read ≡ taken c.read_object.new.draft c.read_object.new.cursor)) (sym (root_taken_as c.args.which c.args.draft.now c.args.cursor.now c.in-Some._line.now c.in-Some.ensures)) c.read_object.ensures.ok

pub returns-clause-err : goal.returns-clause-err
returns-clause-err c =
    subst (λ (read : DraftOrBadLine). IfErr c.read_object.result (λ fault. IsTextFault fault read)) (sym (root_taken_as c.args.which c.args.draft.now c.args.cursor.now c.in-Some._line.now c.in-Some.ensures)) c.read_object.ensures.err
