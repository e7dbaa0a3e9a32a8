use Rattle.std.proofs.Common.{ℕ, List, ap, ◌∙◌}
use Rattle.adb_view.specs.Readers.{OBJECT}
use Rattle.adb_write.specs.Canonical.{array_or_object_cell}
use Rattle.adb_write.specs.Writing.{Writing, call}
use Rattle.adb_write.proofs.DepthFirst.{if_ok, writes_obj}
use Rattle.adb_write.proofs.writer.Writer.obj.Goals as goal

pub returns-clause-written : goal.returns-clause-written
returns-clause-written c =
    let a : Writing = c.args.self.now in
    if_ok _ _ (λ x e vs before p. writes_obj vs c.args.fields.now before a x c.list.new.self p (e ∙ ap (λ (ws : List ℕ). call (array_or_object_cell OBJECT ws) a) c.trimmed.ensures)) c.list.result c.list.ensures.ok
