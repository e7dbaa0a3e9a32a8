use Rattle.std.proofs.Common.{sym, ap, ◌∙◌}
use Rattle.std.proofs.lemmas.Bool.{eqb-true}
use Rattle.adb_write.specs.Canonical.{Cell}
use Rattle.adb_write.specs.Writing.{Writing, call}
use Rattle.adb_write.proofs.Cells.{blob_filled}
use Rattle.adb_write.proofs.DepthFirst.{if_ok, writes_empty, writes_blob}
use Rattle.adb_write.proofs.writer.Writer.blob.Goals as goal

pub returns-then-is_empty-clause-written : goal.returns-then-is_empty-clause-written
returns-then-is_empty-clause-written c = rw c.of.ensures (writes_empty c.args.bytes.now c.args.self.now (eqb-true _ _ (sym c.if-is_empty.ensures)))

pub returns-clause-written : goal.returns-clause-written
returns-clause-written c =
    let a : Writing = c.args.self.now in
    let b : Writing = c.add.new.self in
    if_ok _ _ (λ x e. writes_blob c.args.bytes.now a x b (e ∙ ap (λ (k : Cell). call k a) (blob_filled c.args.bytes.now (sym c.if-is_empty.ensures)))) c.add.result c.add.ensures.ok
