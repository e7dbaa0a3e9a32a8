use Rattle.std.proofs.Common.{ap, ◌∙◌, arith}
use Rattle.adb_write.specs.Canonical.{Cell}
use Rattle.adb_write.specs.Writing.{Writing, call}
use Rattle.adb_write.proofs.Cells.{int_is}
use Rattle.adb_write.proofs.DepthFirst.{if_ok, writes_in_word, writes_int}
use Rattle.adb_write.proofs.writer.Writer.int.Goals as goal

pub returns-then-n-clause-written : goal.returns-then-n-clause-written
returns-then-n-clause-written c = writes_in_word c.args.n c.args.self.now c.in_word.result c.if-n.true c.in_word.ensures

pub returns-clause-written : goal.returns-clause-written
returns-clause-written c =
    let a : Writing = c.args.self.now in
    let b : Writing = c.add.new.self in
    if_ok _ _ (λ x e. writes_int c.args.n a x b (e ∙ ap (λ (k : Cell). call k a) (int_is c.args.n (omega (arith, c.if-n.false))))) c.add.result c.add.ensures.ok
