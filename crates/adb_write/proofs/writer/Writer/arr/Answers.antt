use Rattle.adb_write.proofs.DepthFirst.{if_ok, writes_arr}
use Rattle.adb_write.proofs.writer.Writer.arr.Goals as goal

pub returns-clause-written : goal.returns-clause-written
returns-clause-written c =
    if_ok _ _ (λ x e vs before p. writes_arr vs c.args.entries.now before c.args.self.now x c.list.new.self p e) c.list.result c.list.ensures.ok
