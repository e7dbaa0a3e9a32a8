-- The folders' fronts decide, or what is left does.
use Rattle.std.proofs.Common.{arith}
use Rattle.adb_fields.proofs.Compared.{apart_in_front, same_in_front}
use Rattle.adb_fields.proofs.file_path.FilePath.compare.Goals as goal

pub returns-then-not-is_eq : goal.returns-then-not-is_eq
returns-then-not-is_eq c = apart_in_front c.args.self.now.folder.now c.args.other.now.folder.now c.args.self.now.name.now c.args.other.now.name.now c.min-len.result c.compared_fronts-front.result (grind arith) (grind arith) c.compared_fronts-front.ensures (cc)

pub returns : goal.returns
returns c = same_in_front c.args.self.now.folder.now c.args.other.now.folder.now c.args.self.now.name.now c.args.other.now.name.now c.min-len.result c.compared_fronts-front.result c.compared_from.result (grind arith) (grind arith) c.compared_fronts-front.ensures (cc) c.compared_from.ensures
