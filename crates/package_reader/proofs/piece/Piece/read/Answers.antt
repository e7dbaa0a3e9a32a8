-- The bytes of a piece are those that were read.
use Rattle.std.proofs.Common.{rules}
use Rattle.package_reader.proofs.PieceRead.{read_len, read_seen}
use Rattle.package_reader.proofs.piece.Piece.read.Goals as goal

pub returns-clause-len : goal.returns-clause-len
returns-clause-len g c = read_len c.args.len c.read_at.new.into _ (search rules)

pub returns-clause-seen : goal.returns-clause-seen
returns-clause-seen g c = λ file_len. read_seen (g.T.Tree.history c.args.tree.now) c.args.name.now file_len c.args.at c.args.len _ c.read_at.new.into _ c.in_ok-read_at.ensures.value c.read_at.auto.into (search rules)
