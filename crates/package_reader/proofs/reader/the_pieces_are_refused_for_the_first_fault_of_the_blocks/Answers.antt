-- Piece by piece.
use Rattle.std.proofs.Common.{◌≡◌, Bool, true, false, if◌then◌else◌, List, [], ◌++◌, ℕ, refl, ap, sym, ◌∙◌}
use Rattle.pkg_core.specs.Contents.{FilesRead, fault_of_files_read}
use Rattle.pkg_core.specs.Pieces.{PiecesRead, files_joined_from_pieces, no_piece, piece, pieces_read_from_blocks, refusal, refusal_of_pieces}
use Rattle.pkg_core.proofs.Joined.{joined}
use Rattle.package_reader.proofs.reader.the_pieces_are_refused_for_the_first_fault_of_the_blocks.Goals as goal

either : (last : Bool) (a b : FilesRead) (pieces : PiecesRead) → fault_of_files_read a ≡ refusal_of_pieces pieces → fault_of_files_read b ≡ refusal_of_pieces pieces → fault_of_files_read (if last then a else b) ≡ refusal_of_pieces pieces
either true a b pieces first other = first
either false a b pieces first other = other

fault_joined : (pieces : PiecesRead) (so_far : List ℕ) → fault_of_files_read (files_joined_from_pieces pieces so_far) ≡ refusal_of_pieces pieces
fault_joined no_piece so_far = refl
fault_joined (refusal c) so_far = refl
fault_joined (piece part bytes further) so_far = either part.last _ _ further (fault_joined further []) (fault_joined further (so_far ++ bytes))

pub returns : goal.returns
returns c = λ expected r. sym (fault_joined (pieces_read_from_blocks expected r) []) ∙ ap fault_of_files_read (joined expected r)
