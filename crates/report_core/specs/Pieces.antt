-- The pieces from which the program puts together the text of a refusal. Serves the proof of `write_error`, whose
-- contract cites *refusal_line*; how each piece is printed is a rule of `docs/commands.md`, "Error lines".
use Rattle.std.specs.Prelude.{ℕ, List, [], ◌∷◌, ◌++◌, Option, Some, None}
use Rattle.std.specs.Fmt.{decimal}
use Rattle.hex.specs.Hex.{encode_lower}
use Rattle.report_core.specs.Texts.{eight_hex_digits, digest_bytes, folder_and_file_position_text, cause_text}
use Rattle.report_core.specs.declared.sentence.Sentence.{Sentence}
use Rattle.base_core.specs.declared.cause.Cause.{Cause}
use Rattle.report_core.specs.declared.lines.Piece.{Piece}
use Rattle.report_core.specs.declared.lines.Piece.TheVariants.{Bytes, Number, HexNumber, Hex, Digest, Position, Nothing}

-- the text of a piece
abbrev pub piece_text : Piece → List ℕ
piece_text (Bytes bytes) = bytes.now
piece_text (Number number) = decimal number
piece_text (HexNumber number) = eight_hex_digits number
piece_text (Hex bytes) = encode_lower bytes.now
piece_text (Digest digest) = encode_lower (digest_bytes digest)
piece_text (Position folder file) = folder_and_file_position_text folder file
piece_text Nothing = []

-- the texts of pieces, one after another
abbrev pub pieces_text : List Piece → List ℕ
pieces_text [] = []
pieces_text (piece ∷ pieces) = piece_text piece ++ pieces_text pieces

-- the text of a cause, if there is one
abbrev pub cause_text_if_any : Option Cause → List ℕ
cause_text_if_any (Some cause) = cause_text cause
cause_text_if_any None = []

-- the text of a refusal, given as a `Sentence` of the program: the pieces, and then the cause, if there is one
abbrev pub sentence_text : Sentence → List ℕ
sentence_text sentence = pieces_text sentence.pieces ++ cause_text_if_any sentence.cause
