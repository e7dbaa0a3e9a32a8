-- The byte at the index is a digit or not.
use Rattle.std.proofs.Common.{◌≡◌, ◌<◌, ℕ, true, false, List, None, Some, get_or, length, refl, sym, ◌∙◌}
use Rattle.std.proofs.lemmas.Option.{slice_get_read}
use Rattle.version_core.specs.Reading.{hex_digit_at}
use Rattle.version_core.specs.Token.{is_hex_digit}
use Rattle.version_core.proofs.lexeme.hex_digit_at.Goals as goal

-- a byte within the text that is a digit is the digit at its index
digit_there : (text : List ℕ) (at byte : ℕ) → at < length text → byte ≡ get_or text at byte → is_hex_digit byte ≡ true → Some byte ≡ hex_digit_at text at
digit_there text at byte within read hex = let here = slice_get_read text (length text) at byte refl within read in rw (here, hex) refl

-- at the index of a byte that is no digit there is none
no_digit_there : (text : List ℕ) (at byte : ℕ) → at < length text → byte ≡ get_or text at byte → is_hex_digit byte ≡ false → None ≡ hex_digit_at text at
no_digit_there text at byte within read other = let here = slice_get_read text (length text) at byte refl within read in rw (here, other) refl

pub returns-in-Some : goal.returns-in-Some
returns-in-Some c =
    let found = c.in-Some.ensures.lookup in
    digit_there c.args.text.now c.args.at c.in-Some.byte.now found.3.0 found.1 (sym c.is_hex_digit.ensures ∙ c.if-is_hex_digit.true)

pub returns-in_default : goal.returns-in_default
returns-in_default c =
    let found = c.in-Some.ensures.lookup in
    no_digit_there c.args.text.now c.args.at c.in-Some.byte.now found.3.0 found.1 (sym c.is_hex_digit.ensures ∙ c.if-is_hex_digit.false)
