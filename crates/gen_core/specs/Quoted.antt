-- The bytes that characters of a line represent: two hexadecimal digits, and a character or an escape of
-- a text between quotes. The rule is in `docs/formats.md`, "Dump text". Serves the contracts of
-- `src/value.rt`.
use Rattle.std.specs.Prelude.{ℕ, ◌+◌, ◌-◌, ◌*◌, ◌&&◌, ◌||◌, List, [], ◌∷◌, Option, Some, None, option_map, option_and_then, nat_le, ◌==◌, if◌then◌else◌}
use Rattle.adb_dump.specs.Dump.{is_printable}

-- the byte that the first characters of a text represent, and the characters after them
abbrev pub FirstByte : Type 0
FirstByte = ℕ × List ℕ

-- the value of a hexadecimal digit in lower case: `0` to `9` (0x30 to 0x39) or `a` to `f` (0x61 to 0x66)
abbrev pub hex_digit_value : ℕ → Option ℕ
hex_digit_value c =
    if nat_le 0x30 c && nat_le c 0x39 then Some (c - 0x30)
    else if nat_le 0x61 c && nat_le c 0x66 then Some (c - 0x57)
    else None

-- the byte of two hexadecimal digits with these values, and the characters `cs` after them; None if
-- one is no digit
abbrev pub byte_of_digits : Option ℕ → Option ℕ → List ℕ → Option FirstByte
byte_of_digits None low cs = None
byte_of_digits (Some high) None cs = None
byte_of_digits (Some high) (Some low) cs = Some (high * 16 + low, cs)

-- the byte of the first two characters, which are hexadecimal digits; None if they are not
abbrev pub hex_byte_at : List ℕ → Option FirstByte
hex_byte_at [] = None
hex_byte_at (h ∷ []) = None
hex_byte_at (h ∷ l ∷ cs) = byte_of_digits (hex_digit_value h) (hex_digit_value l) cs

-- this byte, if two hexadecimal digits are its only form between quotes; None for a byte with a shorter form, such as
-- a line end (0x0a)
abbrev pub if_only_hex : Option FirstByte → Option FirstByte
if_only_hex None = None
if_only_hex (Some b) = if b.0 == 0x0a || is_printable b.0 then None else Some b

-- the byte of an escape, by the characters from after its backslash on: `n` (0x6e), a backslash (0x5c), a quote
-- (0x22), or `x` (0x78) and two hexadecimal digits
abbrev pub escaped_at : List ℕ → Option FirstByte
escaped_at [] = None
escaped_at (d ∷ cs) =
    if d == 0x6e then Some (0x0a, cs)
    else if d == 0x5c then Some (0x5c, cs)
    else if d == 0x22 then Some (0x22, cs)
    else if d == 0x78 then if_only_hex (hex_byte_at cs)
    else None

-- the first byte of a text between quotes: a printable character, or an escape. None for a quote, and
-- for a character that is not printable
abbrev pub unescaped_at : List ℕ → Option FirstByte
unescaped_at [] = None
unescaped_at (c ∷ cs) =
    if c == 0x5c then escaped_at cs
    else if c == 0x22 then None
    else if is_printable c then Some (c, cs)
    else None
