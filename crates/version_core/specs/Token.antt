-- The tokens of a version's text, after apk-package(5). The rule is in `docs/formats.md`, "Versions"
-- ("A version is a number"). Byte values: 46 `.`, 48 `0`, 95 `_`, 97 to 102 `a` to `f`, 114 `r`, 126
-- `~`, 45 `-`.
use Rattle.std.specs.Prelude.{ℕ, ◌+◌, ◌==◌, Bool, true, false, ◌&&◌, ◌||◌, nat_lt, nat_le, if◌then◌else◌, List, [], ◌∷◌, length, codes, Option, Some, None}
use Rattle.std.specs.Char.{is_ascii_digit, is_ascii_lowercase}
use Rattle.std.specs.List.{take_while}
use Rattle.std.specs.Str.{bytes_eq}
use Rattle.std.specs.Str.Parse.{digits_value}
use Rattle.version_core.specs.declared.token.Class.{Class}
use Rattle.version_core.specs.declared.token.Class.TheVariants.{Stray, PreRelease, End, Revision, Hash, SuffixNumber, Suffix, Letter, ZeroComponent, Component}

-- a part of a version as it is compared: its class, and its value, which is a number or a text
pub record Token : Type 0 where
  -- the class of the token, such as a component or a suffix
  pub class : Class
  -- the value if the token is compared by a number, else 0
  pub number : ℕ
  -- the value if the token is compared as text, else empty
  pub text : List ℕ

-- the token of this class if it has no value besides its class, such as the end of a version
abbrev pub token_without_value : Class → Token
token_without_value class = record { class = class; number = 0; text = [] }

-- a token that is compared by a number, such as a component
abbrev pub number_token : Class → ℕ → Token
number_token class number = record { class = class; number = number; text = [] }

-- a token that is compared as text, such as a hash
abbrev pub text_token : Class → List ℕ → Token
text_token class text = record { class = class; number = 0; text = text }

-- a token, and how many bytes it has in the text
pub record Lexeme : Type 0 where
  -- the token
  pub token : Token
  -- how many bytes the token has in the text, with its mark, such as `.` or `-r`
  pub width : ℕ

-- the lexeme with this token and this width in bytes
abbrev pub lexeme : Token → ℕ → Lexeme
lexeme token width = record { token = token; width = width }

-- the lexeme for bytes that are no token of the grammar
abbrev pub stray_lexeme : Lexeme
stray_lexeme = lexeme (token_without_value Stray) 0

-- whether a byte is a lower-case hexadecimal digit
abbrev pub is_hex_digit : ℕ → Bool
is_hex_digit b = is_ascii_digit b || (nat_le 97 b && nat_le b 102)

-- the decimal digits that a text begins with
abbrev pub leading_digits : List ℕ → List ℕ
leading_digits text = take_while is_ascii_digit text

-- the hexadecimal digits that a text begins with
abbrev pub leading_hex_digits : List ℕ → List ℕ
leading_hex_digits text = take_while is_hex_digit text

-- the lower-case letters that a text begins with
abbrev pub leading_letters : List ℕ → List ℕ
leading_letters text = take_while is_ascii_lowercase text

-- the most digits that a number may have, so that each number fits into 64 bits (a limit of this project)
abbrev pub MOST_DIGITS : ℕ
MOST_DIGITS = 18

-- whether these digits are as many as a number of a version may have: 1 to 18
abbrev pub has_number_length : List ℕ → Bool
has_number_length digits = nat_lt 0 (length digits) && nat_le (length digits) MOST_DIGITS

-- the lexeme of a number of this class, given its digits; `mark` is how many bytes of its mark precede them. The lexeme
-- is stray if there are no digits or too many
unfoldable pub number_lexeme_by_digits : Class → ℕ → List ℕ → Lexeme
number_lexeme_by_digits class mark digits =
    if has_number_length digits
    then lexeme (number_token class (digits_value 10 digits)) (mark + length digits)
    else stray_lexeme

-- whether the first digit is `0`
abbrev pub begins_with_zero : List ℕ → Bool
begins_with_zero [] = false
begins_with_zero (b ∷ rest) = b == 48

-- the lexeme of a component after the first, given the digits after its mark `.`. The component is compared as text if
-- the first digit is 0, else as a number
unfoldable pub later_component_lexeme_by_digits : List ℕ → Lexeme
later_component_lexeme_by_digits digits =
    if has_number_length digits && begins_with_zero digits
    then lexeme (text_token ZeroComponent digits) (1 + length digits)
    else number_lexeme_by_digits Component 1 digits

-- the rank of a suffix, given its word, in the order of suffixes, counted from 0; None if the word is no suffix
unfoldable pub suffix_rank : List ℕ → Option ℕ
suffix_rank word =
    if bytes_eq word (codes "alpha") then Some 0 else
    if bytes_eq word (codes "beta") then Some 1 else
    if bytes_eq word (codes "pre") then Some 2 else
    if bytes_eq word (codes "rc") then Some 3 else
    if bytes_eq word (codes "cvs") then Some 4 else
    if bytes_eq word (codes "svn") then Some 5 else
    if bytes_eq word (codes "git") then Some 6 else
    if bytes_eq word (codes "hg") then Some 7 else
    if bytes_eq word (codes "p") then Some 8 else
    None

-- the class of the suffix of this rank: the first four suffixes make pre-releases
abbrev pub suffix_class : ℕ → Class
suffix_class rank = if nat_lt rank 4 then PreRelease else Suffix

-- the lexeme of a suffix, given its word and the rank of this word; a word without rank makes it
-- stray
abbrev pub suffix_lexeme_by_word_and_rank : List ℕ → Option ℕ → Lexeme
suffix_lexeme_by_word_and_rank word None = stray_lexeme
suffix_lexeme_by_word_and_rank word (Some rank) =
    lexeme (number_token (suffix_class rank) rank) (1 + length word)

-- the lexeme of a suffix, given the word after its mark `_`
abbrev pub suffix_lexeme_by_word : List ℕ → Lexeme
suffix_lexeme_by_word word = suffix_lexeme_by_word_and_rank word (suffix_rank word)

-- the lexeme of a hash, given the digits after its mark `~`; without a digit it is stray
unfoldable pub hash_lexeme_by_hex_digits : List ℕ → Lexeme
hash_lexeme_by_hex_digits digits =
    if nat_lt 0 (length digits) then lexeme (text_token Hash digits) (1 + length digits)
    else stray_lexeme

-- the lexeme of a revision, given the text after its `-`, which has to begin with `r` and a number
unfoldable pub revision_lexeme_by_text_after_hyphen : List ℕ → Lexeme
revision_lexeme_by_text_after_hyphen [] = stray_lexeme
revision_lexeme_by_text_after_hyphen (b ∷ rest) =
    if b == 114 then number_lexeme_by_digits Revision 2 (leading_digits rest) else stray_lexeme

-- whether a token of this class is a component, so that another component or a letter may follow
abbrev pub is_component : Class → Bool
is_component ZeroComponent = true
is_component Component = true
is_component _ = false

-- whether a token of this class is a suffix, so that a number without a mark may follow
abbrev pub is_suffix : Class → Bool
is_suffix PreRelease = true
is_suffix Suffix = true
is_suffix _ = false

-- whether a suffix or a hash may follow a token of this class
abbrev pub is_allowed_before_suffix_or_hash : Class → Bool
is_allowed_before_suffix_or_hash Letter = true
is_allowed_before_suffix_or_hash SuffixNumber = true
is_allowed_before_suffix_or_hash class = is_component class || is_suffix class

-- whether a revision may follow a token of this class
abbrev pub is_allowed_before_revision : Class → Bool
is_allowed_before_revision Hash = true
is_allowed_before_revision class = is_allowed_before_suffix_or_hash class

-- the first lexeme of a text, given the class `last` of the token before the text. The first byte of the text and this
-- class decide (46 is `.`, 95 `_`, 126 `~`, 45 `-`)
unfoldable pub next_lexeme : Class → List ℕ → Lexeme
next_lexeme last [] = lexeme (token_without_value End) 0
next_lexeme last (b ∷ rest) =
    if (b == 46) && is_component last then later_component_lexeme_by_digits (leading_digits rest) else
    if is_ascii_lowercase b && is_component last then lexeme (number_token Letter b) 1 else
    if (b == 95) && is_allowed_before_suffix_or_hash last then suffix_lexeme_by_word
    (leading_letters rest) else
    if is_ascii_digit b && is_suffix last
    then number_lexeme_by_digits SuffixNumber 0 (leading_digits (b ∷ rest)) else
    if (b == 126) && is_allowed_before_suffix_or_hash last then hash_lexeme_by_hex_digits
    (leading_hex_digits rest) else
    if (b == 45) && is_allowed_before_revision last then revision_lexeme_by_text_after_hyphen rest else
    stray_lexeme

-- the first lexeme of a text. At the start of a version (None) it is the first component. Otherwise the class of the
-- token before the text (`last`) and the first byte of the text decide
abbrev pub lexeme_at : Option Class → List ℕ → Lexeme
lexeme_at None text = number_lexeme_by_digits Component 0 (leading_digits text)
lexeme_at (Some last) text = next_lexeme last text
