-- The tokens that the code reads one by one, as those of the definitions, and how much of a text it has
-- skipped. Serves the contracts of `src/lexeme.rt`, `src/token.rt`, `src/order.rt` and `src/fuzzy.rt`;
-- the rules are in `docs/formats.md`, "Versions".
use Rattle.std.specs.Prelude.{◌≡◌, ℕ, ◌+◌, ◌-◌, ◌≤◌, ◌==◌, ◌&&◌, ◌||◌, Bool, true, false, not, if◌then◌else◌, List, [], ◌∷◌, length, take, drop, slice_get, slice_index, slice_index_or, EachIndex, IsTrue, Option, Some, None}
use Rattle.std.specs.Char.{is_ascii_digit, is_ascii_lowercase}
use Rattle.std.specs.List.{list_all}
use Rattle.std.specs.Ordering.{is_eq, nat_cmp, ordering_then}
use Rattle.std.specs.declared.cmp.Ordering.{Ordering}
use Rattle.std.specs.Cmp.Lexicographic.{slice_cmp}
use Rattle.version_core.specs.declared.token.Class.{Class}
use Rattle.version_core.specs.declared.token.Class.TheVariants.{Hash}
use Rattle.version_core.specs.declared.order.Parting.{Parting}
use Rattle.version_core.specs.declared.order.Parting.TheVariants.{AtFront, AtMark, InHash}
use Rattle.version_core.specs.declared.token.TokenAt.{TokenAt}
use Rattle.version_core.specs.declared.token.Tokens.{Tokens}
use Rattle.version_core.specs.declared.lexeme.Lexeme.{Lexeme as LexemeAt}
use Rattle.version_core.specs.declared.lexeme.Run.{Run}
use Rattle.version_core.specs.declared.lexeme.Run.TheVariants.{Digits, Letters, HexDigits}
use Rattle.version_core.specs.Token.{Token, Lexeme, lexeme, is_hex_digit, leading_hex_digits}
use Rattle.version_core.specs.Matching.{are_wanted_tokens_met_by}
use Rattle.version_core.specs.Order.{token_cmp, tokens_after_class_skipping_bytes}

-- the token of the definitions for a token of the program: its text ends before the first byte that is no hexadecimal
-- digit
abbrev pub token_view : TokenAt → Token
token_view token =
    record { class = token.class; number = token.number; text = leading_hex_digits token.text.now }

-- whether a token of this class is a hash
abbrev pub is_hash : Class → Bool
is_hash Hash = true
is_hash _ = false

-- how many bytes at the front of `rest` still belong to the token before it, which has the given class: all leading
-- hexadecimal digits if it is a hash, and none otherwise
abbrev pub unread_len : Option Class → List ℕ → ℕ
unread_len None rest = 0
unread_len (Some class) rest = if is_hash class then length (leading_hex_digits rest) else 0

-- the tokens that a reader of the program has not taken yet
abbrev pub tokens_left : Tokens → List Token
tokens_left left =
    tokens_after_class_skipping_bytes left.last (unread_len left.last left.rest.now) left.rest.now

-- the lexeme of the definitions for a lexeme of the program whose token is no hash: the reader skips all of its bytes
abbrev pub whole_lexeme : LexemeAt → Lexeme
whole_lexeme found = lexeme (token_view found.token) found.advance

-- the lexeme of the definitions for the lexeme of the program at the front of a text. Of a hash, the reader skips only
-- the mark, so that the digits after it are added to the width
abbrev pub lexeme_view : List ℕ → LexemeAt → Lexeme
lexeme_view text found =
    lexeme (token_view found.token)
    (found.advance + unread_len (Some found.token.class) (drop found.advance text))

-- each of the bytes is a decimal digit
abbrev pub AreDigits : List ℕ → Type 0
AreDigits digits = EachIndex digits (λ i. IsTrue (is_ascii_digit (slice_index digits i)))

-- the byte, if there is one and it is a lower-case hexadecimal digit
abbrev pub hex_digit_if_some : Option ℕ → Option ℕ
hex_digit_if_some None = None
hex_digit_if_some (Some byte) = if is_hex_digit byte then Some byte else None

-- the byte at an index of a text, if there is one and it is a hexadecimal digit
abbrev pub hex_digit_at : List ℕ → ℕ → Option ℕ
hex_digit_at text at = hex_digit_if_some (slice_get text at)

-- whether a byte may be in a run of this kind
abbrev pub is_in_run : Run → ℕ → Bool
is_in_run Digits b = is_ascii_digit b
is_in_run Letters b = is_ascii_lowercase b
is_in_run HexDigits b = is_hex_digit b

-- how many bytes a reader has not read yet, without the remaining digits of a hash that it has taken
abbrev pub bytes_left : Tokens → ℕ
bytes_left left = length (drop (unread_len left.last left.rest.now) left.rest.now)

-- whether a byte begins a token wherever it occurs in a version: `.`, `_`, `~` or `-`
abbrev pub is_token_mark : ℕ → Bool
is_token_mark b = (b == 46) || (b == 95) || (b == 126) || (b == 45)

-- whether the first byte of a text begins a token wherever it occurs
abbrev pub begins_with_mark : List ℕ → Bool
begins_with_mark [] = false
begins_with_mark (b ∷ rest) = is_token_mark b

-- whether no byte of a text begins a token wherever it occurs
abbrev pub is_unmarked : List ℕ → Bool
is_unmarked text = list_all (λ b. not (is_token_mark b)) text

-- the last mark of a text (a byte that begins a token wherever it occurs) has this index
pub record IsLastMark (text : List ℕ) (at : ℕ) : Type 0 where
  -- the byte at this index begins a token
  pub mark : begins_with_mark (drop at text) ≡ true
  -- no byte after it begins a token wherever it occurs
  pub last : is_unmarked (drop (at + 1) text) ≡ true

-- the most bytes of a version in a row, outside of a hash, that begin no token wherever they occur: the
-- word `alpha` and 18 digits
abbrev pub MOST_UNMARKED : ℕ
MOST_UNMARKED = 23

-- none of the last `MOST_UNMARKED` + 1 bytes of a text begins a token wherever it occurs
abbrev pub HasUnmarkedEnd : List ℕ → Type 0
HasUnmarkedEnd text = is_unmarked (drop (length text - (MOST_UNMARKED + 1)) text) ≡ true

-- the first `len` bytes of two texts are the same
pub record AreEqualUpTo (left right : List ℕ) (len : ℕ) : Type 0 where
  -- each text has at least this many bytes
  pub within : (len ≤ length left) × (len ≤ length right)
  -- the first bytes are the same in both
  pub same : take len left ≡ take len right

-- two texts are equal up to some length, and the last mark within this length is at the offset `at`
pub record AreEqualUpToMark (left right : List ℕ) (at : ℕ) : Type 0 where
  -- the length up to which the texts are equal
  pub len : ℕ
  -- the texts are equal up to this length
  pub equal : AreEqualUpTo left right len
  -- the last mark within this length is at this offset
  pub last : IsLastMark (take len left) at

-- two texts are equal up to the length `len`, and the last mark within it is that of a hash, `~`
pub record AreEqualUpToPlaceInHash (left right : List ℕ) (len : ℕ) : Type 0 where
  -- the index of the last mark
  pub at : ℕ
  -- the texts are equal up to the length `len`
  pub equal : AreEqualUpTo left right len
  -- the last mark within this length is at this index
  pub last : IsLastMark (take len left) at
  -- this mark is the byte `~`
  pub tilde : slice_index_or left at 0 ≡ 126

-- two texts are equal before the place from which both are read (`Parting`)
abbrev pub AreEqualUpToParting : List ℕ → List ℕ → Parting → Type 0
AreEqualUpToParting left right AtFront = Unit {0}
AreEqualUpToParting left right (AtMark at) = AreEqualUpToMark left right at
AreEqualUpToParting left right (InHash len) = AreEqualUpToPlaceInHash left right len

-- the order of two versions that are equal up to a place within the hash of both, given what follows this place in each
abbrev pub hash_cmp : List ℕ → List ℕ → Ordering
hash_cmp left right =
    ordering_then (slice_cmp nat_cmp (leading_hex_digits left) (leading_hex_digits right))
    (slice_cmp token_cmp (tokens_after_class_skipping_bytes (Some Hash)
    (length (leading_hex_digits left)) left)
    (tokens_after_class_skipping_bytes (Some Hash) (length (leading_hex_digits right)) right))

-- whether a found version is a fuzzy match of a wanted one, if both are equal up to a place within the hash of each,
-- given what follows this place in each
abbrev pub hash_fits : List ℕ → List ℕ → Bool
hash_fits wanted found =
    is_eq (slice_cmp nat_cmp (leading_hex_digits found) (leading_hex_digits wanted))
    && are_wanted_tokens_met_by
    (tokens_after_class_skipping_bytes (Some Hash) (length (leading_hex_digits wanted)) wanted)
    (tokens_after_class_skipping_bytes (Some Hash) (length (leading_hex_digits found)) found)
