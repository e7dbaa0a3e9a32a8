-- The grammar of a version, after apk-package(5):
-- `number{.number}{letter}{_suffix{number}}{~hash}{-r#}`. The grammar is defined here by the parts of a version:
-- how they are spelled, and which tokens they have. The rules are in `docs/formats.md`, "Versions": of
-- the grammar the paragraph "A version is a number", of the tokens "A version is compared by its
-- tokens". Byte values: 46 `.`, 95 `_`, 126 `~`, 45 `-`, 114 `r`.
use Rattle.std.specs.Prelude.{◌≡◌, ◌==◌, ℕ, Bool, true, false, ◌&&◌, ◌||◌, nat_lt, List, [], ◌∷◌, ◌++◌, length, Option, Some, None, is_some, if◌then◌else◌}
use Rattle.std.specs.Char.{is_ascii_digit, is_ascii_lowercase}
use Rattle.std.specs.List.{list_all}
use Rattle.std.specs.Str.Parse.{digits_value}
use Rattle.version_core.specs.declared.token.Class.TheVariants.{End, Revision, Hash, SuffixNumber, Letter, ZeroComponent, Component}
use Rattle.version_core.specs.Token.{Token, token_without_value, number_token, text_token, begins_with_zero, is_hex_digit, has_number_length, suffix_lexeme_by_word, suffix_rank}

-- a suffix of a version: its word, and the digits of its number if it has one
pub record SuffixPart : Type 0 where
  -- one of the words, such as `rc`
  pub name : List ℕ
  -- the digits after the word
  pub number : Option (List ℕ)

-- the parts of a version, as bytes: the components, then what may follow them (a letter, suffixes, a hash, a revision)
pub record VersionParts : Type 0 where
  -- the digits of the first component
  pub first : List ℕ
  -- the digits of each later component
  pub later : List (List ℕ)
  -- the letter after the components, if there is one
  pub letter : Option ℕ
  -- the suffixes in their order
  pub suffixes : List SuffixPart
  -- the hexadecimal digits of the hash, if there is one
  pub hash : Option (List ℕ)
  -- the digits of the revision, if there is one
  pub revision : Option (List ℕ)

-- whether an optional part is absent or passes a test
abbrev pub is_none_or : {X : Type 0} → (X → Bool) → Option X → Bool
is_none_or test None = true
is_none_or test (Some x) = test x

-- a number of a version: 1 to 18 decimal digits
abbrev pub is_numeral : List ℕ → Bool
is_numeral digits = has_number_length digits && list_all is_ascii_digit digits

-- the text of a hash: one or more lower-case hexadecimal digits
abbrev pub is_hash_text : List ℕ → Bool
is_hash_text digits = nat_lt 0 (length digits) && list_all is_hex_digit digits

-- whether a suffix has a known word, and a number or none
abbrev pub is_suffix_part : SuffixPart → Bool
is_suffix_part suffix = is_some (suffix_rank suffix.name) && is_none_or is_numeral suffix.number

-- whether each part follows the grammar, so that the parts are those of a version
abbrev pub are_version_parts : VersionParts → Bool
are_version_parts parts =
    is_numeral parts.first && (list_all is_numeral parts.later
    && (is_none_or is_ascii_lowercase parts.letter && (list_all is_suffix_part parts.suffixes
    && (is_none_or is_hash_text parts.hash && is_none_or is_numeral parts.revision))))

-- the text of the components after the first: `.` before each
abbrev pub later_components_text : List (List ℕ) → List ℕ
later_components_text [] = []
later_components_text (digits ∷ later) = 46 ∷ (digits ++ later_components_text later)

-- the text of the letter after the components, which is empty if there is none
abbrev pub letter_text : Option ℕ → List ℕ
letter_text None = []
letter_text (Some letter) = letter ∷ []

-- the text of a suffix's number, which is empty if there is none
abbrev pub number_text : Option (List ℕ) → List ℕ
number_text None = []
number_text (Some digits) = digits

-- the text of the suffixes: `_` before each, and its number after it
abbrev pub suffixes_text : List SuffixPart → List ℕ
suffixes_text [] = []
suffixes_text (suffix ∷ rest) =
    95 ∷ (suffix.name ++ (number_text suffix.number ++ suffixes_text rest))

-- the text of the hash: `~` and its digits; empty if there is none
abbrev pub hash_text : Option (List ℕ) → List ℕ
hash_text None = []
hash_text (Some digits) = 126 ∷ digits

-- the text of the revision: `-r` and its digits; empty if there is none
abbrev pub revision_text : Option (List ℕ) → List ℕ
revision_text None = []
revision_text (Some digits) = 45 ∷ 114 ∷ digits

-- the text of a version, spelled from its parts
abbrev pub spelling : VersionParts → List ℕ
spelling parts =
    parts.first ++ (later_components_text parts.later ++ (letter_text parts.letter
    ++ (suffixes_text parts.suffixes ++ (hash_text parts.hash ++ revision_text parts.revision))))

-- the token of a component after the first, which is compared as text if it begins with 0
abbrev pub component_token : List ℕ → Token
component_token digits =
    if begins_with_zero digits then text_token ZeroComponent digits
    else number_token Component (digits_value 10 digits)

-- the tokens of the components after the first
abbrev pub later_component_tokens : List (List ℕ) → List Token
later_component_tokens [] = []
later_component_tokens (digits ∷ later) = component_token digits ∷ later_component_tokens later

-- the token of the letter, if there is one
abbrev pub letter_tokens : Option ℕ → List Token
letter_tokens None = []
letter_tokens (Some letter) = number_token Letter letter ∷ []

-- the token of a suffix's number, if there is one
abbrev pub number_tokens : Option (List ℕ) → List Token
number_tokens None = []
number_tokens (Some digits) = number_token SuffixNumber (digits_value 10 digits) ∷ []

-- the tokens of the suffixes: the token of each, and that of its number
abbrev pub suffix_tokens : List SuffixPart → List Token
suffix_tokens [] = []
suffix_tokens (suffix ∷ rest) =
    (suffix_lexeme_by_word suffix.name).token ∷ (number_tokens suffix.number ++ suffix_tokens rest)

-- the token of the hash, if there is one
abbrev pub hash_tokens : Option (List ℕ) → List Token
hash_tokens None = []
hash_tokens (Some digits) = text_token Hash digits ∷ []

-- the token of the revision, if there is one
abbrev pub revision_tokens : Option (List ℕ) → List Token
revision_tokens None = []
revision_tokens (Some digits) = number_token Revision (digits_value 10 digits) ∷ []

-- the tokens of a version with these parts, the end included
abbrev pub tokens_of : VersionParts → List Token
tokens_of parts =
    number_token Component (digits_value 10 parts.first)
    ∷ (later_component_tokens parts.later ++ (letter_tokens parts.letter ++ (suffix_tokens parts.suffixes
    ++ (hash_tokens parts.hash ++ (revision_tokens parts.revision ++ token_without_value End ∷ [])))))

-- a text is a version by the grammar: some parts that follow the grammar spell it
pub record IsSpelledVersion (text : List ℕ) : Type 0 where
  -- the parts of the version
  pub parts : VersionParts
  -- each part follows the grammar
  pub sound : are_version_parts parts ≡ true
  -- the parts spell the text
  pub whole : spelling parts ≡ text

-- ---- the bytes of a version

-- whether a byte may occur in a version: digits, lower-case letters, `.`, `_`, `~`, `-`
abbrev pub is_version_byte : ℕ → Bool
is_version_byte b =
    is_ascii_digit b
    || (is_ascii_lowercase b || ((b == 46) || ((b == 95) || ((b == 126) || (b == 45)))))

-- whether the first byte of a text is a decimal digit
abbrev pub begins_with_digit : List ℕ → Bool
begins_with_digit [] = false
begins_with_digit (b ∷ rest) = is_ascii_digit b
