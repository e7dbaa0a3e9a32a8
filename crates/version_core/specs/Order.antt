-- The order of versions, after apk-package(5): they are compared by tokens, and the first that differ
-- decide. The rule is in `docs/formats.md`, "Versions" ("A version is compared by its tokens").
use Rattle.std.specs.Prelude.{ℕ, suc, zero, ◌-◌, Bool, true, false, not, if◌then◌else◌, List, [], ◌∷◌, Option, Some, None}
use Rattle.std.specs.List.{list_all}
use Rattle.std.specs.Ordering.{nat_cmp, on, then_cmp}
use Rattle.std.specs.declared.cmp.Ordering.{Ordering}
use Rattle.std.specs.Cmp.Lexicographic.{slice_cmp}
use Rattle.version_core.specs.declared.token.Class.{Class}
use Rattle.version_core.specs.declared.token.Class.TheVariants.{Stray, PreRelease, End, Revision, Hash, SuffixNumber, Suffix, Letter, ZeroComponent, Component}
use Rattle.version_core.specs.Token.{Token, lexeme_at}

-- whether a class is that of bytes outside the grammar
abbrev pub is_stray_class : Class → Bool
is_stray_class Stray = true
is_stray_class _ = false

-- whether a token of this class is the last one of a text: it is the end, or stray
abbrev pub is_end_or_stray_class : Class → Bool
is_end_or_stray_class End = true
is_end_or_stray_class class = is_stray_class class

-- the tokens of a text that follows a token of the class `last` in a version; None if the text is the whole version.
-- The first `inside` bytes of the text still belong to this token
abbrev pub tokens_after_class_skipping_bytes : Option Class → ℕ → List ℕ → List Token
tokens_after_class_skipping_bytes last inside [] = (lexeme_at last []).token ∷ []
tokens_after_class_skipping_bytes last (suc inside) (b ∷ rest) =
    tokens_after_class_skipping_bytes last inside rest
tokens_after_class_skipping_bytes last zero (b ∷ rest) =
    let found = lexeme_at last (b ∷ rest) in
    found.token
    ∷ (if is_end_or_stray_class found.token.class then []
    else tokens_after_class_skipping_bytes (Some found.token.class) (found.width - 1) rest)

-- the tokens of a text, with the end of the text as the last token. At bytes outside the grammar they end with a stray
-- token
unfoldable pub tokens : List ℕ → List Token
tokens text = tokens_after_class_skipping_bytes None 0 text

-- whether none of the tokens is stray, so that they are those of a version
abbrev pub has_no_stray_token : List Token → Bool
has_no_stray_token found = list_all (λ token. not (is_stray_class token.class)) found

-- whether a text is a version
unfoldable pub is_version : List ℕ → Bool
is_version text = has_no_stray_token (tokens text)

-- the rank of a class in the order of classes, from 0 for the least
abbrev pub class_rank : Class → ℕ
class_rank Stray = 0
class_rank PreRelease = 1
class_rank End = 2
class_rank Revision = 3
class_rank Hash = 4
class_rank SuffixNumber = 5
class_rank Suffix = 6
class_rank Letter = 7
class_rank ZeroComponent = 8
class_rank Component = 9

-- the order of two tokens: by the rank of their classes, and by their value if the classes are equal
abbrev pub token_cmp : Token → Token → Ordering
token_cmp =
    then_cmp (on (λ token. class_rank token.class) nat_cmp)
    (then_cmp (on (λ token. token.number) nat_cmp) (on (λ token. token.text) (slice_cmp nat_cmp)))

-- the order of two versions by their texts: the first tokens that differ decide
unfoldable pub version_cmp : List ℕ → List ℕ → Ordering
version_cmp = on tokens (slice_cmp token_cmp)
