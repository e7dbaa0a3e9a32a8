-- Which versions an operator of a dependency accepts (apk-package(5), "depend"). The rule is in
-- `docs/formats.md`, "Versions" ("An operator has four bits").
use Rattle.std.specs.Prelude.{ℕ, ◌==◌, Bool, true, false, ◌&&◌, ◌||◌, not, if◌then◌else◌, List, [], ◌∷◌, length, take, Option, Some, None, bit_and}
use Rattle.std.specs.Str.{bytes_eq}
use Rattle.std.specs.Ordering.{is_lt, is_eq, is_gt}
use Rattle.version_core.specs.declared.token.Class.{Class}
use Rattle.version_core.specs.declared.token.Class.TheVariants.{ZeroComponent}
use Rattle.version_core.specs.Op.{EQUAL, LESS, GREATER, FUZZY, are_match_bits_below_16_except_6_and_14}
use Rattle.version_core.specs.Order.{is_end_or_stray_class, token_cmp, tokens, version_cmp}
use Rattle.version_core.specs.Token.{Token}

-- these match bits if they are those of an operator, else None
abbrev pub operator_if_bits : ℕ → Option ℕ
operator_if_bits bits = if are_match_bits_below_16_except_6_and_14 bits then Some bits else None

-- whether the match bit `bit` is set in the match bits of an operator
abbrev pub has_bit : ℕ → ℕ → Bool
has_bit bits bit = not (bit_and bits bit == 0)

-- whether the text `found` of a component begins with the text `wanted`
abbrev pub is_prefix_of : List ℕ → List ℕ → Bool
is_prefix_of wanted found = bytes_eq wanted (take (length wanted) found)

-- whether a class is that of a component after the first that begins with 0, and so is compared as
-- text
abbrev pub is_zero_component : Class → Bool
is_zero_component ZeroComponent = true
is_zero_component _ = false

-- whether the token `found` fits the token `wanted` in a fuzzy match: both are equal. If both are components that are
-- compared as text, it is enough that `found` begins with `wanted`
unfoldable pub is_wanted_token_met_by : Token → Token → Bool
is_wanted_token_met_by wanted found =
    if is_zero_component wanted.class && is_zero_component found.class
    then is_prefix_of wanted.text found.text else
    is_eq (token_cmp found wanted)

-- whether each token of the wanted version, up to its end, fits the token of the found version at
-- the same index
abbrev pub are_wanted_tokens_met_by : List Token → List Token → Bool
are_wanted_tokens_met_by [] found = true
are_wanted_tokens_met_by (w ∷ ws) [] = is_end_or_stray_class w.class
are_wanted_tokens_met_by (w ∷ ws) (f ∷ fs) =
    is_end_or_stray_class w.class || (is_wanted_token_met_by w f && are_wanted_tokens_met_by ws fs)

-- the fuzzy match: whether the version `found` begins with the tokens of the version `wanted`
unfoldable pub is_fuzzy_match : List ℕ → List ℕ → Bool
is_fuzzy_match found wanted = are_wanted_tokens_met_by (tokens wanted) (tokens found)

-- whether the operator with these match bits accepts the version `found`: one of the bits holds for `found`, compared
-- with the version `wanted`
unfoldable pub matches : ℕ → List ℕ → List ℕ → Bool
matches bits found wanted =
    (has_bit bits EQUAL && is_eq (version_cmp found wanted))
    || (has_bit bits LESS && is_lt (version_cmp found wanted))
    || (has_bit bits GREATER && is_gt (version_cmp found wanted))
    || (has_bit bits FUZZY && is_fuzzy_match found wanted)
