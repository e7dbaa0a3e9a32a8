-- The meaning of a line's value for its field.
-- The rules are in `docs/formats.md`, "Text database of version 2", the column of values.
use Rattle.std.specs.Prelude.{ℕ, ◌==◌, Bool, true, ◌&&◌, if◌then◌else◌, List, [], ◌∷◌, ◌++◌, length, Option, Some, None, option_map, Result, Ok, Err}
use Rattle.base64.specs.Engines.{standard}
use Rattle.base64.specs.GeneralPurpose.{decode_of as base64_bytes}
use Rattle.base64.specs.declared.decode.DecodeError.{DecodeError}
use Rattle.hex.specs.Hex.{decode_of as hex_bytes}
use Rattle.hex.specs.declared.error.FromHexError.{FromHexError}
use Rattle.version_core.specs.Order.{is_version}
use Rattle.dep_core.specs.Dependency.{is_package_name}
use Rattle.make_info.specs.Fields.{TextNumberOrDependency, text, number, decimal_number_without_leading_zeros, dependency_values_of_parts, nonempty_parts_between_spaces, text_value_if}
use Rattle.v2_core.specs.declared.field.Grammar.{Grammar}
use Rattle.v2_core.specs.declared.field.Grammar.TheVariants as Grammars

-- the decoded bytes, if there are 20 of them, as many as a SHA-1 has
abbrev pub bytes_if_twenty : Result (List ℕ) DecodeError → Option (List ℕ)
bytes_if_twenty (Ok bytes) = if length bytes == 20 then Some bytes else None
bytes_if_twenty (Err e) = None

-- the SHA-1 in a text of the form `Q1` (81, 49) and the base64 (RFC 4648) of 20 bytes; None for
-- another text
abbrev pub sha1_in_text : List ℕ → Option (List ℕ)
sha1_in_text [] = None
sha1_in_text (q ∷ []) = None
sha1_in_text (q ∷ one ∷ encoded) =
    if (q == 81) && (one == 49) then bytes_if_twenty (base64_bytes standard encoded) else None

-- the values of a field that has one text
abbrev pub list_of_one_text_value : List ℕ → List TextNumberOrDependency
list_of_one_text_value bytes = text bytes ∷ []

-- the values of a field that has one number
abbrev pub list_of_one_number_value : ℕ → List TextNumberOrDependency
list_of_one_number_value n = number n ∷ []

-- the values of a commit, by the result of decoding its text: the bytes, if the text consists of pairs of
-- hexadecimal digits. Another text is dropped, and has no value
abbrev pub commit_values : Result (List ℕ) FromHexError → List TextNumberOrDependency
commit_values (Ok bytes) = list_of_one_text_value bytes
commit_values (Err e) = []

-- the values that a text after the colon of a line gives, by the grammar of the line's field; None if the text is
-- not in the grammar
abbrev pub values_under_grammar : Grammar → List ℕ → Option (List TextNumberOrDependency)
values_under_grammar Grammars.Sha1Text value = option_map list_of_one_text_value (sha1_in_text value)
values_under_grammar Grammars.PackageName value = text_value_if (is_package_name value) value
values_under_grammar Grammars.PackageVersion value = text_value_if (is_version value) value
values_under_grammar Grammars.AnyText value = text_value_if true value
values_under_grammar Grammars.Number value =
    option_map list_of_one_number_value (decimal_number_without_leading_zeros value)
values_under_grammar Grammars.Commit value = Some (commit_values (hex_bytes value))
values_under_grammar Grammars.Dependencies value =
    dependency_values_of_parts (nonempty_parts_between_spaces value)

-- the dependencies `before`, followed by further ones; None if one of the further ones is no
-- dependency
abbrev pub with_needs : List TextNumberOrDependency → Option (List TextNumberOrDependency)
    → Option (List TextNumberOrDependency)
with_needs before needs = option_map (λ needs. before ++ needs) needs
