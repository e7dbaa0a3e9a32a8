-- The definitions at small texts.
use Rattle.std.proofs.Common.{◌≡◌, refl, true, false, codes}
use Rattle.std.specs.declared.cmp.Ordering.TheVariants.{Less, Equal, Greater}
use Rattle.version_core.specs.Token.{next_lexeme, number_lexeme_by_digits, later_component_lexeme_by_digits, suffix_rank, hash_lexeme_by_hex_digits, revision_lexeme_by_text_after_hyphen}
use Rattle.version_core.specs.Order.{is_version, tokens, version_cmp}
use Rattle.version_core.specs.Matching.{matches, is_fuzzy_match, is_wanted_token_met_by}

component_that_begins_with_zero : version_cmp (codes "1.01") (codes "1.1") ≡ Less
unfolding version_cmp tokens next_lexeme number_lexeme_by_digits later_component_lexeme_by_digits
component_that_begins_with_zero = refl

components_are_numbers : version_cmp (codes "1.10") (codes "1.9") ≡ Greater
unfolding version_cmp tokens next_lexeme number_lexeme_by_digits later_component_lexeme_by_digits
components_are_numbers = refl

first_component_is_a_number : version_cmp (codes "01") (codes "1") ≡ Equal
unfolding version_cmp tokens next_lexeme number_lexeme_by_digits
first_component_is_a_number = refl

pre_release : version_cmp (codes "1.0_rc1") (codes "1.0") ≡ Less
unfolding version_cmp tokens next_lexeme number_lexeme_by_digits later_component_lexeme_by_digits suffix_rank
pre_release = refl

other_suffix : version_cmp (codes "1.0_p1") (codes "1.0") ≡ Greater
unfolding version_cmp tokens next_lexeme number_lexeme_by_digits later_component_lexeme_by_digits suffix_rank
other_suffix = refl

suffix_number : version_cmp (codes "1.0_git2") (codes "1.0_git") ≡ Greater
unfolding version_cmp tokens next_lexeme number_lexeme_by_digits later_component_lexeme_by_digits suffix_rank
suffix_number = refl

revision_below_component : version_cmp (codes "1.0-r1") (codes "1.0.1") ≡ Less
unfolding version_cmp tokens next_lexeme number_lexeme_by_digits later_component_lexeme_by_digits revision_lexeme_by_text_after_hyphen
revision_below_component = refl

letter_below_component : version_cmp (codes "1.0a") (codes "1.0.1") ≡ Less
unfolding version_cmp tokens next_lexeme number_lexeme_by_digits later_component_lexeme_by_digits
letter_below_component = refl

hash_above_revision : version_cmp (codes "1.0~ab") (codes "1.0-r1") ≡ Greater
unfolding version_cmp tokens next_lexeme number_lexeme_by_digits later_component_lexeme_by_digits hash_lexeme_by_hex_digits revision_lexeme_by_text_after_hyphen
hash_above_revision = refl

eighteen_digits : version_cmp (codes "1.123456789012345678") (codes "1") ≡ Greater
unfolding version_cmp tokens next_lexeme number_lexeme_by_digits later_component_lexeme_by_digits
eighteen_digits = refl

nineteen_digits : is_version (codes "1.1234567890123456789") ≡ false
unfolding is_version tokens next_lexeme number_lexeme_by_digits later_component_lexeme_by_digits
nineteen_digits = refl

words_are_no_version : is_version (codes "abc") ≡ false
unfolding is_version tokens number_lexeme_by_digits
words_are_no_version = refl

every_part : is_version (codes "1.2.03b_rc_p7~0af-r10") ≡ true
unfolding is_version tokens next_lexeme number_lexeme_by_digits later_component_lexeme_by_digits suffix_rank hash_lexeme_by_hex_digits revision_lexeme_by_text_after_hyphen
every_part = refl

fuzzy_cut : matches 8 (codes "1.025") (codes "1.02") ≡ true
unfolding matches is_fuzzy_match is_wanted_token_met_by version_cmp tokens next_lexeme number_lexeme_by_digits later_component_lexeme_by_digits
fuzzy_cut = refl

fuzzy_numbers : matches 8 (codes "1.25") (codes "1.2") ≡ false
unfolding matches is_fuzzy_match is_wanted_token_met_by version_cmp tokens next_lexeme number_lexeme_by_digits later_component_lexeme_by_digits
fuzzy_numbers = refl
