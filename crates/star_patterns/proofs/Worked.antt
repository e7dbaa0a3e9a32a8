-- Patterns by hand.
use Rattle.std.proofs.Common.{◌≡◌, true, false, [], ◌∷◌, refl}
use Rattle.std.specs.Prelude.{codes}
use Rattle.star_patterns.specs.Fills.{filled_pattern, star_count}
use Rattle.star_patterns.specs.Patterns.{is_whole_text_matched, matches_some_part}

no_star : is_whole_text_matched (codes "ab") (codes "ab") ≡ true
no_star = refl

no_star_and_more : is_whole_text_matched (codes "ab") (codes "abc") ≡ false
no_star_and_more = refl

star_for_nothing : is_whole_text_matched (codes "a*b") (codes "ab") ≡ true
star_for_nothing = refl

star_for_stars : is_whole_text_matched (codes "a*b") (codes "a*/*b") ≡ true
star_for_stars = refl

star_alone : is_whole_text_matched (codes "*") [] ≡ true
star_alone = refl

two_stars : is_whole_text_matched (codes "**") (codes "a") ≡ true
two_stars = refl

pieces_do_not_overlap : is_whole_text_matched (codes "ab*ba") (codes "aba") ≡ false
pieces_do_not_overlap = refl

first_place_is_not_enough : is_whole_text_matched (codes "*ab") (codes "abaab") ≡ true
first_place_is_not_enough = refl

other_case : is_whole_text_matched (codes "A*") (codes "ab") ≡ false
other_case = refl

empty_pattern : is_whole_text_matched [] (codes "a") ≡ false
empty_pattern = refl

within_the_middle : matches_some_part (codes "b*d") (codes "abcde") ≡ true
within_the_middle = refl

nothing_is_within : matches_some_part [] [] ≡ true
nothing_is_within = refl

filled : filled_pattern (codes "a*b*") (codes "xy" ∷ ([] ∷ [])) ≡ codes "axyb"
filled = refl

stars : star_count (codes "a*b**") ≡ 3
stars = refl
