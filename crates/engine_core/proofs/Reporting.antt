-- The changes of a selection, told by its names.
use Rattle.std.proofs.Common.{◌≡◌, ◌∙◌, ℕ, List, [], ◌∷◌, map, Option, Some, None, refl, ap}
use Rattle.std.specs.Prelude.{option_map}
use Rattle.std.specs.List.{cons_option, filter_map}
use Rattle.change_report.specs.package_changes.Changes.{change_of_name, changes_of, names_before_and_selected}
use Rattle.change_report.specs.package_changes.Placed.{PlacedChange, PlacedName, ReplacementWithSelectionAsPlaces, change_in, name_with_change_and_old_and_pool_place, names_with_change_and_old_and_pool_place, replacement_of}
use Rattle.change_report.proofs.package_changes.PlacedLaws.{change_alone}

abbrev pub HaveOwnChange : Type 0
HaveOwnChange = (p : ReplacementWithSelectionAsPlaces) (name : List ℕ) → (name_with_change_and_old_and_pool_place p name).change ≡ change_of_name (replacement_of p) name

mapped_option : {X Y : Type 0} (f : X → Y) (o : Option X) (xs : List X) → map f (cons_option o xs) ≡ cons_option (option_map f o) (map f xs)
mapped_option f None xs = refl
mapped_option f (Some x) xs = refl

changes_by : HaveOwnChange → (p : ReplacementWithSelectionAsPlaces) (names : List (List ℕ)) → map (λ (c : PlacedChange). c.change) (filter_map change_in (map (name_with_change_and_old_and_pool_place p) names)) ≡ filter_map (change_of_name (replacement_of p)) names
changes_by own p [] = refl
changes_by own p (name ∷ names) =
    let n : PlacedName = name_with_change_and_old_and_pool_place p name in
    let others : List PlacedChange = filter_map change_in (map (name_with_change_and_old_and_pool_place p) names) in
    mapped_option (λ (c : PlacedChange). c.change) (change_in n) others
    ∙ (ap (λ o. cons_option o (map (λ (c : PlacedChange). c.change) others)) (change_alone n.change n.old n.new ∙ own p name)
    ∙ ap (cons_option (change_of_name (replacement_of p) name)) (changes_by own p names))

pub changes_named : HaveOwnChange → (p : ReplacementWithSelectionAsPlaces) → map (λ (c : PlacedChange). c.change) (filter_map change_in (names_with_change_and_old_and_pool_place p)) ≡ changes_of (replacement_of p)
unfolding names_with_change_and_old_and_pool_place changes_of
changes_named own p = changes_by own p (names_before_and_selected (replacement_of p))
