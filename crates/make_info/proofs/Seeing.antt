-- What is found among the items that the program holds.
use Rattle.std.proofs.Common.{◌≡◌, Bool, true, false, cond, List, [], ◌∷◌, map, Option, Some, None, refl, sym, ◌∙◌, ap, Bor}
use Rattle.std.specs.List.{find}
use Rattle.std.specs.Option.{option_map}
use Rattle.make_info.specs.declared.field.Field.{Field}
use Rattle.make_info.specs.declared.information.Item.{Item}
use Rattle.make_info.specs.FieldTexts.{is_same_field}
use Rattle.make_info.specs.Information.{is_item_for}
use Rattle.make_info.specs.Views.{item_view}

pub find-map : {A B : Type 0} (p : B → Bool) (f : A → B) (xs : List A) → find p (map f xs) ≡ option_map f (find (λ x. p (f x)) xs)
find-map p f [] = refl
find-map p f (x ∷ xs) =
    elim (p (f x)) as (λ b. cond b (Some (f x)) (find p (map f xs)) ≡ option_map f (cond b (Some x) (find (λ y. p (f y)) xs))) [
      | true ↦ refl
      | false ↦ find-map p f xs
    ]

option_map-now : (r : Option (Bor Item)) → option_map (λ (x : Bor Item). item_view x.now) r ≡ option_map item_view (option_map (λ (x : Bor Item). x.now) r)
option_map-now None = refl
option_map-now (Some x) = refl

-- an entry that is found, seen as an item
pub found_seen : (f : Field) (es : List Item) (r : Option (Bor Item)) → option_map (λ (x : Bor Item). x.now) r ≡ find (λ (e : Item). is_same_field e.field f) es → option_map (λ (x : Bor Item). item_view x.now) r ≡ find (is_item_for f) (map item_view es)
found_seen f es r h =
    option_map-now r ∙ (ap (option_map item_view) h ∙ sym (find-map (is_item_for f) item_view es))
