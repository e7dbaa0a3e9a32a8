-- Lists of values that are given one after the other, and lists of folders and files.
use Rattle.std.proofs.Common.{◌≡◌, List, [], ◌∷◌, ◌++◌, map, Option, Some, None, refl, ◌∙◌, ap}
use Rattle.std.specs.Option.{option_map}
use Rattle.adb_view.specs.Plain.{Plain}
use Rattle.make_info.specs.adb_values.Drafts.{DraftState, draft_with}
use Rattle.make_info.proofs.Mapped.{with_list}
use Rattle.v2_core.specs.Records.{list_with_last_changed}

pub map-push : {A B : Type 0} (f : A → B) (xs : List A) (x : A) → map f (xs ++ x ∷ []) ≡ map f xs ++ f x ∷ []
map-push f [] x = refl
map-push f (y ∷ ys) x = ap (λ zs. f y ∷ zs) (map-push f ys x)

pub map-map : {A B C : Type 0} (g : B → C) (f : A → B) (xs : List A) → map g (map f xs) ≡ map (λ x. g (f x)) xs
map-map g f [] = refl
map-map g f (x ∷ xs) = ap (λ zs. g (f x) ∷ zs) (map-map g f xs)

pub map-pushed : {A B : Type 0} (f : A → B) (xs ys : List A) (x : A) → ys ≡ xs ++ x ∷ [] → map f ys ≡ map f xs ++ f x ∷ []
map-pushed f xs ys x h = ap (map f) h ∙ map-push f xs x

-- ---- values that are given one after another

pub with_list-append : (us vs : List Plain) (d : DraftState) → with_list (us ++ vs) d ≡ with_list vs (with_list us d)
with_list-append [] vs d = refl
with_list-append (u ∷ us) vs d = with_list-append us vs (draft_with u d)

-- ---- the last of a list

put_before : {A : Type 0} (y : A) (ys : List A) (o : Option A) → option_map (λ rest. y ∷ rest) (option_map (λ z. ys ++ z ∷ []) o) ≡ option_map (λ z. (y ∷ ys) ++ z ∷ []) o
put_before y ys None = refl
put_before y ys (Some z) = refl

-- what is made of the last element
pub with_last-push : {A : Type 0} (f : A → Option A) (xs : List A) (x : A) → list_with_last_changed f (xs ++ x ∷ []) ≡ option_map (λ y. xs ++ y ∷ []) (f x)
with_last-push f [] x = refl
with_last-push f (y ∷ []) x = put_before y [] (f x)
with_last-push f (y ∷ z ∷ zs) x =
    ap (option_map (λ rest. y ∷ rest)) (with_last-push f (z ∷ zs) x) ∙ put_before y (z ∷ zs) (f x)
