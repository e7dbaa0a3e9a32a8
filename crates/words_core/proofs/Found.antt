-- Lemmas about a search through a list, and about the option that a word spells in one of two joined tables.
use Rattle.std.proofs.Common.{Bool, List, None, Option, Some, [], ap, cond, drop, false, get_or, length, map, refl, sym, true, ℕ, ◌++◌, ◌+◌, ◌<◌, ◌≤◌, ◌∙◌, ◌∷◌, ◌≡◌}
use Rattle.std.specs.List.{find}
use Rattle.std.specs.Option.{option_map, option_or}
use Rattle.std.specs.Prelude.{◌||◌}
use Rattle.std.specs.Str.{bytes_eq}
use Rattle.std.proofs.lemmas.List.Folds.{find-append}
use Rattle.words_core.specs.Options.{OptionSpec, option_of_word}
use Rattle.words_core.proofs.Helped.{drop_all, drop_at}

pub find-map : {A B : Type 0} (p : B → Bool) (f : A → B) (xs : List A) → find p (map f xs) ≡ option_map f (find (λ x. p (f x)) xs)
find-map p f [] = refl
find-map p f (x ∷ xs) =
    elim (p (f x)) as (λ b. cond b (Some (f x)) (find p (map f xs)) ≡ option_map f (cond b (Some x) (find (λ y. p (f y)) xs))) [
      | true ↦ refl
      | false ↦ find-map p f xs
    ]

-- the search goes on behind the elements that fail the test
pub found_at : {A : Type 0} (p : A → Bool) (xs : List A) (i : ℕ) (d : A) → i < length xs → p (get_or xs i d) ≡ true → find p xs ≡ find p (drop i xs) → find p xs ≡ Some (get_or xs i d)
found_at p xs i d l is kept = kept ∙ (ap (find p) (drop_at xs i d l) ∙ rw is refl)

pub found_later : {A : Type 0} (p : A → Bool) (xs : List A) (i : ℕ) (d : A) → i < length xs → p (get_or xs i d) ≡ false → find p xs ≡ find p (drop i xs) → find p xs ≡ find p (drop (i + 1) xs)
found_later p xs i d l is kept = kept ∙ (ap (find p) (drop_at xs i d l) ∙ rw is refl)

pub not_found : {A : Type 0} (p : A → Bool) (xs : List A) (i : ℕ) → length xs ≤ i → find p xs ≡ find p (drop i xs) → find p xs ≡ None
not_found p xs i l kept = kept ∙ ap (find p) (drop_all xs i l)

-- a table that is seen as another
pub found_seen : {A : Type 0} (f : A → OptionSpec) (xs : List A) (word : List ℕ) (r : Option A) → find (λ x. bytes_eq (f x).long word || bytes_eq (f x).short word) xs ≡ r → option_map f r ≡ option_of_word (map f xs) word
found_seen f xs word r h =
    ap (option_map f) (sym h) ∙ sym (find-map (λ (e : OptionSpec). bytes_eq e.long word || bytes_eq e.short word) f xs)

-- in the first of two tables
pub found_first : (xs ys : List OptionSpec) (word : List ℕ) (e : OptionSpec) → Some e ≡ option_of_word xs word → Some e ≡ option_of_word (xs ++ ys) word
found_first xs ys word e h =
    sym (find-append (λ (x : OptionSpec). bytes_eq x.long word || bytes_eq x.short word) xs ys ∙ ap (λ o. option_or o (option_of_word ys word)) (sym h))

-- in the second of two tables
pub found_second : (xs ys : List OptionSpec) (word : List ℕ) (r : Option OptionSpec) → None ≡ option_of_word xs word → r ≡ option_of_word ys word → r ≡ option_of_word (xs ++ ys) word
found_second xs ys word r n h =
    sym (find-append (λ (x : OptionSpec). bytes_eq x.long word || bytes_eq x.short word) xs ys ∙ (ap (λ o. option_or o (option_of_word ys word)) (sym n) ∙ sym h))
