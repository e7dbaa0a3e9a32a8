-- The texts of a list are taken one after another.
use Rattle.std.proofs.Common.{◌≡◌, ◌≤◌, ◌<◌, ◌+◌, ◌-◌, ◌^◌, ℕ, zero, suc, List, [], ◌∷◌, ◌++◌, map, take, length, true, refl, sym, ap, subst, ◌∙◌, arith}
use Rattle.std.proofs.lemmas.List.{take_all}
use Rattle.base_core.specs.Name.{is_name}
use Rattle.adb_view.specs.Plain.{Plain, Plains, none, more, blob_or_null}
use Rattle.adb_sound.specs.adb_fields.Repeated.{list_of}
use Rattle.adb_view.specs.Values.{count_of, nth, text_in}
use Rattle.adb_view.proofs.ValueEntries.{text_blob}
use Rattle.journal_intent.specs.FreeNames.{AllAreNames}

named_at : (vs : Plains) (i : ℕ) → i < count_of vs → AllAreNames vs → is_name (text_in (nth vs i)) ≡ true
named_at none i below all = absurd (omega (arith, below))
named_at (more v vs) zero below all = all.0
named_at (more v vs) (suc i) below all = named_at vs i (omega (arith, below)) all.1

pub text_named : (vs : Plains) (i : ℕ) (bytes : List ℕ) → i < count_of vs → AllAreNames vs → blob_or_null bytes ≡ nth vs i → is_name bytes ≡ true
text_named vs i bytes below all is = subst (λ (b : List ℕ). is_name b ≡ true) (sym (ap text_in is) ∙ text_blob bytes) (named_at vs i below all)

take_texts : (vs : Plains) (i : ℕ) → i < count_of vs → take (i + 1) (map text_in (list_of vs)) ≡ take i (map text_in (list_of vs)) ++ text_in (nth vs i) ∷ []
take_texts none i below = absurd (omega (arith, below))
take_texts (more v vs) zero below = refl
take_texts (more v vs) (suc i) below =
    let next : suc i + 1 ≡ suc (i + 1) = omega arith in
    ap (λ k. take k (map text_in (list_of (more v vs)))) next ∙ ap (λ (l : List (List ℕ)). text_in v ∷ l) (take_texts vs i (omega (arith, below)))

pub texts_more : (vs : Plains) (i : ℕ) (bytes : List ℕ) (old new : List (List ℕ)) → i < count_of vs → blob_or_null bytes ≡ nth vs i → old ≡ take i (map text_in (list_of vs)) → new ≡ old ++ bytes ∷ [] → new ≡ take (i + 1) (map text_in (list_of vs))
texts_more vs i bytes old new below is so_far added =
    added ∙ ap (λ (l : List (List ℕ)). l ++ bytes ∷ []) so_far ∙ ap (λ (b : List ℕ). take i (map text_in (list_of vs)) ++ b ∷ []) (sym (text_blob bytes) ∙ ap text_in is) ∙ sym (take_texts vs i below)

count_texts : (vs : Plains) → length (map text_in (list_of vs)) ≡ count_of vs
count_texts none = refl
count_texts (more v vs) = ap suc (count_texts vs)

pub texts_all : (vs : Plains) (n : ℕ) (names : List (List ℕ)) → count_of vs ≤ n → names ≡ take n (map text_in (list_of vs)) → names ≡ map text_in (list_of vs)
texts_all vs n names all is = is ∙ take_all n (map text_in (list_of vs)) (let count = count_texts vs in omega (arith, count, all))

pub texts_few : (vs : Plains) (names : List (List ℕ)) → names ≡ map text_in (list_of vs) → count_of vs < 2 ^ 32 → length names < 2 ^ 32
texts_few vs names is few = let count = ap length is ∙ count_texts vs in omega (arith, count, few)

pub at_nth : (vs : Plains) (i : ℕ) (v : Plain) → v ≡ nth vs (i + 1 - 1) → v ≡ nth vs i
at_nth vs i v is = is ∙ ap (nth vs) (omega arith)
