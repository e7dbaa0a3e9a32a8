-- Names that a change may have, and lists of them in byte order.
use Rattle.std.proofs.Common.{◌≡◌, inl, inr, ◌∙◌, ◌||◌, ℕ, Bool, true, false, List, [], ◌∷◌, refl, sym, ap}
use Rattle.std.specs.List.{list_any}
use Rattle.std.specs.Str.{bytes_eq}
use Rattle.std.proofs.lemmas.Bool.{or_cases}
use Rattle.std.proofs.lemmas.Slice.Eq.{bytes_eq-Decides}
use Rattle.db_core.specs.adb_schema.Reserved.{is_at_or_below, is_intent_or_stage_name, is_reserved}
use Rattle.base_core.proofs.Rising.{IsIn, Rises, not_itself}
use Rattle.base_core.proofs.AtName.{other_name}
use Rattle.journal_core.specs.journal_intent.FreeNames.{AreFreeNames, HaveNoRepeats, IsFreeName, IsNoneOf, IsOneOf}
use Rattle.journal_core.specs.journal_intent.Intent.{intent_name, is_staged, stage_folder, stage_name}
use Rattle.journal_core.proofs.journal_intent.FreeNames.{or_false}

true_false : true ≡ false → ⊥
true_false e = cc

-- ---- one name

pub free_outside : (name : List ℕ) → is_intent_or_stage_name name ≡ false → IsFreeName name
free_outside name outside = record {
  no_intent = λ is. true_false (sym (ap is_intent_or_stage_name is) ∙ outside);
  unstaged = or_false (is_at_or_below intent_name name) (bytes_eq name stage_folder) (is_staged name) outside;
  no_place = λ k is. true_false (sym (place_is_stage k) ∙ (sym (ap is_intent_or_stage_name is) ∙ outside));
}
  where
    place_is_stage : (k : ℕ) → is_intent_or_stage_name (stage_name k) ≡ true
    place_is_stage k = refl

fewer_tops : (a b c d : Bool) → (a || (b || (c || (d || false)))) ≡ false → (b || (c || false)) ≡ false
fewer_tops true b c d h = absurd (true_false h)
fewer_tops false true c d h = absurd (true_false h)
fewer_tops false false true d h = absurd (true_false h)
fewer_tops false false false d h = refl

pub outside_unreserved : (name : List ℕ) → is_reserved name ≡ false → is_intent_or_stage_name name ≡ false
outside_unreserved name h = fewer_tops (is_at_or_below _ name) (is_at_or_below _ name) (is_at_or_below _ name) (is_at_or_below _ name) h

-- ---- lists

pub name_of_any : (q : List ℕ) (names : List (List ℕ)) → IsOneOf q names → IsIn q names
name_of_any q [] h = absurd (true_false (sym h))
name_of_any q (x ∷ xs) h = elim (or_cases (bytes_eq q x) (list_any (bytes_eq q) xs) h) [
  | inl is ↦ inl ((bytes_eq-Decides q x).0 is)
  | inr more ↦ inr (name_of_any q xs more)
]

pub none_of : (q : List ℕ) (names : List (List ℕ)) → (IsIn q names → ⊥) → IsNoneOf q names
none_of q [] out = refl
none_of q (x ∷ xs) out =
    ap (λ b. b || list_any (bytes_eq q) xs) (other_name q x (λ is. out (inl is))) ∙ none_of q xs (λ at. out (inr at))

pub frees : (names : List (List ℕ)) → ((q : List ℕ) → IsIn q names → IsFreeName q) → AreFreeNames names
frees [] each = tt
frees (x ∷ xs) each = (each x (inl refl), frees xs (λ q at. each q (inr at)))

pub once_rising : (names : List (List ℕ)) → Rises names → HaveNoRepeats names
once_rising [] rises = tt
once_rising (x ∷ xs) rises = (none_of x xs (λ at. not_itself x (rises.0 x at)), once_rising xs rises.1)
