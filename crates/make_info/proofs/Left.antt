-- The values of a command one by one.
use Rattle.std.proofs.Common.{◌≡◌, ℕ, zero, suc, ◌+◌, true, false, cond, List, [], ◌∷◌, drop, Option, Some, None, Bor, refl, sym, ◌∙◌, ap, arith}
use Rattle.std.specs.Prelude.{is_some}
use Rattle.std.specs.List.{slice_get}
use Rattle.std.specs.Option.{option_map, option_or}
use Rattle.command_core.specs.declared.values.OptionValue.{OptionValue}
use Rattle.make_info.specs.declared.field.Field.{Field}
use Rattle.make_info.specs.FieldTexts.{first_text_for, values_of_info_options, is_info_option, option_text_for_field}

-- what is left of a list where an element stands
pub left_at : {X : Type 0} (xs : List X) (i : ℕ) (x : X) → slice_get xs i ≡ Some x → drop i xs ≡ x ∷ drop (i + 1) xs
left_at [] i x e = cc
left_at (y ∷ xs) zero x e = cc
left_at (y ∷ xs) (suc i) x e =
    let next : suc (i + 1) ≡ suc i + 1 = omega arith in left_at xs i x e ∙ ap (λ n. x ∷ drop n (y ∷ xs)) next

-- ---- the value of a field

first_some : (found later : Option (List ℕ)) → is_some found ≡ true → option_or found later ≡ found
first_some (Some x) later h = refl
first_some None later h = cc

first_none : (found later : Option (List ℕ)) → is_some found ≡ false → option_or found later ≡ later
first_none (Some x) later h = cc
first_none None later h = refl

some_now : (r : Option (Bor (List ℕ))) → is_some (option_map (λ (x : Bor (List ℕ)). x.now) r) ≡ is_some r
some_now None = refl
some_now (Some x) = refl

pub value_here : (f : Field) (vs : List OptionValue) (i : ℕ) (v : OptionValue) (found : Option (Bor (List ℕ))) (r : Option (List ℕ)) → slice_get vs i ≡ Some v → option_map (λ (x : Bor (List ℕ)). x.now) found ≡ option_text_for_field f v → true ≡ is_some found → first_text_for f (drop i vs) ≡ r → option_map (λ (x : Bor (List ℕ)). x.now) found ≡ r
value_here f vs i v found r at is some h =
    let later = first_text_for f (drop (i + 1) vs) in
    sym (first_some (option_map (λ (x : Bor (List ℕ)). x.now) found) later (some_now found ∙ sym some))
    ∙ (ap (λ o. option_or o later) is ∙ (ap (first_text_for f) (sym (left_at vs i v at)) ∙ h))

pub value_not_here : (f : Field) (vs : List OptionValue) (i : ℕ) (v : OptionValue) (found : Option (Bor (List ℕ))) (r : Option (List ℕ)) → slice_get vs i ≡ Some v → option_map (λ (x : Bor (List ℕ)). x.now) found ≡ option_text_for_field f v → false ≡ is_some found → first_text_for f (drop i vs) ≡ r → first_text_for f (drop (i + 1) vs) ≡ r
value_not_here f vs i v found r at is some h =
    let later = first_text_for f (drop (i + 1) vs) in
    sym (first_none (option_map (λ (x : Bor (List ℕ)). x.now) found) later (some_now found ∙ sym some))
    ∙ (ap (λ o. option_or o later) is ∙ (ap (first_text_for f) (sym (left_at vs i v at)) ∙ h))

-- ---- the values of `-I`

pub info_here : (vs : List OptionValue) (i : ℕ) (v : OptionValue) → slice_get vs i ≡ Some v → is_info_option v ≡ true → values_of_info_options (drop i vs) ≡ v ∷ values_of_info_options (drop (i + 1) vs)
info_here vs i v at is =
    ap values_of_info_options (left_at vs i v at) ∙ ap (λ b. cond b (v ∷ values_of_info_options (drop (i + 1) vs)) (values_of_info_options (drop (i + 1) vs))) is

pub info_not_here : (vs : List OptionValue) (i : ℕ) (v : OptionValue) → slice_get vs i ≡ Some v → is_info_option v ≡ false → values_of_info_options (drop i vs) ≡ values_of_info_options (drop (i + 1) vs)
info_not_here vs i v at is =
    ap values_of_info_options (left_at vs i v at) ∙ ap (λ b. cond b (v ∷ values_of_info_options (drop (i + 1) vs)) (values_of_info_options (drop (i + 1) vs))) is
