-- A bad line stays bad whatever follows it.
use Rattle.std.proofs.Common.{◌≡◌, ◌≢◌, ℕ, zero, suc, ◌+◌, ◌<◌, ◌≤◌, Bool, true, false, cond, List, [], ◌∷◌, ◌++◌, length, Option, Some, None, Result, Ok, Err, refl, sym, ap, subst, ◌∙◌, arith, inl, inr, ◌⊎◌}
use Rattle.std.specs.Prelude.{codes, bytes_eq}
use Rattle.adb_view.specs.Plain.{Plain, Plains, null, none, more, Shape, number, text, hash, array, object, Fields, no_fields, field}
use Rattle.base_core.specs.Lists.{and_then}
use Rattle.adb_dump.specs.Dump.{Line, fields_lines, int_or_null_line, text_or_null_line, hash_or_null_line}
use Rattle.adb_dump.specs.ReadBack.{ResultOrBadLine, mapped_or_bad_line_shifted_by, strip_prefix, end_block_or_add_line, block_and_lines_after, single_line_value, entry_read, entries_from_dash_line, entries_read_with_recursion_bound, array_or_bad_line_if_empty, object_or_bad_line_if_empty, fields_read_with_value_on_line, fields_read_with_value_below, value_if_printed_as_line, fields_read_by_name_match, block_read, named_read, fields_read, int_of_line_of_unchecked_form, text_of_line_of_unchecked_form, hash_of_line_of_unchecked_form}
use Rattle.adb_dump.proofs.Booleans.{chosen}
use Rattle.adb_dump.proofs.ReadOnly.{FieldsOnly, fields_only, some_line}
use Rattle.gen_core.specs.Reads.{entry_block_read}
use Rattle.gen_core.proofs.Blocks.{Split}
use Rattle.gen_core.proofs.Entries.{some_entries, split_count}

-- ---- lines that are the same at first

-- so many lines are the same
abbrev pub Agree : ℕ → List Line → List Line → Type 0
Agree zero xs ys = Unit {0}
Agree (suc n) [] ys = ⊥
Agree (suc n) (x ∷ xs) [] = ⊥
Agree (suc n) (x ∷ xs) (y ∷ ys) = (x ≡ y) × Agree n xs ys

-- the lines that are the same end in the block
pub record Inside (n : ℕ) (p q : Split) : Type 0 where
  pub le : n ≤ length p.0
  pub agree : Agree n p.0 q.0

-- or after it: then the block is the same
pub record Past (n : ℕ) (p q : Split) : Type 0 where
  pub left : ℕ
  pub count : n ≡ length p.0 + left
  pub some : 0 < left
  pub same : p.0 ≡ q.0
  pub agree : Agree left p.1 q.1

pub split_agree : (n : ℕ) (xs ys : List Line) → Agree n xs ys → Inside n (block_and_lines_after xs) (block_and_lines_after ys) ⊎ Past n (block_and_lines_after xs) (block_and_lines_after ys)
split_agree zero xs ys a = inl (record { le = omega arith; agree = tt })
split_agree (suc n) [] ys a = absurd a
split_agree (suc n) (x ∷ xs) [] a = absurd a
split_agree (suc n) (x ∷ xs) (y ∷ ys) a =
    subst (λ (l : Line). Inside (suc n) (block_and_lines_after (x ∷ xs)) (block_and_lines_after (l ∷ ys)) ⊎ Past (suc n) (block_and_lines_after (x ∷ xs)) (block_and_lines_after (l ∷ ys))) a.0 (go (strip_prefix (codes "  ") x) (split_agree n xs ys a.1))
  where
    go : (o : Option Line) → Inside n (block_and_lines_after xs) (block_and_lines_after ys) ⊎ Past n (block_and_lines_after xs) (block_and_lines_after ys)
        → Inside (suc n) (end_block_or_add_line x xs o (block_and_lines_after xs)) (end_block_or_add_line x ys o (block_and_lines_after ys)) ⊎ Past (suc n) (end_block_or_add_line x xs o (block_and_lines_after xs)) (end_block_or_add_line x ys o (block_and_lines_after ys))
    go None h = inr (record { left = suc n; count = omega arith; some = omega arith; same = refl; agree = (refl, a.1) })
    go (Some i) (inl h) = inl (record { le = omega (arith, h.le); agree = (refl, h.agree) })
    go (Some i) (inr h) = inr (record { left = h.left; count = omega (arith, h.count); some = h.some; same = ap (λ (ls : List Line). i ∷ ls) h.same; agree = h.agree })

-- ---- readers

-- a bad line is found again among other lines that are the same up to it
abbrev pub IsStable : {A : Type 0} → (List Line → ResultOrBadLine A) → Type 0
IsStable f = (xs ys : List Line) (k : ℕ) → f xs ≡ Err k → Agree (suc k) xs ys → f ys ≡ Err k

abbrev pub no_value : ℕ → ResultOrBadLine Plain
no_value n = Err n

abbrev pub no_values : ℕ → ResultOrBadLine Plains
no_values n = Err n

pub value_number : (m n : ℕ) → no_value m ≡ no_value n → m ≡ n
value_number m n e = cc

pub values_number : (m n : ℕ) → no_values m ≡ no_values n → m ≡ n
values_number m n e = cc

only_stable : (g : Line → ResultOrBadLine Plain) → IsStable (single_line_value g)
only_stable g [] ys k e a = absurd a
only_stable g (x ∷ xs) [] k e a = absurd a
only_stable g (x ∷ xs) (y ∷ ys) k e a = subst (λ (l : Line). single_line_value g (l ∷ ys) ≡ Err k) a.0 (go (g x) refl xs ys e a.1)
  where
    go : (r : ResultOrBadLine Plain) → g x ≡ r → (xs ys : List Line) → single_line_value g (x ∷ xs) ≡ Err k → Agree k xs ys → single_line_value g (x ∷ ys) ≡ Err k
    go r is [] [] e a = e
    go r is [] (m ∷ ms) e a = ap (λ (r : ResultOrBadLine Plain). and_then r (λ v. no_value 1)) e
    go (Err j) is (l ∷ ls) [] e a = is ∙ (sym (ap (λ (r : ResultOrBadLine Plain). and_then r (λ v. no_value 1)) is) ∙ e)
    go (Ok v) is (l ∷ ls) [] e a =
        let one : 1 ≡ k = value_number 1 k (sym (ap (λ (r : ResultOrBadLine Plain). and_then r (λ v. no_value 1)) is) ∙ e) in
        absurd (subst (λ (n : ℕ). Agree n (l ∷ ls) []) (sym one) a)
    go r is (l ∷ ls) (m ∷ ms) e a = e

entry_stable : (f : List Line → ResultOrBadLine Plain) → IsStable f → IsStable (entry_block_read f)
entry_stable f h [] ys k e a = absurd a
entry_stable f h (x ∷ xs) [] k e a = absurd a
entry_stable f h (x ∷ xs) (y ∷ ys) k e a = subst (λ (l : Line). entry_block_read f (l ∷ ys) ≡ Err k) a.0 (go (bytes_eq x (codes "null")) e)
  where
    go : (word : Bool) → cond word (single_line_value (λ l. Ok null) (x ∷ xs)) (f (x ∷ xs)) ≡ no_value k → cond word (single_line_value (λ l. Ok null) (x ∷ ys)) (f (x ∷ ys)) ≡ no_value k
    go true e = only_stable (λ l. Ok null) (x ∷ xs) (x ∷ ys) k e (refl, a.1)
    go false e = h (x ∷ xs) (x ∷ ys) k e (refl, a.1)

-- values after a value
pub later : (n : ℕ) (v : Plain) (r : ResultOrBadLine Plains) (k : ℕ) → mapped_or_bad_line_shifted_by n (more v) r ≡ no_values k → (j : ℕ) × (r ≡ Err j) × (k ≡ n + j)
later n v (Ok vs) k e = absurd cc
later n v (Err j) k e = (j, refl, sym (values_number (n + j) k e))

-- an entry, and those after it
entry_step : (f : List Line → ResultOrBadLine Plain) → IsStable f → (g h : List Line → ResultOrBadLine Plains) (l : Line) (xs ys : List Line) (k : ℕ) → Agree k xs ys
    → ((j : ℕ) → g (block_and_lines_after xs).1 ≡ Err j → Agree (suc j) (block_and_lines_after xs).1 (block_and_lines_after ys).1 → h (block_and_lines_after ys).1 ≡ Err j)
    → entries_from_dash_line f g (block_and_lines_after xs) (Some l) ≡ no_values k → entries_from_dash_line f h (block_and_lines_after ys) (Some l) ≡ no_values k
entry_step f s g h l xs ys k a next e = go (entry_read f l r.0) refl e
  where
    r : Split
    r = block_and_lines_after xs

    q : Split
    q = block_and_lines_after ys

    here : (j : ℕ) → entry_read f l r.0 ≡ Err j → j ≡ k → Inside k r q ⊎ Past k r q → entry_read f l q.0 ≡ no_value k
    here j e is (inl i) = entry_stable f s (l ∷ r.0) (l ∷ q.0) k (e ∙ ap no_value is) (refl, i.agree)
    here j e is (inr p) = ap (entry_read f l) (sym p.same) ∙ e ∙ ap no_value is

    beyond : (v : Plain) (j : ℕ) → entry_read f l r.0 ≡ Ok v → g r.1 ≡ Err j → k ≡ 1 + length r.0 + j → Inside k r q ⊎ Past k r q → entries_from_dash_line f h q (Some l) ≡ no_values k
    beyond v j e bad is (inl i) = absurd (omega (arith, i.le, is))
    beyond v j e bad is (inr p) =
        let left : p.left ≡ suc j = omega (arith, p.count, is) in
        let same : entry_read f l q.0 ≡ Ok v = ap (entry_read f l) (sym p.same) ∙ e in
        let after : h q.1 ≡ Err j = next j bad (subst (λ (n : ℕ). Agree n r.1 q.1) left p.agree) in
        let len : 1 + length q.0 + j ≡ k = ap (λ (ls : List Line). 1 + length ls + j) (sym p.same) ∙ sym is in
        ap (λ (x : ResultOrBadLine Plain). and_then x (λ v. mapped_or_bad_line_shifted_by (1 + length q.0) (more v) (h q.1))) same
        ∙ ap (mapped_or_bad_line_shifted_by (1 + length q.0) (more v)) after ∙ ap no_values len

    go : (x : ResultOrBadLine Plain) → entry_read f l r.0 ≡ x → and_then x (λ v. mapped_or_bad_line_shifted_by (1 + length r.0) (more v) (g r.1)) ≡ no_values k → entries_from_dash_line f h q (Some l) ≡ no_values k
    go (Err j) is e = ap (λ (x : ResultOrBadLine Plain). and_then x (λ v. mapped_or_bad_line_shifted_by (1 + length q.0) (more v) (h q.1))) (here j is (values_number j k e) (split_agree k xs ys a))
    go (Ok v) is e = let (j, bad, count) = later (1 + length r.0) v (g r.1) k e in beyond v j is bad count (split_agree k xs ys a)

entries_stable : (f : List Line → ResultOrBadLine Plain) → IsStable f → (n m : ℕ) (xs ys : List Line) (k : ℕ) → length xs ≤ n → length ys ≤ m → entries_read_with_recursion_bound f n xs ≡ Err k → Agree (suc k) xs ys → entries_read_with_recursion_bound f m ys ≡ Err k
entries_stable f s zero m xs ys k a b e agree = absurd cc
entries_stable f s (suc n) m [] ys k a b e agree = absurd cc
entries_stable f s (suc n) m (x ∷ xs) [] k a b e agree = absurd agree
entries_stable f s (suc n) zero (x ∷ xs) (y ∷ ys) k a b e agree = absurd (omega (arith, b))
entries_stable f s (suc n) (suc m) (x ∷ xs) (y ∷ ys) k a b e agree =
    subst (λ (l : Line). entries_read_with_recursion_bound f (suc m) (l ∷ ys) ≡ Err k) agree.0
    (go (strip_prefix (codes "- ") x) (λ j bad more_agree. entries_stable f s n m (block_and_lines_after xs).1 (block_and_lines_after ys).1 j (omega (arith, a, split_count xs)) (omega (arith, b, split_count ys)) bad more_agree) e)
  where
    go : (o : Option Line) → ((j : ℕ) → entries_read_with_recursion_bound f n (block_and_lines_after xs).1 ≡ Err j → Agree (suc j) (block_and_lines_after xs).1 (block_and_lines_after ys).1 → entries_read_with_recursion_bound f m (block_and_lines_after ys).1 ≡ Err j)
        → entries_from_dash_line f (entries_read_with_recursion_bound f n) (block_and_lines_after xs) o ≡ no_values k → entries_from_dash_line f (entries_read_with_recursion_bound f m) (block_and_lines_after ys) o ≡ no_values k
    go None next e = e
    go (Some l) next e = entry_step f s (entries_read_with_recursion_bound f n) (entries_read_with_recursion_bound f m) l xs ys k agree.1 next e

-- ---- whole lists

pub arr_bad : (r : ResultOrBadLine Plains) (k : ℕ) → and_then r array_or_bad_line_if_empty ≡ no_value k → (r ≡ Err k) ⊎ (r ≡ Ok none)
arr_bad (Err j) k e = inl (ap no_values (value_number j k e))
arr_bad (Ok none) k e = inr refl
arr_bad (Ok (more v vs)) k e = absurd cc

pub obj_bad : (r : ResultOrBadLine Plains) (k : ℕ) → and_then r object_or_bad_line_if_empty ≡ no_value k → (r ≡ Err k) ⊎ (r ≡ Ok none)
obj_bad (Err j) k e = inl (ap no_values (value_number j k e))
obj_bad (Ok none) k e = inr refl
obj_bad (Ok (more v vs)) k e = absurd cc

array_stable : (s : Shape) → IsStable (block_read s) → IsStable (block_read (array s))
unfolding block_read
array_stable s h [] ys k e a = absurd a
array_stable s h (x ∷ xs) ys k e a =
    elim (arr_bad (entries_read_with_recursion_bound (block_read s) (length (x ∷ xs)) (x ∷ xs)) k e) [
      | inl bad ↦ ap (λ (r : ResultOrBadLine Plains). and_then r array_or_bad_line_if_empty) (entries_stable (block_read s) h (length (x ∷ xs)) (length ys) (x ∷ xs) ys k (omega arith) (omega arith) bad a)
      | inr nothing ↦ absurd (some_entries (block_read s) (x ∷ xs) x refl nothing)
    ]

pub some_fields : (fs : Fields) (l : Line) (ls : List Line) → fields_read fs (l ∷ ls) ≢ Ok none
some_fields fs l ls e = some_line fs l ls (fields_only fs (l ∷ ls) none e).lines

object_stable : (which : ℕ) (fs : Fields) → IsStable (fields_read fs) → IsStable (block_read (object which fs))
unfolding block_read
object_stable which fs h [] ys k e a = absurd a
object_stable which fs h (x ∷ xs) ys k e a =
    elim (obj_bad (fields_read fs (x ∷ xs)) k e) [
      | inl bad ↦ ap (λ (r : ResultOrBadLine Plains). and_then r object_or_bad_line_if_empty) (h (x ∷ xs) ys k bad a)
      | inr nothing ↦ absurd (some_fields fs x xs nothing)
    ]

-- ---- fields

-- what is read of a field and those after it
abbrev StableNamed : (List Line → Line → ResultOrBadLine Plains) → Type 0
StableNamed f = (rest : Line) (xs ys : List Line) (k : ℕ) → Agree k xs ys → f xs rest ≡ Err k → f ys rest ≡ Err k

on_line_stable : (g : Line → ResultOrBadLine Plain) (f : List Line → ResultOrBadLine Plains) → IsStable f → StableNamed (λ ls rest. fields_read_with_value_on_line g f ls (strip_prefix (codes " ") rest))
on_line_stable g f s rest xs ys k a e = go (strip_prefix (codes " ") rest) e
  where
    then : (x : ResultOrBadLine Plain) → and_then x (λ v. mapped_or_bad_line_shifted_by 1 (more v) (f xs)) ≡ no_values k → and_then x (λ v. mapped_or_bad_line_shifted_by 1 (more v) (f ys)) ≡ no_values k
    then (Err j) e = e
    then (Ok v) e =
        let (j, bad, count) = later 1 v (f xs) k e in
        let same : k ≡ suc j = omega (arith, count) in
        let agree : Agree (suc j) xs ys = subst (λ (n : ℕ). Agree n xs ys) same a in
        ap (mapped_or_bad_line_shifted_by 1 (more v)) (s xs ys j bad agree) ∙ ap no_values (sym count)

    go : (o : Option Line) → fields_read_with_value_on_line g f xs o ≡ no_values k → fields_read_with_value_on_line g f ys o ≡ no_values k
    go None e = e
    go (Some l) e = then (g l) e

below_stable : (b : List Line → ResultOrBadLine Plain) (f : List Line → ResultOrBadLine Plains) → IsStable b → IsStable f → StableNamed (λ ls rest. fields_read_with_value_below b f (block_and_lines_after ls) rest)
below_stable b f sb sf (c ∷ cs) xs ys k a e = e
below_stable b f sb sf [] xs ys k a e = go (b r.0) refl e
  where
    r : Split
    r = block_and_lines_after xs

    q : Split
    q = block_and_lines_after ys

    here : (j : ℕ) → b r.0 ≡ Err j → 1 + j ≡ k → Inside k r q ⊎ Past k r q → fields_read_with_value_below b f q [] ≡ no_values k
    here j bad is (inl i) =
        let same : k ≡ suc j = omega (arith, is) in
        let agree : Agree (suc j) r.0 q.0 = subst (λ (n : ℕ). Agree n r.0 q.0) same i.agree in
        ap (λ (x : ResultOrBadLine Plain). and_then (mapped_or_bad_line_shifted_by 1 (λ v. v) x) (λ v. mapped_or_bad_line_shifted_by (1 + length q.0) (more v) (f q.1))) (sb r.0 q.0 j bad agree) ∙ ap no_values is
    here j bad is (inr p) =
        ap (λ (x : ResultOrBadLine Plain). and_then (mapped_or_bad_line_shifted_by 1 (λ v. v) x) (λ v. mapped_or_bad_line_shifted_by (1 + length q.0) (more v) (f q.1))) (ap b (sym p.same) ∙ bad) ∙ ap no_values is

    beyond : (v : Plain) (j : ℕ) → b r.0 ≡ Ok v → f r.1 ≡ Err j → k ≡ 1 + length r.0 + j → Inside k r q ⊎ Past k r q → fields_read_with_value_below b f q [] ≡ no_values k
    beyond v j ok bad is (inl i) = absurd (omega (arith, i.le, is))
    beyond v j ok bad is (inr p) =
        let left : p.left ≡ suc j = omega (arith, p.count, is) in
        let after : f q.1 ≡ Err j = sf r.1 q.1 j bad (subst (λ (n : ℕ). Agree n r.1 q.1) left p.agree) in
        let len : 1 + length q.0 + j ≡ k = ap (λ (ls : List Line). 1 + length ls + j) (sym p.same) ∙ sym is in
        ap (λ (x : ResultOrBadLine Plain). and_then (mapped_or_bad_line_shifted_by 1 (λ v. v) x) (λ v. mapped_or_bad_line_shifted_by (1 + length q.0) (more v) (f q.1))) (ap b (sym p.same) ∙ ok)
        ∙ ap (mapped_or_bad_line_shifted_by (1 + length q.0) (more v)) after ∙ ap no_values len

    go : (x : ResultOrBadLine Plain) → b r.0 ≡ x → and_then (mapped_or_bad_line_shifted_by 1 (λ v. v) x) (λ v. mapped_or_bad_line_shifted_by (1 + length r.0) (more v) (f r.1)) ≡ no_values k → fields_read_with_value_below b f q [] ≡ no_values k
    go (Err j) is e = here j is (values_number (1 + j) k e) (split_agree k xs ys a)
    go (Ok v) is e = let (j, bad, count) = later (1 + length r.0) v (f r.1) k e in beyond v j is bad count (split_agree k xs ys a)

named_stable : (s : Shape) (f : List Line → ResultOrBadLine Plains) → IsStable (block_read s) → IsStable f → StableNamed (named_read s f)
unfolding named_read block_read
named_stable number f sb sf = on_line_stable (λ l. value_if_printed_as_line int_or_null_line l (int_of_line_of_unchecked_form l)) f sf
named_stable text f sb sf = on_line_stable (λ l. value_if_printed_as_line text_or_null_line l (text_of_line_of_unchecked_form l)) f sf
named_stable hash f sb sf = on_line_stable (λ l. value_if_printed_as_line hash_or_null_line l (hash_of_line_of_unchecked_form l)) f sf
named_stable (array s) f sb sf = below_stable (block_read (array s)) f sb sf
named_stable (object which fs) f sb sf = below_stable (block_read (object which fs)) f sb sf

field_stable : (name : List ℕ) (s : Shape) (fs : Fields) → IsStable (block_read s) → IsStable (fields_read fs) → IsStable (fields_read (field name s fs))
unfolding fields_read
field_stable name s fs sb sf [] ys k e a = absurd a
field_stable name s fs sb sf (x ∷ xs) [] k e a = absurd a
field_stable name s fs sb sf (x ∷ xs) (y ∷ ys) k e a = subst (λ (l : Line). fields_read (field name s fs) (l ∷ ys) ≡ Err k) a.0 (go (strip_prefix (name ++ codes ":") x) e)
  where
    go : (o : Option Line) → fields_read_by_name_match (mapped_or_bad_line_shifted_by 0 (more null) (fields_read fs (x ∷ xs))) (named_read s (fields_read fs) xs) o ≡ no_values k → fields_read_by_name_match (mapped_or_bad_line_shifted_by 0 (more null) (fields_read fs (x ∷ ys))) (named_read s (fields_read fs) ys) o ≡ no_values k
    go None e =
        let (j, bad, count) = later 0 null (fields_read fs (x ∷ xs)) k e in
        let same : j ≡ k = omega (arith, count) in
        ap (mapped_or_bad_line_shifted_by 0 (more null)) (sf (x ∷ xs) (x ∷ ys) j bad (refl, subst (λ (n : ℕ). Agree n xs ys) (sym same) a.1)) ∙ ap no_values (sym count)
    go (Some rest) e = named_stable s (fields_read fs) sb sf rest xs ys k a.1 e

no_fields_stable : IsStable (fields_read no_fields)
unfolding fields_read
no_fields_stable [] ys k e a = absurd a
no_fields_stable (x ∷ xs) [] k e a = absurd a
no_fields_stable (x ∷ xs) (y ∷ ys) k e a = e

number_stable : IsStable (block_read number)
unfolding block_read
number_stable = only_stable (λ l. value_if_printed_as_line int_or_null_line l (int_of_line_of_unchecked_form l))

text_stable : IsStable (block_read text)
unfolding block_read
text_stable = only_stable (λ l. value_if_printed_as_line text_or_null_line l (text_of_line_of_unchecked_form l))

hash_stable : IsStable (block_read hash)
unfolding block_read
hash_stable = only_stable (λ l. value_if_printed_as_line hash_or_null_line l (hash_of_line_of_unchecked_form l))

mutual
  pub block_stable : (s : Shape) → IsStable (block_read s)
  block_stable number = number_stable
  block_stable text = text_stable
  block_stable hash = hash_stable
  block_stable (array s) = array_stable s (block_stable s)
  block_stable (object which fs) = object_stable which fs (fields_stable fs)

  pub fields_stable : (fs : Fields) → IsStable (fields_read fs)
  fields_stable no_fields = no_fields_stable
  fields_stable (field name s fs) = field_stable name s fs (block_stable s) (fields_stable fs)
