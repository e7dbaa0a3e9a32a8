-- When a candidate is the installed package, and that each place keeps its candidate.
use Rattle.std.proofs.Common.{◌≡◌, inl, inr, ℕ, zero, suc, ◌<◌, Bool, true, false, List, [], ◌∷◌, ◌++◌, length, refl, sym, subst, ap, ◌∙◌, arith}
use Rattle.std.specs.Prelude.{Option, Some, None, slice_get, if◌then◌else◌, ◌&&◌, ◌||◌, is_some, nat_eq, nat_lt}
use Rattle.std.specs.Cmp.Lexicographic.{bytes_decides}
use Rattle.std.specs.List.{list_any, starts_with}
use Rattle.std.specs.Str.{bytes_eq}
use Rattle.std.proofs.Math.Bool.{or-true, and-false}
use Rattle.std.proofs.lemmas.Bool.{cases_Bool}
use Rattle.base_core.proofs.Booleans.{both_second, both_first}
use Rattle.option_ranks.specs.candidate_core.Candidates.{Candidate, as_installed, marked_installed_where_same_as, is_same_id_by_nonempty_prefix, is_repository_package_same_as_installed, is_same_version, with_installed_marked_or_added}

pub same_version : (a b : Option (List ℕ)) → is_same_version a b ≡ true → a ≡ b
same_version None None h = refl
same_version None (Some b) h = absurd (cc)
same_version (Some a) None h = absurd (cc)
same_version (Some a) (Some b) h = ap (λ (z : List ℕ). Some z) ((bytes_decides a b).0 h)

pub same_name : (installed c : Candidate) → is_repository_package_same_as_installed installed c ≡ true → c.name ≡ installed.name
same_name installed c h = (bytes_decides c.name installed.name).0 (both_first (bytes_eq c.name installed.name) _ (both_second (is_some c.repository) _ h))

both_last : (installed c : Candidate) → is_repository_package_same_as_installed installed c ≡ true → (is_same_version c.version installed.version && is_same_id_by_nonempty_prefix c.id installed.id) ≡ true
both_last installed c h = both_second (bytes_eq c.name installed.name) _ (both_second (is_some c.repository) _ h)

pub same_text : (installed c : Candidate) → is_repository_package_same_as_installed installed c ≡ true → c.version ≡ installed.version
same_text installed c h = same_version c.version installed.version (both_first (is_same_version c.version installed.version) _ (both_last installed c h))

pub same_id : (installed c : Candidate) → is_repository_package_same_as_installed installed c ≡ true → is_same_id_by_nonempty_prefix c.id installed.id ≡ true
same_id installed c h = both_second (is_same_version c.version installed.version) _ (both_last installed c h)

no_id : (a : List ℕ) → is_same_id_by_nonempty_prefix a [] ≡ false
no_id a = and-false (nat_lt 0 (length a))

pub never_without_id : (installed c : Candidate) → installed.id ≡ [] → is_repository_package_same_as_installed installed c ≡ false
never_without_id installed c none = elim (cases_Bool (is_repository_package_same_as_installed installed c)) [
  | inl e ↦ let bad : true ≡ false = sym (same_id installed c e) ∙ (ap (is_same_id_by_nonempty_prefix c.id) none ∙ no_id c.id) in absurd (cc)
  | inr e ↦ e
]

or_turned : (p q : Bool) → (p || q) ≡ (q || p)
or_turned true true = refl
or_turned true false = refl
or_turned false true = refl
or_turned false false = refl

and_turned : (p q r s : Bool) → r ≡ s → (p && (q && r)) ≡ (q && (p && s))
and_turned true true r s e = e
and_turned true false r s e = refl
and_turned false true r s e = refl
and_turned false false r s e = refl

pub either_way : (a b : List ℕ) → is_same_id_by_nonempty_prefix a b ≡ is_same_id_by_nonempty_prefix b a
either_way a b = and_turned (nat_lt 0 (length a)) (nat_lt 0 (length b)) (starts_with nat_eq a b || starts_with nat_eq b a) (starts_with nat_eq b a || starts_with nat_eq a b) (or_turned (starts_with nat_eq a b) (starts_with nat_eq b a))

eq_itself : (n : ℕ) → nat_eq n n ≡ true
eq_itself n = grind arith

front_is_front : (a rest : List ℕ) → starts_with nat_eq (a ++ rest) a ≡ true
front_is_front [] rest = grind arith
front_is_front (x ∷ a) rest = rw (eq_itself x) (front_is_front a rest)

nonempty : (x : ℕ) (xs : List ℕ) → nat_lt 0 (length (x ∷ xs)) ≡ true
nonempty x xs = grind arith

same_by : (a b : List ℕ) → nat_lt 0 (length a) ≡ true → nat_lt 0 (length b) ≡ true → starts_with nat_eq b a ≡ true → is_same_id_by_nonempty_prefix a b ≡ true
same_by a b la lb s = rw (la, lb, s) (or-true (starts_with nat_eq a b))

pub front_is_same : (id rest : List ℕ) → 0 < length id → is_same_id_by_nonempty_prefix id (id ++ rest) ≡ true
front_is_same [] rest h = absurd (omega arith)
front_is_same (x ∷ id) rest h = same_by (x ∷ id) (x ∷ id ++ rest) (nonempty x id) (nonempty x (id ++ rest)) (front_is_front (x ∷ id) rest)

-- ---- each place keeps its candidate

kept_or_marked : (installed c : Candidate) (k : ℕ) (cs : List Candidate) → slice_get cs k ≡ Some c → slice_get (marked_installed_where_same_as installed cs) k ≡ Some (if is_repository_package_same_as_installed installed c then as_installed c else c)
kept_or_marked installed c zero [] h = absurd (cc)
kept_or_marked installed c (suc k) [] h = absurd (cc)
kept_or_marked installed c zero (d ∷ cs) h =
    let s : d ≡ c = cc in
    ap (λ (z : Candidate). Some (if is_repository_package_same_as_installed installed z then as_installed z else z)) s
kept_or_marked installed c (suc k) (d ∷ cs) h = kept_or_marked installed c k cs h

kept_in_front : (c : Candidate) (k : ℕ) (cs more : List Candidate) → slice_get cs k ≡ Some c → slice_get (cs ++ more) k ≡ Some c
kept_in_front c zero [] more h = absurd (cc)
kept_in_front c (suc k) [] more h = absurd (cc)
kept_in_front c zero (d ∷ cs) more h = h
kept_in_front c (suc k) (d ∷ cs) more h = kept_in_front c k cs more h

none_same_at : (installed c : Candidate) (k : ℕ) (cs : List Candidate) → slice_get cs k ≡ Some c → list_any (is_repository_package_same_as_installed installed) cs ≡ false → is_repository_package_same_as_installed installed c ≡ false
none_same_at installed c zero [] h e = absurd (cc)
none_same_at installed c (suc k) [] h e = absurd (cc)
none_same_at installed c zero (d ∷ cs) h e =
    let s : d ≡ c = cc in
    elim (cases_Bool (is_repository_package_same_as_installed installed d)) [
      | inl t ↦ let bad : true ≡ false = rw t at e in absurd (cc)
      | inr f ↦ subst (λ (z : Candidate). is_repository_package_same_as_installed installed z ≡ false) s f
    ]
none_same_at installed c (suc k) (d ∷ cs) h e = elim (cases_Bool (is_repository_package_same_as_installed installed d)) [
  | inl t ↦ let bad : true ≡ false = rw t at e in absurd (cc)
  | inr f ↦ none_same_at installed c k cs h (rw f at e)
]

pub kept : (cs : List Candidate) (installed c : Candidate) (k : ℕ) → slice_get cs k ≡ Some c → slice_get (with_installed_marked_or_added cs installed) k ≡ Some (if is_repository_package_same_as_installed installed c then as_installed c else c)
kept cs installed c k h = elim (cases_Bool (list_any (is_repository_package_same_as_installed installed) cs)) [
  | inl some ↦ rw some (kept_or_marked installed c k cs h)
  | inr none ↦ rw (none, none_same_at installed c k cs h none) (kept_in_front c k cs (installed ∷ []) h)
]
