-- What an installed package does to the list of candidates.
use Rattle.std.proofs.Common.{◌≡◌, inl, inr, ℕ, zero, suc, ◌+◌, Bool, true, false, List, [], ◌∷◌, ◌++◌, length, length-append, append_assoc, refl, sym, subst, ap, ◌∙◌, arith}
use Rattle.std.specs.Prelude.{Option, Some, slice_get, if◌then◌else◌, is_some}
use Rattle.std.specs.Option.{option_map_or}
use Rattle.std.specs.Cmp.Lexicographic.{bytes_decides}
use Rattle.std.specs.List.{list_any}
use Rattle.std.specs.Str.{bytes_eq}
use Rattle.std.proofs.lemmas.Bool.{cases_Bool}
use Rattle.base_core.proofs.Booleans.{both_second, both_first}
use Rattle.candidate_core.specs.Candidates.{Candidate, as_installed, marked_installed_where_same_as, is_repository_package_same_as_installed, offers_name, with_installed_marked_or_added}
use Rattle.candidate_core.specs.CandidateList.{is_installed_package_at, marked_installed_if_same_at}
use Rattle.candidate_core.specs.Options.{places_passing_counted_from}
use Rattle.candidate_core.specs.Packages.{marked_installed_at}

pub length-marked_installed_where_same_as : (installed : Candidate) (cs : List Candidate) → length (marked_installed_where_same_as installed cs) ≡ length cs
length-marked_installed_where_same_as installed [] = refl
length-marked_installed_where_same_as installed (c ∷ cs) = ap suc (length-marked_installed_where_same_as installed cs)

pub counted_once : (cs : List Candidate) (installed : Candidate) → list_any (is_repository_package_same_as_installed installed) cs ≡ true → length (with_installed_marked_or_added cs installed) ≡ length cs
counted_once cs installed h = rw h (length-marked_installed_where_same_as installed cs)

pub stands_last : (cs : List Candidate) (installed : Candidate) → list_any (is_repository_package_same_as_installed installed) cs ≡ false → with_installed_marked_or_added cs installed ≡ cs ++ installed ∷ []
stands_last cs installed h = rw h refl

offers_still : (name : List ℕ) (installed c : Candidate) → offers_name name (if is_repository_package_same_as_installed installed c then as_installed c else c) ≡ offers_name name c
offers_still name installed c = elim (cases_Bool (is_repository_package_same_as_installed installed c)) [ inl e ↦ rw e refl | inr e ↦ rw e refl ]

-- a candidate offers what it offered
pub places_still : (name : List ℕ) (installed : Candidate) (n : ℕ) (cs : List Candidate) → places_passing_counted_from n (offers_name name) (marked_installed_where_same_as installed cs) ≡ places_passing_counted_from n (offers_name name) cs
places_still name installed n [] = refl
places_still name installed n (c ∷ cs) =
    let rest = places_still name installed (suc n) cs in
    elim (cases_Bool (offers_name name c)) [
      | inl e ↦ rw (offers_still name installed c) (rw e (ap (λ (z : List ℕ). n ∷ z) rest))
      | inr e ↦ rw (offers_still name installed c) (rw e rest)
    ]

-- ---- marking through the table of names

abbrev pub marked_among : Candidate → List ℕ → List Candidate → List Candidate
marked_among installed [] cs = cs
marked_among installed (k ∷ ks) cs = marked_among installed ks (marked_installed_if_same_at installed k cs)

pub marked_more : (installed : Candidate) (ks : List ℕ) (k : ℕ) (cs : List Candidate) → marked_among installed (ks ++ k ∷ []) cs ≡ marked_installed_if_same_at installed k (marked_among installed ks cs)
marked_more installed [] k cs = refl
marked_more installed (j ∷ ks) k cs = marked_more installed ks k (marked_installed_if_same_at installed j cs)

at_front : (installed c : Candidate) (front cs : List Candidate) → marked_installed_if_same_at installed (length front) (front ++ c ∷ cs) ≡ front ++ (if is_repository_package_same_as_installed installed c then as_installed c else c) ∷ cs
at_front installed c [] cs = refl
at_front installed c (d ∷ front) cs = ap (λ (z : List Candidate). d ∷ z) (at_front installed c front cs)

-- what is the installed package has its name
same_is_named : (installed c : Candidate) → is_repository_package_same_as_installed installed c ≡ true → offers_name installed.name c ≡ true
same_is_named installed c h =
    let named : bytes_eq c.name installed.name ≡ true = both_first (bytes_eq c.name installed.name) _ (both_second (is_some c.repository) _ h) in
    rw ((bytes_decides installed.name c.name).1 (sym ((bytes_decides c.name installed.name).0 named))) refl

not_same : (installed c : Candidate) → offers_name installed.name c ≡ false → is_repository_package_same_as_installed installed c ≡ false
not_same installed c h = elim (cases_Bool (is_repository_package_same_as_installed installed c)) [
  | inl e ↦ let bad : true ≡ false = sym (same_is_named installed c e) ∙ h in absurd (cc)
  | inr e ↦ e
]

marked_after : (installed : Candidate) (front cs : List Candidate) → marked_among installed (places_passing_counted_from (length front) (offers_name installed.name) cs) (front ++ cs) ≡ front ++ marked_installed_where_same_as installed cs
marked_after installed front [] = refl
marked_after installed front (c ∷ cs) =
    let test = offers_name installed.name in
    let new : Candidate = if is_repository_package_same_as_installed installed c then as_installed c else c in
    let len : length (front ++ new ∷ []) ≡ suc (length front) = simp length-append (omega arith) in
    let rest : marked_among installed (places_passing_counted_from (suc (length front)) test cs) (front ++ new ∷ cs) ≡ front ++ new ∷ marked_installed_where_same_as installed cs =
    subst (λ (n : ℕ). marked_among installed (places_passing_counted_from n test cs) (front ++ new ∷ cs) ≡ front ++ new ∷ marked_installed_where_same_as installed cs) len
    (subst (λ (z : List Candidate). marked_among installed (places_passing_counted_from (length (front ++ new ∷ [])) test cs) z ≡ front ++ new ∷ marked_installed_where_same_as installed cs) (append_assoc front (new ∷ []) cs)
    (marked_after installed (front ++ new ∷ []) cs ∙ append_assoc front (new ∷ []) (marked_installed_where_same_as installed cs))) in
    elim (cases_Bool (test c)) [
      | inl e ↦ rw e (ap (marked_among installed (places_passing_counted_from (suc (length front)) test cs)) (at_front installed c front cs) ∙ rest)
      | inr e ↦
          let same : c ≡ new = sym (rw (not_same installed c e) refl) in
          rw e (ap (λ (k : Candidate). marked_among installed (places_passing_counted_from (suc (length front)) test cs) (front ++ k ∷ cs)) same ∙ rest)
    ]

pub marked_all : (installed : Candidate) (cs : List Candidate) → marked_among installed (places_passing_counted_from 0 (offers_name installed.name) cs) cs ≡ marked_installed_where_same_as installed cs
marked_all installed cs = marked_after installed [] cs

same_still : (installed c : Candidate) → is_repository_package_same_as_installed installed (if is_repository_package_same_as_installed installed c then as_installed c else c) ≡ is_repository_package_same_as_installed installed c
same_still installed c = elim (cases_Bool (is_repository_package_same_as_installed installed c)) [ inl e ↦ rw e e | inr e ↦ rw e e ]

same_at_still : (installed : Candidate) (j : ℕ) (cs : List Candidate) (k : ℕ) → is_installed_package_at installed (marked_installed_if_same_at installed j cs) k ≡ is_installed_package_at installed cs k
same_at_still installed j [] k = refl
same_at_still installed zero (c ∷ cs) zero = same_still installed c
same_at_still installed zero (c ∷ cs) (suc k) = refl
same_at_still installed (suc j) (c ∷ cs) zero = refl
same_at_still installed (suc j) (c ∷ cs) (suc k) = same_at_still installed j cs k

pub same_among_still : (installed : Candidate) (ks : List ℕ) (cs : List Candidate) (k : ℕ) → is_installed_package_at installed (marked_among installed ks cs) k ≡ is_installed_package_at installed cs k
same_among_still installed [] cs k = refl
same_among_still installed (j ∷ ks) cs k = same_among_still installed ks (marked_installed_if_same_at installed j cs) k ∙ same_at_still installed j cs k

any_places : (weak strong : Candidate → Bool) (all : ℕ → Option Candidate) (n : ℕ) (cs : List Candidate) → ((c : Candidate) → strong c ≡ true → weak c ≡ true) → ((k : ℕ) → all (n + k) ≡ slice_get cs k) → list_any (λ k. option_map_or strong (all k) false) (places_passing_counted_from n weak cs) ≡ list_any strong cs
any_places weak strong all n [] to there = refl
any_places weak strong all n (c ∷ cs) to there =
    let z : n + 0 ≡ n = omega arith in
    let here : all n ≡ Some c = subst (λ (k : ℕ). all k ≡ Some c) z (there 0) in
    let at : option_map_or strong (all n) false ≡ strong c = ap (λ (o : Option Candidate). option_map_or strong o false) here in
    let rest = any_places weak strong all (suc n) cs to (λ k. let e : n + suc k ≡ suc n + k = omega arith in subst (λ (j : ℕ). all j ≡ slice_get cs k) e (there (suc k))) in
    elim (cases_Bool (strong c)) [
      | inl s ↦ rw (s, to c s) (let is : option_map_or strong (all n) false ≡ true = at ∙ s in rw is refl)
      | inr s ↦ elim (cases_Bool (weak c)) [
        | inl w ↦ rw (s, w) (let is : option_map_or strong (all n) false ≡ false = at ∙ s in rw is rest)
        | inr w ↦ rw (s, w) rest
      ]
    ]

pub any_same : (installed : Candidate) (cs : List Candidate) → list_any (is_installed_package_at installed cs) (places_passing_counted_from 0 (offers_name installed.name) cs) ≡ list_any (is_repository_package_same_as_installed installed) cs
any_same installed cs =
    any_places (offers_name installed.name) (is_repository_package_same_as_installed installed) (λ k. slice_get cs k) 0 cs (same_is_named installed) (λ k. ap (slice_get cs) (omega arith))

pub marked_installed_if_same_at-other : (installed c : Candidate) (k : ℕ) (cs : List Candidate) → slice_get cs k ≡ Some c → is_repository_package_same_as_installed installed c ≡ false → marked_installed_if_same_at installed k cs ≡ cs
marked_installed_if_same_at-other installed c zero [] h e = refl
marked_installed_if_same_at-other installed c (suc k) [] h e = refl
marked_installed_if_same_at-other installed c zero (d ∷ cs) h e =
    let s : c ≡ d = cc in
    rw (subst (λ (z : Candidate). is_repository_package_same_as_installed installed z ≡ false) s e) refl
marked_installed_if_same_at-other installed c (suc k) (d ∷ cs) h e = ap (λ (z : List Candidate). d ∷ z) (marked_installed_if_same_at-other installed c k cs h e)

pub marked_installed_if_same_at-installed : (installed c : Candidate) (k : ℕ) (cs : List Candidate) → slice_get cs k ≡ Some c → is_repository_package_same_as_installed installed c ≡ true → marked_installed_if_same_at installed k cs ≡ marked_installed_at k cs
marked_installed_if_same_at-installed installed c zero [] h e = refl
marked_installed_if_same_at-installed installed c (suc k) [] h e = refl
marked_installed_if_same_at-installed installed c zero (d ∷ cs) h e =
    let s : c ≡ d = cc in
    rw (subst (λ (z : Candidate). is_repository_package_same_as_installed installed z ≡ true) s e) refl
marked_installed_if_same_at-installed installed c (suc k) (d ∷ cs) h e = ap (λ (z : List Candidate). d ∷ z) (marked_installed_if_same_at-installed installed c k cs h e)

length-marked_installed_if_same_at : (installed : Candidate) (k : ℕ) (cs : List Candidate) → length (marked_installed_if_same_at installed k cs) ≡ length cs
length-marked_installed_if_same_at installed k [] = refl
length-marked_installed_if_same_at installed zero (c ∷ cs) = refl
length-marked_installed_if_same_at installed (suc k) (c ∷ cs) = ap suc (length-marked_installed_if_same_at installed k cs)

pub length-marked_among : (installed : Candidate) (ks : List ℕ) (cs : List Candidate) → length (marked_among installed ks cs) ≡ length cs
length-marked_among installed [] cs = refl
length-marked_among installed (k ∷ ks) cs = length-marked_among installed ks (marked_installed_if_same_at installed k cs) ∙ length-marked_installed_if_same_at installed k cs

pub none_same : (installed : Candidate) (cs : List Candidate) → list_any (is_repository_package_same_as_installed installed) cs ≡ false → marked_installed_where_same_as installed cs ≡ cs
none_same installed [] h = refl
none_same installed (c ∷ cs) h = elim (cases_Bool (is_repository_package_same_as_installed installed c)) [
  | inl e ↦ let bad : true ≡ false = rw e at h in absurd (cc)
  | inr e ↦ rw e (ap (λ (z : List Candidate). c ∷ z) (none_same installed cs (rw e at h)))
]
