-- The list of candidates once the installed packages are counted, one by one.
use Rattle.std.proofs.Common.{◌≡◌, ◌⊎◌, inl, inr, Bool, true, false, true≢false, List, [], ◌∷◌, ◌++◌, refl, ap, sym, subst, ◌∙◌, cond}
use Rattle.std.specs.List.{list_any}
use Rattle.std.proofs.lemmas.Bool.{or_cases, or_left, or_right}
use Rattle.engine_core.specs.adb_fields.FirstPair.{IsIn}
use Rattle.adb_view.specs.Plain.{Plain}
use Rattle.engine_core.specs.candidate_core.Candidates.{Candidate, as_installed, marked_installed_where_same_as, is_repository_package_same_as_installed, with_installed_marked_or_added}
use Rattle.engine_core.specs.change_inputs.Candidates.{installed_candidate, with_all_installed}

-- ---- lists

pub any_in : {X : Type 0} (test : X → Bool) (xs : List X) → list_any test xs ≡ true → (x : X) × IsIn x xs × (test x ≡ true)
any_in test [] e = absurd (true≢false (sym e))
any_in test (y ∷ ys) e = elim (or_cases (test y) (list_any test ys) e) [
  | inl passes ↦ (y, inl refl, passes)
  | inr more ↦ (let behind = any_in test ys more in (behind.0, inr behind.1, behind.2))
]

pub in_any : {X : Type 0} (test : X → Bool) (xs : List X) (x : X) → IsIn x xs → test x ≡ true → list_any test xs ≡ true
in_any test [] x here t = absurd here
in_any test (y ∷ ys) x (inl is) t = or_left (test y) (list_any test ys) (ap test (sym is) ∙ t)
in_any test (y ∷ ys) x (inr more) t = or_right (test y) (list_any test ys) (in_any test ys x more t)

pub in_left : {X : Type 0} (x : X) (xs ys : List X) → IsIn x xs → IsIn x (xs ++ ys)
in_left x [] ys here = absurd here
in_left x (y ∷ xs) ys (inl is) = inl is
in_left x (y ∷ xs) ys (inr more) = inr (in_left x xs ys more)

pub in_right : {X : Type 0} (x : X) (xs ys : List X) → IsIn x ys → IsIn x (xs ++ ys)
in_right x [] ys here = here
in_right x (y ∷ xs) ys here = inr (in_right x xs ys here)

pub in_append : {X : Type 0} (x : X) (xs ys : List X) → IsIn x (xs ++ ys) → IsIn x xs ⊎ IsIn x ys
in_append x [] ys here = inr here
in_append x (y ∷ xs) ys (inl is) = inl (inl is)
in_append x (y ∷ xs) ys (inr more) = elim (in_append x xs ys more) [ inl front ↦ inl (inr front) | inr behind ↦ inr behind ]

none_in : {X : Type 0} (test : X → Bool) (xs : List X) (x : X) → list_any test xs ≡ false → IsIn x xs → test x ≡ false
none_in test xs x none here = by (test x) refl
  where
    by : (t : Bool) → test x ≡ t → t ≡ false
    by true e = absurd (true≢false (sym (in_any test xs x here e) ∙ none))
    by false e = refl

pub no_any : {X : Type 0} (test : X → Bool) (xs : List X) → ((x : X) → IsIn x xs → test x ≡ false) → list_any test xs ≡ false
no_any test xs none = by (list_any test xs) refl
  where
    by : (t : Bool) → list_any test xs ≡ t → t ≡ false
    by true e = let found = any_in test xs e in absurd (true≢false (sym found.2 ∙ none found.0 found.1))
    by false e = refl

-- ---- one installed package

abbrev is_same : Plain → Candidate → Bool
is_same pkg c = is_repository_package_same_as_installed (installed_candidate pkg) c

-- how a candidate counts, as one of an index by whether it is the installed package
abbrev counted : Plain → Candidate → Candidate
counted pkg c = cond (is_same pkg c) (as_installed c) c

marked_back : (pkg : Plain) (cs : List Candidate) (c : Candidate) → IsIn c (marked_installed_where_same_as (installed_candidate pkg) cs) → (was : Candidate) × IsIn was cs × (c ≡ counted pkg was)
marked_back pkg [] c here = absurd here
marked_back pkg (x ∷ cs) c (inl is) = (x, inl refl, is)
marked_back pkg (x ∷ cs) c (inr more) = let behind = marked_back pkg cs c more in (behind.0, inr behind.1, behind.2)

marked_there : (pkg : Plain) (cs : List Candidate) (c : Candidate) → IsIn c cs → IsIn (counted pkg c) (marked_installed_where_same_as (installed_candidate pkg) cs)
marked_there pkg [] c here = absurd here
marked_there pkg (x ∷ cs) c (inl is) = inl (ap (counted pkg) is)
marked_there pkg (x ∷ cs) c (inr more) = inr (marked_there pkg cs c more)

-- the list with one more, by whether an index has it
abbrev one_counted : Bool → Plain → List Candidate → List Candidate
one_counted known pkg cs =
    cond known (marked_installed_where_same_as (installed_candidate pkg) cs) (cs ++ installed_candidate pkg ∷ [])

not_same : (pkg : Plain) (c : Candidate) → is_same pkg c ≡ false → c ≡ counted pkg c
not_same pkg c e = sym (ap (λ t. cond t (as_installed c) c) e)

-- a member was one before, or is the installed package, which no index has
abbrev IsBefore : Plain → List Candidate → Candidate → Type 0
IsBefore pkg cs c =
    ((was : Candidate) × IsIn was cs × (c ≡ counted pkg was))
    ⊎ ((list_any (is_same pkg) cs ≡ false) × (c ≡ installed_candidate pkg))

back_by : (known : Bool) (pkg : Plain) (cs : List Candidate) (c : Candidate) → list_any (is_same pkg) cs ≡ known → IsIn c (one_counted known pkg cs) → IsBefore pkg cs c
back_by true pkg cs c e here = inl (marked_back pkg cs c here)
back_by false pkg cs c e here = elim (in_append c cs (installed_candidate pkg ∷ []) here) [
  | inl front ↦ inl (c, front, not_same pkg c (none_in (is_same pkg) cs c e front))
  | inr behind ↦ elim behind [ inl is ↦ inr (e, is) | inr more ↦ absurd more ]
]

back : (pkg : Plain) (cs : List Candidate) (c : Candidate) → IsIn c (with_installed_marked_or_added cs (installed_candidate pkg)) → IsBefore pkg cs c
back pkg cs c here = back_by (list_any (is_same pkg) cs) pkg cs c refl here

there_by : (known : Bool) (pkg : Plain) (cs : List Candidate) (c : Candidate) → list_any (is_same pkg) cs ≡ known → IsIn c cs → IsIn (counted pkg c) (one_counted known pkg cs)
there_by true pkg cs c e here = marked_there pkg cs c here
there_by false pkg cs c e here =
    subst (λ (x : Candidate). IsIn x (cs ++ installed_candidate pkg ∷ [])) (not_same pkg c (none_in (is_same pkg) cs c e here)) (in_left c cs (installed_candidate pkg ∷ []) here)

there : (pkg : Plain) (cs : List Candidate) (c : Candidate) → IsIn c cs → IsIn (counted pkg c) (with_installed_marked_or_added cs (installed_candidate pkg))
there pkg cs c here = there_by (list_any (is_same pkg) cs) pkg cs c refl here

added_by : (known : Bool) (pkg : Plain) (cs : List Candidate) → list_any (is_same pkg) cs ≡ known → known ≡ false → IsIn (installed_candidate pkg) (one_counted known pkg cs)
added_by true pkg cs e none = absurd (true≢false none)
added_by false pkg cs e none = in_right (installed_candidate pkg) cs (installed_candidate pkg ∷ []) (inl refl)

added : (pkg : Plain) (cs : List Candidate) → list_any (is_same pkg) cs ≡ false → IsIn (installed_candidate pkg) (with_installed_marked_or_added cs (installed_candidate pkg))
added pkg cs none = added_by (list_any (is_same pkg) cs) pkg cs refl none

-- ---- all installed packages

-- how a candidate counts once these packages are counted
abbrev pub IsCounted : List Plain → Candidate → Candidate → Type 0
IsCounted pkgs was c =
    ((c ≡ as_installed was) × ((pkg : Plain) × IsIn pkg pkgs × (is_same pkg was ≡ true)))
    ⊎ ((c ≡ was) × ((pkg : Plain) → IsIn pkg pkgs → is_same pkg was ≡ false))

counted_once_more : (t : Bool) (pkg : Plain) (pkgs : List Plain) (was c : Candidate) → is_same pkg was ≡ t → IsCounted pkgs (cond t (as_installed was) was) c → IsCounted (pkg ∷ pkgs) was c
counted_once_more true pkg pkgs was c e (inl is) = inl (is.0, (pkg, inl refl, e))
counted_once_more true pkg pkgs was c e (inr is) = inl (is.0, (pkg, inl refl, e))
counted_once_more false pkg pkgs was c e (inl is) = inl (is.0, (is.1.0, inr is.1.1, is.1.2))
counted_once_more false pkg pkgs was c e (inr is) = inr (is.0, none)
  where
    none : (p : Plain) → IsIn p (pkg ∷ pkgs) → is_same p was ≡ false
    none p (inl same) = ap (λ (x : Plain). is_same x was) same ∙ e
    none p (inr more) = is.1 p more

counted_more : (pkg : Plain) (pkgs : List Plain) (was c : Candidate) → IsCounted pkgs (counted pkg was) c → IsCounted (pkg ∷ pkgs) was c
counted_more pkg pkgs was c is = counted_once_more (is_same pkg was) pkg pkgs was c refl is

-- an installed package that no index has is the same as none
counted_alone : (pkg : Plain) (pkgs : List Plain) (c : Candidate) → IsCounted pkgs (installed_candidate pkg) c → c ≡ installed_candidate pkg
counted_alone pkg pkgs c (inl is) = absurd (true≢false (sym is.1.2))
counted_alone pkg pkgs c (inr is) = is.0

same_counted : (pkg other : Plain) (was : Candidate) → is_same pkg (counted other was) ≡ is_same pkg was
same_counted pkg other was = by (is_same other was)
  where
    by : (t : Bool) → is_same pkg (cond t (as_installed was) was) ≡ is_same pkg was
    by true = refl
    by false = refl

-- where none is the same once another is counted, none was before
none_before : (pkg other : Plain) (cs : List Candidate) → list_any (is_same pkg) (with_installed_marked_or_added cs (installed_candidate other)) ≡ false → list_any (is_same pkg) cs ≡ false
none_before pkg other cs none =
    no_any (is_same pkg) cs (λ c here. sym (same_counted pkg other c) ∙ none_in (is_same pkg) (with_installed_marked_or_added cs (installed_candidate other)) (counted other c) none (there other cs c here))

-- a member is a candidate before, as it counts then, or an installed package that no index has
pub all_back : (pkgs : List Plain) (cs : List Candidate) (c : Candidate) → IsIn c (with_all_installed cs pkgs)
    → ((was : Candidate) × IsIn was cs × IsCounted pkgs was c) ⊎ ((pkg : Plain) × IsIn pkg pkgs × (c ≡ installed_candidate pkg) × (list_any (is_same pkg) cs ≡ false))
all_back [] cs c here = inl (c, here, inr (refl, λ pkg none. absurd none))
all_back (pkg ∷ pkgs) cs c here = elim (all_back pkgs (with_installed_marked_or_added cs (installed_candidate pkg)) c here) [
  | inl of_list ↦ elim (back pkg cs of_list.0 of_list.1) [
    | inl was ↦ inl (was.0, was.1, counted_more pkg pkgs was.0 c (subst (λ (x : Candidate). IsCounted pkgs x c) was.2 of_list.2))
    | inr alone ↦ inr (pkg, inl refl, counted_alone pkg pkgs c (subst (λ (x : Candidate). IsCounted pkgs x c) alone.1 of_list.2), alone.0)
  ]
  | inr alone ↦ inr (alone.0, inr alone.1, alone.2, none_before alone.0 pkg cs alone.3)
]

-- each candidate before is one, as it counts then
pub all_there : (pkgs : List Plain) (cs : List Candidate) (was : Candidate) → IsIn was cs → (c : Candidate) × IsIn c (with_all_installed cs pkgs) × IsCounted pkgs was c
all_there [] cs was here = (was, here, inr (refl, λ pkg none. absurd none))
all_there (pkg ∷ pkgs) cs was here =
    let more = all_there pkgs (with_installed_marked_or_added cs (installed_candidate pkg)) (counted pkg was) (there pkg cs was here) in
    (more.0, more.1, counted_more pkg pkgs was more.0 more.2)

-- each installed package is one, or a candidate counts for it
abbrev pub IsCountedFor : Plain → Candidate → Type 0
IsCountedFor pkg c = (c.installed ≡ true) × ((c ≡ installed_candidate pkg) ⊎ (is_repository_package_same_as_installed (installed_candidate pkg) c ≡ true))

counted_for : (pkgs : List Plain) (pkg : Plain) (was c : Candidate) → IsIn pkg pkgs → is_same pkg was ≡ true → IsCounted pkgs was c → IsCountedFor pkg c
counted_for pkgs pkg was c here e (inl is) = (ap (λ (x : Candidate). x.installed) is.0, inr (ap (is_same pkg) is.0 ∙ e))
counted_for pkgs pkg was c here e (inr is) = absurd (true≢false (sym e ∙ is.1 pkg here))

pub installed_there : (pkgs : List Plain) (cs : List Candidate) (pkg : Plain) → IsIn pkg pkgs → (c : Candidate) × IsIn c (with_all_installed cs pkgs) × IsCountedFor pkg c
installed_there [] cs pkg here = absurd here
installed_there (first ∷ pkgs) cs pkg (inr more) = installed_there pkgs (with_installed_marked_or_added cs (installed_candidate first)) pkg more
installed_there (first ∷ pkgs) cs pkg (inl is) = by (list_any (is_same pkg) cs) refl
  where
    by : (t : Bool) → list_any (is_same pkg) cs ≡ t → (c : Candidate) × IsIn c (with_all_installed cs (first ∷ pkgs)) × IsCountedFor pkg c
    by true e =
        let found = any_in (is_same pkg) cs e in
        let there = all_there (first ∷ pkgs) cs found.0 found.1 in
        (there.0, there.1, counted_for (first ∷ pkgs) pkg found.0 there.0 (inl is) found.2 there.2)
    by false e =
        let alone : list_any (is_same first) cs ≡ false = ap (λ (p : Plain). list_any (is_same p) cs) (sym is) ∙ e in
        let there = all_there pkgs (with_installed_marked_or_added cs (installed_candidate first)) (installed_candidate first) (added first cs alone) in
        let same : there.0 ≡ installed_candidate first = counted_alone first pkgs there.0 there.2 in
        (there.0, there.1, (ap (λ (x : Candidate). x.installed) same, inl (same ∙ ap installed_candidate (sym is))))
