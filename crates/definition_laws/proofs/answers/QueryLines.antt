-- What `list`, `search` and `policy` print.
use Rattle.std.proofs.Common.{ℕ, ◌≡◌, ◌↔◌, ◌⊎◌, ◌∙◌, inl, inr, zero, suc, ◌+◌, Bool, true, false, List, [], ◌∷◌, ◌++◌, Option, Some, None, refl, ap, sym, subst, append_assoc, arith}
use Rattle.std.specs.Prelude.{if◌then◌else◌, ◌&&◌, ◌||◌, ◌==◌, is_some, slice_get}
use Rattle.std.specs.List.{cons_option, filter, filter_map, flat_map, list_any}
use Rattle.std.specs.Option.{option_map_or}
use Rattle.std.specs.Ordering.{nat_cmp}
use Rattle.std.specs.Str.{bytes_eq}
use Rattle.std.specs.declared.cmp.Ordering.TheVariants.{Less}
use Rattle.std.proofs.lemmas.Bool.{and_parts, cases_Bool, lt-ltb, or_cases}
use Rattle.std.proofs.lemmas.Bool.Decides.{Decides-eqb}
use Rattle.std.proofs.lemmas.Slice.Eq.{bytes_eq-Decides}
use Rattle.change_outcome.proofs.search_tables.pool_core.SamePackage.{same_version as same_text}
use Rattle.tell_core.specs.candidate_core.Candidates.{Candidate, is_same_version}
use Rattle.tell_core.specs.candidate_core.Options.{IsIn}
use Rattle.command_core.specs.declared.operands.Operand.{Operand}
use Rattle.dep_core.specs.Repositories.{Repository}
use Rattle.query_core.specs.Asked.{AreStrictlyInOrderBy}
use Rattle.query_core.specs.List.{list_line_of_candidate, is_list_candidate, list_report}
use Rattle.query_core.specs.Order.{printed_version, candidate_places_cmp, sorted_candidates_passing, sorted_places_passing}
use Rattle.query_core.specs.Policy.{has_own_name_and_version_text, has_own_name, is_of_repository, policy_report, lines_of_repositories_of_candidates, version_policy, sorted_distinct_versions_of_name}
use Rattle.query_core.specs.Search.{is_search_candidate, search_report}
use Rattle.report_core.specs.QueryReports.{policy_database_line, policy_heading, policy_repository_line, search_line, policy_version_heading}
use Rattle.definition_laws.specs.answers.QueryLines.{HasLinesOfSortedAskedCandidates, HasNameAndVersion, HasPolicyLinesOfOneVersionOrOfUnversioned, IsInListReportByInstalledFlag, IsSearchHitInRepositoryBySomePattern, IsVersionInRepository, IsVersionInstalled, line_at, repository_line_at}

-- ---- the lines of places

line_next : (line : Candidate → List ℕ) (cs : List Candidate) (places : List ℕ) (o : Option Candidate) → flat_map line (filter_map (slice_get cs) places) ≡ flat_map (line_at line cs) places
    → flat_map line (cons_option o (filter_map (slice_get cs) places)) ≡ option_map_or line o [] ++ flat_map (line_at line cs) places
line_next line cs places None more = more
line_next line cs places (Some c) more = ap (λ (rest : List ℕ). line c ++ rest) more

at_places : (line : Candidate → List ℕ) (cs : List Candidate) (places : List ℕ) → flat_map line (filter_map (slice_get cs) places) ≡ flat_map (line_at line cs) places
at_places line cs [] = refl
at_places line cs (place ∷ places) = line_next line cs places (slice_get cs place) (at_places line cs places)

-- the laws of `query_core` on what is selected
module _ (those : (test : Candidate → Bool) (cs : List Candidate) (place : ℕ) → IsIn place (sorted_places_passing test cs) → option_map_or test (slice_get cs place) false ≡ true) (each : (test : Candidate → Bool) (cs : List Candidate) (place : ℕ) → option_map_or test (slice_get cs place) false ≡ true → IsIn place (sorted_places_passing test cs)) (order : (test : Candidate → Bool) (cs : List Candidate) → AreStrictlyInOrderBy (candidate_places_cmp cs) (sorted_places_passing test cs)) where
  lines_of : (test : Candidate → Bool) (IsAsked : Candidate → Type 0) (line : Candidate → List ℕ) (cs : List Candidate) (text : List ℕ) → ((c : Candidate) → (test c ≡ true) ↔ IsAsked c)
      → text ≡ flat_map line (sorted_candidates_passing test cs) → HasLinesOfSortedAskedCandidates IsAsked line cs text
  lines_of test IsAsked line cs text asked is = record {
    places = sorted_places_passing test cs;
    each = λ place. (λ h. there place (slice_get cs place) refl (those test cs place h), λ x. back place x);
    order = order test cs;
    text_is = is ∙ at_places line cs (sorted_places_passing test cs);
  }
    where
      there : (place : ℕ) (o : Option Candidate) → slice_get cs place ≡ o → option_map_or test (slice_get cs place) false ≡ true
          → (c : Candidate) × (slice_get cs place ≡ Some c) × IsAsked c
      there place None at e = let none : false ≡ true = sym (ap (λ (o : Option Candidate). option_map_or test o false) at) ∙ e in absurd (cc (none))
      there place (Some c) at e = (c, at, (asked c).0 (sym (ap (λ (o : Option Candidate). option_map_or test o false) at) ∙ e))

      back : (place : ℕ) → ((c : Candidate) × (slice_get cs place ≡ Some c) × IsAsked c) → IsIn place (sorted_places_passing test cs)
      back place (c, at, h) = each test cs place (ap (λ (o : Option Candidate). option_map_or test o false) at ∙ (asked c).1 h)

  pub listed : ((patterns : List Operand) (installed_only : Bool) (c : Candidate) → (is_list_candidate patterns installed_only c ≡ true) ↔ IsInListReportByInstalledFlag patterns installed_only c)
      → (cs : List Candidate) (patterns : List Operand) (installed_only : Bool)
      → HasLinesOfSortedAskedCandidates (IsInListReportByInstalledFlag patterns installed_only) list_line_of_candidate cs (list_report cs patterns installed_only)
  listed asked cs patterns installed_only =
      lines_of (is_list_candidate patterns installed_only) (IsInListReportByInstalledFlag patterns installed_only) list_line_of_candidate cs
      (list_report cs patterns installed_only) (asked patterns installed_only) refl

  pub searched : ((patterns : List Operand) (c : Candidate) → (is_search_candidate patterns c ≡ true) ↔ IsSearchHitInRepositoryBySomePattern patterns c)
      → (cs : List Candidate) (patterns : List Operand)
      → HasLinesOfSortedAskedCandidates (IsSearchHitInRepositoryBySomePattern patterns) (λ (c : Candidate). search_line c.name (printed_version c.version)) cs (search_report cs patterns)
  searched asked cs patterns =
      lines_of (is_search_candidate patterns) (IsSearchHitInRepositoryBySomePattern patterns) (λ (c : Candidate). search_line c.name (printed_version c.version)) cs
      (search_report cs patterns) (asked patterns) refl

-- ---- where a version is

pub policy_named : (cs : List Candidate) (repositories : List Repository) (names : List Operand)
    → policy_report cs repositories names
    ≡ flat_map (λ (o : Operand). policy_heading o.text ++ flat_map (version_policy cs repositories o.text) (sorted_distinct_versions_of_name cs o.text)) names
policy_named cs repositories names = refl

-- a test holds of one of those of a list that pass another test
abbrev HasPassing : (p q : Candidate → Bool) → List Candidate → Type 0
HasPassing p q cs = (c : Candidate) × IsIn c cs × (p c ≡ true) × (q c ≡ true)

pass_later : (p q : Candidate → Bool) (c : Candidate) (cs : List Candidate) → HasPassing p q cs → HasPassing p q (c ∷ cs)
pass_later p q c cs (d, here, first, second) = (d, inr here, first, second)

pass_next : (p q : Candidate → Bool) (c : Candidate) (cs : List Candidate) → (list_any q (filter p cs) ≡ true → HasPassing p q cs) → list_any q (filter p (c ∷ cs)) ≡ true
    → (b : Bool) → p c ≡ b → HasPassing p q (c ∷ cs)
pass_next p q c cs further e true is =
    let any : (q c || list_any q (filter p cs)) ≡ true = rw is at e in
    elim (or_cases (q c) (list_any q (filter p cs)) any) [
      | inl holds ↦ (c, inl refl, is, holds)
      | inr h ↦ pass_later p q c cs (further h)
    ]
pass_next p q c cs further e false is = pass_later p q c cs (further (rw is at e))

passing : (p q : Candidate → Bool) (cs : List Candidate) → list_any q (filter p cs) ≡ true → HasPassing p q cs
passing p q [] e = absurd (cc (e))
passing p q (c ∷ cs) e = pass_next p q c cs (λ h. passing p q cs h) e (p c) refl

passed : (p q : Candidate → Bool) (cs : List Candidate) (c : Candidate) → IsIn c cs → p c ≡ true → q c ≡ true → list_any q (filter p cs) ≡ true
passed p q [] c h first second = absurd h
passed p q (d ∷ cs) c (inl is) first second =
    rw (subst (λ (x : Candidate). p x ≡ true) is first, subst (λ (x : Candidate). q x ≡ true) is second) refl
passed p q (d ∷ cs) c (inr h) first second = elim (cases_Bool (p d)) [
  | inl t ↦ elim (cases_Bool (q d)) [
    | inl u ↦ rw (t, u) refl
    | inr u ↦ rw (t, u) (passed p q cs c h first second)
  ]
  | inr t ↦ rw t (passed p q cs c h first second)
]

of_number : (number : ℕ) (c : Candidate) → is_of_repository number c ≡ true → c.repository ≡ Some number
of_number number c e = go c.repository refl e
  where
    go : (o : Option ℕ) → c.repository ≡ o → option_map_or (λ repository. repository == number) o false ≡ true → c.repository ≡ Some number
    go None is e = absurd (cc (e))
    go (Some n) is e = is ∙ ap Some ((Decides-eqb n number).0 e)

numbered : (number : ℕ) (c : Candidate) → c.repository ≡ Some number → is_of_repository number c ≡ true
numbered number c is = ap (λ (o : Option ℕ). option_map_or (λ repository. repository == number) o false) is ∙ (Decides-eqb number number).1 refl

text_same : (a : Option (List ℕ)) → is_same_version a a ≡ true
text_same None = refl
text_same (Some a) = (bytes_eq-Decides a a).1 refl

version_same : (name : List ℕ) (version : Option (List ℕ)) (c : Candidate) → has_own_name_and_version_text name version c ≡ true → HasNameAndVersion name version c
version_same name version c e =
    let both = and_parts (has_own_name name c) (is_same_version version c.version) e in
    record { named = sym ((bytes_eq-Decides name c.name).0 both.0); versioned = sym (same_text version c.version both.1) }

same_version : (name : List ℕ) (version : Option (List ℕ)) (c : Candidate) → HasNameAndVersion name version c → has_own_name_and_version_text name version c ≡ true
same_version name version c x =
    ap (λ (n : List ℕ). bytes_eq name n && is_same_version version c.version) x.named
    ∙ ap (λ (v : Option (List ℕ)). bytes_eq name name && is_same_version version v) x.versioned
    ∙ ap (λ (b : Bool). b && is_same_version version version) ((bytes_eq-Decides name name).1 refl)
    ∙ text_same version

in_repository : (cs : List Candidate) (name : List ℕ) (version : Option (List ℕ)) (number : ℕ)
    → list_any (is_of_repository number) (filter (has_own_name_and_version_text name version) cs) ≡ true → IsVersionInRepository cs name version number
in_repository cs name version number e =
    let (c, here, same, of) = passing (has_own_name_and_version_text name version) (is_of_repository number) cs e in
    record { candidate = c; listed = here; same = version_same name version c same; numbered = of_number number c of }

repository_has : (cs : List Candidate) (name : List ℕ) (version : Option (List ℕ)) (number : ℕ)
    → IsVersionInRepository cs name version number → list_any (is_of_repository number) (filter (has_own_name_and_version_text name version) cs) ≡ true
repository_has cs name version number x =
    passed (has_own_name_and_version_text name version) (is_of_repository number) cs x.candidate x.listed (same_version name version x.candidate x.same)
    (numbered number x.candidate x.numbered)

is_there : (cs : List Candidate) (name : List ℕ) (version : Option (List ℕ))
    → list_any (λ (c : Candidate). c.installed) (filter (has_own_name_and_version_text name version) cs) ≡ true → IsVersionInstalled cs name version
is_there cs name version e =
    let (c, here, same, on) = passing (has_own_name_and_version_text name version) (λ (c : Candidate). c.installed) cs e in
    record { candidate = c; listed = here; same = version_same name version c same; installed = on }

there_is : (cs : List Candidate) (name : List ℕ) (version : Option (List ℕ))
    → IsVersionInstalled cs name version → list_any (λ (c : Candidate). c.installed) (filter (has_own_name_and_version_text name version) cs) ≡ true
there_is cs name version x =
    passed (has_own_name_and_version_text name version) (λ (c : Candidate). c.installed) cs x.candidate x.listed
    (same_version name version x.candidate x.same) x.installed

-- the places of the repositories that have one of some candidates; the first repository has this number
-- and place
abbrev places_of : List Candidate → ℕ → ℕ → List Repository → List ℕ
places_of those number place [] = []
places_of those number place (r ∷ rs) =
    (if list_any (is_of_repository number) those then place ∷ [] else []) ++ places_of those (number + 1) (suc place) rs

lines_next : (those : List Candidate) (all : List Repository) (place number : ℕ) (r : Repository) (rs : List Repository) → slice_get all place ≡ Some r
    → lines_of_repositories_of_candidates those (number + 1) rs ≡ flat_map (repository_line_at all) (places_of those (number + 1) (suc place) rs)
    → (b : Bool) → (if b then policy_repository_line r.tag r.path else []) ++ lines_of_repositories_of_candidates those (number + 1) rs
    ≡ flat_map (repository_line_at all) ((if b then place ∷ [] else []) ++ places_of those (number + 1) (suc place) rs)
lines_next those all place number r rs here rest true =
    ap (λ (l : List ℕ). policy_repository_line r.tag r.path ++ l) rest
    ∙ ap (λ (o : Option Repository). option_map_or (λ (r : Repository). policy_repository_line r.tag r.path) o [] ++ flat_map (repository_line_at all) (places_of those (number + 1) (suc place) rs)) (sym here)
lines_next those all place number r rs here rest false = rest

lines_from : (those : List Candidate) (all : List Repository) (place number : ℕ) (rs : List Repository) → ((j : ℕ) → slice_get all (place + j) ≡ slice_get rs j)
    → lines_of_repositories_of_candidates those number rs ≡ flat_map (repository_line_at all) (places_of those number place rs)
lines_from those all place number [] at = refl
lines_from those all place number (r ∷ rs) at =
    let same : place ≡ place + 0 = omega arith in
    let here : slice_get all place ≡ Some r = ap (slice_get all) same ∙ at 0 in
    lines_next those all place number r rs here
    (lines_from those all (suc place) (number + 1) rs (λ j. let next : suc place + j ≡ place + suc j = omega arith in ap (slice_get all) next ∙ at (suc j)))
    (list_any (is_of_repository number) those)

abbrev IsPlaceOf : List Candidate → ℕ → List Repository → ℕ → Type 0
IsPlaceOf those place rs q =
    (j : ℕ) × (q ≡ place + j) × (is_some (slice_get rs j) ≡ true) × (list_any (is_of_repository (suc q)) those ≡ true)

place_later : (those : List Candidate) (place : ℕ) (r : Repository) (rs : List Repository) (q : ℕ) → IsPlaceOf those (suc place) rs q → IsPlaceOf those place (r ∷ rs) q
place_later those place r rs q (j, is, some, any) = (suc j, omega (arith, is), some, any)

place_next : (those : List Candidate) (number place : ℕ) (r : Repository) (rs : List Repository) (q : ℕ) (later : List ℕ) → number ≡ suc place
    → (IsIn q later → IsPlaceOf those (suc place) rs q)
    → (b : Bool) → list_any (is_of_repository number) those ≡ b → IsIn q ((if b then place ∷ [] else []) ++ later) → IsPlaceOf those place (r ∷ rs) q
place_next those number place r rs q later e further true is (inl same) =
    let count : number ≡ suc q = omega (arith, e, same) in
    (0, omega (arith, same), refl, sym (ap (λ (n : ℕ). list_any (is_of_repository n) those) count) ∙ is)
place_next those number place r rs q later e further true is (inr more) = place_later those place r rs q (further more)
place_next those number place r rs q later e further false is more = place_later those place r rs q (further more)

in_places : (those : List Candidate) (number place : ℕ) (rs : List Repository) (q : ℕ) → number ≡ suc place → IsIn q (places_of those number place rs) → IsPlaceOf those place rs q
in_places those number place [] q e h = absurd h
in_places those number place (r ∷ rs) q e h =
    place_next those number place r rs q (places_of those (number + 1) (suc place) rs) e
    (λ more. in_places those (number + 1) (suc place) rs q (omega (arith, e)) more)
    (list_any (is_of_repository number) those) refl h

here_at : (those : List Candidate) (number place q : ℕ) (later : List ℕ) → number ≡ suc place → q ≡ place + 0 → list_any (is_of_repository (suc q)) those ≡ true
    → (b : Bool) → list_any (is_of_repository number) those ≡ b → IsIn q ((if b then place ∷ [] else []) ++ later)
here_at those number place q later e is any true t = inl (omega (arith, is))
here_at those number place q later e is any false t =
    let count : suc q ≡ number = omega (arith, e, is) in
    let both : true ≡ false = sym any ∙ ap (λ (n : ℕ). list_any (is_of_repository n) those) count ∙ t in
    absurd (cc (both))

later_at : (place q : ℕ) (later : List ℕ) → IsIn q later → (b : Bool) → IsIn q ((if b then place ∷ [] else []) ++ later)
later_at place q later h true = inr h
later_at place q later h false = h

has_place : (those : List Candidate) (number place : ℕ) (rs : List Repository) (j q : ℕ) → number ≡ suc place → q ≡ place + j → is_some (slice_get rs j) ≡ true
    → list_any (is_of_repository (suc q)) those ≡ true → IsIn q (places_of those number place rs)
has_place those number place [] j q e is some any = absurd (cc (some))
has_place those number place (r ∷ rs) zero q e is some any =
    here_at those number place q (places_of those (number + 1) (suc place) rs) e is any (list_any (is_of_repository number) those) refl
has_place those number place (r ∷ rs) (suc j) q e is some any =
    later_at place q (places_of those (number + 1) (suc place) rs)
    (has_place those (number + 1) (suc place) rs j q (omega (arith, e)) (omega (arith, is)) some any)
    (list_any (is_of_repository number) those)

rising_next : (place : ℕ) (later : List ℕ) → ((q : ℕ) → IsIn q later → nat_cmp place q ≡ Less) → AreStrictlyInOrderBy nat_cmp later → (b : Bool) → AreStrictlyInOrderBy nat_cmp ((if b then place ∷ [] else []) ++ later)
rising_next place later before rest true = (before, rest)
rising_next place later before rest false = rest

comes_before : (those : List Candidate) (number place : ℕ) (rs : List Repository) → number ≡ suc place → (q : ℕ) → IsIn q (places_of those (number + 1) (suc place) rs) → nat_cmp place q ≡ Less
comes_before those number place rs e q h =
    let (j, is, some, any) = in_places those (number + 1) (suc place) rs q (omega (arith, e)) h in
    rw (lt-ltb place q (omega (arith, is))) refl

rising : (those : List Candidate) (number place : ℕ) (rs : List Repository) → number ≡ suc place → AreStrictlyInOrderBy nat_cmp (places_of those number place rs)
rising those number place [] e = tt
rising those number place (r ∷ rs) e =
    rising_next place (places_of those (number + 1) (suc place) rs) (comes_before those number place rs e)
    (rising those (number + 1) (suc place) rs (omega (arith, e))) (list_any (is_of_repository number) those)

pub places_told : (cs : List Candidate) (repositories : List Repository) (name : List ℕ) (version : Option (List ℕ)) → HasPolicyLinesOfOneVersionOrOfUnversioned cs repositories name version (version_policy cs repositories name version)
places_told cs repositories name version =
    record {
      database = if list_any (λ (c : Candidate). c.installed) (filter (has_own_name_and_version_text name version) cs) then policy_database_line else [];
      database_is = by_test (list_any (λ (c : Candidate). c.installed) (filter (has_own_name_and_version_text name version) cs)) refl;
      places = places_of (filter (has_own_name_and_version_text name version) cs) 1 0 repositories;
      each = λ place. (there place, back place);
      order = rising (filter (has_own_name_and_version_text name version) cs) 1 0 repositories refl;
      text_is = ap (λ (l : List ℕ). policy_version_heading (printed_version version) ++ ((if list_any (λ (c : Candidate). c.installed) (filter (has_own_name_and_version_text name version) cs) then policy_database_line else []) ++ l))
          (lines_from (filter (has_own_name_and_version_text name version) cs) repositories 0 1 repositories (λ j. let same : 0 + j ≡ j = omega arith in ap (slice_get repositories) same))
          ∙ sym (append_assoc (policy_version_heading (printed_version version)) (if list_any (λ (c : Candidate). c.installed) (filter (has_own_name_and_version_text name version) cs) then policy_database_line else [])
          (flat_map (repository_line_at repositories) (places_of (filter (has_own_name_and_version_text name version) cs) 1 0 repositories)));
    }
  where
    by_test : (b : Bool) → list_any (λ (c : Candidate). c.installed) (filter (has_own_name_and_version_text name version) cs) ≡ b
        → (((if b then policy_database_line else []) ≡ policy_database_line) × IsVersionInstalled cs name version) ⊎ (((if b then policy_database_line else []) ≡ []) × (IsVersionInstalled cs name version → ⊥))
    by_test true e = inl (refl, is_there cs name version e)
    by_test false e = inr (refl, λ x. let both : true ≡ false = sym (there_is cs name version x) ∙ e in absurd (cc (both)))

    there : (place : ℕ) → IsIn place (places_of (filter (has_own_name_and_version_text name version) cs) 1 0 repositories)
        → (is_some (slice_get repositories place) ≡ true) × IsVersionInRepository cs name version (suc place)
    there place h =
        let (j, is, some, any) = in_places (filter (has_own_name_and_version_text name version) cs) 1 0 repositories place refl h in
        let same : j ≡ place = omega (arith, is) in
        (ap (λ (k : ℕ). is_some (slice_get repositories k)) (sym same) ∙ some, in_repository cs name version (suc place) any)

    back : (place : ℕ) → ((is_some (slice_get repositories place) ≡ true) × IsVersionInRepository cs name version (suc place))
        → IsIn place (places_of (filter (has_own_name_and_version_text name version) cs) 1 0 repositories)
    back place x =
        has_place (filter (has_own_name_and_version_text name version) cs) 1 0 repositories place place refl (omega arith) x.0 (repository_has cs name version (suc place) x.1)
