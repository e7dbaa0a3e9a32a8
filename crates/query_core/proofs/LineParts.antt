-- The parts of lines, one after another, and the lines of what is left.
use Rattle.std.proofs.Common.{◌≡◌, ℕ, zero, suc, ◌+◌, ◌<◌, ◌≤◌, List, [], ◌∷◌, ◌++◌, All, Bool, true, false, codes, length, drop, map, get_or, refl, sym, ap, ◌∙◌, arith, append_assoc}
use Rattle.std.specs.Prelude.{Some, ◌==◌, nat_lt, slice_get, if◌then◌else◌}
use Rattle.std.specs.List.{filter, filter_map, flat_map, list_any}
use Rattle.pool_core.specs.candidate_core.Candidates.{Candidate}
use Rattle.dep_core.specs.Repositories.{Repository}
use Rattle.pool_core.specs.option_ranks.Ranking.{Ranking}
use Rattle.pool_core.proofs.option_ranks.RankedOptions.{place_of}
use Rattle.adb_view.specs.FieldIndexes.{INFO_ARCH_INDEX, INFO_LICENSE_INDEX, INFO_ORIGIN_INDEX}
use Rattle.adb_view.specs.Values.{entry_at_index, text_in}
use Rattle.query_core.specs.Lines.{description_part, line_in_form}
use Rattle.query_core.specs.QueryRanking.{IsQueryRanking}
use Rattle.report_core.specs.QueryReports.{installed_mark, policy_database_line, policy_version_heading, text_between_unless_empty}
use Rattle.report_core.specs.Reports.{name_dash_version}
use Rattle.query_core.specs.Order.{printed_version}
use Rattle.query_core.specs.Policy.{has_own_name_and_version_text, version_policy}
use Rattle.query_core.specs.VersionPlaces.{ListsPlacesOfVersion, VersionPlaces, repository_line_numbered, distinct_repository_lines, version_lines}
use Rattle.query_core.specs.declared.candidates.LineForm.{LineForm}
use Rattle.query_core.specs.declared.candidates.LineForm.TheVariants.{Full, Short}
use Rattle.query_core.proofs.RisingLines.{lines_of_numbers}
use Rattle.query_core.proofs.Runs.{below_length}
use Rattle.std.proofs.Common.{inl, inr}
use Rattle.std.proofs.lemmas.Bool.{cases_Bool, eq-eqb, eqb-true, false≢true}

-- ---- the parts of a line

-- a text between two others, by whether it is empty
pub between_none : (before text after : List ℕ) → (length text == 0) ≡ true → [] ≡ text_between_unless_empty before text after
between_none before [] after h = refl
between_none before (b ∷ bytes) after h = let bad : suc (length bytes) ≡ 0 = eqb-true (suc (length bytes)) 0 h in absurd (omega (arith, bad))

pub between_some : (before text after : List ℕ) → (length text == 0) ≡ false → (before ++ text) ++ after ≡ text_between_unless_empty before text after
between_some before [] after h = absurd (false≢true (sym h ∙ eq-eqb 0 0 refl))
between_some before (b ∷ bytes) after h = refl

-- name and version, with what follows them, are the line of `list`
line_joined : (front arch origin license mark end : List ℕ) → (front ++ (((arch ++ origin) ++ license) ++ mark)) ++ end ≡ ((((front ++ arch) ++ origin) ++ license) ++ mark) ++ end
line_joined front arch origin license mark end =
    ap (λ (x : List ℕ). x ++ end) (sym (append_assoc front ((arch ++ origin) ++ license) mark)
    ∙ ap (λ (x : List ℕ). x ++ mark) (sym (append_assoc front (arch ++ origin) license) ∙ ap (λ (x : List ℕ). x ++ license) (sym (append_assoc front arch origin))))

pub full_line : (c : Candidate) → (name_dash_version c.name (printed_version c.version) ++ description_part c) ++ codes "\n" ≡ line_in_form Full c
full_line c =
    line_joined (name_dash_version c.name (printed_version c.version))
    (text_between_unless_empty (codes " ") (text_in (entry_at_index c.info INFO_ARCH_INDEX)) [])
    (text_between_unless_empty (codes " {") (text_in (entry_at_index c.info INFO_ORIGIN_INDEX)) (codes "}"))
    (text_between_unless_empty (codes " (") (text_in (entry_at_index c.info INFO_LICENSE_INDEX)) (codes ")"))
    (installed_mark c.installed) (codes "\n")

-- a form that is not that of `list`
pub short_form : (form : LineForm) → (form ≡ Full → ⊥) → form ≡ Short
short_form Full other = absurd (other refl)
short_form Short other = refl

-- ---- what is left of a list

pub left_at : {X : Type 0} (xs : List X) (i : ℕ) (x : X) → slice_get xs i ≡ Some x → drop i xs ≡ x ∷ drop (i + 1) xs
left_at [] zero x e = absurd (cc)
left_at [] (suc i) x e = absurd (cc)
left_at {X} (y ∷ xs) zero x e = let s : y ≡ x = cc in ap (λ (z : X). z ∷ xs) s
left_at {X} (y ∷ xs) (suc i) x e = let next : suc (i + 1) ≡ suc i + 1 = omega arith in left_at xs i x e ∙ ap (λ (n : ℕ). x ∷ drop n (y ∷ xs)) next

nothing : {X : Type 0} (n : ℕ) → drop {A = X} n [] ≡ []
nothing zero = refl
nothing (suc n) = refl

pub nothing_left : {X : Type 0} (xs : List X) (i : ℕ) → length xs ≤ i → drop i xs ≡ []
nothing_left [] i h = nothing i
nothing_left (x ∷ xs) zero h = absurd (omega (arith, h))
nothing_left (x ∷ xs) (suc i) h = nothing_left xs i (omega (arith, h))

-- ---- the lines of what is left

abbrev pub lines_of : LineForm → List Candidate → List Ranking → List ℕ
lines_of form cs rs = flat_map (line_in_form form) (filter_map (slice_get cs) (map place_of rs))

pub lines_left : (form : LineForm) (cs : List Candidate) (rs : List Ranking) (i : ℕ) (r : Ranking) (c : Candidate) → slice_get rs i ≡ Some r → slice_get cs r.place ≡ Some c → lines_of form cs (drop i rs) ≡ line_in_form form c ++ lines_of form cs (drop (i + 1) rs)
lines_left form cs rs i r c h e = ap (lines_of form cs) (left_at rs i r h) ∙ rw e refl

pub versions_left : (repositories : List Repository) (vs : List VersionPlaces) (i : ℕ) (v : VersionPlaces) → slice_get vs i ≡ Some v → flat_map (version_lines repositories) (drop i vs) ≡ version_lines repositories v ++ flat_map (version_lines repositories) (drop (i + 1) vs)
versions_left repositories vs i v h = ap (flat_map (version_lines repositories)) (left_at vs i v h)

pub numbers_left : (repositories : List Repository) (last : ℕ) (ns : List ℕ) (i n : ℕ) → slice_get ns i ≡ Some n → distinct_repository_lines repositories last (drop i ns) ≡ (if nat_lt last n then repository_line_numbered repositories n else []) ++ distinct_repository_lines repositories (if nat_lt last n then n else last) (drop (i + 1) ns)
numbers_left repositories last ns i n h = ap (distinct_repository_lines repositories last) (left_at ns i n h) ∙ elim (cases_Bool (nat_lt last n)) [ inl e ↦ rw e refl | inr e ↦ rw e refl ]

-- what is read of candidates is at their places
pub read_within : (cs : List Candidate) (rs : List Ranking) → All (IsQueryRanking cs) rs → All (λ (r : Ranking). r.place < length cs) rs
read_within cs rs all = λ i d h. let p = all i d h in below_length cs (get_or rs i d).place p.0 p.1.0

-- what is printed of versions that are gathered is what is printed of the name
pub printed_places : (candidates : List Candidate) (repositories : List Repository) (name : List ℕ) (v : VersionPlaces) → ListsPlacesOfVersion candidates name v → version_lines repositories v ≡ version_policy candidates repositories name v.version
printed_places candidates repositories name v says =
    let those : List Candidate = filter (has_own_name_and_version_text name v.version) candidates in
    append_assoc (policy_version_heading (printed_version v.version)) (if v.is_installed then policy_database_line else []) (distinct_repository_lines repositories 0 v.repositories)
    ∙ ap (λ (b : Bool). policy_version_heading (printed_version v.version) ++ ((if b then policy_database_line else []) ++ distinct_repository_lines repositories 0 v.repositories)) (sym says.installed)
    ∙ ap (λ (lines : List ℕ). policy_version_heading (printed_version v.version) ++ ((if list_any (λ (c : Candidate). c.installed) those then policy_database_line else []) ++ lines)) (lines_of_numbers repositories those v.repositories says.order says.each says.all)

pub printed_versions : (candidates : List Candidate) (repositories : List Repository) (name : List ℕ) (vs : List VersionPlaces) → All (ListsPlacesOfVersion candidates name) vs → flat_map (version_lines repositories) vs ≡ flat_map (version_policy candidates repositories name) (map (λ (v : VersionPlaces). v.version) vs)
printed_versions candidates repositories name [] all = refl
printed_versions candidates repositories name (v ∷ vs) all =
    (λ j. printed_places candidates repositories name v (all 0 v (omega arith)) j ++ printed_versions candidates repositories name vs (λ i d h. all (suc i) d (omega (arith, h))) j)
