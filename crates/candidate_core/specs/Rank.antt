-- Which of two candidates is preferred for a need. The rule is in `docs/selection.md`, "Which selection
-- is taken", the table of eleven keys. Each definition of an order names its keys.
use Rattle.std.specs.Prelude.{ℕ, Bool, true, false, not, ◌&&◌, List, Option, is_some, slice_get}
use Rattle.std.specs.Option.{option_map_or, option_cmp}
use Rattle.std.specs.List.{list_any}
use Rattle.std.specs.Str.{bytes_eq}
use Rattle.std.specs.Ordering.{nat_cmp, bool_cmp, on, flip_args, then_cmp, is_lt}
use Rattle.std.specs.declared.cmp.Ordering.{Ordering}
use Rattle.version_core.specs.Order.{version_cmp}
use Rattle.dep_core.specs.Dependency.{Dependency}
use Rattle.candidate_core.specs.Candidates.{Candidate, Need, need_name, version_meeting_need, is_eligible, meets_dependency_or_has_package_name}
pub use Rattle.base_core.specs.ByteOrder.{bytes_cmp}

-- the names that a command upgrades: none (`add`, `del`, `fix`), all (`upgrade` without names), or
-- those of a list
pub data UpgradedNames : Type 0 where
  -- no name
  no_names : UpgradedNames
  -- every name
  all_names : UpgradedNames
  -- the names of this list
  listed_names : List (List ℕ) → UpgradedNames

-- what a selection is made from: the candidates, the world that a selection has to satisfy, and the names that the
-- command upgrades
pub record SelectionProblem : Type 0 where
  -- the packages to choose from, in the order of the list of candidates
  pub candidates : List Candidate
  -- the entries of world, which a selection has to satisfy
  pub world : List Dependency
  -- the names that the command upgrades
  pub upgraded : UpgradedNames

-- a sealed pool from its parts
abbrev pub selection_problem_from_parts : List Candidate → List Dependency → UpgradedNames
    → SelectionProblem
selection_problem_from_parts candidates world upgraded =
    record { candidates = candidates; world = world; upgraded = upgraded }

-- whether the command upgrades this name
abbrev pub is_upgraded : UpgradedNames → List ℕ → Bool
is_upgraded no_names name = false
is_upgraded all_names name = true
is_upgraded (listed_names names) name = list_any (bytes_eq name) names

-- ---- the keys

-- whether world pins the name to the tag: an entry, a conflict too, has both
abbrev pub is_name_pinned_to_tag : List Dependency → List ℕ → List ℕ → Bool
is_name_pinned_to_tag world name tag =
    list_any
    (λ (d : Dependency). bytes_eq name d.name && option_map_or (bytes_eq tag) d.tag false) world

-- key 1: whether a candidate has a tag (of its repository), and world pins the candidate's name to this tag
abbrev pub is_pinned : List Dependency → Candidate → Bool
is_pinned world c = option_map_or (is_name_pinned_to_tag world c.name) c.tag false

-- key 2: whether a candidate is from a repository without a tag, or from none
abbrev pub is_untagged : Candidate → Bool
is_untagged c = not (is_some c.tag)

-- key 3: whether a candidate has the very name that is needed
abbrev pub has_needed_name : Need → Candidate → Bool
has_needed_name need c = bytes_eq (need_name need) c.name

-- key 4: whether a candidate is installed, and the command does not upgrade its name
abbrev pub is_kept_installed : UpgradedNames → Candidate → Bool
is_kept_installed upgraded c = c.installed && not (is_upgraded upgraded c.name)

-- ---- the order

-- an order of candidates: those that pass the test `quality` precede those that do not
abbrev pub quality_first : (Candidate → Bool) → Candidate → Candidate → Ordering
quality_first quality = on quality (flip_args bool_cmp)

-- the greater of two versions is first; an absent version is last
abbrev pub greater_version_first_cmp : Option (List ℕ) → Option (List ℕ) → Ordering
greater_version_first_cmp = flip_args (option_cmp version_cmp)

-- the repository with the smaller number is first; an absent repository is last
abbrev pub earlier_repository_first_cmp : Option ℕ → Option ℕ → Ordering
earlier_repository_first_cmp = flip_args (option_cmp (flip_args nat_cmp))

-- Keys 2 to 4. A candidate of a repository without tag is first; then one with the needed name; and then
-- one that is installed and kept.
abbrev pub untagged_then_named_then_kept_cmp : UpgradedNames → Need → Candidate → Candidate → Ordering
untagged_then_named_then_kept_cmp upgraded need =
    then_cmp (quality_first is_untagged)
    (then_cmp (quality_first (has_needed_name need))
    (quality_first (is_kept_installed upgraded)))

-- Keys 5 to 8. The candidate that meets the need under the greater version is first; at equal versions
-- the one with the greater provider-priority, then the one whose name is less in byte order, and then the
-- one whose own version is greater.
abbrev pub met_version_priority_name_own_version_cmp : Need → Candidate → Candidate → Ordering
met_version_priority_name_own_version_cmp need =
    then_cmp (on (version_meeting_need need) greater_version_first_cmp)
    (then_cmp (on (λ (c : Candidate). c.priority) (flip_args nat_cmp))
    (then_cmp (on (λ (c : Candidate). c.name) bytes_cmp)
    (on (λ (c : Candidate). c.version) greater_version_first_cmp)))

-- Keys 9 and 10. The candidate whose version text is less in byte order is first; then the one of the
-- earlier repository.
abbrev pub version_text_and_repository_cmp : Candidate → Candidate → Ordering
version_text_and_repository_cmp =
    then_cmp (on (λ (c : Candidate). c.version) (option_cmp bytes_cmp))
    (on (λ (c : Candidate). c.repository) earlier_repository_first_cmp)

-- the order of two candidates by keys 2 to 10, if world pins both of them, or neither of them
abbrev pub candidate_cmp_after_pinning : UpgradedNames → Need → Candidate → Candidate → Ordering
candidate_cmp_after_pinning upgraded need =
    then_cmp (untagged_then_named_then_kept_cmp upgraded need)
    (then_cmp (met_version_priority_name_own_version_cmp need) version_text_and_repository_cmp)

-- the order of two candidates by keys 1 to 10, all but the place: candidates that world pins are first
abbrev pub candidate_cmp : SelectionProblem → Need → Candidate → Candidate → Ordering
candidate_cmp pool need =
    then_cmp (quality_first (is_pinned pool.world)) (candidate_cmp_after_pinning pool.upgraded need)

-- ---- places in the list

-- the candidate at a place, counted from 0
abbrev pub candidate_at : SelectionProblem → ℕ → Option Candidate
candidate_at pool place = slice_get pool.candidates place

-- whether there is a candidate at the place, and the candidate passes the test
abbrev pub candidate_at_passes : SelectionProblem → (Candidate → Bool) → ℕ → Bool
candidate_at_passes pool test place = option_map_or test (candidate_at pool place) false

-- whether the candidate at a place may be selected
abbrev pub is_eligible_at : SelectionProblem → ℕ → Bool
is_eligible_at pool place = candidate_at_passes pool (is_eligible pool.world) place

-- whether world pins the name of the candidate at a place to its tag
abbrev pub is_pinned_at : SelectionProblem → ℕ → Bool
is_pinned_at pool place = candidate_at_passes pool (is_pinned pool.world) place

-- whether the candidate at a place meets a need
abbrev pub meets_at : SelectionProblem → ℕ → Need → Bool
meets_at pool place need = candidate_at_passes pool (meets_dependency_or_has_package_name need) place

-- the order of two places for a need, by all eleven keys; key 11 is the place itself, and the earlier place is first
unfoldable pub rank_cmp : SelectionProblem → Need → ℕ → ℕ → Ordering
rank_cmp pool need =
    then_cmp (on (candidate_at pool) (option_cmp (candidate_cmp pool need))) nat_cmp

-- whether the candidate at the first place `a` precedes that at the second place `b`, in rank for a need
abbrev pub is_better : SelectionProblem → Need → ℕ → ℕ → Bool
is_better pool need a b = is_lt (rank_cmp pool need a b)
