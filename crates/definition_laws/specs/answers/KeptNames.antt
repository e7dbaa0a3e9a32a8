-- Which packages are kept though they were to be removed, and which others need them. The rules are in
-- `docs/commands.md`, "`add` and `del`", part "What is reported". Serves the laws of `src/kept.rt`.
use Rattle.std.specs.Prelude.{◌≡◌, ◌⊎◌, ◌↔◌, ◌≤◌, ℕ, true, false, List, [], map, length}
use Rattle.std.specs.List.{filter, find}
use Rattle.std.specs.Option.{option_map_or}
use Rattle.change_outcome.specs.adb_fields.Repeated.{package_name}
use Rattle.adb_view.specs.Plain.{Plain}
use Rattle.base_core.specs.Listed.{AreSortedDistinctTexts}
use Rattle.base_core.specs.Lists.{IsIn}
use Rattle.tell_core.specs.candidate_core.Candidates.{Candidate}
use Rattle.dep_core.specs.Dependency.{Dependency}
use Rattle.dep_core.specs.Meets.{meets}
use Rattle.change_outcome.specs.package_changes.Changes.{is_candidate_named}
use Rattle.change_outcome.specs.package_changes.Report.{names_needing_candidate}
use Rattle.report_core.specs.Reports.{report_lines, still_needed_text}

-- ---- who needs a candidate

-- the candidate `c` provides a name, by an entry that is no conflict, which meets the dependency `d`
pub record IsProvidedBy (d : Dependency) (c : Candidate) : Type 0 where
  -- an entry of the names that the candidate provides
  pub entry : Dependency
  -- the candidate has this entry
  pub listed : IsIn entry c.provides
  -- the entry is no conflict
  pub positive : entry.conflict ≡ false
  -- the entry meets the dependency
  pub met : meets d entry.name entry.version ≡ true

-- the candidate `c` has a dependency, which is no conflict, that the candidate `other` meets by its own name and
-- version, or by a name that it provides
pub record NeedsOther (c other : Candidate) : Type 0 where
  -- a dependency of the candidate
  pub dependency : Dependency
  -- the candidate has this dependency
  pub listed : IsIn dependency c.depends
  -- the dependency is no conflict
  pub positive : dependency.conflict ≡ false
  -- the other candidate meets the dependency, by its own name and version or by a name that it provides
  pub met : (meets dependency other.name other.version ≡ true) ⊎ IsProvidedBy dependency other

-- a selected candidate with this name needs the candidate `needed`, which has another name
pub record IsNeededBySelectedName (selected : List Candidate) (needed : Candidate)
    (name : List ℕ) : Type 0 where
  -- the candidate that needs the other
  pub user : Candidate
  -- this candidate is selected
  pub listed : IsIn user selected
  -- this candidate has this name
  pub named : name ≡ user.name
  -- the name is not that of the needed candidate
  pub another : name ≡ needed.name → ⊥
  -- the selected candidate needs it
  pub needs : NeedsOther user needed

-- ---- the lines

-- no two selected candidates have the same name
abbrev pub IsEachNameSelectedAtMostOnce : List Candidate → Type 0
IsEachNameSelectedAtMostOnce selected =
    (name : List ℕ) → length (filter (is_candidate_named name) selected) ≤ 1

-- the line for a name that was to be removed and stays: the name, and the names of the selected candidates that need
-- its candidate. The line is empty if no candidate of the name is selected
abbrev pub still_needed_text_of_name : List Candidate → List ℕ → List ℕ
still_needed_text_of_name selected name =
    option_map_or (λ (c : Candidate). still_needed_text name (names_needing_candidate selected c))
    (find (is_candidate_named name) selected) []

-- the text has one line for each name that was to be removed, was installed before and is still selected, and no other
-- line, in byte order of the names
pub record HasStillNeededLines (before : List Plain) (selected : List Candidate) (to_remove : List (List ℕ))
    (text : List ℕ) : Type 0 where
  -- the names that were to be removed and are kept
  pub names : List (List ℕ)
  -- these names are in byte order, each once
  pub order : AreSortedDistinctTexts names
  -- a name is in the list exactly if it was to be removed, was installed and is selected
  pub each : (name : List ℕ) → IsIn name names
      ↔ (IsIn name to_remove × IsIn name (map package_name before)
      × IsIn name (map (λ (c : Candidate). c.name) selected))
  -- the text has a line for each of them
  pub text_is : text ≡ report_lines (map (still_needed_text_of_name selected) names)
