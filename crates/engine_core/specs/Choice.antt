-- Which candidates are chosen. The rules are in `docs/selection.md`, "What satisfies world" and "Which
-- selection is taken".
use Rattle.std.specs.Prelude.{◌≡◌, ℕ, List, Option, Some, None, Result, Ok, Err}
use Rattle.change_report.specs.candidate_core.Rank.{SelectionProblem}
use Rattle.report_core.specs.declared.refusal.Refusal.{Refusal}
use Rattle.change_report.specs.search_tables.Selection.{IsFirstPreferredSelection, IsSatisfying}

-- the choice among candidates: the places of the first preferred selection, in the order of the choice; None if no
-- selection satisfies the new world
abbrev pub IsPreferredChoice : SelectionProblem → Option (List ℕ) → Type 0
IsPreferredChoice pool None = (selection : List ℕ) → IsSatisfying pool selection → ⊥
IsPreferredChoice pool (Some trace) = IsFirstPreferredSelection pool trace

-- `chosen` is the choice among these candidates (*IsPreferredChoice*); None if there is a refusal instead of candidates
abbrev pub IsPreferredChoiceOrNoneIfRefused : Result SelectionProblem Refusal → Option (List ℕ) → Type 0
IsPreferredChoiceOrNoneIfRefused (Ok pool) chosen = IsPreferredChoice pool chosen
IsPreferredChoiceOrNoneIfRefused (Err refusal) chosen = chosen ≡ None
