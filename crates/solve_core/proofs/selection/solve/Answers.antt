use Rattle.std.proofs.Common.{List, ℕ, subst}
use Rattle.std.specs.Prelude.{IfOk, MatchOption}
use Rattle.search_choices.specs.candidate_core.Rank.{SelectionProblem}
use Rattle.search_choices.specs.search_tables.Selection.{IsFirstPreferredSelection, IsSatisfying}
use Rattle.solve_core.proofs.selection.solve.Goals as goal

pub returns : goal.returns
returns c =
    subst (λ (p : SelectionProblem). IfOk c.first_selection.result (λ found. MatchOption found ((selection : List ℕ) → IsSatisfying p selection → ⊥) (λ trace. IsFirstPreferredSelection p trace))) c.in_ok-search.ensures.pool c.first_selection.ensures
