use Rattle.std.proofs.Common.{◌∙◌, List, ap, sym, subst, rules}
use Rattle.search_choices.specs.candidate_core.Candidates.{Candidate}
use Rattle.search_choices.specs.candidate_core.PackageMatches.{AreMatchesAmong}
use Rattle.search_choices.specs.candidate_core.Rank.{SelectionProblem}
use Rattle.solve_core.proofs.Steps.{searching_none}
use Rattle.solve_core.proofs.search.Search.new.Goals as goal

pub returns-clause-underway : goal.returns-clause-underway
returns-clause-underway c = record {
  chosen = searching_none c.in_ok-chosen.chosen _ c.in_ok-chosen.ensures.consistent c.in_ok-chosen.ensures.none (search rules);
  matches = subst (λ (cs : List Candidate). AreMatchesAmong cs c.new-matches.result) (c.packages.ensures ∙ sym (ap (λ (p : SelectionProblem). p.candidates) c.in_ok-chosen.ensures.pool)) c.new-matches.ensures;
  known = c.new-5.ensures ∙ sym c.in_ok-chosen.ensures.pool;
}
