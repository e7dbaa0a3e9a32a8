use Rattle.std.proofs.Common.{◌∙◌, subst, sym}
use Rattle.search_choices.specs.candidate_core.PackageMatches.{AreMatchesAmong}
use Rattle.search_choices.specs.candidate_core.Rank.{SelectionProblem}
use Rattle.solve_core.proofs.Steps.{searching_same}
use Rattle.solve_core.proofs.search.Search.next_frame.Goals as goal

pub returns-clause-underway : goal.returns-clause-underway
returns-clause-underway c = record {
  chosen = searching_same c.args.self.now.chosen c.next_frame.new.self c.args.self.now.turns.items c.requires.chosen c.next_frame.ensures.consistent c.next_frame.ensures.pool c.next_frame.ensures.choices;
  matches = subst (λ (p : SelectionProblem). AreMatchesAmong p.candidates c.next_frame.new.matches) (sym c.next_frame.ensures.pool) c.in_ok-found.ensures.matches;
  known = c.requires.known ∙ sym c.next_frame.ensures.pool;
}
