use Rattle.std.proofs.Common.{subst, sym, List, ℕ}
use Rattle.search_choices.specs.search_tables.Reasons.{IsRuledOutBy}
use Rattle.search_choices.specs.Choices.{pool_of, choices_of}
use Rattle.solve_core.proofs.search.Search.reason_found_before.Goals as goal

pub returns : goal.returns
returns c = subst (λ (z : List ℕ). IsRuledOutBy (pool_of c.args.self.now.chosen) (choices_of c.args.self.now.chosen) c.args.id z) (sym c.in_ok-others.ensures.items) c.in-Some.ensures
