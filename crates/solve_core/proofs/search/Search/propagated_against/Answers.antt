use Rattle.std.proofs.Common.{◌≡◌, ◌∙◌, ℕ, List, subst, sym, ap}
use Rattle.std.specs.Prelude.{not, filter, ◌==◌}
use Rattle.search_choices.specs.candidate_core.Rank.{SelectionProblem}
use Rattle.search_choices.specs.Choices.{choices_of, pool_of}
use Rattle.search_choices.specs.search_tables.Reasons.{IsReason}
use Rattle.solve_core.specs.Clauses.{IsClause}
use Rattle.solve_core.proofs.Resolution.{reason_of_clause}
use Rattle.solve_core.proofs.Steps.{rules_out}
use Rattle.solve_core.proofs.search.Search.propagated_against.Goals as goal

pub returns-then-are_others_choices : goal.returns-then-are_others_choices
returns-then-are_others_choices c =
    let pool : SelectionProblem = pool_of c.args.self.now.chosen in
    let here : IsClause pool c.in-Some.clause = subst (λ (p : SelectionProblem). IsClause p c.in-Some.clause) c.requires.known (rw c.in-Some.is at c.in_ok-clause.ensures) in
    let dead = subst (λ (z : List ℕ). IsReason pool z) (sym c.members.ensures) (reason_of_clause pool c.in-Some.clause here (c.is_reason.ensures c.if-not-is_reason.false)) in
    let same : c.members-then-are_others_choices.result.now ≡ c.members.result.now = c.members-then-are_others_choices.ensures ∙ sym c.members.ensures in
    rules_out pool c.members.result.now c.in_ok-others.others.items (choices_of c.args.self.now.chosen) c.args.id (c.are_others_choices.ensures c.if-are_others_choices.true) dead
    (c.in_ok-others.ensures ∙ ap (filter (λ id. not (id == c.args.id))) same)
