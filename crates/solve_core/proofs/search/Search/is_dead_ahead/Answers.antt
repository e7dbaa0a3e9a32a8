use Rattle.std.proofs.Common.{◌∙◌, ℕ, List, refl, subst, sym}
use Rattle.search_choices.specs.candidate_core.Options.{IsIn}
use Rattle.search_choices.specs.candidate_core.Rank.{SelectionProblem}
use Rattle.search_choices.specs.Choices.{pool_of}
use Rattle.search_choices.specs.search_tables.Reasons.{IsReason}
use Rattle.solve_core.specs.Clauses.{IsClause}
use Rattle.solve_core.proofs.Resolution.{reason_of_clause}
use Rattle.solve_core.proofs.Steps.{dead_same}
use Rattle.solve_core.proofs.search.Search.is_dead_ahead.Goals as goal

pub returns-in_default-clause-underway : goal.returns-in_default-clause-underway
returns-in_default-clause-underway c = record { chosen = c.requires.chosen; matches = c.requires.matches; known = c.conflict_ahead.ensures.known ∙ c.requires.known }

pub returns-then-not-is_reason_of_choices-clause-underway : goal.returns-then-not-is_reason_of_choices-clause-underway
returns-then-not-is_reason_of_choices-clause-underway c = record { chosen = c.requires.chosen; matches = c.requires.matches; known = c.conflict_ahead.ensures.known ∙ c.requires.known }

pub returns-clause-underway : goal.returns-clause-underway
returns-clause-underway c = record { chosen = c.requires.chosen; matches = c.requires.matches; known = c.conflict_ahead.ensures.known ∙ c.requires.known }

pub returns-clause-dead : goal.returns-clause-dead
returns-clause-dead c = λ _.
    let pool : SelectionProblem = pool_of c.args.self.now.chosen in
    let yes = c.if-not-is_reason_of_choices.false in
    let members : List ℕ = c.members.result.now in
    let same = c.in_ok-replace_members.ensures in
    let here : IsClause pool c.in-Some.clause = subst (λ (p : SelectionProblem). IsClause p c.in-Some.clause) c.requires.known (rw c.in-Some.is at c.in_ok-clause.ensures.conflict) in
    record {
      within = λ k h. c.is_reason_of_choices.ensures.choices yes k (subst (λ (z : List ℕ). IsIn k z) c.members.ensures (same.0 k h));
      dead = dead_same pool members _ same (subst (λ (z : List ℕ). IsReason pool z) (sym c.members.ensures) (reason_of_clause pool c.in-Some.clause here (c.is_reason_of_choices.ensures.reason yes)));
    }

pub returns-then-self-lt-DEAD_ENDS_BEFORE-clause-underway : goal.returns-then-self-lt-DEAD_ENDS_BEFORE-clause-underway
returns-then-self-lt-DEAD_ENDS_BEFORE-clause-underway c = c.requires

pub returns-in_err-clause-clause-chosen : goal.returns-in_err-clause-clause-chosen
returns-in_err-clause-clause-chosen c = refl

pub returns-in_err-clause-clause-turns : goal.returns-in_err-clause-clause-turns
returns-in_err-clause-clause-turns c = refl

pub returns-in_default-clause-chosen : goal.returns-in_default-clause-chosen
returns-in_default-clause-chosen c = refl

pub returns-in_default-clause-turns : goal.returns-in_default-clause-turns
returns-in_default-clause-turns c = refl

pub returns-then-not-is_reason_of_choices-clause-chosen : goal.returns-then-not-is_reason_of_choices-clause-chosen
returns-then-not-is_reason_of_choices-clause-chosen c = refl

pub returns-then-not-is_reason_of_choices-clause-turns : goal.returns-then-not-is_reason_of_choices-clause-turns
returns-then-not-is_reason_of_choices-clause-turns c = refl

pub returns-in_err-replace_members-clause-chosen : goal.returns-in_err-replace_members-clause-chosen
returns-in_err-replace_members-clause-chosen c = refl

pub returns-in_err-replace_members-clause-turns : goal.returns-in_err-replace_members-clause-turns
returns-in_err-replace_members-clause-turns c = refl

pub returns-clause-chosen : goal.returns-clause-chosen
returns-clause-chosen c = refl

pub returns-clause-turns : goal.returns-clause-turns
returns-clause-turns c = refl

pub returns-then-self-lt-DEAD_ENDS_BEFORE-clause-chosen : goal.returns-then-self-lt-DEAD_ENDS_BEFORE-clause-chosen
returns-then-self-lt-DEAD_ENDS_BEFORE-clause-chosen c = refl

pub returns-then-self-lt-DEAD_ENDS_BEFORE-clause-turns : goal.returns-then-self-lt-DEAD_ENDS_BEFORE-clause-turns
returns-then-self-lt-DEAD_ENDS_BEFORE-clause-turns c = refl
