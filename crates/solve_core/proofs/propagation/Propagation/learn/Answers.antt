use Rattle.std.proofs.Common.{◌≡◌, ◌∙◌, subst, sym}
use Rattle.search_choices.specs.candidate_core.Rank.{SelectionProblem}
use Rattle.solve_core.specs.Clauses.{IsClause}
use Rattle.solve_core.proofs.propagation.Propagation.learn.Goals as goal
use Rattle.solve_core.proofs.propagation.Propagation.learn.Goals.{then-len-saturating_add, else-len-saturating_add}

pub returns-in_err-push : goal.returns-in_err-push
returns-in_err-push c = elim c.if-len-saturating_add.branch [
  | then-len-saturating_add w ↦ w.known-is ∙ w.truncate.ensures
  | else-len-saturating_add w ↦ w.known-is
]

pub returns-in_err-push-2 : goal.returns-in_err-push-2
returns-in_err-push-2 c = elim c.if-len-saturating_add.branch [
  | then-len-saturating_add w ↦ w.known-is ∙ w.truncate.ensures
  | else-len-saturating_add w ↦ w.known-is
]

pub push-requires-3 : goal.push-requires-3
push-requires-3 c =
    let same : c.if-len-saturating_add.known ≡ c.args.known.now = elim c.if-len-saturating_add.branch [
      | then-len-saturating_add w ↦ w.known-is ∙ w.truncate.ensures
      | else-len-saturating_add w ↦ w.known-is
    ] in
    subst (λ (p : SelectionProblem). IsClause p c.args.clause) (sym same) c.requires

pub returns : goal.returns
returns c =
    let same : c.if-len-saturating_add.known ≡ c.args.known.now = elim c.if-len-saturating_add.branch [
      | then-len-saturating_add w ↦ w.known-is ∙ w.truncate.ensures
      | else-len-saturating_add w ↦ w.known-is
    ] in
    c.push-3.ensures ∙ same
