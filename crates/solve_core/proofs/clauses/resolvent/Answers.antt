use Rattle.std.proofs.Common.{ℕ, List, subst, sym}
use Rattle.search_choices.specs.candidate_core.Options.{IsIn}
use Rattle.solve_core.proofs.Resolution.{resolves}
use Rattle.solve_core.proofs.clauses.resolvent.Goals as goal

pub returns : goal.returns
returns c = λ pool one two.
    resolves pool c.args.first.now c.args.second.now c.args.id c.add_others.new.list.items c.add_others-2.new.list.items
    (λ o h. c.in_ok-add_others.ensures.old o (subst (λ (z : List ℕ). IsIn o z) (sym c.in_ok-members.ensures.items) (subst (λ (z : List ℕ). IsIn o z) (sym c.members.ensures) h)))
    (λ o h. c.in_ok-add_others.ensures.new o (subst (λ (z : List ℕ). IsIn o z) (sym c.members-2.ensures) h))
    (λ o h. c.in_ok-add_others-2.ensures.old o (subst (λ (z : List ℕ). IsIn o z) (sym c.in_ok-options.ensures.items) (subst (λ (z : List ℕ). IsIn o z) (sym c.options.ensures) h)))
    (λ o h. c.in_ok-add_others-2.ensures.new o (subst (λ (z : List ℕ). IsIn o z) (sym c.options-2.ensures) h))
    one two
