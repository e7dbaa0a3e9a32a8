use Rattle.std.proofs.Common.{◌∷◌, [], ℕ, List, inl, inr, refl, subst, sym}
use Rattle.search_choices.specs.candidate_core.Options.{IsIn}
use Rattle.search_choices.proofs.search_tables.Theory.{in_left, in_right}
use Rattle.solve_core.proofs.clauses.add_unless.Goals as goal

pub returns-clause-old : goal.returns-clause-old
returns-clause-old c = λ o h.
    subst (λ (z : List ℕ). IsIn o z) (sym c.in_ok-push.ensures.items) (in_left o c.args.list.now.items (c.args.id ∷ []) h)

pub returns-clause-new : goal.returns-clause-new
returns-clause-new c =
    inr (subst (λ (z : List ℕ). IsIn c.args.id z) (sym c.in_ok-push.ensures.items) (in_right c.args.id c.args.list.now.items (c.args.id ∷ []) (inl refl)))
