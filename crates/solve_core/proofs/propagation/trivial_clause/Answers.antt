use Rattle.std.proofs.Common.{◌≡◌, ◌∙◌, ◌∷◌, [], ℕ, List, ap, subst, sym}
use Rattle.solve_core.specs.Clauses.{ClauseValue, IsClause}
use Rattle.solve_core.proofs.Resolution.{says_nothing}
use Rattle.solve_core.proofs.propagation.trivial_clause.Goals as goal

pub returns : goal.returns
returns c = λ pool.
    let id : ℕ = c.args.id in
    let members : c.in_ok-members.members.items ≡ id ∷ [] = c.in_ok-members.ensures.items in
    let options : c.in_ok-options.options.items ≡ id ∷ [] = c.in_ok-options.ensures.items in
    let both : c.new.result ≡ (id ∷ [], id ∷ []) =
    c.new.ensures ∙ ap (λ (z : List ℕ). (z, c.in_ok-options.options.items)) members ∙ ap (λ (z : List ℕ). (id ∷ [], z)) options in
    subst (λ (z : ClauseValue). IsClause pool z) (sym both) (says_nothing pool id)
