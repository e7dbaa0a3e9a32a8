use Rattle.std.proofs.Common.{◌≡◌, ◌∙◌, ℕ, List, subst, sym, ap, arith}
use Rattle.std.specs.Prelude.{Some, slice_get}
use Rattle.std.proofs.lemmas.Bool.Decides.{nat_tests}
use Rattle.search_choices.specs.candidate_core.Options.{IsIn}
use Rattle.search_choices.proofs.search_tables.Places.{there_is}
use Rattle.search_choices.proofs.search_tables.candidate_core.Steps.{get_at}
use Rattle.solve_core.proofs.clauses.has.Goals as goal

pub returns-then-eq : goal.returns-then-eq
returns-then-eq c = λ _.
    let items : List ℕ = c.args.list.now in
    let item : ℕ = c.one-item.result in
    let here : slice_get items c.loop-one.one-index ≡ Some item = get_at items c.loop-one.one-index item (omega arith) ∙ ap Some (sym c.one-item.is) in
    let same : item ≡ c.args.id = grind (arith, nat_tests) in
    subst (λ (z : ℕ). IsIn z items) same (there_is items c.loop-one.one-index item here).1
