use Rattle.std.proofs.Common.{◌≡◌, ◌∙◌, inl, inr, ℕ, List, sym, subst, arith}
use Rattle.dep_core.specs.Dependency.{Dependency}
use Rattle.search_needs.specs.candidate_core.Options.{IsIn}
use Rattle.search_needs.specs.search_tables.NameTable.{items_under_name}
use Rattle.search_choices.proofs.Asking.{offered_names}
use Rattle.search_choices.proofs.choices.Choices.least_rank_asking.Goals as goal

pub returns-clause-unasked : goal.returns-clause-unasked
returns-clause-unasked c = λ name rank offers waits low.
    let table : List (List ℕ × List ℕ) = c.args.self.now.install_ifs.waiting in
    let provided : c.provides.result ≡ c.args.details.now.provides = c.provides.ensures in
    elim (offered_names name c.args.details.now offers) [
      | inl e ↦ c.least_rank_waiting-own.ensures.unasked rank (subst (λ (n : List ℕ). IsIn rank (items_under_name table n)) (e ∙ sym c.name.ensures) waits) (omega (arith, low, c.least_rank_provided.ensures.less))
      | inr p ↦ c.least_rank_provided.ensures.unasked p.0 rank (subst (λ (z : List Dependency). IsIn p.0 z) (sym provided) p.1) (subst (λ (n : List ℕ). IsIn rank (items_under_name table n)) p.2 waits) low
    ]
