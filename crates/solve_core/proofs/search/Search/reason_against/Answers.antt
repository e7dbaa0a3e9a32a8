use Rattle.std.proofs.Common.{refl, subst, sym, List, ℕ}
use Rattle.search_choices.specs.search_tables.Reasons.{IsRuledOutBy}
use Rattle.search_choices.specs.Choices.{pool_of, choices_of}
use Rattle.solve_core.proofs.Steps.{excluder_rules_out}
use Rattle.solve_core.proofs.search.Search.reason_against.Goals as goal

pub returns-in_default-2-clause-underway : goal.returns-in_default-2-clause-underway
returns-in_default-2-clause-underway c = record { chosen = c.requires.underway.chosen; matches = c.in_ok-excluder.ensures.matches; known = c.requires.underway.known }

pub returns-clause-underway : goal.returns-clause-underway
returns-clause-underway c = record { chosen = c.requires.underway.chosen; matches = c.in_ok-excluder.ensures.matches; known = c.requires.underway.known }

pub returns-clause-found : goal.returns-clause-found
returns-clause-found c =
    subst (λ (z : List ℕ). IsRuledOutBy (pool_of c.args.self.now.chosen) (choices_of c.args.self.now.chosen) c.args.id z) (sym c.in_ok-others-2.ensures.items)
    (excluder_rules_out (pool_of c.args.self.now.chosen) (choices_of c.args.self.now.chosen) c.in-Some-2.excluder c.args.id (rw c.in-Some-2.is at c.in_ok-excluder.ensures.found))

pub reason_found_before-requires : goal.reason_found_before-requires
reason_found_before-requires c = c.requires.underway

pub returns-in-Some-clause-underway : goal.returns-in-Some-clause-underway
returns-in-Some-clause-underway c = c.requires.underway

pub returns-in-Some-clause-found : goal.returns-in-Some-clause-found
returns-in-Some-clause-found c = rw c.in-Some.is at c.in_ok-others.ensures

pub excluder-requires-clause-within : goal.excluder-requires-clause-within
excluder-requires-clause-within c = c.requires.within

pub excluder-requires-clause-once : goal.excluder-requires-clause-once
excluder-requires-clause-once c = c.requires.once

pub excluder-requires-clause-matches : goal.excluder-requires-clause-matches
excluder-requires-clause-matches c = c.requires.underway.matches

pub returns-in_err-others-clause-chosen : goal.returns-in_err-others-clause-chosen
returns-in_err-others-clause-chosen c = refl

pub returns-in_err-others-clause-turns : goal.returns-in_err-others-clause-turns
returns-in_err-others-clause-turns c = refl

pub returns-in-Some-clause-chosen : goal.returns-in-Some-clause-chosen
returns-in-Some-clause-chosen c = refl

pub returns-in-Some-clause-turns : goal.returns-in-Some-clause-turns
returns-in-Some-clause-turns c = refl

pub returns-in_err-excluder-clause-chosen : goal.returns-in_err-excluder-clause-chosen
returns-in_err-excluder-clause-chosen c = refl

pub returns-in_err-excluder-clause-turns : goal.returns-in_err-excluder-clause-turns
returns-in_err-excluder-clause-turns c = refl

pub returns-in_default-2-clause-chosen : goal.returns-in_default-2-clause-chosen
returns-in_default-2-clause-chosen c = refl

pub returns-in_default-2-clause-turns : goal.returns-in_default-2-clause-turns
returns-in_default-2-clause-turns c = refl

pub returns-in_err-others-2-clause-chosen : goal.returns-in_err-others-2-clause-chosen
returns-in_err-others-2-clause-chosen c = refl

pub returns-in_err-others-2-clause-turns : goal.returns-in_err-others-2-clause-turns
returns-in_err-others-2-clause-turns c = refl

pub returns-clause-chosen : goal.returns-clause-chosen
returns-clause-chosen c = refl

pub returns-clause-turns : goal.returns-clause-turns
returns-clause-turns c = refl
