use Rattle.std.proofs.Common.{◌∙◌, subst, sym}
use Rattle.search_choices.specs.declared.choices.Choices.{Choices}
use Rattle.search_choices.specs.Choices.{choices_of, pool_of}
use Rattle.search_choices.specs.search_tables.Reasons.{IsFrameOf, IsExhaustedFrame}
use Rattle.search_choices.proofs.search_tables.Places.{none_of}
use Rattle.solve_core.specs.Underway.{CanJoin, IsDeadEnd}
use Rattle.solve_core.proofs.search.Search.take_option.Goals as goal

pub next_option-requires-clause-open_now : goal.next_option-requires-clause-open_now
next_option-requires-clause-open_now c =
    subst (λ (z : Choices). IsFrameOf (pool_of z) (choices_of z) c.args.top.now) (sym c.is_dead_ahead.ensures.chosen) c.requires.open_now

pub returns-in-Some-clause-found : goal.returns-in-Some-clause-found
returns-in-Some-clause-found c =
    let found = rw c.in-Some.is at c.in_ok-id.ensures.found in
    (subst (λ (z : Choices). CanJoin z c.next_option.new.top c.in-Some.id) c.is_dead_ahead.ensures.chosen found.0, found.1)

pub learn_dead_end-requires-clause-spent : goal.learn_dead_end-requires-clause-spent
learn_dead_end-requires-clause-spent c =
    let found = none_of c.in_ok-id.field-0 _ _ c.in_default.not-Some c.in_ok-id.ensures.found in
    subst (λ (z : Choices). IsExhaustedFrame (pool_of z) (choices_of z) c.next_option.new.top) (sym c.next_option.ensures.chosen) found

pub returns-clause-found : goal.returns-clause-found
returns-clause-found c =
    subst (λ (z : Choices). IsDeadEnd z c.learn_dead_end.new.self.reason) (c.next_option.ensures.chosen ∙ c.is_dead_ahead.ensures.chosen) c.in_ok-learn_dead_end.ensures.dead

pub is_dead_ahead-requires : goal.is_dead_ahead-requires
is_dead_ahead-requires c = c.requires.underway

pub returns-in_err-is_dead_ahead-clause-chosen : goal.returns-in_err-is_dead_ahead-clause-chosen
returns-in_err-is_dead_ahead-clause-chosen c = c.is_dead_ahead.ensures.chosen

pub returns-in_err-is_dead_ahead-clause-turns : goal.returns-in_err-is_dead_ahead-clause-turns
returns-in_err-is_dead_ahead-clause-turns c = c.is_dead_ahead.ensures.turns

pub returns-then-branch-clause-chosen : goal.returns-then-branch-clause-chosen
returns-then-branch-clause-chosen c = c.is_dead_ahead.ensures.chosen

pub returns-then-branch-clause-turns : goal.returns-then-branch-clause-turns
returns-then-branch-clause-turns c = c.is_dead_ahead.ensures.turns

pub returns-in_err-id-clause-chosen : goal.returns-in_err-id-clause-chosen
returns-in_err-id-clause-chosen c = c.next_option.ensures.chosen ∙ c.is_dead_ahead.ensures.chosen

pub returns-in_err-id-clause-turns : goal.returns-in_err-id-clause-turns
returns-in_err-id-clause-turns c = c.next_option.ensures.turns ∙ c.is_dead_ahead.ensures.turns

pub returns-in-Some-clause-chosen : goal.returns-in-Some-clause-chosen
returns-in-Some-clause-chosen c = c.next_option.ensures.chosen ∙ c.is_dead_ahead.ensures.chosen

pub returns-in-Some-clause-turns : goal.returns-in-Some-clause-turns
returns-in-Some-clause-turns c = c.next_option.ensures.turns ∙ c.is_dead_ahead.ensures.turns

pub returns-in_err-learn_dead_end-clause-chosen : goal.returns-in_err-learn_dead_end-clause-chosen
returns-in_err-learn_dead_end-clause-chosen c = c.learn_dead_end.ensures.chosen ∙ (c.next_option.ensures.chosen ∙ c.is_dead_ahead.ensures.chosen)

pub returns-in_err-learn_dead_end-clause-turns : goal.returns-in_err-learn_dead_end-clause-turns
returns-in_err-learn_dead_end-clause-turns c = c.learn_dead_end.ensures.turns ∙ (c.next_option.ensures.turns ∙ c.is_dead_ahead.ensures.turns)

pub returns-clause-chosen : goal.returns-clause-chosen
returns-clause-chosen c = c.learn_dead_end.ensures.chosen ∙ (c.next_option.ensures.chosen ∙ c.is_dead_ahead.ensures.chosen)

pub returns-clause-turns : goal.returns-clause-turns
returns-clause-turns c = c.learn_dead_end.ensures.turns ∙ (c.next_option.ensures.turns ∙ c.is_dead_ahead.ensures.turns)

pub returns-then-branch-clause-underway : goal.returns-then-branch-clause-underway
returns-then-branch-clause-underway c = c.in_ok-is_dead_ahead.ensures.underway

pub returns-then-branch-clause-found : goal.returns-then-branch-clause-found
returns-then-branch-clause-found c = c.in_ok-is_dead_ahead.ensures.dead c.if-branch.true

pub next_option-requires-clause-underway : goal.next_option-requires-clause-underway
next_option-requires-clause-underway c = c.in_ok-is_dead_ahead.ensures.underway

pub returns-in-Some-clause-underway : goal.returns-in-Some-clause-underway
returns-in-Some-clause-underway c = c.in_ok-id.ensures.underway

pub learn_dead_end-requires-clause-underway : goal.learn_dead_end-requires-clause-underway
learn_dead_end-requires-clause-underway c = c.in_ok-id.ensures.underway

pub returns-clause-underway : goal.returns-clause-underway
returns-clause-underway c = c.in_ok-learn_dead_end.ensures.underway
