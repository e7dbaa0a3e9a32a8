use Rattle.std.proofs.Common.{◌≡◌, ◌<◌, ◌^◌, ◌∙◌, ◌∷◌, ◌++◌, [], ℕ, List, length, refl, subst, sym, ap, arith}
use Rattle.search_choices.specs.candidate_core.Rank.{SelectionProblem}
use Rattle.search_choices.specs.declared.choices.Choices.{Choices}
use Rattle.search_choices.specs.Choices.{pool_of}
use Rattle.search_choices.specs.search_tables.Reasons.{FrameValue, IsReason}
use Rattle.search_choices.proofs.search_tables.Places.{none_of}
use Rattle.solve_core.specs.Measure.{search_measure}
use Rattle.solve_core.specs.Underway.{CanJoin, IsDeadEnd}
use Rattle.solve_core.proofs.Weights.{opened_lighter, few_turns, few_options}
use Rattle.solve_core.proofs.search.Search.choose_next.Goals as goal

pub loop-top-init : goal.loop-top-init
loop-top-init c = record {
  pool = refl;
  underway = c.requires.underway;
  open_now = c.requires.open_now;
  lighter = omega arith;
}

pub choose-requires-clause-choice : goal.choose-requires-clause-choice
choose-requires-clause-choice c =
    let found = rw c.in-Some.is at c.in_ok-id.ensures.found in
    subst (λ (z : Choices). CanJoin z c.take_option.new.top c.in-Some.id) (sym c.take_option.ensures.chosen) found.0

pub step_back-requires-clause-dead : goal.step_back-requires-clause-dead
step_back-requires-clause-dead c =
    let found = rw c.in-None.is at c.in_ok-id.ensures.found in
    subst (λ (z : Choices). IsDeadEnd z c.take_option.new.self.reason) (sym c.take_option.ensures.chosen) found

pub returns-in-Some-clause-lighter : goal.returns-in-Some-clause-lighter
returns-in-Some-clause-lighter c = λ _ frame small.
    let turns : List (FrameValue × ℕ) = c.loop-top.self.turns.items in
    let found = rw c.in-Some.is at c.in_ok-id.ensures.found in
    let all : c.choose.new.self.turns.items ≡ turns ++ (c.take_option.new.top, c.in-Some.id) ∷ [] =
    c.in_ok-choose-in-Some.ensures.turns ∙ ap (λ (z : List (FrameValue × ℕ)). z ++ (c.take_option.new.top, c.in-Some.id) ∷ []) c.take_option.ensures.turns in
    let few : length turns < 2 ^ 63 = omega (arith, c.loop-top.self.turns.small, c.loop-top.self.turns.ok) in
    let less : search_measure c.choose.new.self.turns.items frame < search_measure turns c.loop-top.top =
    subst (λ (z : List (FrameValue × ℕ)). search_measure z frame < search_measure turns c.loop-top.top) (sym all)
    (opened_lighter turns c.loop-top.top c.take_option.new.top frame c.in-Some.id (few_turns (length turns) few) found.1 (few_options frame small)) in
    omega (arith, less, c.loop-top.invariant.lighter)

pub returns-in_default-clause-dead : goal.returns-in_default-clause-dead
returns-in_default-clause-dead c = λ _.
    let found = none_of c.in_ok-frame-in-None.field-0 _ _ c.in_default.not-Some c.in_ok-frame-in-None.ensures.found in
    subst (λ (p : SelectionProblem). IsReason p []) (ap pool_of c.take_option.ensures.chosen ∙ c.loop-top.invariant.pool) found

pub loop-top-smaller : goal.loop-top-smaller
loop-top-smaller c =
    let back = rw c.in-Some-2.is at (c.in_ok-frame-in-None.ensures.lighter c.loop-top.top) in
    subst (λ (z : List (FrameValue × ℕ)). search_measure c.step_back.new.self.turns.items c.in-Some-2.frame < search_measure z c.loop-top.top) c.take_option.ensures.turns back

pub loop-top-preserved : goal.loop-top-preserved
loop-top-preserved c =
    let found = rw c.in-Some-2.is at c.in_ok-frame-in-None.ensures.found in
    let back = rw c.in-Some-2.is at (c.in_ok-frame-in-None.ensures.lighter c.loop-top.top) in
    let less : search_measure c.step_back.new.self.turns.items c.in-Some-2.frame < search_measure c.loop-top.self.turns.items c.loop-top.top =
    subst (λ (z : List (FrameValue × ℕ)). search_measure c.step_back.new.self.turns.items c.in-Some-2.frame < search_measure z c.loop-top.top) c.take_option.ensures.turns back in
    record {
      pool = c.step_back.ensures.pool ∙ (ap pool_of c.take_option.ensures.chosen ∙ c.loop-top.invariant.pool);
      underway = found.0;
      open_now = found.1;
      lighter = omega (arith, less, c.loop-top.invariant.lighter);
    }

pub take_option-requires-clause-underway : goal.take_option-requires-clause-underway
take_option-requires-clause-underway c = c.loop-top.invariant.underway

pub take_option-requires-clause-open_now : goal.take_option-requires-clause-open_now
take_option-requires-clause-open_now c = c.loop-top.invariant.open_now

pub choose-requires-clause-underway : goal.choose-requires-clause-underway
choose-requires-clause-underway c = c.in_ok-id.ensures.underway

pub step_back-requires-clause-underway : goal.step_back-requires-clause-underway
step_back-requires-clause-underway c = c.in_ok-id.ensures.underway

pub returns-in_err-id-clause-pool : goal.returns-in_err-id-clause-pool
returns-in_err-id-clause-pool c = ap pool_of c.take_option.ensures.chosen ∙ c.loop-top.invariant.pool

pub returns-in_err-choose-in-Some-clause-pool : goal.returns-in_err-choose-in-Some-clause-pool
returns-in_err-choose-in-Some-clause-pool c = c.choose.ensures.pool ∙ (ap pool_of c.take_option.ensures.chosen ∙ c.loop-top.invariant.pool)

pub returns-in-Some-clause-pool : goal.returns-in-Some-clause-pool
returns-in-Some-clause-pool c = c.choose.ensures.pool ∙ (ap pool_of c.take_option.ensures.chosen ∙ c.loop-top.invariant.pool)

pub returns-in-Some-clause-underway : goal.returns-in-Some-clause-underway
returns-in-Some-clause-underway c = λ _. c.in_ok-choose-in-Some.ensures.underway

pub returns-in_err-frame-in-None-clause-pool : goal.returns-in_err-frame-in-None-clause-pool
returns-in_err-frame-in-None-clause-pool c = c.step_back.ensures.pool ∙ (ap pool_of c.take_option.ensures.chosen ∙ c.loop-top.invariant.pool)

pub returns-in_default-clause-pool : goal.returns-in_default-clause-pool
returns-in_default-clause-pool c = c.step_back.ensures.pool ∙ (ap pool_of c.take_option.ensures.chosen ∙ c.loop-top.invariant.pool)
