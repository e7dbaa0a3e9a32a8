use Rattle.std.proofs.Common.{◌∙◌, length, subst, sym, ap, arith}
use Rattle.search_choices.specs.Choices.{choices_of, pool_of}
use Rattle.search_choices.specs.declared.choices.Choices.{Choices}
use Rattle.search_choices.specs.search_tables.Reasons.{FrameValue, IsFrameOf, IsExhaustedFrame}
use Rattle.solve_core.specs.Underway.{CanJoin}
use Rattle.solve_core.proofs.Steps.{taken_of_open, spent_of_open, fits_in}
use Rattle.search_choices.proofs.search_tables.Turns.{passed_over}
use Rattle.search_choices.proofs.Consistency.{taken_once, taken_within}
use Rattle.solve_core.proofs.search.Search.next_option.Goals as goal

pub returns-in-None-clause-found : goal.returns-in-None-clause-found
returns-in-None-clause-found c =
    let pool = pool_of c.loop-id.self.chosen in
    let chosen = choices_of c.loop-id.self.chosen in
    let taken = taken_of_open pool chosen c.loop-id.top c.take_next.new.self c.in-Some.id c.loop-id.invariant.open_now c.in-Some.ensures.ruled_out c.in-Some.ensures.left c.in-Some.ensures.by in
    let join : CanJoin c.loop-id.self.chosen c.take_next.new.self c.in-Some.id = record {
      taken = taken;
      clean = fits_in pool (λ need. c.options_are_as_promised.ensures pool need) chosen c.take_next.new.self c.in-Some.id taken c.loop-id.invariant.underway.chosen.clean (rw c.in-None.is at c.in_ok-reason_against.ensures.found);
    } in
    let len = ap length c.in-Some.ensures.left in
    (subst (λ (z : Choices). CanJoin z c.take_next.new.self c.in-Some.id) c.loop-id.invariant.chosen join, omega (arith, len, c.loop-id.invariant.fewer))

pub loop-id-preserved : goal.loop-id-preserved
loop-id-preserved c =
    let pool = pool_of c.loop-id.self.chosen in
    let chosen = choices_of c.loop-id.self.chosen in
    let taken = taken_of_open pool chosen c.loop-id.top c.take_next.new.self c.in-Some.id c.loop-id.invariant.open_now c.in-Some.ensures.ruled_out c.in-Some.ensures.left c.in-Some.ensures.by in
    let len = ap length c.in-Some.ensures.left in
    record {
      underway = record {
        chosen = c.in_ok-reason_against.ensures.underway.chosen;
        matches = c.in_ok-reason_against.ensures.underway.matches;
        known = c.in_ok-reason_against.ensures.underway.known;
      };
      chosen = c.reason_against.ensures.chosen ∙ c.loop-id.invariant.chosen;
      turns = c.reason_against.ensures.turns ∙ c.loop-id.invariant.turns;
      open_now = subst (λ (z : Choices). IsFrameOf (pool_of z) (choices_of z) c.rule_out.new.frame) (sym c.reason_against.ensures.chosen)
          (subst (λ (z : FrameValue). IsFrameOf pool chosen z) (sym c.in_ok-rule_out-in-Some-2.ensures) (passed_over pool chosen c.take_next.new.self c.in-Some.id c.in-Some-2.others.items taken (rw c.in-Some-2.is at c.in_ok-reason_against.ensures.found)));
      fewer = omega (arith, len, ap (λ (z : FrameValue). length z.1) c.in_ok-rule_out-in-Some-2.ensures, c.loop-id.invariant.fewer);
    }

pub returns-clause-found : goal.returns-clause-found
returns-clause-found c =
    let none = c.in_default.ensures in
    subst (λ (z : Choices). IsExhaustedFrame (pool_of z) (choices_of z) c.take_next.new.self) c.loop-id.invariant.chosen
    (spent_of_open (pool_of c.loop-id.self.chosen) (choices_of c.loop-id.self.chosen) c.loop-id.top c.take_next.new.self c.loop-id.invariant.open_now none.ruled_out none.left.0 none.left.1 none.by)

pub reason_against-requires-clause-within : goal.reason_against-requires-clause-within
reason_against-requires-clause-within c =
    let pool = pool_of c.loop-id.self.chosen in
    let chosen = choices_of c.loop-id.self.chosen in
    taken_within pool (λ need. c.options_are_as_promised.ensures pool need) chosen c.take_next.new.self c.in-Some.id
    (taken_of_open pool chosen c.loop-id.top c.take_next.new.self c.in-Some.id c.loop-id.invariant.open_now c.in-Some.ensures.ruled_out c.in-Some.ensures.left c.in-Some.ensures.by)

pub reason_against-requires-clause-once : goal.reason_against-requires-clause-once
reason_against-requires-clause-once c =
    let pool = pool_of c.loop-id.self.chosen in
    let chosen = choices_of c.loop-id.self.chosen in
    taken_once pool (λ need. c.options_are_as_promised.ensures pool need) chosen c.take_next.new.self c.in-Some.id
    (taken_of_open pool chosen c.loop-id.top c.take_next.new.self c.in-Some.id c.loop-id.invariant.open_now c.in-Some.ensures.ruled_out c.in-Some.ensures.left c.in-Some.ensures.by)

pub returns-in-None-clause-chosen : goal.returns-in-None-clause-chosen
returns-in-None-clause-chosen c = c.reason_against.ensures.chosen ∙ c.loop-id.invariant.chosen

pub returns-in-None-clause-turns : goal.returns-in-None-clause-turns
returns-in-None-clause-turns c = c.reason_against.ensures.turns ∙ c.loop-id.invariant.turns

pub reason_against-requires-clause-underway : goal.reason_against-requires-clause-underway
reason_against-requires-clause-underway c = c.loop-id.invariant.underway

pub returns-in_err-reason_against-clause-chosen : goal.returns-in_err-reason_against-clause-chosen
returns-in_err-reason_against-clause-chosen c = c.reason_against.ensures.chosen ∙ c.loop-id.invariant.chosen

pub returns-in_err-reason_against-clause-turns : goal.returns-in_err-reason_against-clause-turns
returns-in_err-reason_against-clause-turns c = c.reason_against.ensures.turns ∙ c.loop-id.invariant.turns

pub returns-in_err-rule_out-in-Some-2-clause-chosen : goal.returns-in_err-rule_out-in-Some-2-clause-chosen
returns-in_err-rule_out-in-Some-2-clause-chosen c = c.reason_against.ensures.chosen ∙ c.loop-id.invariant.chosen

pub returns-in_err-rule_out-in-Some-2-clause-turns : goal.returns-in_err-rule_out-in-Some-2-clause-turns
returns-in_err-rule_out-in-Some-2-clause-turns c = c.reason_against.ensures.turns ∙ c.loop-id.invariant.turns

pub returns-in-None-clause-underway : goal.returns-in-None-clause-underway
returns-in-None-clause-underway c = c.in_ok-reason_against.ensures.underway

pub returns-clause-underway : goal.returns-clause-underway
returns-clause-underway c = c.loop-id.invariant.underway

pub returns-clause-chosen : goal.returns-clause-chosen
returns-clause-chosen c = c.loop-id.invariant.chosen

pub returns-clause-turns : goal.returns-clause-turns
returns-clause-turns c = c.loop-id.invariant.turns
