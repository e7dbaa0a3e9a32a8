use Rattle.std.proofs.Common.{◌∙◌, [], ℕ, List, subst, sym}
use Rattle.search_choices.specs.candidate_core.Rank.{SelectionProblem}
use Rattle.search_choices.specs.search_tables.Selection.{IsFirstPreferredSelection}
use Rattle.search_choices.specs.Choices.{pool_of}
use Rattle.search_choices.specs.search_tables.Reasons.{IsReason}
use Rattle.search_choices.proofs.search_tables.Places.{none_of}
use Rattle.solve_core.proofs.FirstFound.{first_found, none_satisfies}
use Rattle.solve_core.proofs.Weights.{next_lighter}
use Rattle.solve_core.proofs.selection.first_selection.Goals as goal

pub loop-next-init : goal.loop-next-init
loop-next-init c = record {
  pool = c.next_frame.ensures.pool;
  underway = c.in_ok-next.ensures.underway;
  frame = c.in_ok-next.ensures.frame;
}

pub choose_next-requires-clause-open_now : goal.choose_next-requires-clause-open_now
choose_next-requires-clause-open_now c = rw c.in-Some.is at c.loop-next.invariant.frame

pub returns-then-not-branch : goal.returns-then-not-branch
returns-then-not-branch c =
    none_satisfies (pool_of c.args.search.now.chosen) (subst (λ (p : SelectionProblem). IsReason p []) c.loop-next.invariant.pool (c.in_ok-choose_next.ensures.dead c.if-not-branch.true))

pub loop-next-smaller : goal.loop-next-smaller
loop-next-smaller c =
    next_lighter c.loop-next.search.turns.items c.next_frame-in-Some.new.self.turns.items c.in-Some.top c.loop-next.next c.in_ok-next-2.next c.in-Some.is c.in_ok-next-2.ensures.few
    (λ frame few. rw c.next_frame-in-Some.ensures.turns (c.in_ok-choose_next.ensures.lighter c.if-not-branch.false frame few))

pub loop-next-preserved : goal.loop-next-preserved
loop-next-preserved c = record {
  pool = c.next_frame-in-Some.ensures.pool ∙ (c.choose_next.ensures.pool ∙ c.loop-next.invariant.pool);
  underway = c.in_ok-next-2.ensures.underway;
  frame = c.in_ok-next-2.ensures.frame;
}

pub returns : goal.returns
returns c =
    let pool = pool_of c.args.search.now.chosen in
    let end = none_of c.loop-next.next _ _ c.in_default.not-Some c.loop-next.invariant.frame in
    subst (λ (z : List ℕ). IsFirstPreferredSelection pool z) (sym c.in_ok-trace.ensures)
    (first_found pool (λ need. c.options_are_as_promised.ensures pool need) c.loop-next.search.chosen c.loop-next.search.turns.items c.loop-next.invariant.underway.chosen c.loop-next.invariant.pool end)

pub next_frame-requires : goal.next_frame-requires
next_frame-requires c = c.requires

pub choose_next-requires-clause-underway : goal.choose_next-requires-clause-underway
choose_next-requires-clause-underway c = c.loop-next.invariant.underway

pub next_frame-requires-in-Some : goal.next_frame-requires-in-Some
next_frame-requires-in-Some c = c.in_ok-choose_next.ensures.underway c.if-not-branch.false
