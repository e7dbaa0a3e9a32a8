use Rattle.std.proofs.Common.{◌≡◌, ℕ, List, sym, subst}
use Rattle.std.specs.Prelude.{Some, slice_get}
use Rattle.search_needs.specs.candidate_core.Options.{IsIn}
use Rattle.search_needs.proofs.candidate_core.WantedVersions.{if_ok_map}
use Rattle.search_choices.specs.Choices.{choices_of, pool_of}
use Rattle.search_needs.specs.search_tables.Queue.{RaisedDepValue}
use Rattle.search_needs.proofs.search_tables.Places.{there_is}
use Rattle.search_choices.proofs.Consistency.{met_by, past_by, raised_of_choice}
use Rattle.search_choices.proofs.choices.Choices.is_front_met.Goals as goal

pub is_raised_met-requires-clause-raised : goal.is_raised_met-requires-clause-raised
is_raised_met-requires-clause-raised c = λ choice by.
    let r : RaisedDepValue = c.in-Some.raised.now in
    let at : slice_get c.args.self.now.queue.items c.args.self.now.cursor ≡ Some r = sym c.in-Some.ensures in
    let there = subst (λ (z : List RaisedDepValue). IsIn r z) c.requires.consistent.queue (there_is c.args.self.now.queue.items c.args.self.now.cursor r at).1 in
    raised_of_choice (pool_of c.args.self.now) (choices_of c.args.self.now) r choice there by

pub returns-in-Some-clause-met : goal.returns-in-Some-clause-met
returns-in-Some-clause-met c =
    let pool = pool_of c.args.self.now in
    let t : List ℕ = choices_of c.args.self.now in
    let queue : List RaisedDepValue = c.args.self.now.queue.items in
    if_ok_map _ _ (λ met h. met_by pool t queue c.args.self.now.cursor c.in-Some.raised.now met c.requires.consistent.queue c.requires.consistent.met (sym c.in-Some.ensures) h)
    c.is_raised_met.result c.is_raised_met.ensures.met

pub returns-in-None-clause-met : goal.returns-in-None-clause-met
returns-in-None-clause-met c = past_by (pool_of c.args.self.now) (choices_of c.args.self.now) c.args.self.now.queue.items c.args.self.now.cursor c.requires.consistent.queue c.requires.consistent.met (sym c.in-None.ensures)
