use Rattle.std.proofs.Common.{◌∙◌, [], sym, ap}
use Rattle.std.specs.Prelude.{option_to_list}
use Rattle.search_needs.specs.candidate_core.Candidates.{entry}
use Rattle.search_needs.specs.candidate_core.Options.{options_for}
use Rattle.search_needs.specs.candidate_core.Rank.{SelectionProblem}
use Rattle.search_choices.specs.Choices.{choices_of, pool_of}
use Rattle.search_needs.specs.search_tables.Queue.{RaisedDepValue}
use Rattle.search_choices.proofs.Consistency.{open_raised}
use Rattle.search_choices.proofs.NextFrames.{all_met, frame_as, no_value}
use Rattle.search_choices.proofs.choices.Choices.next_frame.Goals as goal

pub returns-in_ok-frame-in-Some-clause-frame : goal.returns-in_ok-frame-in-Some-clause-frame
returns-in_ok-frame-in-Some-clause-frame c =
    let r : RaisedDepValue = c.in-Some.raised.now in
    open_raised (pool_of c.args.self.now) (choices_of c.args.self.now) r c.in_ok-frame-in-Some.frame (sym c.in_ok-skip_met.ensures.front ∙ sym c.in-Some.ensures)
    (c.in_ok-frame-in-Some.ensures.value ∙ ap (λ (p : SelectionProblem). ([], options_for p (entry r.0), option_to_list r.1)) c.skip_met.ensures.pool)

pub frame_asked-requires-clause-consistent : goal.frame_asked-requires-clause-consistent
frame_asked-requires-clause-consistent c = c.skip_met.ensures.consistent

pub frame_asked-requires-clause-met : goal.frame_asked-requires-clause-met
frame_asked-requires-clause-met c = all_met _ _ _ _ _ c.skip_met.ensures.pool c.skip_met.ensures.choices c.in-None.ensures c.in_ok-skip_met.ensures.front

pub returns-in_err-skip_met-clause-few : goal.returns-in_err-skip_met-clause-few
returns-in_err-skip_met-clause-few c = no_value _ _ c.from_residual.result c.from_residual.ensures.1

pub returns-in_err-skip_met-clause-frame : goal.returns-in_err-skip_met-clause-frame
returns-in_err-skip_met-clause-frame c = no_value _ _ c.from_residual.result c.from_residual.ensures.1

pub returns-in_err-frame-in-Some-clause-few : goal.returns-in_err-frame-in-Some-clause-few
returns-in_err-frame-in-Some-clause-few c = no_value _ _ c.from_residual-in_err-frame-in-Some.result c.from_residual-in_err-frame-in-Some.ensures.1

pub returns-in_err-frame-in-Some-clause-frame : goal.returns-in_err-frame-in-Some-clause-frame
returns-in_err-frame-in-Some-clause-frame c = no_value _ _ c.from_residual-in_err-frame-in-Some.result c.from_residual-in_err-frame-in-Some.ensures.1

pub returns-in_ok-frame-in-Some-clause-few : goal.returns-in_ok-frame-in-Some-clause-few
returns-in_ok-frame-in-Some-clause-few c = c.in_ok-frame-in-Some.ensures.few

pub returns-in_err-found-in-None-clause-few : goal.returns-in_err-found-in-None-clause-few
returns-in_err-found-in-None-clause-few c = no_value _ _ c.from_residual-in_err-found-in-None.result c.from_residual-in_err-found-in-None.ensures.1

pub returns-in_err-found-in-None-clause-frame : goal.returns-in_err-found-in-None-clause-frame
returns-in_err-found-in-None-clause-frame c = no_value _ _ c.from_residual-in_err-found-in-None.result c.from_residual-in_err-found-in-None.ensures.1

pub returns-in_err-found-in-None-clause-pool : goal.returns-in_err-found-in-None-clause-pool
returns-in_err-found-in-None-clause-pool c = c.frame_asked.ensures.pool ∙ c.skip_met.ensures.pool

pub returns-in_err-found-in-None-clause-choices : goal.returns-in_err-found-in-None-clause-choices
returns-in_err-found-in-None-clause-choices c = c.frame_asked.ensures.choices ∙ c.skip_met.ensures.choices

pub returns-in_ok-found-in-None-clause-pool : goal.returns-in_ok-found-in-None-clause-pool
returns-in_ok-found-in-None-clause-pool c = c.frame_asked.ensures.pool ∙ c.skip_met.ensures.pool

pub returns-in_ok-found-in-None-clause-choices : goal.returns-in_ok-found-in-None-clause-choices
returns-in_ok-found-in-None-clause-choices c = c.frame_asked.ensures.choices ∙ c.skip_met.ensures.choices

pub returns-in_ok-found-in-None-clause-few : goal.returns-in_ok-found-in-None-clause-few
returns-in_ok-found-in-None-clause-few c = c.in_ok-found-in-None.ensures.few

pub returns-in_ok-found-in-None-clause-frame : goal.returns-in_ok-found-in-None-clause-frame
returns-in_ok-found-in-None-clause-frame c = frame_as _ _ _ _ c.in_ok-found-in-None.found c.skip_met.ensures.pool c.skip_met.ensures.choices c.in_ok-found-in-None.ensures.frame

pub returns-in_ok-found-in-None-clause-matches : goal.returns-in_ok-found-in-None-clause-matches
returns-in_ok-found-in-None-clause-matches c = c.in_ok-skip_met.ensures.matches
