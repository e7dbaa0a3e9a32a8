use Rattle.std.proofs.Common.{◌∙◌}
use Rattle.search_tables.specs.candidate_core.Values.{need_of_ref}
use Rattle.search_needs.proofs.RaiserLists.{is_met_by}
use Rattle.search_needs.proofs.needs.is_met.Goals as goal

pub returns : goal.returns
returns c = c.is_some.ensures ∙ is_met_by c.args.pool.now c.args.choices.now (need_of_ref c.args.need.now) c.choice_meeting.result c.choice_meeting.ensures
