use Rattle.std.proofs.Common.{◌∙◌}
use Rattle.journal_commit.proofs.Counted.{err_not_ok, later_counts}
use Rattle.journal_commit.proofs.Leads.{enact_done, enact_proper, enact_run, publish_run}
use Rattle.journal_commit.proofs.Stays.{closed_proper}
use Rattle.journal_commit.proofs.commit.carry_through.Goals as goal

pub returns-in_err-publish-clause-run : goal.returns-in_err-publish-clause-run
returns-in_err-publish-clause-run g c contents v first s =
    publish_run c.args.stage.now contents v first _ s c.requires.all c.names_are_free.ensures.free _ c.publish.ensures.publishing.moments c.publish.ensures.publishing.reads c.publish.ensures.publishing.names.others c.publish.ensures.publishing.names.maps

pub returns-clause-run : goal.returns-clause-run
returns-clause-run g c contents v first s =
    enact_run c.args.stage.now contents v first _ s c.requires.all c.names_are_free.ensures.free _ _ c.in_ok-publish.ensures.publishing.published c.in_ok-publish.ensures.publishing.settled c.in_ok-publish.ensures.acting _
    c.publish.ensures.publishing.reads c.publish.ensures.publishing.names.others c.publish.ensures.publishing.names.maps c.enact.ensures.actions.moments c.enact.ensures.actions.reads c.enact.ensures.actions.bytes c.enact.ensures.last

pub returns-clause-done : goal.returns-clause-done
returns-clause-done g c contents v first s =
    enact_done c.args.stage.now contents v first _ s c.requires.all c.names_are_free.ensures.free _ _ c.in_ok-publish.ensures.publishing.published c.in_ok-publish.ensures.publishing.settled c.in_ok-publish.ensures.acting _
    c.enact.result c.enact.ensures.last c.enact.ensures.files c.enact.ensures.settled c.enact.ensures.gone

pub returns-in_err-publish-clause-done : goal.returns-in_err-publish-clause-done
returns-in_err-publish-clause-done g c contents v first s = err_not_ok c.from_residual.result _ c.from_residual.ensures.0

pub returns-in_err-publish-clause-proper : goal.returns-in_err-publish-clause-proper
returns-in_err-publish-clause-proper g c contents v first s room more =
    closed_proper c.args.stage.now contents v _ (g.T.Tree.history c.args.tree.now) first _ _ s room c.publish.ensures.proper

pub returns-clause-cause : goal.returns-clause-cause
returns-clause-cause g c = (later_counts _ _ _ c.enact.result c.in_ok-publish.ensures.counts.goes_on c.in_ok-publish.ensures.counts.kept c.enact.ensures.counts).cause

pub returns-clause-kept : goal.returns-clause-kept
returns-clause-kept g c = (later_counts _ _ _ c.enact.result c.in_ok-publish.ensures.counts.goes_on c.in_ok-publish.ensures.counts.kept c.enact.ensures.counts).kept

pub returns-clause-proper : goal.returns-clause-proper
returns-clause-proper g c contents v first s room more =
    enact_proper c.args.stage.now contents v first _ s c.requires.all c.names_are_free.ensures.free _ _ c.in_ok-publish.ensures.publishing.published c.in_ok-publish.ensures.publishing.settled c.in_ok-publish.ensures.acting (g.T.Tree.history c.args.tree.now) _ _ c.enact.ensures.proper more
    ∙ closed_proper c.args.stage.now contents v _ (g.T.Tree.history c.args.tree.now) first _ _ s room c.publish.ensures.proper
