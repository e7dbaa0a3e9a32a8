use Rattle.std.proofs.Common.{ap, ◌∙◌}
use Rattle.adb_view.specs.Plain.{Plain}
use Rattle.adb_copy.specs.adb_values.Drafts.{DraftState, draft_with}
use Rattle.db_core.specs.Seen.{members_of}
use Rattle.db_core.specs.NewDatabase.{database_value}
use Rattle.db_core.proofs.database.database_payload.Goals as goal

pub returns-clause-written : goal.returns-clause-written
returns-clause-written c =
    let v : Plain = database_value (members_of c.args.members.now) c.args.flags.now in
    c.finish.ensures.written v (c.in_ok-write_database.ensures ∙ ap (λ (d : DraftState). draft_with v d) c.in_ok-draft.ensures.empty)

pub returns-clause-small : goal.returns-clause-small
returns-clause-small c =
    let v : Plain = database_value (members_of c.args.members.now) c.args.flags.now in
    c.finish.ensures.short v (c.in_ok-write_database.ensures ∙ ap (λ (d : DraftState). draft_with v d) c.in_ok-draft.ensures.empty)
