use Rattle.std.proofs.Common.{rules, ◌≤◌, ◌∙◌, ap, sym, subst, List, ℕ, length}
use Rattle.std.specs.Prelude.{Vec}
use Rattle.std.specs.declared.alloc.Global.{Global}
use Rattle.adb_sound.specs.adb_schema.declared.read.TheConstants.{INTENT_WORD}
use Rattle.adb_sound.specs.adb_write.Canonical.{MOST_BYTES}
use Rattle.adb_sound.specs.adb_write.File.{file_of}
use Rattle.journal_intent.specs.Intent.{Intent, read_intent}
use Rattle.journal_intent.specs.IntentValue.{intent_of_lists, value_of_intent}
use Rattle.journal_intent.proofs.Rooted.{intent_given, large_of, payload_fits, payload_large}
use Rattle.journal_intent.proofs.container.intent_file.Goals as goal

pub file_of-requires : goal.file_of-requires
file_of-requires c =
    let intent : Intent = intent_of_lists c.args.removals.now c.args.writes.now in
    let given = intent_given intent _ _ _ _ _ c.new-draft.ensures c.in_ok-open_list.ensures.ok c.in_ok-write_names.ensures c.in_ok-write_names-2.ensures c.in_ok-close_object.ensures.ok in
    subst (λ (b : List ℕ). length b ≤ MOST_BYTES) (sym c.deref.ensures.value) (c.in_ok-payload.ensures.short (value_of_intent intent) given)

pub returns-clause-fits : goal.returns-clause-fits
returns-clause-fits c =
    let intent : Intent = intent_of_lists c.args.removals.now c.args.writes.now in
    let given = intent_given intent _ _ _ _ _ c.new-draft.ensures c.in_ok-open_list.ensures.ok c.in_ok-write_names.ensures c.in_ok-write_names-2.ensures c.in_ok-close_object.ensures.ok in
    (payload_fits (value_of_intent intent) _ (c.in_ok-payload.ensures.written (value_of_intent intent) given)).0

pub returns-clause-spelled : goal.returns-clause-spelled
returns-clause-spelled c =
    let intent : Intent = intent_of_lists c.args.removals.now c.args.writes.now in
    let given = intent_given intent _ _ _ _ _ c.new-draft.ensures c.in_ok-open_list.ensures.ok c.in_ok-write_names.ensures c.in_ok-write_names-2.ensures c.in_ok-close_object.ensures.ok in
    let payload = payload_fits (value_of_intent intent) _ (c.in_ok-payload.ensures.written (value_of_intent intent) given) in
    ap read_intent (c.in_ok-file.ensures ∙ ap (file_of INTENT_WORD) (c.deref.ensures.value ∙ payload.1))
    ∙ c.an_intent_is_read_back.ensures.read c.args.removals.now c.args.writes.now c.requires payload.0

pub returns-clause-few : goal.returns-clause-few
returns-clause-few c =
    let intent : Intent = intent_of_lists c.args.removals.now c.args.writes.now in
    let given = intent_given intent _ _ _ _ _ c.new-draft.ensures c.in_ok-open_list.ensures.ok c.in_ok-write_names.ensures c.in_ok-write_names-2.ensures c.in_ok-close_object.ensures.ok in
    c.an_intent_is_read_back.ensures.few c.args.removals.now c.args.writes.now (payload_fits (value_of_intent intent) _ (c.in_ok-payload.ensures.written (value_of_intent intent) given)).0

pub returns-in_err-payload-clause-large : goal.returns-in_err-payload-clause-large
returns-in_err-payload-clause-large c = λ bytes values e.
    let intent : Intent = intent_of_lists c.args.removals.now c.args.writes.now in
    let given = intent_given intent _ _ _ _ _ c.new-draft.ensures c.in_ok-open_list.ensures.ok c.in_ok-write_names.ensures c.in_ok-write_names-2.ensures c.in_ok-close_object.ensures.ok in
    payload_large (value_of_intent intent) (bytes, values)
    (large_of (λ (p : Vec ℕ Global). p.items) c.in_err-payload.field-0.0 bytes values _ (c.in_err-payload.ensures.written (value_of_intent intent) given) (search rules))
