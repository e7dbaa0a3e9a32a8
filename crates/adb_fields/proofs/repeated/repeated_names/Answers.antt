-- An intent that was walked has few texts.
use Rattle.std.proofs.Common.{ap, ◌∙◌, sym}
use Rattle.adb_view.specs.Adb.{payload_of}
use Rattle.adb_fields.proofs.FewTexts.{intent_fits}
use Rattle.adb_fields.proofs.repeated.repeated_names.Goals as goal

pub in_intent-requires-clause-few : goal.in_intent-requires-clause-few
in_intent-requires-clause-few c =
    let shaped = c.args.shaped.now in
    intent_fits c.values_of_few_visits_have_no_fault.ensures (payload_of c.adb-adb.result) (payload_of shaped.adb) shaped.which c.root-root.result (ap payload_of c.adb-adb.ensures) c.root-root.ensures (sym c.which.ensures ∙ c.in-Intent.is) shaped.sound shaped.few
