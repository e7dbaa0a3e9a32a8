use Rattle.std.proofs.Common.{◌∙◌, Some, ap, subst, sym}
use Rattle.std.specs.List.{list_all}
use Rattle.pkg_core.specs.adb_fields.Repeated.{entries_of_field_at_index}
use Rattle.pkg_core.specs.adb_schema.Soundness.{root_value_of_payload}
use Rattle.adb_view.specs.Values.{entries_in, entry_at_index}
use Rattle.adb_view.specs.declared.tables.Which.TheVariants.{Idb}
use Rattle.db_core.specs.Packages.{lists_only_valid_names, lists_no_reserved_path}
use Rattle.db_core.specs.SoundMembers.{IsSoundDatabaseIfAny}
use Rattle.db_core.proofs.ListedNames.{packages_list_names, packages_list_no_reserved}
use Rattle.pkg_core.proofs.adb_schema.SoundPayload.{payload_rules}
use Rattle.db_core.proofs.db.Db.open.Goals as goal

pub invariant_of-result-clause-named : goal.invariant_of-result-clause-named
invariant_of-result-clause-named c =
    let p = c.args.payload.now in
    ap (λ v. list_all lists_only_valid_names (entries_of_field_at_index 0 v)) c.open_idb-idb.ensures
    ∙ packages_list_names Idb (entries_in (entry_at_index (root_value_of_payload Idb p) 0)) (payload_rules c.no_text_is_bad_where_each_keeps_its_rule.ensures Idb p c.requires)

pub invariant_of-result-clause-free : goal.invariant_of-result-clause-free
invariant_of-result-clause-free c =
    let p = c.args.payload.now in
    ap (λ v. list_all lists_no_reserved_path (entries_of_field_at_index 0 v)) c.open_idb-idb.ensures
    ∙ packages_list_no_reserved (entries_in (entry_at_index (root_value_of_payload Idb p) 0)) (payload_rules c.no_text_is_bad_where_each_keeps_its_rule.ensures Idb p c.requires)

pub invariant_of-result-clause-sound : goal.invariant_of-result-clause-sound
invariant_of-result-clause-sound c =
    let p = c.args.payload.now in
    ∣ subst IsSoundDatabaseIfAny (ap Some (sym c.open_idb-idb.ensures)) (
      c.tested_payloads_hold_sound_values.ensures.value Idb p c.requires,
      c.tested_payloads_hold_sound_values.ensures.normal Idb p c.requires c.bytes_are_small.ensures,
    ) ∣₁
