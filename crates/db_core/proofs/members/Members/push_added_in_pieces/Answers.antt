use Rattle.std.proofs.Common.{◌∙◌, ap, refl}
use Rattle.pkg_core.specs.adb_fields.Repeated.{package_name}
use Rattle.adb_view.specs.declared.tables.Which.TheVariants.{Package}
use Rattle.db_core.specs.EntrySeen.{is_added_or_has_payload, member_of_entry, payload_of_database}
use Rattle.db_core.specs.Members.{is_after_members}
use Rattle.db_core.specs.Packages.{is_added_or_lists_no_reserved, lists_only_valid_names}
use Rattle.db_core.specs.Seen.{members_of}
use Rattle.pkg_core.specs.Values.{payload_of_contents, value_of_contents}
use Rattle.db_core.proofs.ListedNames.{package_lists_names, passed_more}
use Rattle.db_core.proofs.Ordered.{few_more, kept_more}
use Rattle.db_core.proofs.SoundEntries.{comes_sound, sound_more}
use Rattle.db_core.proofs.members.Members.push_added_in_pieces.Goals as goal

pub invariant_of-self : goal.invariant_of-self
invariant_of-self c = record {
  in_order = kept_more c.push.result _ _ _ c.push.ensures.items c.args.self.now.in_order (ap (λ v. is_after_members (package_name v) (members_of c.args.self.now)) c.view-view.ensures ∙ c.requires.behind);
  few = few_more c.push.result _ _ _ _ c.push.ensures.items c.args.self.now.few c.requires.few;
  named = passed_more (λ e. lists_only_valid_names (member_of_entry e).pkg) c.push.result _ _ _ c.push.ensures.items c.args.self.now.named
      (ap lists_only_valid_names c.view-view.ensures ∙ package_lists_names Package (value_of_contents c.args.contents.now) c.values_keep_their_rules.ensures);
  free = passed_more (λ e. is_added_or_lists_no_reserved (member_of_entry e)) c.push.result _ _ _ c.push.ensures.items c.args.self.now.free refl;
  sound = sound_more c.push.result _ _ _ c.push.ensures.items c.args.self.now.sound
      (comes_sound _ (value_of_contents c.args.contents.now) c.id-id.result (payload_of_contents c.args.contents.now) c.view-view.ensures c.id-id.ensures c.values_are_sound.ensures.sound c.values_are_sound.ensures.normal);
  lent = passed_more (is_added_or_has_payload (payload_of_database c.args.self.now.db.now.idb)) c.push.result _ _ _ c.push.ensures.items c.args.self.now.lent refl;
}
