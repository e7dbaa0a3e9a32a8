use Rattle.std.specs.Prelude.{option_map}
use Rattle.std.proofs.lemmas.Slice.Eq.{bytes_eq-Decides}
use Rattle.adb_view.specs.Adb.{payload_of}
use Rattle.pkg_core.specs.adb_schema.Views.{idb_value, package_value}
use Rattle.db_core.specs.EntrySeen.{is_added_or_has_payload, member_of_entry, payload_of_database}
use Rattle.db_core.specs.Packages.{is_added_or_lists_no_reserved, lists_only_valid_names, lists_no_reserved_path}
use Rattle.db_core.specs.Seen.{packages_of_old_database}
use Rattle.db_core.proofs.ListedNames.{named_at, passed_more}
use Rattle.db_core.proofs.Ordered.{few_more, kept_more}
use Rattle.db_core.proofs.SoundEntries.{sound_more, stays_sound}
use Rattle.db_core.proofs.members.Members.stays.Goals as goal

pub invariant_of-self : goal.invariant_of-self
invariant_of-self c =
    let before = packages_of_old_database c.args.self.now in
    let pkg = package_value c.package_of_database-view.result in
    let there = c.package_of_database-view.ensures.value in
    let payload = payload_of_database c.args.self.now.db.now.idb in
    record {
      in_order = kept_more c.push.result _ _ _ c.push.ensures.items c.args.self.now.in_order (c.requires.behind pkg there);
      few = few_more c.push.result _ _ _ _ c.push.ensures.items c.args.self.now.few c.requires.few;
      named = passed_more (λ e. lists_only_valid_names (member_of_entry e).pkg) c.push.result _ _ _ c.push.ensures.items c.args.self.now.named (named_at lists_only_valid_names before c.args.i pkg there c.args.self.now.db.now.named);
      free = passed_more (λ e. is_added_or_lists_no_reserved (member_of_entry e)) c.push.result _ _ _ c.push.ensures.items c.args.self.now.free (named_at lists_no_reserved_path before c.args.i pkg there c.args.self.now.db.now.free);
      sound = sound_more c.push.result _ _ _ c.push.ensures.items c.args.self.now.sound (stays_sound (option_map idb_value c.args.self.now.db.now.idb) c.args.i pkg there c.args.self.now.db.now.sound);
      lent = passed_more (is_added_or_has_payload payload) c.push.result _ _ _ c.push.ensures.items c.args.self.now.lent ((bytes_eq-Decides (payload_of c.package_of_database-view.result.adb) payload).1 c.package_of_database-view.ensures.lent);
    }
