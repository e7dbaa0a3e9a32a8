use Rattle.std.proofs.Common.{OnOk, ◌≡◌, refl, subst}
use Rattle.adb_view.specs.Plain.{trimmed_object_or_null}
use Rattle.adb_values.specs.Drafts.{draft_with}
use Rattle.adb_values.proofs.Lists.{closed}
use Rattle.make_info.specs.Information.{information_fields_with_installed_size, information_value_with_installed_size}
use Rattle.make_info.proofs.information.Information.write.Goals as goal

pub returns : goal.returns
unfolding information_value_with_installed_size
returns c =
    subst (λ info. OnOk c.close_object.result (c.close_object.new.self ≡ draft_with (information_value_with_installed_size info c.args.installed_size) c.args.draft.now)) c.self.view_is
    (closed trimmed_object_or_null (information_fields_with_installed_size c.self.inside.entries c.args.installed_size) c.args.draft.now _ _ c.close_object.result c.close_object.ensures.ok
    (rw (c.in_ok-write_columns.ensures, c.in_ok-open_list.ensures.ok) refl))
