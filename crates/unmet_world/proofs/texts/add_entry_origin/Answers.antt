use Rattle.std.proofs.Common.{◌∙◌, ap, sym}
use Rattle.std.specs.Prelude.{codes}
use Rattle.unmet_world.specs.Lines.{entry_origin}
use Rattle.unmet_world.proofs.Refused.{no_value, one_added}
use Rattle.unmet_world.proofs.texts.add_entry_origin.Goals as goal

pub returns-in_err-is_entry_of_file : goal.returns-in_err-is_entry_of_file
returns-in_err-is_entry_of_file c = no_value _ _ c.from_residual.result c.from_residual.ensures.1

pub returns-then-branch : goal.returns-then-branch
returns-then-branch c = one_added c.extend_from_slice.result _ _ (codes "etc/apk/world") _ (ap entry_origin (sym (sym c.in_ok-is_entry_of_file.ensures ∙ c.if-branch.true))) c.extend_from_slice.ensures.items

pub returns-else-branch : goal.returns-else-branch
returns-else-branch c = one_added c.extend_from_slice-else-branch.result _ _ (codes "this command") _ (ap entry_origin (sym (sym c.in_ok-is_entry_of_file.ensures ∙ c.if-branch.false))) c.extend_from_slice-else-branch.ensures.items
