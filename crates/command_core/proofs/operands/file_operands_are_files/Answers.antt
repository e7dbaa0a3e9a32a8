use Rattle.std.proofs.Common.{◌≡◌, true, subst}
use Rattle.command_core.specs.Sound.{are_allowed_operands}
use Rattle.command_core.proofs.Parts.{files_of_kind, has_parts}
use Rattle.command_core.proofs.operands.file_operands_are_files.Goals as goal

pub returns : goal.returns
returns _ c rule h r k =
    files_of_kind rule c.operands (subst (λ o. are_allowed_operands o c.operands ≡ true) r (has_parts c h).operands) k
