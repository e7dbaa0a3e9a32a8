use Rattle.std.proofs.Common.{false, ap, sym}
use Rattle.std.specs.Prelude.{unwrap_or}
use Rattle.db_core.proofs.folders.is_set.Goals as goal

pub returns : goal.returns
returns c = sym (ap (λ o. unwrap_or o false) c.flag_at.ensures)
