use Rattle.adb_fields.proofs.OnceLemmas.{names_once}
use Rattle.adb_fields.proofs.repeated.no_repeated_name_is_reported_if_there_is_none.Goals as goal

pub returns : goal.returns
returns c = names_once
