use Rattle.std.proofs.Common.{sym, refl}
use Rattle.std.proofs.lemmas.Str.{is_utf8-from_IsUtf8}
use Rattle.base_core.proofs.Texts.{refuted}
use Rattle.package_files.proofs.file.is_text.Goals as goal

pub returns-in-Ok : goal.returns-in-Ok
returns-in-Ok c = sym (is_utf8-from_IsUtf8 _ c.in-Ok.ensures.cases.1)

pub returns-in-Err : goal.returns-in-Err
returns-in-Err c = refuted _ c.in-Err.ensures.cases.0 _ refl
