-- The two fixed names are names.
use Rattle.std.proofs.Common.{◌≡◌, true, refl}
use Rattle.std.specs.Str.{chars, is_utf8}
use lib.Utf8.{encode}
use Rattle.base_core.specs.Name.{is_name}
use Rattle.journal_intent.specs.Intent.{intent_name, stage_folder}

pub intent_named : is_name intent_name ≡ true
unfolding is_name is_utf8 chars encode
intent_named = refl

pub stage_folder_named : is_name stage_folder ≡ true
unfolding is_name is_utf8 chars encode
stage_folder_named = refl
