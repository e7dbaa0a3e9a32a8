-- The fixed names are names.
use Rattle.std.proofs.Common.{◌≡◌, true, refl}
use Rattle.std.specs.Str.{chars, is_utf8}
use lib.Utf8.{encode}
use Rattle.base_core.specs.Name.{is_name}
use Rattle.root_names.specs.RootNames.{database_name, repositories_name, text_database_name, world_name}

pub database_named : is_name database_name ≡ true
unfolding is_name is_utf8 chars encode
database_named = refl

pub text_database_named : is_name text_database_name ≡ true
unfolding is_name is_utf8 chars encode
text_database_named = refl

pub world_named : is_name world_name ≡ true
unfolding is_name is_utf8 chars encode
world_named = refl

pub repositories_named : is_name repositories_name ≡ true
unfolding is_name is_utf8 chars encode
repositories_named = refl
