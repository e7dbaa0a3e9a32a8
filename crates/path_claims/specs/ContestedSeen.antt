-- A contested path of the program as contracts see it.
-- No document has a rule for this: it serves the contracts of `src/owner.rt`, whose path has its folder
-- and its name apart.
use Rattle.adb_fields.specs.JoinedPath.{joined_path}
use Rattle.path_claims.specs.Claims.{ContestedPath}
use Rattle.path_claims.specs.declared.owner.Contested.{Contested}

-- a `Contested` of the program as contracts see it: the folder and the name of its path are joined
abbrev pub contested_seen : Contested → ContestedPath
contested_seen c = record { path = joined_path c.path; rivals = c.rivals }
