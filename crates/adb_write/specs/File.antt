-- The container around a payload, for containers without contents of files. The rule is in `docs/formats.md`,
-- "Canonical layout" ("In a container each block is padded"), and in "Container".
use Rattle.std.specs.Prelude.{ℕ, List, [], ◌∷◌}
use Rattle.adb_block.specs.BlockWithoutOffset.{BlockWithoutOffset}
use Rattle.adb_block.specs.Written.{container}
use Rattle.adb_block.specs.declared.block.BlockKind.TheVariants.{Adb}

-- the first block of a container, with this payload
abbrev pub adb_block_of_payload : List ℕ → BlockWithoutOffset
adb_block_of_payload payload = record { kind = Adb; payload = payload }

-- the container of this schema with one block, which has the payload, and without signatures
abbrev pub file_of : ℕ → List ℕ → List ℕ
file_of schema payload = container schema (adb_block_of_payload payload ∷ [])
