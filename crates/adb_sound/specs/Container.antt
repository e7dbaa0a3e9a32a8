-- A container that is made from a value and, for a package, from the contents of its files. Makers of packages and the
-- laws of this crate use it. The rules are in `docs/formats.md`, "The other blocks" (contents) and "Canonical layout"
-- ("In a container each block is padded").
use Rattle.std.specs.Prelude.{ℕ, List, ◌∷◌, ◌++◌, map}
use Rattle.std.specs.Int.{w32, to_le_bytes}
use Rattle.adb_block.specs.BlockWithoutOffset.{BlockWithoutOffset}
use Rattle.adb_block.specs.Written.{container}
use Rattle.adb_block.specs.declared.block.BlockKind.TheVariants as Kinds
use Rattle.adb_view.specs.Plain.{Plain}
use Rattle.adb_write.specs.Canonical.{canonical}
use Rattle.adb_write.specs.File.{adb_block_of_payload}
use Rattle.pkg_core.specs.Contents.{Contents}
use Rattle.pkg_core.specs.Whole.{PackageWithContents}

-- the payload of the block with the contents of one file: the position of the folder in the package, the position of
-- the file in the folder, in four bytes each, and the file's bytes
abbrev pub contents_payload : Contents → List ℕ
contents_payload c = to_le_bytes w32 c.folder ++ (to_le_bytes w32 c.file ++ c.bytes)

-- the block with the contents of one file
abbrev pub block_of_contents : Contents → BlockWithoutOffset
block_of_contents c = record { kind = Kinds.Contents; payload = contents_payload c }

-- the container of this schema: first a block with the canonical payload of the value v, then a block for the contents
-- of each file
abbrev pub container_of_value_and_contents : ℕ → Plain → List Contents → List ℕ
container_of_value_and_contents schema v contents =
    container schema (adb_block_of_payload (canonical v) ∷ map block_of_contents contents)

-- a package as its value, and the contents of its files
abbrev pub package_with_contents_from_parts : Plain → List Contents → PackageWithContents
package_with_contents_from_parts v contents = record { value = v; contents = contents }
