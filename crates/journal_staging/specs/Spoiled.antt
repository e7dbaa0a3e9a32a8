-- A package that is no longer what was tested when its files are read once more. The README of this
-- crate says when this is reported (clause `bad`); the cause is in `docs/commands.md`, "Error lines":
-- contents of another digest.
use Rattle.std.specs.Prelude.{◌≡◌, ℕ, List, length, Some, slice_get}
use Rattle.file_guard.specs.adb_schema.Soundness.{payload_in}
use Rattle.base_core.specs.declared.cause.Cause.{Cause}
use Rattle.base_core.specs.declared.cause.Cause.TheVariants.{HashDiffers}
use Rattle.base_core.specs.declared.cause.Digest.{Digest}
use Rattle.package_verifier.specs.Tested.{IsTestedOf}
use Rattle.file_guard.specs.pkg_core.Whole.{package_fault}
use Rattle.journal_staging.specs.declared.writes.PackagedFile.{PackagedFile}
use Rattle.journal_staging.specs.declared.writes.Source.{Source}
use Rattle.journal_staging.specs.declared.writes.Source.TheVariants.{Bytes, File, Link}
use Rattle.journal_staging.specs.declared.writes.StagedWrite.{StagedWrite}

-- A package's file is spoiled: `tested` are the bytes that were tested, and `file` are others, of the same length and
-- with the same values. As a package, `file` is refused with this cause: contents of a file have another digest.
pub record IsFileWithOnlyContentsSpoiled (tested file : List ℕ) (cause : Cause) : Type 0 where
  -- the file has the length of the tested one
  pub long : length file ≡ length tested
  -- the file has the values of the tested one
  pub values : payload_in file ≡ payload_in tested
  -- the digest that the package's values list
  pub wanted : Digest
  -- the digest that the contents in `file` have
  pub found : Digest
  -- the cause is that these digests differ
  pub digest : cause ≡ HashDiffers wanted found
  -- the file is refused with this cause
  pub fault : package_fault file ≡ Some cause

-- for all bytes that may have been tested as the package of `f` there are spoiled ones, refused with this cause
abbrev pub IsSpoiledForEachTested : PackagedFile → Cause → Type 0
IsSpoiledForEachTested f cause = (name tested : List ℕ) → IsTestedOf name tested f.package.now
    → (file : List ℕ) × IsFileWithOnlyContentsSpoiled tested file cause

-- the source is a file of the package of the member with this index, and the package is spoiled with this cause
abbrev pub IsSpoiledAt : ℕ → Cause → Source → Type 0
IsSpoiledAt member cause (Bytes own) = ⊥
IsSpoiledAt member cause (Link target) = ⊥
IsSpoiledAt member cause (File f) = (f.member ≡ member) × IsSpoiledForEachTested f cause

-- one of the writes is a file of the package of the member with this index, and the package is spoiled with this cause
pub record HasSpoiledFile (member : ℕ) (cause : Cause) (writes : List StagedWrite) : Type 0 where
  -- the number of the write, counted from 0
  pub number : ℕ
  -- the write whose source is spoiled
  pub write : StagedWrite
  -- the write has this number
  pub at : slice_get writes number ≡ Some write
  -- its source is a file of the package, and is spoiled with this cause
  pub is : IsSpoiledAt member cause write.source
