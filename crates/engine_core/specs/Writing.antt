-- What a change writes, and its source. Serves the contracts of `src/writes.rt`; the rules are in
-- `docs/commands.md`, "What a change does with files" and "`add` and `del`", part "What is written".
use Rattle.std.specs.Prelude.{◌≡◌, ◌⊎◌, ℕ, true, false, List, [], ◌∷◌, ◌++◌, Option, Some, None, Contains, is_some, option_and_then, slice_get}
use Rattle.std.specs.Borrow.{Bor}
use Rattle.change_outcome.specs.Arrivals.{arrivals_seen, added_package_in_member_read}
use Rattle.change_outcome.specs.declared.arrivals.Arrivals.{Arrivals}
use Rattle.adb_view.specs.Plain.{Plain}
use Rattle.change_report.specs.own_core.PlanLists.{FileWrite}
use Rattle.change_report.specs.change_outcome.ChangeOutcome.{name_if_needed}
use Rattle.change_report.specs.db_core.Members.{Member, is_added}
use Rattle.journal_staging.specs.file_guard.AsListed.{file_target, has_target}
use Rattle.change_report.specs.own_core.ClaimEntries.{folders_if_any, listed_file_at}
use Rattle.journal_staging.specs.package_verifier.declared.package.TestedPackage.{TestedPackage}
use Rattle.journal_staging.specs.declared.writes.PackagedFile.{PackagedFile}
use Rattle.journal_staging.specs.declared.writes.Source.{Source}
use Rattle.journal_staging.specs.declared.writes.Source.TheVariants.{Bytes, File, Link}
use Rattle.journal_staging.specs.declared.writes.StagedWrite.{StagedWrite}
use Rattle.engine_core.specs.declared.writes.RecordWrites.{RecordWrites}

-- the final name of the file that a write stages
abbrev pub name_of_write : StagedWrite → List ℕ
name_of_write w = w.name.now

-- ---- a file of a package

-- the entry of the file that a write writes, among the files of its package
abbrev pub entry_of_write : List Member → FileWrite → Plain
entry_of_write members w =
    listed_file_at (folders_if_any (slice_get members w.member)) w.folder w.file

-- for the place (index) of each member the package that was read for this member; None for a kept member
abbrev pub PackagesRead : Type 0
PackagesRead = ℕ → Option TestedPackage

-- a file in a package that was read is the file that a write writes
pub record IsFileOfWrite (packages : PackagesRead) (w : FileWrite) (f : PackagedFile) : Type 0 where
  -- the package of the write was read
  pub read : packages w.member ≡ Some f.package.now
  -- the write and the file are of the same member, folder and place in the folder
  pub member : f.member ≡ w.member
  -- the folder has the same position in the package
  pub folder : f.folder ≡ w.folder
  -- the file has the same position in the folder
  pub file : f.file ≡ w.file

-- the source of a write's bytes: a link's text, or the file in the package
abbrev pub IsSourceOfWrite : List Member → PackagesRead → FileWrite → Source → Type 0
IsSourceOfWrite members packages w (Bytes own) = ⊥
IsSourceOfWrite members packages w (Link target) =
    (has_target (entry_of_write members w) ≡ true)
    × (target.now ≡ file_target (entry_of_write members w))
IsSourceOfWrite members packages w (File f) =
    (has_target (entry_of_write members w) ≡ false) × IsFileOfWrite packages w f

-- a write stages a file of the plan (`planned` are all writes of the plan)
pub record IsFileWrite (members : List Member) (packages : PackagesRead) (planned : List FileWrite)
    (write : StagedWrite) : Type 0 where
  -- a file of the plan
  pub file : FileWrite
  -- this file is one that the plan writes
  pub planned_file : Contains planned file
  -- the staged file has the name of this file
  pub named : name_of_write write ≡ file.name
  -- its bytes come from where the plan says
  pub source : IsSourceOfWrite members packages file write.source

-- ---- the database and world

-- a source is these bytes, and neither a link nor a file of a package
abbrev pub HasBytes : List ℕ → Source → Type 0
HasBytes bytes (Bytes own) = own.now ≡ bytes
HasBytes bytes (Link target) = ⊥
HasBytes bytes (File f) = ⊥

-- a write stages a file with this final name and these bytes
pub record IsRecordWrite (name bytes : List ℕ) (write : StagedWrite) : Type 0 where
  -- the staged file has this name
  pub named : name_of_write write ≡ name
  -- its source has these bytes
  pub source : HasBytes bytes write.source

-- a write is that of the database or of world, whose file has this name and gets these bytes; with None this file is
-- not written, and there is no such write
abbrev pub IsWriteOfRecord : List ℕ → Option (Bor (List ℕ)) → StagedWrite → Type 0
IsWriteOfRecord name None write = ⊥
IsWriteOfRecord name (Some bytes) write = IsRecordWrite name bytes.now write

-- the writes of the database or of world, whose file has this name: one write of these bytes, or no write with None
abbrev pub record_writes : Bor (List ℕ) → Option (Bor (List ℕ)) → List StagedWrite
record_writes name None = []
record_writes name (Some bytes) = record { name = name; source = Bytes bytes } ∷ []

-- the names of the database and of world, if they are written
abbrev pub database_and_world_names : RecordWrites → List (List ℕ)
database_and_world_names r =
    name_if_needed (is_some r.database) r.database_name.now
    ++ name_if_needed (is_some r.world) r.world_name.now

-- ---- each write

-- a write is that of a file of a package, of the database, or of world
abbrev pub IsWriteOfChange :
    List Member → PackagesRead → List FileWrite → RecordWrites → StagedWrite → Type 0
IsWriteOfChange members packages planned r write =
    IsFileWrite members packages planned write
    ⊎ (IsWriteOfRecord r.database_name.now r.database write
    ⊎ IsWriteOfRecord r.world_name.now r.world write)

-- ---- what was read

-- the package that was read for the member at this place (index); None if the member is kept
abbrev pub package_at : Arrivals → ℕ → Option TestedPackage
package_at arrivals place =
    option_and_then added_package_in_member_read (slice_get (arrivals_seen arrivals) place)

-- the package of each added member was read
abbrev pub HasPackageOfEachAdded : List Member → Arrivals → Type 0
HasPackageOfEachAdded members arrivals = (place : ℕ) (m : Member) → slice_get members place ≡ Some m
    → is_added m ≡ true → is_some (package_at arrivals place) ≡ true
