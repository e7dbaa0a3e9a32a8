-- The intermediate results of `adbdump`, `mkpkg` and `mkndx`. Serves the proofs in `src/dump.rt` and
-- `src/make.rt`; the rules are in `docs/commands.md`, "`adbdump FILE`", "`mkpkg`" and "`mkndx
-- PACKAGE..`".
use Rattle.std.specs.Prelude.{◌≡◌, ℕ, Bool, true, false, List, Option, Some, None, Result, Ok, Err, Vec}
use Rattle.std.specs.declared.alloc.Global.{Global}
use Rattle.adb_block.specs.Reading.{Reading, done, fault, more}
use Rattle.adb_dump.specs.adb_schema.declared.read.ReadFault.{ReadFault}
use Rattle.adb_dump.specs.adb_schema.declared.read.ReadFault.TheVariants as ReadFaults
use Rattle.adb_view.specs.declared.tables.Which.{Which}
use Rattle.base_core.specs.Files.{Files}
use Rattle.base_core.specs.declared.cause.Cause.{Cause}
use Rattle.command_core.specs.Command.{CommandLine}
use Rattle.command_core.specs.declared.values.TheConstants.{FILES}
use Rattle.make_core.specs.Files.{EachOperandReadFindsNoFileOrFileBytes}
use Rattle.make_core.specs.Index.{made_index}
use Rattle.make_core.specs.make_info.Reads.{Reads}
use Rattle.make_core.specs.make_info.declared.fault.MakeFault.{MakeFault}
use Rattle.make_core.specs.make_info.declared.fault.MakeFault.TheVariants.{Disk, Memory}
use Rattle.make_core.specs.Making.{made_package}
use Rattle.make_core.specs.package_files.Sources.{values_of_letter}
use Rattle.outcome.specs.Commands.{reads_in}
use Rattle.outcome.specs.Dump.{payload_head_or_shape_fault}
use Rattle.outcome.specs.Make.{AreNamesBelowOptionFolder, mkndx, mkpkg}
use Rattle.outcome.specs.Outcome.{Outcome}

-- ---- the text of a container

-- why a container has no text, as the definition of its text says; running out of memory says nothing
-- of the file
abbrev pub IsDumpFault : ReadFault → Result (List ℕ) Cause → Type 0
IsDumpFault (ReadFaults.Bad cause) text = text ≡ Err cause
IsDumpFault ReadFaults.Memory text = Unit {0}

-- why the first block is refused for its framing, its head or its shape, if it is
abbrev pub first_block_head_or_shape_fault : Which → Reading → Option Cause
first_block_head_or_shape_fault which done = None
first_block_head_or_shape_fault which (fault c) = Some c
first_block_head_or_shape_fault which (more b at r) = payload_head_or_shape_fault which b.payload

-- the first block of a reading has this payload, which passed the tests of head and shape; `later` is the reading of
-- the blocks after it
abbrev pub IsAfterShapedFirstBlock : Which → List ℕ → Reading → Reading → Type 0
IsAfterShapedFirstBlock which payload done later = ⊥
IsAfterShapedFirstBlock which payload (fault c) later = ⊥
IsAfterShapedFirstBlock which payload (more b at r) later =
    (payload ≡ b.payload) × (payload_head_or_shape_fault which b.payload ≡ None) × (r ≡ later)

-- ---- a container that is made

-- what was made, or why it was not, without where its bytes are in memory
abbrev pub made_file_bytes : Result (Vec ℕ Global) MakeFault → Result (List ℕ) MakeFault
made_file_bytes (Ok file) = Ok file.items
made_file_bytes (Err why) = Err why

-- whether the fault is an I/O error of the tree or out of memory; the other faults are reported as refusals
abbrev pub is_disk_or_memory : MakeFault → Bool
is_disk_or_memory Disk = true
is_disk_or_memory Memory = true
is_disk_or_memory other = false

-- whether an I/O error of the tree or out of memory stopped the making, so that no outcome is answered
abbrev pub is_making_ended_by_disk_or_memory : Result (Vec ℕ Global) MakeFault → Bool
is_making_ended_by_disk_or_memory (Ok file) = false
is_making_ended_by_disk_or_memory (Err why) = is_disk_or_memory why

-- `Means` holds of what was made, or of why nothing was; after an I/O error of the tree and out of memory
-- nothing is said
abbrev pub OnMade :
    Result (Vec ℕ Global) MakeFault → (Result (List ℕ) MakeFault → Type 0) → Type 0
OnMade (Ok file) Means = Means (Ok file.items)
OnMade (Err why) Means = is_disk_or_memory why ≡ false → Means (Err why)

-- ---- over these files

-- what `mkpkg` makes of a command and these files, or why it makes none: for the one list of names
-- below the folder of `-F`
pub record IsPackageMade (command : CommandLine) (files : Files)
    (made : Result (List ℕ) MakeFault) : Type 0 where
  -- the names of the files to be packed
  pub names : List (List ℕ)
  -- they are those below the folder of `-F`
  pub listing : AreNamesBelowOptionFolder (values_of_letter FILES command.values) files names
  -- the package of these names and files, or the reason for which none is made
  pub is : made_package command names (reads_in files) ≡ made

-- what `mkndx` makes of a command and these files, or why it makes none
abbrev pub IsIndexMade : CommandLine → Files → Result (List ℕ) MakeFault → Type 0
IsIndexMade command files made = made_index command (reads_in files) ≡ made

-- the outcome of `mkpkg` over these files
abbrev pub IsPackageOutcome : CommandLine → Files → Outcome → Type 0
IsPackageOutcome command files outcome =
    (names : List (List ℕ))
    × AreNamesBelowOptionFolder (values_of_letter FILES command.values) files names
    × (outcome ≡ mkpkg (reads_in files) files command names)

-- the outcome of `mkndx` over these files
abbrev pub IsIndexOutcome : CommandLine → Files → Outcome → Type 0
IsIndexOutcome command files outcome = outcome ≡ mkndx (reads_in files) files command

-- ---- by some names below the folder, and some reads

-- the index that is made of a command by some reads, as on a tree that is not observable
pub record IsIndexFound (command : CommandLine) (made : Result (List ℕ) MakeFault) : Type 0 where
  -- some contents for each read; under an operand it finds nothing, or bytes that a file may have
  pub read : Reads
  -- under each operand the read finds nothing, or bytes that a file may have
  pub files : EachOperandReadFindsNoFileOrFileBytes read 0 command.operands
  -- the index of these reads, or the reason for which none is made
  pub is : made_index command read ≡ made
