-- The meaning of this crate's refusals. The rule is in `docs/formats.md`, "Tests of a container": the
-- first fault is reported.
use Rattle.std.specs.Prelude.{◌≡◌, Option, Some}
use Rattle.base_core.specs.declared.cause.Cause.{Cause}
use Rattle.adb_schema.specs.declared.read.ReadFault.{ReadFault}
use Rattle.adb_schema.specs.declared.read.ReadFault.TheVariants as ReadFaults
use Rattle.pkg_core.specs.declared.pack.PackageFault.{PackageFault}
use Rattle.pkg_core.specs.declared.pack.PackageFault.TheVariants.{Bad, Memory}

-- the refusal of a container has the first failed test (`fault`); a refusal for lack of memory says
-- nothing about the container
abbrev pub IsFaultOf : PackageFault → Option Cause → Type 0
IsFaultOf (Bad cause) fault = fault ≡ Some cause
IsFaultOf Memory fault = Unit {0}

-- the fault of a read as a fault of the package
abbrev pub fault_of_read : ReadFault → PackageFault
fault_of_read (ReadFaults.Bad cause) = Bad cause
fault_of_read ReadFaults.Memory = Memory
