use Rattle.std.proofs.Common.{Option, Some, None}
use Rattle.std.specs.Prelude.{IfSome}
use Rattle.adb_view.specs.Plain.{Plain, IsNormal, plain_of}
use Rattle.adb_view.specs.Shaped.{HasShape}
use Rattle.adb_view.specs.Schema.{shape_of}
use Rattle.adb_view.specs.declared.tables.Kind.TheVariants.{Obj}
use Rattle.adb_dump.specs.Values.{IsOfBytes}
use Rattle.adb_dump.proofs.ValuesFound.{plain_bytes}
use Rattle.adb_dump.proofs.laws.values_found_in_bytes_are_of_their_table.Goals as goal

three : (P Q R : Plain → Type 0) (o : Option Plain) → IfSome o P → IfSome o Q → IfSome o R → IfSome o (λ v. (P v × Q v) × R v)
three P Q R None a b c = tt
three P Q R (Some v) a b c = ((a, b), c)

pub returns : goal.returns
returns c payload bytes which word =
    three IsNormal (HasShape (shape_of (Obj which))) IsOfBytes (plain_of payload (shape_of (Obj which)) word) (c.values_are_normal.ensures payload bytes (shape_of (Obj which)) word) (c.values_have_their_shape.ensures.word payload (shape_of (Obj which)) word) (plain_bytes payload bytes (shape_of (Obj which)) word)
