-- The value of a sound container: it has the shape of its table, each text and number obeys the rule of
-- its field, and no name repeats. Serves the law `sound_containers_hold_sound_values`; the rules are in
-- `docs/formats.md`, "The shape", "The texts" and "Names that stand twice".
use Rattle.std.specs.Prelude.{◌≡◌, ℕ, List, None}
use Rattle.adb_view.specs.Plain.{Plain}
use Rattle.adb_view.specs.Shaped.{HasShape}
use Rattle.adb_view.specs.Schema.{shape_of}
use Rattle.adb_view.specs.declared.tables.Which.{Which}
use Rattle.adb_view.specs.declared.tables.Kind.TheVariants.{Obj}
use Rattle.adb_fields.specs.Once.{HasNoForbiddenRepeatedName}
use Rattle.adb_schema.specs.SoundValues.{ObeysTextAndNumberRulesOfTable}
use Rattle.adb_schema.specs.Soundness.{container_fault_except_contents}

-- the value `v` may be that of a sound container with the table `which` at its root
pub record IsSoundValue (which : Which) (v : Plain) : Type 0 where
  -- the value has the shape of the table
  pub shape : HasShape (shape_of (Obj which)) v
  -- each text and number obeys the rule of its field
  pub rules : ObeysTextAndNumberRulesOfTable which v
  -- no name repeats that must be unique, such as the path of a folder in a package
  pub once : HasNoForbiddenRepeatedName which v

-- a file passes every test as a container with this table at its root; a package may still have wrong
-- contents of files, after its first block
abbrev pub IsSoundContainerExceptContents : Which → List ℕ → Type 0
IsSoundContainerExceptContents which file = container_fault_except_contents which file ≡ None
