-- The intent: the journal entry of a change of several files, the file that encodes it, and the names
-- under which new files are staged.
-- The rules are in `docs/crash-safety.md`, "What files stand for" and "A change of several files", the
-- table of names; of the container in `docs/formats.md`, "Schemas", table 10.
use Rattle.std.specs.Prelude.{◌≡◌, ℕ, Bool, List, ◌++◌, map, Option, Some, None, codes, decimal, nat_eq, true, false, AllPairs}
use Rattle.std.specs.Str.{bytes_eq}
use Rattle.std.specs.List.{starts_with, All}
use Rattle.base_core.specs.declared.cause.Cause.{Cause}
use Rattle.adb_view.specs.Plain.{Plain}
use Rattle.adb_sound.specs.adb_fields.Repeated.{entries_of_field_at_index}
use Rattle.adb_sound.specs.adb_schema.Rules.{is_name_allowed_in_intent}
use Rattle.adb_sound.specs.adb_schema.Soundness.{container_fault_except_contents, payload_in, root_value_of_payload}
use Rattle.adb_view.specs.FieldIndexes.{INTENT_REMOVALS_INDEX, INTENT_WRITES_INDEX}
use Rattle.adb_view.specs.Values.{text_in}
use Rattle.adb_view.specs.declared.tables.Which.TheVariants.{Intent as IntentTable}

-- ---- names

-- the name of the file of the intent, the journal entry that lists all removals and moves of a change
abbrev pub intent_name : List ℕ
intent_name = codes "lib/apk/intent"

-- the folder of the staging area, from which new files are moved to their final names
abbrev pub stage_folder : List ℕ
stage_folder = codes "lib/apk/stage"

-- whether a name is in the staging area, that is, below its folder
abbrev pub is_staged : List ℕ → Bool
is_staged name = starts_with nat_eq name (stage_folder ++ codes "/")

-- the name of the staged file with number k, in decimal digits
abbrev pub stage_name : ℕ → List ℕ
stage_name k = stage_folder ++ (codes "/" ++ decimal k)

-- ---- the intent

-- an intent: the actions of a change
pub record Intent : Type 0 where
  -- the names to be removed
  pub removals : List (List ℕ)
  -- the names to be written; their new files are staged with the numbers 1, 2 and so on, in this order
  pub writes : List (List ℕ)

-- the intent whose two lists are in this plain value of an intent container
abbrev pub intent_of_value : Plain → Intent
intent_of_value v = record {
  removals = map text_in (entries_of_field_at_index INTENT_REMOVALS_INDEX v);
  writes = map text_in (entries_of_field_at_index INTENT_WRITES_INDEX v);
}

-- the intent of a plain value, unless a test of the value's container failed; the option has the cause of a failure
abbrev pub intent_unless_fault : Option Cause → Plain → Option Intent
intent_unless_fault None v = Some (intent_of_value v)
intent_unless_fault (Some cause) v = None

-- the intent that the bytes of a file encode; None if they are no intent container
unfoldable pub read_intent : List ℕ → Option Intent
read_intent file = intent_unless_fault (container_fault_except_contents IntentTable file)
    (root_value_of_payload IntentTable (payload_in file))

-- the names of a change, removed and written ones, can be those of an intent: each is allowed, which excludes the
-- intent's and those in the staging area, and none is repeated
pub record AreDistinctNamesAllowedInIntent (names : List (List ℕ)) : Type 0 where
  -- each name is allowed in an intent
  pub each : All (λ name. is_name_allowed_in_intent name ≡ true) names
  -- no name is repeated
  pub once : AllPairs (λ a b. bytes_eq a b ≡ false) names
