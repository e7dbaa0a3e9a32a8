-- A payload that passes all tests, or that of a container without fault, can be opened.
use Rattle.std.proofs.Common.{◌≡◌, ◌↔◌, ◌≤◌, ℕ, true, List, length, Option, Some, None, refl, ap}
use Rattle.std.specs.Prelude.{is_none, is_some}
use Rattle.base_core.proofs.Causes.{first_none, second_none}
use Rattle.adb_view.specs.Head.{payload_head_fault, root_word_of_payload}
use Rattle.adb_view.specs.Plain.{Plain, Shape, plain_of}
use Rattle.adb_view.specs.Visits.{visits, MOST_VALUES}
use Rattle.adb_view.specs.Schema.{shape_of}
use Rattle.adb_view.specs.Values.{is_sound}
use Rattle.adb_view.specs.Walk.{shape_fault}
use Rattle.adb_view.specs.declared.tables.Which.{Which}
use Rattle.adb_view.specs.declared.tables.Kind.TheVariants as Kinds
use Rattle.adb_fields.specs.Repeated.{repeated_fault}
use Rattle.adb_schema.specs.SoundValues.{ObeysTextAndNumberRulesOfTable}
use Rattle.adb_schema.specs.Texts.{text_or_number_fault}
use Rattle.adb_schema.specs.Soundness.{payload_fault, container_fault_except_contents, payload_in, root_value_of_payload}
use Rattle.adb_schema.proofs.Sound.{sound_payload}

-- what a law of `adb_view` says
abbrev pub Visited : Type 0
Visited = (payload : List ℕ) (shape : Shape) (word : ℕ)
    → (shape_fault payload shape word ≡ None) ↔ ((is_some (plain_of payload shape word) ≡ true) × (length (visits payload shape word) ≤ MOST_VALUES))

pub none_of : {A : Type 0} (o : Option A) → is_none o ≡ true → o ≡ None
none_of None h = refl
none_of (Some a) h = absurd (cc)

pub payload_head : (which : Which) (p : List ℕ) → payload_fault which p ≡ None → is_none (payload_head_fault p) ≡ true
payload_head which p h = ap is_none (first_none (payload_head_fault p) _ h)

pub payload_sound : Visited → (which : Which) (p : List ℕ) → payload_fault which p ≡ None → is_sound p (Kinds.Obj which) (root_word_of_payload p) ≡ true
unfolding is_sound
payload_sound visited which p h =
    ((visited p (shape_of (Kinds.Obj which)) (root_word_of_payload p)).0
    (first_none (shape_fault p (shape_of (Kinds.Obj which)) (root_word_of_payload p)) _ (second_none (payload_head_fault p) _ h))).0

-- what a law of `adb_schema` says
abbrev pub Kept : Type 0
Kept = (which : Which) (v : Plain) → (text_or_number_fault which v ≡ None) ↔ ObeysTextAndNumberRulesOfTable which v

pub payload_texts : (which : Which) (p : List ℕ) → payload_fault which p ≡ None → text_or_number_fault which (root_value_of_payload which p) ≡ None
payload_texts which p h =
    first_none (text_or_number_fault which (root_value_of_payload which p)) (repeated_fault which (root_value_of_payload which p))
    (second_none (shape_fault p (shape_of (Kinds.Obj which)) (root_word_of_payload p)) _ (second_none (payload_head_fault p) _ h))

pub payload_rules : Kept → (which : Which) (p : List ℕ) → payload_fault which p ≡ None → ObeysTextAndNumberRulesOfTable which (root_value_of_payload which p)
payload_rules kept which p h =
    (kept which (root_value_of_payload which p)).0 (payload_texts which p h)

pub file_head : (which : Which) (file : List ℕ) → container_fault_except_contents which file ≡ None → is_none (payload_head_fault (payload_in file)) ≡ true
file_head which file h = payload_head which (payload_in file) (sound_payload which file h)

pub file_sound : Visited → (which : Which) (file : List ℕ) → container_fault_except_contents which file ≡ None → is_sound (payload_in file) (Kinds.Obj which) (root_word_of_payload (payload_in file)) ≡ true
file_sound visited which file h = payload_sound visited which (payload_in file) (sound_payload which file h)

pub file_texts : (which : Which) (file : List ℕ) → container_fault_except_contents which file ≡ None → text_or_number_fault which (root_value_of_payload which (payload_in file)) ≡ None
file_texts which file h = payload_texts which (payload_in file) (sound_payload which file h)
