-- The words that a walk over a value visits, in order, and whether each can be read. *Walk* defines the first fault of
-- these visits. The rule is in `docs/formats.md`, "The shape".
use Rattle.std.specs.Prelude.{ℕ, Bool, is_none, List, [], ◌∷◌, ◌++◌, Option, Result, Ok, Err}
use Rattle.std.specs.Result.{result_err}
use Rattle.adb_view.specs.Plain.{Shape, number, text, hash, array, object, Fields, no_fields, field}
use Rattle.adb_view.specs.Readers.{int_of, blob_of, run_entries_of_kind_in_payload_at_word, ARRAY, OBJECT}
use Rattle.base_core.specs.declared.cause.Cause.{Cause}

-- a visit of a walk: a word, and the shape that is demanded of it
pub record Visit : Type 0 where
  -- the shape that is demanded of the word
  pub shape : Shape
  -- the word that is visited
  pub word : ℕ

-- the words of the entries that a reader returned; none if the reader failed
abbrev pub or_empty : Result (List ℕ) Cause → List ℕ
or_empty (Ok ws) = ws
or_empty (Err c) = []

-- the visits for all words of a list, in order; `f` gives the visits for one word
abbrev pub visits_of_all_words : (ℕ → List Visit) → List ℕ → List Visit
visits_of_all_words f [] = []
visits_of_all_words f (w ∷ ws) = f w ++ visits_of_all_words f ws

-- the visits of a walk over the word `w` of the payload `p`, depth first: the word, then its entries in order. Of an
-- object only the entries that have a field are visited
unfoldable mutual
  pub visits : List ℕ → Shape → ℕ → List Visit
  visits p number w = record { shape = number; word = w } ∷ []
  visits p text w = record { shape = text; word = w } ∷ []
  visits p hash w = record { shape = hash; word = w } ∷ []
  visits p (array s) w = record { shape = array s; word = w } ∷
      visits_of_all_words (visits p s) (or_empty (run_entries_of_kind_in_payload_at_word ARRAY p w))
  visits p (object schema fs) w = record { shape = object schema fs; word = w } ∷
      field_visits p fs (or_empty (run_entries_of_kind_in_payload_at_word OBJECT p w))

  -- the visits of those of an object's entries (`ws`) that have one of these fields
  pub field_visits : List ℕ → Fields → List ℕ → List Visit
  field_visits p no_fields ws = []
  field_visits p (field name s fs) [] = []
  field_visits p (field name s fs) (w ∷ ws) = visits p s w ++ field_visits p fs ws

-- the most visits of the walk over a payload, which is the most values of a payload. A value is counted each time that
-- it occurs
abbrev pub MOST_VALUES : ℕ
MOST_VALUES = 4194304

-- why the reader of this shape refuses the word `w` of the payload `p`; None if it accepts the word
abbrev pub word_fault_under_shape : List ℕ → Shape → ℕ → Option Cause
word_fault_under_shape p number w = result_err (int_of p w)
word_fault_under_shape p text w = result_err (blob_of p w)
word_fault_under_shape p hash w = result_err (blob_of p w)
word_fault_under_shape p (array s) w = result_err (run_entries_of_kind_in_payload_at_word ARRAY p w)
word_fault_under_shape p (object schema fs) w =
    result_err (run_entries_of_kind_in_payload_at_word OBJECT p w)

-- whether the reader of a visit's shape accepts its word
abbrev pub is_sound_visit : List ℕ → Visit → Bool
is_sound_visit p v = is_none (word_fault_under_shape p v.shape v.word)
