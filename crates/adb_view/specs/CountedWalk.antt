-- The walk over a payload's values that counts its visits, as the program does; *visits* lists them instead. Serves
-- the contracts of `src/walk.rt`. The rule is in `docs/formats.md`, "The shape".
use Rattle.std.specs.Prelude.{ℕ, ◌+◌, List, [], ◌∷◌, Option, Some, None, Result, Ok, Err}
use Rattle.base_core.specs.Lists.{and_then}
use Rattle.adb_view.specs.Plain.{Shape, number, text, hash, array, object, Fields, no_fields, field}
use Rattle.adb_view.specs.Readers.{run_entries_of_kind_in_payload_at_word, ARRAY, OBJECT}
use Rattle.adb_view.specs.Visits.{or_empty}
use Rattle.adb_view.specs.Walk.{visit_fault}
use Rattle.base_core.specs.declared.cause.Cause.{Cause}

-- The result of each walk below is the number of visits, including the `n` visits before it, or the first fault.

-- Ok with the value, unless there is a fault
abbrev pub ok_unless : {A : Type 0} → A → Option Cause → Result A Cause
ok_unless x None = Ok x
ok_unless x (Some c) = Err c

-- the walk of one visit after n others: the word `w` of the payload `p` is tested by the shape `s`
abbrev pub walk_visit : List ℕ → ℕ → Shape → ℕ → Result ℕ Cause
walk_visit p n s w = ok_unless (n + 1) (visit_fault p (n + 1) (record { shape = s; word = w }))

-- the walk over some words in order, after n visits. `f m w` is the walk over the word `w` after m visits
abbrev pub walk_each_word : (ℕ → ℕ → Result ℕ Cause) → ℕ → List ℕ → Result ℕ Cause
walk_each_word f n [] = Ok n
walk_each_word f n (w ∷ ws) = and_then (f n w) (λ m. walk_each_word f m ws)

-- the walk over the word `w` of the payload `p` and the words below it, by a shape, after n visits
unfoldable mutual
  pub walk : List ℕ → Shape → ℕ → ℕ → Result ℕ Cause
  walk p number n w = walk_visit p n number w
  walk p text n w = walk_visit p n text w
  walk p hash n w = walk_visit p n hash w
  walk p (array s) n w = and_then (walk_visit p n (array s) w)
      (λ m. walk_each_word (walk p s) m (or_empty (run_entries_of_kind_in_payload_at_word ARRAY p w)))
  walk p (object schema fs) n w = and_then (walk_visit p n (object schema fs) w)
      (λ m. fields_walk p fs m (or_empty (run_entries_of_kind_in_payload_at_word OBJECT p w)))

  -- the walk over those of an object's entries (`ws`) that have one of these fields, after n visits
  pub fields_walk : List ℕ → Fields → ℕ → List ℕ → Result ℕ Cause
  fields_walk p no_fields n ws = Ok n
  fields_walk p (field name s fs) n [] = Ok n
  fields_walk p (field name s fs) n (w ∷ ws) = and_then (walk p s n w) (λ m. fields_walk p fs m ws)
