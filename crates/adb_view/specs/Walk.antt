-- The first fault of a walk over a payload's values. It is the fault that is reported if a container does not have the
-- shape of its table. The rule is in `docs/formats.md`, "The shape".
use Rattle.std.specs.Prelude.{ℕ, ◌+◌, List, [], ◌∷◌, Option, Some, None, nat_lt, if◌then◌else◌}
use Rattle.std.specs.Option.{option_or}
use Rattle.adb_view.specs.Plain.{Shape}
use Rattle.adb_view.specs.Visits.{MOST_VALUES, Visit, visits, word_fault_under_shape}
use Rattle.base_core.specs.declared.cause.Cause.{Cause}
use Rattle.base_core.specs.declared.cause.Cause.TheVariants.{TooLarge}

-- the fault of the visit `v` with the number i, which counts from 1: first the number is tested, then the word
abbrev pub visit_fault : List ℕ → ℕ → Visit → Option Cause
visit_fault p i v =
    if nat_lt MOST_VALUES i then Some (TooLarge i) else word_fault_under_shape p v.shape v.word

-- the first fault of some visits of the payload `p`; the first of these visits has the number i, counted from 1
abbrev pub first_fault_of_numbered_visits : List ℕ → ℕ → List Visit → Option Cause
first_fault_of_numbered_visits p i [] = None
first_fault_of_numbered_visits p i (v ∷ vs) =
    option_or (visit_fault p i v) (first_fault_of_numbered_visits p (i + 1) vs)

-- the first fault of the walk over the word `w` of the payload `p` and the words below it, by the shape `s`; None if
-- no visit is faulty
abbrev pub shape_fault : List ℕ → Shape → ℕ → Option Cause
shape_fault p s w = first_fault_of_numbered_visits p 1 (visits p s w)
