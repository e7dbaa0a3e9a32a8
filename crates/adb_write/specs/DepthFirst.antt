-- When a writer wrote values depth first between two of its states: for each list its values in order,
-- then the list. The rule is in `docs/formats.md`, "Canonical layout" ("Values are written depth first").
use Rattle.std.specs.Prelude.{◌≡◌, ℕ, List}
use Rattle.adb_view.specs.Plain.{Plain, Plains, none, more}
use Rattle.adb_write.specs.Writing.{Writing, calls, calls_all}

-- from the state `before` to the state `later` a writer wrote the value v depth first; `word` is the word of v
pub record WritesValueDepthFirst (before : Writing) (v : Plain) (word : ℕ) (later : Writing) : Type 0 where
  -- the calls that write v depth first return this word, and lead from `before` to `later`
  pub is : ◌≡◌ {A = ℕ × Writing} (word, later) (calls v before)

-- from the state `before` to the state `later` a writer wrote these values in order; `words` are their words
pub record WritesValuesDepthFirst (before : Writing) (vs : Plains) (words : List ℕ)
    (later : Writing) : Type 0 where
  -- the calls that write the values in order return these words, and lead from `before` to `later`
  pub is : ◌≡◌ {A = List ℕ × Writing} (words, later) (calls_all vs before)

-- the values of a list with one more after them
abbrev pub push : Plains → Plain → Plains
push none v = more v none
push (more u us) v = more u (push us v)
