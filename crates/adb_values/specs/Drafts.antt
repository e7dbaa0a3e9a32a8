-- A draft (a payload that is still being written) as contracts see it, and the effect of each call: one more value, or
-- one more open list. The rule is in `docs/formats.md`, "Canonical layout" ("Values are written depth first"); in which
-- order calls are made is described in the README of this crate.
use Rattle.std.specs.Prelude.{ℕ, List, [], ◌∷◌, ◌++◌, length}
use Rattle.adb_view.specs.Plain.{Plain, Plains, none, more}
use Rattle.adb_write.specs.Writing.{Writing, empty_writing_counting_root, calls}

-- the state of a draft. A list is open until all of its entries are added. Only the definitions below use the fields
pub record DraftState : Type 0 where
  -- the state of its writer
  pub writing : Writing
  -- the words of the values that were added and are in no closed list
  pub words : List ℕ
  -- for each open list, in the order of opening, how many of these words were added before it
  pub starts : List ℕ

-- the draft with these fields: the state of the writer, the words, and the starts of the open lists
abbrev pub draft_from_parts : Writing → List ℕ → List ℕ → DraftState
draft_from_parts writing words starts = record { writing = writing; words = words; starts = starts }

-- a draft without a value
abbrev pub empty_draft : DraftState
empty_draft = draft_from_parts empty_writing_counting_root [] []

-- the draft d with one more value v, which is written depth first
unfoldable pub draft_with : Plain → DraftState → DraftState
draft_with v d =
    draft_from_parts (calls v d.writing).1 (d.words ++ (calls v d.writing).0 ∷ []) d.starts

-- the draft d with these values added, in order
abbrev pub draft_with_all : Plains → DraftState → DraftState
draft_with_all none d = d
draft_with_all (more v vs) d = draft_with_all vs (draft_with v d)

-- the draft d with one more open list, to which the values that follow are added
unfoldable pub draft_with_open_list : DraftState → DraftState
draft_with_open_list d = draft_from_parts d.writing d.words (d.starts ++ length d.words ∷ [])
