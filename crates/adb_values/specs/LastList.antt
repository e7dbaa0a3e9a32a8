-- The start of the list that was opened last in a draft, and the last word of a draft. Serves the inner contracts of
-- `src/draft.rt`.
use Rattle.std.specs.Prelude.{ℕ, ◌-◌, List, length, min, Option, Some, None, slice_get}
use Rattle.adb_values.specs.Drafts.{DraftState}

-- the last of some numbers, if there are any
abbrev pub last_of : List ℕ → Option ℕ
last_of xs = slice_get xs (length xs - 1)

-- how many of the `len` words of a draft precede the list that was opened last: `start`, but at most `len`; 0 if no
-- list is open (None)
abbrev pub open_list_start_within : Option ℕ → ℕ → ℕ
open_list_start_within None len = 0
open_list_start_within (Some start) len = min start len

-- how many words precede the list that was opened last: none if no list is open
abbrev pub last_open_list_start : DraftState → ℕ
last_open_list_start d = open_list_start_within (last_of d.starts) (length d.words)

-- a word, or NULL (0) if there is none
abbrev pub word_or_null : Option ℕ → ℕ
word_or_null None = 0
word_or_null (Some word) = word

-- the last of some words, or NULL if there are none
abbrev pub last_word : List ℕ → ℕ
last_word words = word_or_null (last_of words)
