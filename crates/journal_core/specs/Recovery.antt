-- What files stand for, that is, what recovery yields, even if a change was interrupted: all actions of the intent
-- are done, and hidden names are left out.
-- The rules are in `docs/crash-safety.md`, "What files stand for", the table.
use Rattle.std.specs.Prelude.{◌≡◌, ◌⊎◌, ◌≤◌, ◌<◌, ℕ, ◌+◌, Bool, false, ◌||◌, if◌then◌else◌, List, [], ◌∷◌, length, Option, Some, None}
use Rattle.std.specs.Str.{bytes_eq}
use Rattle.std.specs.List.{list_any}
use Rattle.base_core.specs.Files.{Files, drop_name, move_name}
use Rattle.base_core.specs.Tree.{TreeState}
use Rattle.base_core.specs.Undone.{IsCrashImage}
pub use Rattle.journal_intent.specs.Intent.{Intent, intent_name, intent_of_value, intent_unless_fault, is_staged, stage_folder, stage_name}
unfoldable pub use Rattle.journal_intent.specs.Intent.{read_intent}

-- ---- the intent

-- the intent that the file under the intent's name encodes; None if there is no file, or if it is
-- no intent container
abbrev pub intent_in_file : Option (List ℕ) → Option Intent
intent_in_file None = None
intent_in_file (Some file) = read_intent file

-- the intent among the files, if there is one
abbrev pub intent_of : Files → Option Intent
intent_of files = intent_in_file (files intent_name)

-- ---- its actions

-- the files without those under the names of the list
abbrev pub files_without_names : List (List ℕ) → Files → Files
files_without_names names files q = if list_any (bytes_eq q) names then None else files q

-- the files after the file under the name `from` is moved to `to`; the option has its bytes. Without bytes there is
-- no such file, and the files are unchanged
abbrev pub move_if_present : Files → List ℕ → List ℕ → Option (List ℕ) → Files
move_if_present files from to None = files
move_if_present files from to (Some bytes) = move_name files from to bytes

-- the files after the staged files with the numbers k, k + 1 and so on are moved to the names of the list, one by
-- one. A staged file that is absent was moved before
abbrev pub files_after_staged_moves_from : ℕ → List (List ℕ) → Files → Files
files_after_staged_moves_from k [] files = files
files_after_staged_moves_from k (name ∷ names) files =
    files_after_staged_moves_from (k + 1) names
    (move_if_present files (stage_name k) name (files (stage_name k)))

-- the files after all actions of an intent: first the removals, then the moves, of which the first
-- moves the staged file with the number 1
abbrev pub files_after_actions : Intent → Files → Files
files_after_actions intent files =
    files_after_staged_moves_from 1 intent.writes (files_without_names intent.removals files)

-- ---- what recovery yields

-- the files after all actions of the intent are done, and the intent is removed. They are unchanged without an intent
abbrev pub files_after_intent : Option Intent → Files → Files
files_after_intent None files = files
files_after_intent (Some intent) files = drop_name (files_after_actions intent files) intent_name

-- The files that recovery yields, before it removes staged files. All actions of the intent in `files` are done, and the
-- intent is removed. The files are unchanged if there is no intent, or if its file is no intent container
abbrev pub recovered_files : Files → Files
recovered_files files = files_after_intent (intent_of files) files

-- whether a state leaves a name out: the name is in the staging area, or `ignored` is true of it
abbrev pub is_hidden : (List ℕ → Bool) → List ℕ → Bool
is_hidden ignored name = is_staged name || ignored name

-- the state of files: what recovery yields, without hidden names. An intent is no part of it, but a file under the
-- intent's name that is no intent container is
abbrev pub state_of : (List ℕ → Bool) → Files → Files
state_of ignored files q = if is_hidden ignored q then None else recovered_files files q

-- ---- order

-- the name is that of a file that is staged for a write of this intent; there is none without an intent
abbrev pub IsStagedNameOf : Option Intent → List ℕ → Type 0
IsStagedNameOf None q = ⊥
IsStagedNameOf (Some intent) q = (k : ℕ) × (1 ≤ k) × (k < 1 + length intent.writes) × (q ≡ stage_name k)

-- the state of the files depends on the file under the name `q`: this name is the intent's, or is not hidden, or is
-- that of a file that is staged for a write of the intent among the files
abbrev pub StateDependsOn : (List ℕ → Bool) → Files → List ℕ → Type 0
StateDependsOn ignored files q =
    (q ≡ intent_name) ⊎ ((is_hidden ignored q ≡ false) ⊎ IsStagedNameOf (intent_of files) q)

-- ---- what a crash leaves, as states

-- each crash of the tree `v` leaves files whose state is that of `files`
abbrev pub EachCrashLeavesStateOf : (List ℕ → Bool) → Files → TreeState → Type 0
EachCrashLeavesStateOf ignored files v =
    (image : Files) → IsCrashImage v image → state_of ignored image ≡ state_of ignored files

-- each crash of the tree `v` leaves a state that a crash of the tree `start` might have left, or the state of `files`
abbrev pub EachCrashLeavesOldOrNew : (List ℕ → Bool) → TreeState → Files → TreeState → Type 0
EachCrashLeavesOldOrNew ignored start files v = (image : Files) → IsCrashImage v image
    → ((was : Files) × IsCrashImage start was × (state_of ignored image ≡ state_of ignored was))
    ⊎ (state_of ignored image ≡ state_of ignored files)
