-- What is staged for a change, and where its actions lead. It serves the law
-- `actions_lead_to_given_files`; the rules are in `docs/crash-safety.md`, "A change of several files".
use Rattle.std.specs.Prelude.{◌≡◌, ℕ, ◌<◌, ◌^◌, List, length, None, IsSome}
use Rattle.base_core.specs.Files.{Files}
use Rattle.journal_core.specs.Staged.{HasNoStagedNames}
use Rattle.journal_core.specs.journal_intent.FreeNames.{HasFreeNamesAndUnrepeatedWrites, IsNoneOf, IsOneOf}
use Rattle.journal_core.specs.journal_intent.IntentValue.{intent_of_lists}

-- a change has fewer writes than this limit, so that their number plus 1 fits into 64 bits
abbrev pub exclusive_write_count_limit : ℕ
exclusive_write_count_limit = 2 ^ 63

-- The files `after` are `files` with these names removed and written, and all others unchanged. The names may be in an
-- intent, nothing is staged in `files`, and the writes are fewer than their limit.
pub record CanStageActionsLeadingToFiles (removals writes : List (List ℕ))
    (files after : Files) : Type 0 where
  -- the names are not used by the journal; none is written twice, and none is both written and removed
  pub free : HasFreeNamesAndUnrepeatedWrites (intent_of_lists removals writes)
  -- there are fewer writes than the limit
  pub few : length writes < exclusive_write_count_limit
  -- nothing is staged in the files before
  pub empty : HasNoStagedNames files
  -- each written name has a file afterwards
  pub gives : (name : List ℕ) → IsOneOf name writes → IsSome (after name)
  -- each removed name has no file afterwards
  pub removes : (name : List ℕ) → IsOneOf name removals → after name ≡ None
  -- each other name has the same file, or none, as before
  pub keeps : (name : List ℕ) → IsNoneOf name removals → IsNoneOf name writes
      → after name ≡ files name
