-- What the actions of an intent require of its names.
-- The rules are in `docs/formats.md`, "The texts", the row of 1001 and 1002, and "Names that stand
-- twice"; their purpose is in `docs/crash-safety.md`, "A change of several files".
use Rattle.std.specs.Prelude.{◌≡◌, ◌⊎◌, ◌≢◌, ℕ, zero, suc, ◌+◌, true, false, List, [], ◌∷◌}
use Rattle.std.specs.Str.{bytes_eq}
use Rattle.std.specs.List.{list_any}
use Rattle.base_core.specs.Name.{IsName}
use Rattle.adb_view.specs.Values.{text_in}
use Rattle.adb_view.specs.Plain.{Plains, none, more}
use Rattle.journal_intent.specs.Intent.{Intent, intent_name, is_staged, stage_name}

-- the name is an element of the list
abbrev pub IsOneOf : List ℕ → List (List ℕ) → Type 0
IsOneOf name names = list_any (bytes_eq name) names ≡ true

-- the name is no element of the list
abbrev pub IsNoneOf : List ℕ → List (List ℕ) → Type 0
IsNoneOf name names = list_any (bytes_eq name) names ≡ false

-- a free name, which the journal does not use: it is neither the intent's own nor in the staging area
pub record IsFreeName (name : List ℕ) : Type 0 where
  -- the name is not the intent's
  pub no_intent : name ≢ intent_name
  -- the name is not in the staging area
  pub unstaged : is_staged name ≡ false
  -- the name is not that of a staged file, whatever its number
  pub no_place : (k : ℕ) → name ≢ stage_name k

-- a name that the journal uses: the intent's own, or that of a staged file with some number
abbrev pub IsIntentNameOrNumberedStageName : List ℕ → Type 0
IsIntentNameOrNumberedStageName name = (name ≡ intent_name) ⊎ ((k : ℕ) × (name ≡ stage_name k))

-- each of these names is free
abbrev pub AreFreeNames : List (List ℕ) → Type 0
AreFreeNames [] = Unit {0}
AreFreeNames (name ∷ names) = IsFreeName name × AreFreeNames names

-- none of these names is repeated
abbrev pub HaveNoRepeats : List (List ℕ) → Type 0
HaveNoRepeats [] = Unit {0}
HaveNoRepeats (name ∷ names) = IsNoneOf name names × HaveNoRepeats names

-- the names of an intent are free, no written name is repeated, and no name is both written and removed; a removed
-- name may be repeated
pub record HasFreeNamesAndUnrepeatedWrites (intent : Intent) : Type 0 where
  -- no removed name is used by the journal
  pub removals : AreFreeNames intent.removals
  -- no written name is used by the journal
  pub writes : AreFreeNames intent.writes
  -- no name is written twice
  pub once : HaveNoRepeats intent.writes
  -- no name is both written and removed
  pub apart : (name : List ℕ) → IsOneOf name intent.writes → IsNoneOf name intent.removals

-- the names of the staged files from the number k on, as many as the second argument says
abbrev pub stage_names_from : ℕ → ℕ → List (List ℕ)
stage_names_from k zero = []
stage_names_from k (suc n) = stage_name k ∷ stage_names_from (k + 1) n

-- each of these plain values is a text that is a valid name of a tree
abbrev pub AllAreNames : Plains → Type 0
AllAreNames none = Unit {0}
AllAreNames (more v vs) = IsName (text_in v) × AllAreNames vs
