-- What a crash leaves of a tree, and what holds at each moment of a run. The rules are in
-- `docs/crash-safety.md`, "What a crash leaves" and "Moments".
use Rattle.std.specs.Prelude.{◌≡◌, ℕ, true, List, ◌++◌, Option, Some, None, All}
use Rattle.base_core.specs.Files.{Files, NameMap}
use Rattle.base_core.specs.Tree.{TreeState, File, IsCurrentOrOlderMap, files_under_map}

-- what a crash may leave of the file with this number: its bytes if the file is synced, and any bytes if it is not.
-- Without a number (None) there is no file
abbrev pub CrashMayLeaveBytesOfFileNumber : (ℕ → File) → Option ℕ → Option (List ℕ) → Type 0
CrashMayLeaveBytesOfFileNumber files None bytes = bytes ≡ None
CrashMayLeaveBytesOfFileNumber files (Some n) None = ⊥
CrashMayLeaveBytesOfFileNumber files (Some n) (Some bytes) =
    (files n).synced ≡ true → bytes ≡ (files n).bytes

-- `image` are files that a crash may leave of the state `v` if it leaves this map of names
abbrev pub IsCrashImageUnderMap : TreeState → NameMap → Files → Type 0
IsCrashImageUnderMap v map image = (q : List ℕ) → CrashMayLeaveBytesOfFileNumber v.files (map q) (image q)

-- `image` are files that a crash may leave of the state `v` if it undoes only the newest changes of names: those under
-- the current map of names or an older one
abbrev pub IsCrashImageIfUndoneNewestFirst : TreeState → Files → Type 0
IsCrashImageIfUndoneNewestFirst v image =
    (map : NameMap) × IsCurrentOrOlderMap v map × IsCrashImageUnderMap v map image

-- a tree is durable if a crash undoes only the newest changes of names: each file that must be durable is synced, in
-- the current map of names and in each older map. The parameter `depends_on` says which names lead to such files, given
-- the files under that map: only a crate that can read the journal can define it
pub record IsDurableIfUndoneNewestFirst (depends_on : Files → List ℕ → Type 0)
    (v : TreeState) : Type 0 where
  -- in each such map, a file on which something depends is synced
  pub each : (map : NameMap) → IsCurrentOrOlderMap v map → (q : List ℕ) (n : ℕ)
      → depends_on (files_under_map v map) q
      → map q ≡ Some n → (v.files n).synced ≡ true

-- ---- moments: the states that were added to a history during some calls, the newest first

-- P holds of each state that was added between the histories `old` and `new`
pub record Since (P : TreeState → Type 0) (old new : List TreeState) : Type 0 where
  -- the states that were added, the newest first
  pub added : List TreeState
  -- the new history is these states before the old history
  pub is : new ≡ added ++ old
  -- each added state has the property P
  pub each : All P added
