-- What a crash leaves of a tree if it may undo any of the changes of names since the last `sync_names`,
-- each as a whole. The rules are in `docs/crash-safety.md`, "What a crash leaves".
use Rattle.std.specs.Prelude.{◌≡◌, ◌⊎◌, ℕ, Bool, true, false, if◌then◌else◌, ◌==◌, List, [], ◌∷◌, Option, Some, None}
use Rattle.base_core.specs.Files.{Files, NameMap}
use Rattle.base_core.specs.Tree.{TreeState, files_under_map, files_of}
use Rattle.base_core.specs.Crash.{IsCrashImageUnderMap}

-- whether two entries of maps of names are equal: both have the same file number, or neither has a number
abbrev pub lead_to_same_file : Option ℕ → Option ℕ → Bool
lead_to_same_file None None = true
lead_to_same_file None (Some n) = false
lead_to_same_file (Some m) None = false
lead_to_same_file (Some m) (Some n) = m == n

-- `map` with the change from the map `old` to the next newer map `new`: each name that leads elsewhere in `new` than in
-- `old` leads where it leads in `new`; each other name leads where it leads in `map`
abbrev pub with_change_replayed : NameMap → NameMap → NameMap → NameMap
with_change_replayed old new map q = if lead_to_same_file (old q) (new q) then map q else new q

-- A crash may leave the map `map`, given the newest map and the older ones. If there is no older map, it leaves the
-- newest. Otherwise it leaves a map that it may leave of the older ones, with the change to the newest map or without.
abbrev pub CrashOfMapsMayLeaveMap : NameMap → List NameMap → NameMap → Type 0
CrashOfMapsMayLeaveMap new [] map = map ≡ new
CrashOfMapsMayLeaveMap new (old ∷ older) map =
    ((kept : NameMap) × CrashOfMapsMayLeaveMap old older kept × (map ≡ with_change_replayed old new kept))
    ⊎ CrashOfMapsMayLeaveMap old older map

-- a crash may leave this map of names: any of the changes of names since their last sync may be undone
abbrev pub IsCrashMap : TreeState → NameMap → Type 0
IsCrashMap v map = CrashOfMapsMayLeaveMap v.names v.older map

-- `image` are files that a crash may leave of the state `v`: those under a map of names that it may leave
abbrev pub IsCrashImage : TreeState → Files → Type 0
IsCrashImage v image = (map : NameMap) × IsCrashMap v map × IsCrashImageUnderMap v map image

-- a tree is durable: each file that must be durable is synced, in each map of names that a crash may leave. The
-- parameter `depends_on` says which names lead to such files, given the files under that map: only a crate that can
-- read the journal can define it
pub record IsDurable (depends_on : Files → List ℕ → Type 0) (v : TreeState) : Type 0 where
  -- in each such map, a file on which something depends is synced
  pub each : (map : NameMap) → IsCrashMap v map → (q : List ℕ) (n : ℕ)
      → depends_on (files_under_map v map) q
      → map q ≡ Some n → (v.files n).synced ≡ true

-- `w` is the state of a tree after a crash of the state `v`: it has one map of names, and each of its files is synced
pub record IsAfterCrash (v w : TreeState) : Type 0 where
  -- the files of `w`, as read, are files that a crash may leave of `v`
  pub left : IsCrashImage v (files_of w)
  -- no change of names can be undone any more
  pub one_map : w.older ≡ []
  -- each file that a name leads to is synced
  pub synced : (q : List ℕ) (n : ℕ) → w.names q ≡ Some n → (w.files n).synced ≡ true
