-- The writes of a plan as contracts see them.
-- The rule is in `docs/commands.md`, "What a change does with files": a file that is written takes its
-- path, or is written aside as `PATH.apk-new`.
use Rattle.std.specs.Prelude.{◌≡◌, ℕ, ◌≤◌, List, Some, length, map, slice_get}
use Rattle.std.specs.Ordering.{on}
use Rattle.std.specs.declared.cmp.Ordering.{Ordering}
use Rattle.base_core.specs.Name.{IsName}
use Rattle.base_core.specs.ByteOrder.{bytes_cmp}
use Rattle.path_claim_lists.specs.path_claims.Claims.{PathClaim}
use Rattle.own_core.specs.Fate.{apk_new_name, most_name_bytes}
use Rattle.own_core.specs.PlanLists.{FileWrite}
use Rattle.own_core.specs.declared.writes.Write.{Write}
use Rattle.own_core.specs.declared.writes.Writes.{Writes}

-- a `Write` of the program as a *FileWrite* of `PlanLists`
abbrev pub write_seen : Write → FileWrite
write_seen w = record { name = w.name; member = w.member; folder = w.path; file = w.file }

-- the writes of a plan as contracts see them, in their order
abbrev pub writes_in : Writes → List FileWrite
writes_in writes = map write_seen writes.writes.items

-- the write of the claim's file under this name
abbrev pub write_of_claim_under : List ℕ → PathClaim → FileWrite
write_of_claim_under name c = record { name = name; member = c.member; folder = c.folder; file = c.file }

-- the write of the claim's file under its own path
abbrev pub claim_write : PathClaim → FileWrite
claim_write c = write_of_claim_under c.path c

-- the write of the claim's file aside, as `PATH.apk-new`
abbrev pub apk_new_write : PathClaim → FileWrite
apk_new_write c = write_of_claim_under (apk_new_name c.path) c

-- the order of writes: the byte order of their names
abbrev pub write_cmp : FileWrite → FileWrite → Ordering
write_cmp = on (λ w. w.name) bytes_cmp

-- the path of the claim is a name, and `PATH.apk-new` is not too long for a name
pub record CanHaveApkNewName (c : PathClaim) : Type 0 where
  -- the path is a name of a tree
  pub name : IsName c.path
  -- the path with `.apk-new` is not too long for a name
  pub short : length (apk_new_name c.path) ≤ most_name_bytes

-- the path of each of these claims is a name, and `PATH.apk-new` is not too long for a name
abbrev pub CanHaveApkNewNames : List PathClaim → Type 0
CanHaveApkNewNames claims = (i : ℕ) (c : PathClaim) → slice_get claims i ≡ Some c → CanHaveApkNewName c
