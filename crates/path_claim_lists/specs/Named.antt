-- Claims whose paths are names.
-- `docs/commands.md`, "Words", says which bytes are a name. It serves the contracts of `name_of_path`
-- and `names_of_claims`.
use Rattle.std.specs.Prelude.{◌≡◌, ℕ, List, Some, slice_get}
use Rattle.base_core.specs.Name.{IsName}
use Rattle.path_claims.specs.Claims.{PathClaim}

-- the path of each of these claims is a name of a tree: UTF-8 of 1 to 1,024 bytes, with no empty part, and no part `.`
-- or `..`
abbrev pub HaveValidPaths : List PathClaim → Type 0
HaveValidPaths claims = (i : ℕ) (c : PathClaim) → slice_get claims i ≡ Some c → IsName c.path
