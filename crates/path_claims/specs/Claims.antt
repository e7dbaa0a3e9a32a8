-- Claims, the members that claim a path, and the member that owns it.
-- The rules are in `docs/commands.md`, "Files that several packages list"; the terms *claim*, *owner*,
-- *contested* and *rivals* in `docs/names.md`, "The installed database and a change of it".
use Rattle.std.specs.Prelude.{◌≡◌, ℕ, ◌==◌, Bool, false, List, map, Option, Some, None, is_none, option_map, option_and_then, slice_get, bytes_eq}
use Rattle.std.specs.List.{filter, find}
use Rattle.std.specs.Ordering.{on}
use Rattle.std.specs.declared.cmp.Ordering.{Ordering}
use Rattle.base_core.specs.ByteOrder.{bytes_cmp}
use Rattle.base_core.specs.Sorted.{sorted_by}
use Rattle.path_claims.specs.Contest.{member_beating_all_others, first_with_unbeaten_rival}
use Rattle.path_claims.specs.declared.contest.Rivals.{Rivals}

-- a claim: an entry for a file in a member, that is, in a package installed after a change
pub record PathClaim : Type 0 where
  -- the path of the file
  pub path : List ℕ
  -- the index of the member that lists the file
  pub member : ℕ
  -- the position of the folder in the member's package, counted from 1
  pub folder : ℕ
  -- the position of the file in the folder, counted from 1
  pub file : ℕ
  -- how many claims are before this one in the list of the claims of all members
  pub number : ℕ

-- the number of each claim is its index in the list
abbrev pub AreNumberedByPlace : List PathClaim → Type 0
AreNumberedByPlace claims = (i : ℕ) (c : PathClaim) → slice_get claims i ≡ Some c → c.number ≡ i

-- whether the claim has this path
abbrev pub is_claim_of_path : List ℕ → PathClaim → Bool
is_claim_of_path path c = bytes_eq c.path path

-- the indexes of the members that claim the path, in the order of the claims; a member may be repeated
abbrev pub claimants : List PathClaim → List ℕ → List ℕ
claimants claims path = map (λ c. c.member) (filter (is_claim_of_path path) claims)

-- the index of the owner of the path, by these claims: the member that claims the path and beats every other one that
-- does; None if there is none. `beats` says whether the first of two members beats the second
abbrev pub owner_among : (ℕ → ℕ → Bool) → List PathClaim → List ℕ → Option ℕ
owner_among beats claims path = member_beating_all_others beats (claimants claims path)

-- whether there is an owner, the option, and it is the member `m`
abbrev pub is_owning_member : ℕ → Option ℕ → Bool
is_owning_member m None = false
is_owning_member m (Some owner) = m == owner

-- whether the claim's member owns the claim's path, by these claims
abbrev pub is_claim_of_owner : (ℕ → ℕ → Bool) → List PathClaim → PathClaim → Bool
is_claim_of_owner beats claims c = is_owning_member c.member (owner_among beats claims c.path)

-- the order of two claims: the byte order of their paths
unfoldable pub claim_cmp : PathClaim → PathClaim → Ordering
claim_cmp = on (λ c. c.path) bytes_cmp

-- the first path in byte order that members claim and no member owns, if there is one
abbrev pub first_path_without_owner_in_byte_order : (ℕ → ℕ → Bool) → List PathClaim → Option (List ℕ)
first_path_without_owner_in_byte_order beats claims =
    find (λ path. is_none (owner_among beats claims path))
    (sorted_by bytes_cmp (map (λ c. c.path) claims))

-- a contested path, and its rivals: two members that claim it, the first of which does not beat the second
pub record ContestedPath : Type 0 where
  -- the path that no member owns
  pub path : List ℕ
  -- the two members that are reported for the path
  pub rivals : Rivals

-- the path, with the first member that claims it and the first other one that this one does not beat; None if the
-- first member beats all others
abbrev pub path_with_rivals_of_first_claimant : (ℕ → ℕ → Bool) → List PathClaim → List ℕ
    → Option ContestedPath
path_with_rivals_of_first_claimant beats claims path =
    option_map (λ rivals. record { path = path; rivals = rivals })
    (first_with_unbeaten_rival beats (claimants claims path))

-- the first path in byte order that members claim and no member owns, with its rivals; None if each has an owner
unfoldable pub first_contested_path_in_byte_order : (ℕ → ℕ → Bool) → List PathClaim → Option ContestedPath
first_contested_path_in_byte_order beats claims =
    option_and_then (path_with_rivals_of_first_claimant beats claims)
    (first_path_without_owner_in_byte_order beats claims)
