-- Which member owns a path, given the members, that is, the packages that are installed after a change.
-- The rules are in `docs/commands.md`, "Files that several packages list"; the terms *claim*, *owner*,
-- *contested* and *rivals* in `docs/names.md`, "The installed database and a change of it".
use Rattle.std.specs.Prelude.{ℕ, ◌+◌, Bool, false, List, [], ◌∷◌, map, Option, Some, None, slice_get}
use Rattle.db_core.specs.Members.{Listing, Member, listings_of_members}
use Rattle.path_claims.specs.Claims.{ContestedPath, PathClaim, first_contested_path_in_byte_order, is_owning_member, owner_among}
use Rattle.file_owners.specs.Replaces.{takes_over}

-- ---- which member beats which

-- whether both members exist, and the first takes over the files of the second
abbrev pub takes_over_if_both_exist : Option Member → Option Member → Bool
takes_over_if_both_exist None y = false
takes_over_if_both_exist (Some x) None = false
takes_over_if_both_exist (Some x) (Some y) = takes_over x.pkg y.pkg

-- whether the member with the index x takes over the files of the member with the index y; false if there is no
-- member with one of these indexes
unfoldable pub member_beats : List Member → ℕ → ℕ → Bool
member_beats members x y = takes_over_if_both_exist (slice_get members x) (slice_get members y)

-- ---- what members claim

-- the claim of a listed file; the number says how many claims are before it in the list of all claims
abbrev pub indexed_claim_of_listing : ℕ → Listing → PathClaim
indexed_claim_of_listing number l = record {
  path = l.path;
  member = l.place;
  folder = l.folder;
  file = l.file;
  number = number;
}

-- the claims of the listings, in order; the first claim has the number `number`, and each further one a number that is
-- one more
abbrev pub claims_of_listings_indexed_from : ℕ → List Listing → List PathClaim
claims_of_listings_indexed_from number [] = []
claims_of_listings_indexed_from number (l ∷ listings) =
    indexed_claim_of_listing number l ∷ claims_of_listings_indexed_from (number + 1) listings

-- the claims of all members, in the order of members, folders and files, numbered from 0
unfoldable pub claims_in : List Member → List PathClaim
claims_in members = claims_of_listings_indexed_from 0 (listings_of_members members)

-- ---- who owns a path

-- the index of the member that owns the path; None if no member owns it
unfoldable pub owner_of_path : List Member → List ℕ → Option ℕ
owner_of_path members path = owner_among (member_beats members) (claims_in members) path

-- for each file that members list, in the order of members, folders and files, whether its member owns its path
unfoldable pub owned_flags_of : List Member → List Bool
owned_flags_of members =
    map (λ l. is_owning_member l.place (owner_of_path members l.path)) (listings_of_members members)

-- the first path in byte order that members list and no member owns, with its rivals: the first member that lists the
-- path, and the first other one that this member does not beat. None if each path has an owner
unfoldable pub first_contested_member_path_in_byte_order : List Member → Option ContestedPath
first_contested_member_path_in_byte_order members =
    first_contested_path_in_byte_order (member_beats members) (claims_in members)
