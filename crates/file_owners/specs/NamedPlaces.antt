-- The indexes of the members that a package names by its field `replaces`.
-- The rule is in `docs/commands.md`, "Files that several packages list" (*names*). Serves the
-- contracts of `src/named.rt`.
use Rattle.std.specs.Prelude.{◌≡◌, ℕ, ◌==◌, List, length, Some, slice_get}
use Rattle.std.specs.List.{list_any}
use Rattle.std.specs.List.Sorted.{IsSorted}
use Rattle.std.specs.Ordering.{nat_cmp}
use Rattle.adb_view.specs.Plain.{Plain}
use Rattle.db_core.specs.Members.{Member}
use Rattle.file_owners.specs.Replaces.{does_first_list_second_in_replaces}

-- `places` are, in rising order, the indexes of the members that the package names
pub record ArePlacesOfNamedMembers (members : List Member) (pkg : Plain) (places : List ℕ) : Type 0 where
  -- the indexes are in rising order; an index may be repeated
  pub rising : IsSorted nat_cmp places
  -- the package names the member with the index y exactly if y is in the list
  pub named : (y : ℕ) (m : Member) → slice_get members y ≡ Some m
      → list_any (λ place. place == y) places ≡ does_first_list_second_in_replaces pkg m.pkg

-- `named` has, for each member, in order, the indexes of the members that it names
pub record ArePlacesNamedByEachMember (members : List Member) (named : List (List ℕ)) : Type 0 where
  -- there is one list for each member
  pub long : length named ≡ length members
  -- the list of each member has the indexes of the members that it names
  pub each : (x : ℕ) (m : Member) (places : List ℕ) → slice_get members x ≡ Some m
      → slice_get named x ≡ Some places → ArePlacesOfNamedMembers members m.pkg places
