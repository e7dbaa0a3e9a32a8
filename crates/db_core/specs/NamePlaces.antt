-- The names of packages in byte order, for binary search.
-- The rule is in `docs/DECISIONS.md`, "The installed database". Serves the contracts of
-- `src/name_places.rt`.
use Rattle.std.specs.Prelude.{ℕ, ◌+◌, List, [], ◌∷◌, Option, bytes_eq, option_map}
use Rattle.std.specs.List.{find}
use Rattle.std.specs.Ordering.{on}
use Rattle.std.specs.declared.cmp.Ordering.{Ordering}
use Rattle.base_core.specs.ByteOrder.{bytes_cmp}
use Rattle.base_core.specs.Sorted.{sorted_by}
use Rattle.adb_view.specs.Plain.{Plain}
use Rattle.pkg_core.specs.adb_fields.Repeated.{package_name}

-- the name of a package, and its place, which counts from 0
pub record NameWithPlace : Type 0 where
  -- the name of the package
  pub name : List ℕ
  -- the place of the package in a list, counted from 0
  pub place : ℕ

-- the names of packages with their places; the first of the packages is at the place `place`
abbrev pub placed_names_from : ℕ → List Plain → List NameWithPlace
placed_names_from place [] = []
placed_names_from place (pkg ∷ packages) =
    record { name = package_name pkg; place = place } ∷ placed_names_from (place + 1) packages

-- the order of names with their places: the byte order of the names
unfoldable pub placed_name_cmp : NameWithPlace → NameWithPlace → Ordering
placed_name_cmp = on (λ n. n.name) bytes_cmp

-- the names of packages with their places, in byte order of the names
abbrev pub placed_names_in_order : List Plain → List NameWithPlace
placed_names_in_order packages = sorted_by placed_name_cmp (placed_names_from 0 packages)

-- the place of the first name of the list that is this one, if one is
abbrev pub place_under_name : List ℕ → List NameWithPlace → Option ℕ
place_under_name name names = option_map (λ n. n.place) (find (λ n. bytes_eq n.name name) names)
