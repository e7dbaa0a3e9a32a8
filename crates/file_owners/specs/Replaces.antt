-- Which of two packages takes over the files of the other (apk-package(5), "replaces").
-- The rule is in `docs/commands.md`, "Files that several packages list".
use Rattle.std.specs.Prelude.{ℕ, ◌==◌, nat_lt, Bool, false, not, ◌&&◌, ◌||◌, List, Option, Some, None}
use Rattle.std.specs.List.{list_any}
use Rattle.adb_view.specs.Plain.{Plain}
use Rattle.adb_view.specs.FieldIndexes.{INFO_REPLACES_INDEX, INFO_VERSION_INDEX, PACKAGE_INFO_INDEX, PACKAGE_REPLACES_PRIORITY_INDEX}
use Rattle.adb_view.specs.Values.{entry_at_index, int_in, text_in}
use Rattle.path_claims.specs.adb_fields.Repeated.{entries_of_field_at_index, package_name}
use Rattle.version_core.specs.Order.{is_version}
use Rattle.dep_core.specs.Dependency.{Dependency}
use Rattle.dep_core.specs.Meets.{meets}
use Rattle.db_core.specs.adb_schema.Dependencies.{dependency_in}
use Rattle.base_core.specs.ByteOrder.{precedes}

-- the text of the version in the information of a package
abbrev pub package_version_text : Plain → List ℕ
package_version_text pkg =
    text_in (entry_at_index (entry_at_index pkg PACKAGE_INFO_INDEX) INFO_VERSION_INDEX)

-- whether a package with this name and version meets the dependency, which is that of an entry of `replaces`; false
-- if there is no dependency, or if it is a conflict
abbrev pub is_package_met_by_replaces_entry : Option Dependency → List ℕ → List ℕ → Bool
is_package_met_by_replaces_entry None name version = false
is_package_met_by_replaces_entry (Some d) name version = not d.conflict && meets d name (Some version)

-- whether the entry of a `replaces` names the package y: the entry is no conflict, and the name and the version of y,
-- which is valid, meet it
abbrev pub does_replaces_entry_name_package : Plain → Plain → Bool
does_replaces_entry_name_package entry y =
    is_version (package_version_text y)
    && is_package_met_by_replaces_entry (dependency_in entry) (package_name y) (package_version_text y)

-- whether the package x names the package y: an entry of the field `replaces` of x names y
unfoldable pub does_first_list_second_in_replaces : Plain → Plain → Bool
does_first_list_second_in_replaces x y =
    list_any (λ entry. does_replaces_entry_name_package entry y)
    (entries_of_field_at_index INFO_REPLACES_INDEX (entry_at_index x PACKAGE_INFO_INDEX))

-- the field `replaces-priority` of a package; 0 if the package has none
abbrev pub replacing_priority : Plain → ℕ
replacing_priority pkg = int_in (entry_at_index pkg PACKAGE_REPLACES_PRIORITY_INDEX)

-- whether x, of two packages that name each other, is preferred: x has the greater priority, or both have the same
-- priority and the name of x is later in byte order
unfoldable pub is_preferred_by_priority_or_later_name : Plain → Plain → Bool
is_preferred_by_priority_or_later_name x y =
    nat_lt (replacing_priority y) (replacing_priority x)
    || ((replacing_priority x == replacing_priority y)
    && precedes (package_name y) (package_name x))

-- whether the package x takes over the files of the package y: x names y, and either y does not
-- name x or x is preferred
unfoldable pub takes_over : Plain → Plain → Bool
takes_over x y =
    does_first_list_second_in_replaces x y
    && (not (does_first_list_second_in_replaces y x) || is_preferred_by_priority_or_later_name x y)
