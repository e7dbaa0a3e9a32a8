-- The dependency of an entry in a list of dependencies. Dependencies are defined in `docs/formats.md`,
-- "Dependencies"; their fields in "Schemas", table 1.
use Rattle.std.specs.Prelude.{Option}
use Rattle.adb_view.specs.Plain.{Plain}
use Rattle.adb_view.specs.FieldIndexes.{DEP_MATCH_INDEX, DEP_NAME_INDEX, DEP_VERSION_INDEX}
use Rattle.adb_view.specs.Values.{entry_at_index, int_in, text_in}
use Rattle.dep_core.specs.Dependency.{Dependency}
use Rattle.dep_core.specs.ValueReading.{dependency_of_value}

-- the dependency of a value of table 1, by its name, its version and its match number; None if these
-- denote none, which never happens in a tested container
abbrev pub dependency_in : Plain → Option Dependency
dependency_in value =
    dependency_of_value (text_in (entry_at_index value DEP_NAME_INDEX))
    (text_in (entry_at_index value DEP_VERSION_INDEX))
    (int_in (entry_at_index value DEP_MATCH_INDEX))
