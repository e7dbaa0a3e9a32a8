-- When the field `replaces` of one package names another package. The rule is in `docs/commands.md`, "Files that
-- several packages list". Serves the laws of `src/replaces.rt`.
use Rattle.std.specs.Prelude.{◌≡◌, true, false, Some}
use Rattle.change_outcome.specs.adb_fields.Repeated.{entries_of_field_at_index, package_name}
use Rattle.tell_core.specs.adb_schema.Dependencies.{dependency_in}
use Rattle.adb_view.specs.FieldIndexes.{INFO_REPLACES_INDEX, PACKAGE_INFO_INDEX}
use Rattle.adb_view.specs.Plain.{Plain}
use Rattle.adb_view.specs.Values.{entry_at_index}
use Rattle.base_core.specs.Lists.{IsIn}
use Rattle.dep_core.specs.Dependency.{Dependency}
use Rattle.dep_core.specs.Meets.{constraint_accepts}
use Rattle.tell_core.specs.file_owners.Replaces.{package_version_text}
use Rattle.version_core.specs.Order.{is_version}

-- an entry of the field `replaces` of `pkg`, which is no conflict, has the own name of `other` and accepts the own
-- version of `other`
pub record HasReplacesEntryForOther (pkg other : Plain) : Type 0 where
  -- an entry of the package's `replaces`
  pub entry : Plain
  -- the entry is in this field of the package
  pub listed : IsIn entry (entries_of_field_at_index INFO_REPLACES_INDEX
      (entry_at_index pkg PACKAGE_INFO_INDEX))
  -- the dependency that the entry is
  pub dependency : Dependency
  -- the value of the entry is this dependency
  pub read : dependency_in entry ≡ Some dependency
  -- the dependency is no conflict
  pub positive : dependency.conflict ≡ false
  -- the dependency has the name of the other package
  pub name : dependency.name ≡ package_name other
  -- the version text of the other package is a version
  pub version : is_version (package_version_text other) ≡ true
  -- the dependency accepts this version
  pub wanted : constraint_accepts dependency.version dependency.bits (Some (package_version_text other))
      ≡ true
