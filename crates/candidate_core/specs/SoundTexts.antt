-- Packages whose texts obey their rules, as in a tested container. The rules are in `docs/formats.md`,
-- "The texts": fields 101 to 103 for the entries of `depends`, `provides` and `install-if`, and 302 for
-- the version.
use Rattle.std.specs.Prelude.{◌≡◌, ◌<◌, ℕ, true}
use Rattle.version_core.specs.Order.{is_version}
use Rattle.adb_view.specs.Plain.{Plain}
use Rattle.adb_view.specs.FieldIndexes.{INFO_DEPENDS_INDEX, INFO_INSTALL_IF_INDEX, INFO_PROVIDES_INDEX, INFO_VERSION_INDEX}
use Rattle.adb_view.specs.Values.{count_of, entries_in, entry_at_index, text_in}
use Rattle.adb_schema.specs.SoundValues.{ObeysTextAndNumberRulesOfDependency}

-- each entry of the list, which is the value of a field, is a dependency
abbrev pub HasSoundEntries : Plain → Type 0
HasSoundEntries list = (i : ℕ) → i < count_of (entries_in list)
    → ObeysTextAndNumberRulesOfDependency (entry_at_index list i)

-- the texts of a package's information obey their rules: the text of the version is a version, and each entry of
-- `depends`, `provides` and `install-if` is a dependency
pub record HasSoundTexts (info : Plain) : Type 0 where
  -- the text of the version is a version
  pub version : is_version (text_in (entry_at_index info INFO_VERSION_INDEX)) ≡ true
  -- each entry of these three lists is a dependency
  pub depends : HasSoundEntries (entry_at_index info INFO_DEPENDS_INDEX)
  pub provides : HasSoundEntries (entry_at_index info INFO_PROVIDES_INDEX)
  pub install_if : HasSoundEntries (entry_at_index info INFO_INSTALL_IF_INDEX)
