-- What the information of a package says of its file.
-- The rule is in `docs/formats.md`, "The database after a change": a kept package has every field unchanged, so
-- also `file-size`. The definition serves the law `a_package_keeps_its_information`.
use Rattle.std.specs.Prelude.{ℕ}
use Rattle.adb_view.specs.Plain.{Plain}
use Rattle.adb_view.specs.FieldIndexes.{INFO_FILE_SIZE_INDEX, PACKAGE_INFO_INDEX}
use Rattle.adb_view.specs.Values.{entry_at_index, int_in}

-- the length of the package's file, as its information gives it; 0 if it gives none
abbrev pub file_size_in_info_of_package : Plain → ℕ
file_size_in_info_of_package pkg =
    int_in (entry_at_index (entry_at_index pkg PACKAGE_INFO_INDEX) INFO_FILE_SIZE_INDEX)
