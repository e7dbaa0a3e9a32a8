-- The entry of a package in an index (apk-v3(5)): its info, with the package's id and the length of its
-- file.
-- The rule is in `docs/commands.md`, "`mkndx PACKAGE..`"; the id is defined in `docs/formats.md`, "The
-- other blocks".
use Rattle.std.specs.Prelude.{ℕ, List, length}
use Rattle.adb_view.specs.Plain.{Plain}
use Rattle.adb_view.specs.FieldIndexes.{PACKAGE_INFO_INDEX}
use Rattle.adb_view.specs.Values.{entry_at_index}
use Rattle.adb_copy.specs.Zeros.{info_without_zeros_with_id_and_file_size}
use Rattle.pkg_core.specs.Whole.{payload_sha256_of_package_file, package_with_contents}

-- the entry that an index has for the package in the file with these bytes
abbrev pub index_entry_of_package_file : List ℕ → Plain
index_entry_of_package_file file =
    info_without_zeros_with_id_and_file_size
    (entry_at_index (package_with_contents file).value PACKAGE_INFO_INDEX)
    (payload_sha256_of_package_file file)
    (length file)
