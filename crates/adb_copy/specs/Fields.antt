-- Adjacent fields of an object. No rule of a document: serves the contracts of `write_ints` and
-- `write_info_texts` in `src/copy.rt`. That 0 is Null is stated in `docs/formats.md`, "The database
-- after a change". The fields of a package's information are in "Schemas", table 3.
use Rattle.std.specs.Prelude.{ℕ, List, [], ◌∷◌}
use Rattle.adb_view.specs.Plain.{Plain, Plains, none, more}
use Rattle.adb_view.specs.FieldIndexes.{INFO_ARCH_INDEX, INFO_DESCRIPTION_INDEX, INFO_LICENSE_INDEX, INFO_MAINTAINER_INDEX, INFO_NAME_INDEX, INFO_ORIGIN_INDEX, INFO_REPO_COMMIT_INDEX, INFO_URL_INDEX, INFO_VERSION_INDEX}
use Rattle.adb_view.specs.Values.{entry_at_index, text_in}
use Rattle.adb_copy.specs.Zeros.{int_or_null}

-- the values of some integers, in their order: each is an integer, or Null for 0
abbrev pub ints_or_nulls : List ℕ → Plains
ints_or_nulls [] = none
ints_or_nulls (n ∷ ns) = more (int_or_null n) (ints_or_nulls ns)

-- the texts and hashes with which a package's information begins: its first ten fields, with `id` in place of the
-- field `hashes`
abbrev pub info_texts : Plain → List ℕ → List (List ℕ)
info_texts info id =
    text_in (entry_at_index info INFO_NAME_INDEX) ∷ text_in (entry_at_index info INFO_VERSION_INDEX) ∷ id
    ∷ text_in (entry_at_index info INFO_DESCRIPTION_INDEX) ∷ text_in (entry_at_index info INFO_ARCH_INDEX)
    ∷ text_in (entry_at_index info INFO_LICENSE_INDEX) ∷ text_in (entry_at_index info INFO_ORIGIN_INDEX)
    ∷ text_in (entry_at_index info INFO_MAINTAINER_INDEX) ∷ text_in (entry_at_index info INFO_URL_INDEX)
    ∷ text_in (entry_at_index info INFO_REPO_COMMIT_INDEX) ∷ []
