-- Small packages, for rows that are worked by hand.
use Rattle.std.specs.Prelude.{ℕ, List, [], ◌∷◌, codes}
use Rattle.adb_view.specs.Plain.{Plain, null, blob_or_null, array_or_null, trimmed_object_or_null}
use Rattle.base_core.specs.Files.{Files, no_names, put_name}
use Rattle.file_owners.specs.db_core.Members.{Listing}
use Rattle.file_guard.proofs.Sample.{values}

abbrev pub folder : List ℕ → List Plain → Plain
folder name files = trimmed_object_or_null (values (blob_or_null name ∷ null ∷ array_or_null (values files) ∷ []))

abbrev pub need : List ℕ → Plain
need name = trimmed_object_or_null (values (blob_or_null name ∷ []))

abbrev pub info : List ℕ → List ℕ → List Plain → Plain
info name version replaces =
    trimmed_object_or_null (values (blob_or_null name ∷ blob_or_null version ∷ null ∷ null ∷ null ∷ null ∷ null ∷ null ∷ null ∷ null ∷ null ∷ null ∷ null ∷ null ∷ null ∷ null ∷ array_or_null (values replaces) ∷ []))

abbrev pub package_with : Plain → List Plain → Plain
package_with about folders = trimmed_object_or_null (values (about ∷ array_or_null (values folders) ∷ []))

abbrev pub with_file : List ℕ → List ℕ → Files
with_file name bytes = put_name no_names name bytes

abbrev pub new_bytes : Listing → List ℕ
new_bytes l = codes "new"
