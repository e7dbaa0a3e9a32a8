-- Small entries of files, for rows that are worked by hand.
use Rattle.std.specs.Prelude.{ℕ, List, [], ◌∷◌}
use Rattle.adb_view.specs.Plain.{Plain, null, int, Plains, none, more, blob_or_null, trimmed_object_or_null}

abbrev pub values : List Plain → Plains
values [] = none
values (v ∷ vs) = more v (values vs)

abbrev pub plain_file : List ℕ → ℕ → List ℕ → Plain
plain_file name size hash = trimmed_object_or_null (values (blob_or_null name ∷ null ∷ int size ∷ null ∷ blob_or_null hash ∷ []))

abbrev pub link : List ℕ → List ℕ → Plain
link name text =
    trimmed_object_or_null (values (blob_or_null name ∷ null ∷ null ∷ null ∷ null ∷ blob_or_null (0 ∷ 160 ∷ text) ∷ []))
