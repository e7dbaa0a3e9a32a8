-- Leaves: values without values below them. Serves the walk in `src/walk.rt`; the kind of each field,
-- and that NULL is allowed for each kind, is defined in `docs/formats.md`, "The shape".
use Rattle.std.specs.Prelude.{ℕ, ◌+◌, Bool, ◌==◌, if◌then◌else◌, List, [], ◌∷◌, Option, None, is_some}
use Rattle.std.specs.Result.{result_err, result_ok}
use Rattle.adb_view.specs.Readers.{int_of, blob_of}
use Rattle.base_core.specs.declared.cause.Cause.{Cause}
use Rattle.adb_view.specs.declared.tables.Field.{Field}
use Rattle.adb_view.specs.declared.tables.Kind.{Kind}
use Rattle.adb_view.specs.declared.tables.Kind.TheVariants.{Int, Text, Hash, Obj, TextArr, ObjArr}

-- whether the word `w` of the payload `p` can be read as the kind demands and has no words below it: it is an
-- integer, a text or a hash, or it is NULL, which each kind allows
abbrev pub is_sound_leaf : List ℕ → Kind → ℕ → Bool
is_sound_leaf p Int w = is_some (result_ok (int_of p w))
is_sound_leaf p Text w = is_some (result_ok (blob_of p w))
is_sound_leaf p Hash w = is_some (result_ok (blob_of p w))
is_sound_leaf p (Obj which) w = w == 0
is_sound_leaf p TextArr w = w == 0
is_sound_leaf p (ObjArr which) w = w == 0

-- why the word `w` of the payload `p` cannot be read as a leaf of this kind; None if it can be read. An array and an
-- object are no leaves: for their kinds, the result is None too
abbrev pub leaf_fault : List ℕ → Kind → ℕ → Option Cause
leaf_fault p Int w = result_err (int_of p w)
leaf_fault p Text w = result_err (blob_of p w)
leaf_fault p Hash w = result_err (blob_of p w)
leaf_fault p (Obj which) w = None
leaf_fault p TextArr w = None
leaf_fault p (ObjArr which) w = None

-- how many of an object's words (`ws`), from the first on, are leaves that can be read, each as its field demands
abbrev pub leading_leaves : List ℕ → List Field → List ℕ → ℕ
leading_leaves p [] ws = 0
leading_leaves p (f ∷ fs) [] = 0
leading_leaves p (f ∷ fs) (w ∷ ws) = if is_sound_leaf p f.kind w then 1 + leading_leaves p fs ws
    else 0
