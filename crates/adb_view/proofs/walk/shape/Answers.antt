-- A walk that ends well found a value.
use Rattle.std.proofs.Common.{◌≡◌, ℕ, true, sym, subst}
use Rattle.adb_view.specs.Adb.{payload_of}
use Rattle.adb_view.specs.Values.{is_sound}
use Rattle.adb_view.specs.declared.tables.Kind.TheVariants as Kinds
use Rattle.adb_view.proofs.ShapeWalk.{walk_sound}
use Rattle.adb_view.proofs.walk.shape.Goals as goal

pub of-requires-clause-sound : goal.of-requires-clause-sound
of-requires-clause-sound c =
    let P : ℕ → Type 0 = λ w. is_sound (payload_of c.args.adb) (Kinds.Obj c.args.which) w ≡ true in
    subst P c.root.ensures
    (walk_sound c.value_is_found_where_visits_are_sound.ensures.word (payload_of c.args.adb) (Kinds.Obj c.args.which) c.root.result c.in-Ok.field-0 (sym c.in-Ok.ensures.exact))
