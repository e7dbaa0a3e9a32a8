-- Reading back, for whole values of a table.
use Rattle.std.proofs.Common.{◌≡◌, ◌≢◌, ℕ, true, List, [], ◌∷◌, Some, Ok, refl, sym, ap, subst, ◌∙◌}
use Rattle.std.specs.Prelude.{option_map}
use Rattle.hex.specs.Hex.{encode_with}
use Rattle.std.proofs.lemmas.Bool.{and_from}
use Rattle.adb_view.specs.Plain.{Plain, null, int, blob, arr, obj, Shape, IsNormal}
use Rattle.adb_view.specs.Schema.{shape_of, shapes_of, table}
use Rattle.adb_schema.specs.Soundness.{header_schema_if_root_table}
use Rattle.adb_view.specs.declared.tables.Which.{Which}
use Rattle.adb_view.specs.declared.tables.Which.TheVariants.{Dep, Acl, PkgInfo, File, Dir, Scripts, Package, Index, Idb, Intent}
use Rattle.adb_view.specs.declared.tables.Kind.TheVariants.{Obj}
use Rattle.adb_view.specs.Shapes.{object_shape}
use Rattle.adb_dump.specs.Dump.{Line, block_lines, dump_lines, dump_text, schema_line_or_empty_line, object_lines_by_table}
use Rattle.base_core.specs.Lists.{and_then}
use Rattle.adb_dump.specs.ReadBack.{block_read, lines_of_text_if_all_ended, value_of_lines_below_schema_line}
use Rattle.adb_dump.specs.Values.{IsOfBytes, IsNormalValueOfTable}
use Rattle.adb_dump.proofs.BlockLines.{no_lines, object_block}
use Rattle.adb_dump.proofs.ValueBack.{no_end, is_named, block_back}
use Rattle.adb_dump.proofs.TextLines.{block_end, lines_of-text}
use Rattle.adb_view.proofs.FoundShapes.{shape_null}
use Rattle.adb_dump.proofs.ReadOnly.{block_only}

table_named : (which : Which) → is_named (shape_of (Obj which)) ≡ true
unfolding is_named shape_of
table_named Dep = refl
table_named Acl = refl
table_named PkgInfo = refl
table_named File = refl
table_named Dir = refl
table_named Scripts = refl
table_named Package = refl
table_named Index = refl
table_named Idb = refl
table_named Intent = refl

null_lines : (which : Which) → object_lines_by_table which null ≡ []
null_lines which = ap (λ (s : Shape). block_lines s null) (object_shape which) ∙ object_block _ (shapes_of (table which)) null ∙ no_lines (shapes_of (table which))

some_back : (which : Which) (v : Plain) → v ≢ null → IsNormalValueOfTable which v → IsOfBytes v → value_of_lines_below_schema_line which (object_lines_by_table which v) ≡ Ok v
some_back which v ne is b =
    let r = block_back (shape_of (Obj which)) (table_named which) v ne is.0 is.1 b in
    ap (value_of_lines_below_schema_line which) r.lines ∙ ap (block_read (shape_of (Obj which))) (sym r.lines) ∙ r.back

pub read_back : (which : Which) (v : Plain) → IsNormalValueOfTable which v → IsOfBytes v → value_of_lines_below_schema_line which (object_lines_by_table which v) ≡ Ok v
read_back which null is b = ap (value_of_lines_below_schema_line which) (null_lines which)
read_back which (int n) is b = some_back which (int n) (λ e. cc) is b
read_back which (blob x) is b = some_back which (blob x) (λ e. cc) is b
read_back which (arr vs) is b = some_back which (arr vs) (λ e. cc) is b
read_back which (obj vs) is b = some_back which (obj vs) (λ e. cc) is b

null_value : (which : Which) → IsNormalValueOfTable which null
unfolding IsNormal
null_value which = (tt, shape_null (shape_of (Obj which)))

pub only_values : (which : Which) (ls : List Line) (v : Plain) → value_of_lines_below_schema_line which ls ≡ Ok v → (object_lines_by_table which v ≡ ls) × IsNormalValueOfTable which v
only_values which [] v e =
    let same : null ≡ v = cc in
    subst (λ (u : Plain). (object_lines_by_table which u ≡ []) × IsNormalValueOfTable which u) same (null_lines which, null_value which)
only_values which (l ∷ ls) v e = let r = block_only (shape_of (Obj which)) (l ∷ ls) v e in (r.0, (r.1.1, r.1.2))

schema_end : (which : Which) → no_end (schema_line_or_empty_line (header_schema_if_root_table which)) ≡ true
unfolding encode_with
schema_end Dep = refl
schema_end Acl = refl
schema_end PkgInfo = refl
schema_end File = refl
schema_end Dir = refl
schema_end Scripts = refl
schema_end Package = refl
schema_end Index = refl
schema_end Idb = refl
schema_end Intent = refl

pub text_split : (which : Which) (v : Plain) → IsNormal v → lines_of_text_if_all_ended (dump_text which v) ≡ Some (dump_lines which v)
text_split which v a = lines_of-text (dump_lines which v) (and_from _ _ (schema_end which) (block_end (shape_of (Obj which)) (table_named which) v a))

same_lines : (x y : Line) (xs ys : List Line) → option_map (λ (ls : List Line). ls) (Some (x ∷ xs)) ≡ option_map (λ (ls : List Line). ls) (Some (y ∷ ys)) → xs ≡ ys
same_lines x y xs ys e = cc

same_value : (x y : Plain) → and_then {E = ℕ} (Ok x) (λ (v : Plain). Ok v) ≡ and_then {E = ℕ} (Ok y) (λ (v : Plain). Ok v) → x ≡ y
same_value x y e = cc

pub one_text_one_value : (which : Which) (v u : Plain) → IsNormalValueOfTable which v → IsOfBytes v → IsNormalValueOfTable which u → IsOfBytes u → dump_text which v ≡ dump_text which u → v ≡ u
one_text_one_value which v u is b is' b' e =
    let lines : lines_of_text_if_all_ended (dump_text which v) ≡ lines_of_text_if_all_ended (dump_text which u) = ap lines_of_text_if_all_ended e in
    let whole = sym (text_split which v is.0) ∙ lines ∙ text_split which u is'.0 in
    let values : object_lines_by_table which v ≡ object_lines_by_table which u = same_lines _ _ (object_lines_by_table which v) (object_lines_by_table which u) whole in
    same_value v u (sym (read_back which v is b) ∙ ap (value_of_lines_below_schema_line which) values ∙ read_back which u is' b')
