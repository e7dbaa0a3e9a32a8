-- The text of a walked payload is that of its value.
use Rattle.std.proofs.Common.{◌≡◌, ℕ, false, List, ◌∷◌, ◌++◌, refl, sym, ap, ◌∙◌}
use Rattle.std.specs.Prelude.{codes}
use Rattle.std.proofs.lemmas.List.Concat.{flat_map-cons}
use Rattle.adb_view.specs.Adb.{payload_of}
use Rattle.adb_view.specs.Head.{root_word_of_payload}
use Rattle.adb_view.specs.Plain.{trimmed_object_or_null}
use Rattle.adb_view.specs.declared.adb.Adb.{Adb}
use Rattle.adb_view.specs.ShapedPayload.{adb_of, shaped_value, table_of}
use Rattle.adb_view.specs.Schema.{table, shapes_of}
use Rattle.adb_schema.specs.Soundness.{header_schema_if_root_table}
use Rattle.adb_view.specs.Values.{value_at}
use Rattle.adb_view.specs.declared.shaped.Shaped.{Shaped}
use Rattle.adb_view.specs.declared.tables.Which.{Which}
use Rattle.adb_view.specs.declared.tables.Kind.TheVariants.{Obj}
use Rattle.adb_view.specs.declared.tables.Field.{Field}
use Rattle.adb_dump.specs.Dump.{Line, dump_text, fields_lines, schema_line_or_empty_line, dump_text_of_lines, object_lines_by_table}
use Rattle.adb_dump.specs.Margin.{indented_lines_text}
use Rattle.adb_dump.specs.Words.{fields_at}
use Rattle.adb_dump.proofs.BlockLines.{object_lines}
use Rattle.adb_dump.proofs.Placed.{laid_text}

first_line : (line : Line) (ls : List Line) → dump_text_of_lines (line ∷ ls) ≡ (line ++ codes "\n") ++ dump_text_of_lines ls
first_line line ls = flat_map-cons (λ (x : Line). x ++ codes "\n") line ls

lines_put : (line : Line) (ls : List Line) → (line ++ codes "\n") ++ indented_lines_text 0 false ls ≡ dump_text_of_lines (line ∷ ls)
lines_put line ls = ap (λ (t : List ℕ). (line ++ codes "\n") ++ t) (laid_text ls) ∙ sym (first_line line ls)

pub whole_text : (shaped : Shaped) (adb : Adb) (which : Which) (root : ℕ) (fields : List Field) (words : List ℕ) → adb ≡ adb_of shaped → which ≡ table_of shaped → root ≡ root_word_of_payload (payload_of adb) → fields ≡ table which
    → value_at (payload_of adb) (Obj which) root ≡ trimmed_object_or_null (fields_at (payload_of adb) (table which) words)
    → (schema_line_or_empty_line (header_schema_if_root_table which) ++ codes "\n") ++ indented_lines_text 0 false (fields_lines (shapes_of fields) (fields_at (payload_of adb) fields words)) ≡ dump_text (table_of shaped) (shaped_value shaped)
whole_text shaped adb which root fields words adb_is which_is root_is fields_is value =
    let value_is : object_lines_by_table which (value_at (payload_of adb) (Obj which) root) ≡ fields_lines (shapes_of (table which)) (fields_at (payload_of adb) (table which) words) = object_lines (payload_of adb) which root words value in
    ap (λ (fs : List Field). (schema_line_or_empty_line (header_schema_if_root_table which) ++ codes "\n") ++ indented_lines_text 0 false (fields_lines (shapes_of fs) (fields_at (payload_of adb) fs words))) fields_is
    ∙ lines_put (schema_line_or_empty_line (header_schema_if_root_table which)) (fields_lines (shapes_of (table which)) (fields_at (payload_of adb) (table which) words))
    ∙ ap (λ (ls : List Line). dump_text_of_lines (schema_line_or_empty_line (header_schema_if_root_table which) ∷ ls)) (sym value_is) ∙ same
  where
    same : dump_text which (value_at (payload_of adb) (Obj which) root) ≡ dump_text (table_of shaped) (shaped_value shaped)
    same = rw (root_is, which_is, adb_is) refl
