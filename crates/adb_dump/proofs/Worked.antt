-- Some values and their texts.
use Rattle.std.proofs.Common.{◌≡◌, [], ◌∷◌, ◌++◌, refl}
use Rattle.std.specs.Prelude.{codes}
use Rattle.std.specs.Fmt.{decimal}
use Rattle.adb_view.specs.Plain.{null, int, blob, arr, obj, none, more}
use Rattle.adb_view.specs.Schema.{shape_of}
use Rattle.adb_view.specs.declared.tables.Which.TheVariants.{Package, Index, Idb, Intent}
use Rattle.adb_dump.specs.Dump.{block_lines, named_lines, fields_lines, bare_or_quoted_text, object_lines_by_table, dump_text}
use Rattle.hex.specs.Hex.{encode_with}

package_of_two_texts : dump_text Package (obj (more (obj (more (blob (codes "a")) (more (blob (codes "1")) none))) none)) ≡ codes "#%SCHEMA: 676b6370\ninfo:\n  name: a\n  version: 1\n"
unfolding block_lines named_lines fields_lines shape_of encode_with
package_of_two_texts = refl

intent_of_one_write : dump_text Intent (obj (more null (more (arr (more (blob (codes "a")) none)) none))) ≡ codes "#%SCHEMA: 74746e69\nwrites:\n  - a\n"
unfolding block_lines named_lines fields_lines shape_of encode_with
intent_of_one_write = refl

index_without_a_value : dump_text Index null ≡ codes "#%SCHEMA: 78646e69\n"
unfolding block_lines named_lines fields_lines shape_of encode_with
index_without_a_value = refl

nulls_in_a_list : object_lines_by_table Intent (obj (more (arr (more null (more null none))) none)) ≡ codes "removals:" ∷ codes "  - null" ∷ codes "  - null" ∷ []
unfolding block_lines named_lines fields_lines shape_of
nulls_in_a_list = refl

-- a folder whose name is Null, with rights and a file, in a package of a database
deep : object_lines_by_table Idb (obj (more (arr (more (obj (more null (more (arr (more (obj (more null (more (obj (more (int 493) none)) (more (arr (more (obj (more (blob (codes "f")) (more null (more (int 0) none)))) none)) none)))) none)) none))) none)) none)) ≡
    codes "packages:" ∷ codes "  - paths:" ∷ codes "      - acl:" ∷ (codes "          mode: " ++ decimal 493) ∷ codes "        files:" ∷ codes "          - name: f" ∷ (codes "            size: " ++ decimal 0) ∷ []
unfolding block_lines named_lines fields_lines shape_of
deep = refl

line_end : bare_or_quoted_text (codes "a\nb") ≡ codes "\"a\\nb\""
line_end = refl

quote_and_backslash : bare_or_quoted_text (codes "\"\\") ≡ codes "\"\\\"\\\\\""
quote_and_backslash = refl

quote_inside : bare_or_quoted_text (codes "a\"\\b") ≡ codes "a\"\\b"
quote_inside = refl

space_first : bare_or_quoted_text (codes " a") ≡ codes "\" a\""
space_first = refl

space_last : bare_or_quoted_text (codes "a ") ≡ codes "\"a \""
space_last = refl

word_null : bare_or_quoted_text (codes "null") ≡ codes "\"null\""
word_null = refl

other_bytes : bare_or_quoted_text (0xc3 ∷ 0xbc ∷ 0x00 ∷ 0x7f ∷ []) ≡ codes "\"\\xc3\\xbc\\x00\\x7f\""
unfolding encode_with
other_bytes = refl
