use Rattle.std.proofs.Common.{◌≡◌, Bool, true, Err, ap, subst, sym, ◌∙◌, refl}
use Rattle.hex.specs.Hex.{encode_lower}
use Rattle.adb_view.specs.Plain.{Plain, array, int, number, text, hash}
use Rattle.adb_view.specs.Schema.{shape_of}
use Rattle.adb_view.specs.Shapes.{int_shape, text_shape, hash_shape, texts_shape, objects_shape}
use Rattle.adb_view.specs.declared.tables.Kind.{Kind}
use Rattle.adb_view.specs.declared.tables.Kind.TheVariants.{Int, Text, Hash, Obj, TextArr, ObjArr}
use Rattle.adb_dump.specs.Dump.{bare_or_quoted_text}
use Rattle.gen_core.specs.Reads.{IsFormOf, line_read}
use Rattle.gen_core.proofs.Escapes.{are_items}
use Rattle.gen_core.proofs.LineReads.{hash_not_taken, hash_taken, number_not_read, number_read, text_not_taken, text_taken}
use Rattle.gen_core.proofs.KindShapes.{blob_read_as, kind_line, object_line}
use Rattle.gen_core.proofs.read.read_value.Goals as goal

pub returns-then-not-branch : goal.returns-then-not-branch
returns-then-not-branch c =
    kind_line c.args.kind Text text c.args.line.now c.in-Text.is text_shape
    ∙ text_not_taken c.read_text.new.bytes.items c.args.line.now (subst (λ (b : Bool). IsFormOf bare_or_quoted_text b c.read_text.new.bytes.items c.args.line.now) c.if-not-branch.true c.in_ok-read_text-in-Text.ensures)

pub returns-then-not-branch-2 : goal.returns-then-not-branch-2
returns-then-not-branch-2 c =
    kind_line c.args.kind Hash hash c.args.line.now c.in-Hash.is hash_shape
    ∙ hash_not_taken c.read_hash.new.bytes.items c.args.line.now (subst (λ (b : Bool). IsFormOf encode_lower b c.read_hash.new.bytes.items c.args.line.now) c.if-not-branch-2.true c.in_ok-read_hash-in-Hash.ensures)

pub returns-in_ok-int-in-Some : goal.returns-in_ok-int-in-Some
returns-in_ok-int-in-Some c =
    (int c.in-Some.number, kind_line c.args.kind Int number c.args.line.now c.in-Int.is int_shape ∙ number_read c.in-Some.number c.args.line.now c.in-Some.ensures.0 c.in-Some.ensures.1, c.in_ok-int-in-Some.ensures.ok)

pub returns-in-None : goal.returns-in-None
returns-in-None c = kind_line c.args.kind Int number c.args.line.now c.in-Int.is int_shape ∙ number_not_read c.args.line.now c.in-None.ensures

pub returns-in_ok-blob-in-Text : goal.returns-in_ok-blob-in-Text
returns-in_ok-blob-in-Text c =
    let bytes = c.read_text.new.bytes.items in
    let form : IsFormOf bare_or_quoted_text true bytes c.args.line.now = subst (λ (b : Bool). IsFormOf bare_or_quoted_text b bytes c.args.line.now) c.if-not-branch.false c.in_ok-read_text-in-Text.ensures in
    blob_read_as (shape_of c.args.kind) bytes c.deref.result.now c.args.line.now c.args.draft.now c.blob.new.self
    (kind_line c.args.kind Text text c.args.line.now c.in-Text.is text_shape ∙ text_taken bytes c.args.line.now (are_items bytes c.type_inv.scratch) form)
    form.0 c.deref.ensures.value c.in_ok-blob-in-Text.ensures.ok

pub returns-in_ok-blob-in-Hash : goal.returns-in_ok-blob-in-Hash
returns-in_ok-blob-in-Hash c =
    let bytes = c.read_hash.new.bytes.items in
    let form : IsFormOf encode_lower true bytes c.args.line.now = subst (λ (b : Bool). IsFormOf encode_lower b bytes c.args.line.now) c.if-not-branch-2.false c.in_ok-read_hash-in-Hash.ensures in
    blob_read_as (shape_of c.args.kind) bytes c.deref-in-Hash.result.now c.args.line.now c.args.draft.now c.blob-in-Hash.new.self
    (kind_line c.args.kind Hash hash c.args.line.now c.in-Hash.is hash_shape ∙ hash_taken bytes c.args.line.now (are_items bytes c.type_inv.scratch) form)
    form.0 c.deref-in-Hash.ensures.value c.in_ok-blob-in-Hash.ensures.ok

pub returns-in-Obj : goal.returns-in-Obj
returns-in-Obj c = ap (λ (k : Kind). line_read (shape_of k) c.args.line.now) c.in-Obj.is ∙ object_line _ c.args.line.now

pub returns-in-TextArr : goal.returns-in-TextArr
returns-in-TextArr c = kind_line c.args.kind TextArr (array (shape_of Text)) c.args.line.now c.in-TextArr.is texts_shape

pub returns-in-ObjArr : goal.returns-in-ObjArr
returns-in-ObjArr c = kind_line c.args.kind (ObjArr _) (array (shape_of (Obj _))) c.args.line.now c.in-ObjArr.is (objects_shape _)
