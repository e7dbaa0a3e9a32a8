use Rattle.std.proofs.Common.{ℕ, List, sym, subst}
use Rattle.adb_view.specs.Adb.{payload_of}
use Rattle.adb_view.specs.Plain.{blob_or_null}
use Rattle.adb_view.specs.Values.{text_in, value_at}
use Rattle.adb_view.specs.declared.tables.Kind.TheVariants as Kinds
use Rattle.adb_values.specs.Words.{HasBlob}
use Rattle.adb_values.proofs.Lists.{on_ok}
use Rattle.adb_copy.proofs.Known.{known_blob, known_more}
use Rattle.adb_copy.proofs.known_texts.KnownTexts.write.Goals as goal

pub returns-then-text-le-SHORT-clause-known : goal.returns-then-text-le-SHORT-clause-known
returns-then-text-le-SHORT-clause-known c =
    on_ok _ _ (λ e. known_more (payload_of c.args.adb) c.args.self.now c.args.draft.now c.blob.new.self c.requires.known (blob_or_null c.text_word-text.result.now) e) c.blob.result c.blob.ensures.ok

pub returns-in-Some-clause-known : goal.returns-in-Some-clause-known
returns-in-Some-clause-known c =
    let text : List ℕ = text_in (value_at (payload_of c.args.adb) Kinds.Text c.args.word) in
    let has : HasBlob c.args.draft.now text c.in-Some.known = known_blob (payload_of c.args.adb) c.args.self.now c.args.draft.now c.requires.known c.args.word c.in-Some.known c.in-Some.ensures in
    on_ok _ _
    (λ again. known_more (payload_of c.args.adb) c.args.self.now c.args.draft.now c.blob_again.new.self c.requires.known (blob_or_null text) (again text (subst (λ (w : ℕ). HasBlob c.args.draft.now text w) (sym c.of.ensures) has)))
    c.blob_again.result c.blob_again.ensures.ok
