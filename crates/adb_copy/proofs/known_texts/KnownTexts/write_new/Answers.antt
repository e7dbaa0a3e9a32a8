use Rattle.std.proofs.Common.{ℕ, List, sym, subst}
use Rattle.adb_view.specs.Adb.{payload_of}
use Rattle.adb_view.specs.Plain.{blob_or_null}
use Rattle.adb_view.specs.Values.{text_in, value_at}
use Rattle.adb_view.specs.declared.tables.Kind.TheVariants as Kinds
use Rattle.adb_values.specs.Words.{HasBlob}
use Rattle.adb_values.proofs.Lists.{on_ok}
use Rattle.adb_copy.proofs.Known.{known_inserted, known_more}
use Rattle.adb_copy.proofs.known_texts.KnownTexts.write_new.Goals as goal

pub keep-requires : goal.keep-requires
keep-requires c = c.requires.known.periodic

pub returns-clause-known : goal.returns-clause-known
returns-clause-known c =
    let p : List ℕ = payload_of c.args.adb in
    let texts = c.args.self.now in
    let d = c.blob_word.new.self in
    let has : HasBlob d (text_in (value_at p Kinds.Text c.word.result)) c.word-2.result =
    subst (λ (w : ℕ). HasBlob d (text_in (value_at p Kinds.Text w)) c.word-2.result) (sym c.word.ensures)
    (subst (λ (bytes : List ℕ). HasBlob d bytes c.word-2.result) c.text_word.ensures
    (subst (λ (w : ℕ). HasBlob d c.text_word.result.now w) (sym c.word-2.ensures) c.in_ok-known.ensures.word)) in
    on_ok _ _ (λ kept. record {
      known = known_inserted p texts.words c.insert.new.self c.word.result c.word-2.result d
          (known_more p texts c.args.draft.now d c.requires.known (blob_or_null c.text_word.result.now) c.in_ok-known.ensures.ok).known c.in_ok-insert.ensures.updates.0 has;
      periodic = kept;
    }) c.keep.result c.keep.ensures
