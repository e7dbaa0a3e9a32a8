use Rattle.std.proofs.Common.{◌≡◌, ℕ, List, Option, Some, IfSome, sym, subst}
use Rattle.std.specs.BTreeMap.{BTreeMap, get}
use Rattle.std.specs.Ordering.{nat_cmp}
use Rattle.adb_view.specs.Adb.{payload_of}
use Rattle.adb_view.specs.Plain.{blob_or_null}
use Rattle.adb_view.specs.Values.{text_in, value_at}
use Rattle.adb_view.specs.declared.tables.Kind.TheVariants as Kinds
use Rattle.adb_values.specs.Drafts.{draft_with}
use Rattle.adb_values.specs.Words.{HasBlob}
use Rattle.adb_values.proofs.Lists.{on_ok}
use Rattle.adb_values.proofs.Words.{has_more}
use Rattle.adb_copy.specs.Known.{IsRememberedTextWord}
use Rattle.adb_copy.proofs.Known.{known_blob, known_inserted, known_more}
use Rattle.adb_copy.proofs.known_texts.KnownTexts.write_unknown.Goals as goal

pub returns-in_ok-insert-in-Some-clause-known : goal.returns-in_ok-insert-in-Some-clause-known
returns-in_ok-insert-in-Some-clause-known c =
    let p : List ℕ = payload_of c.args.adb in
    let texts = c.args.self.now in
    let d = c.args.draft.now in
    let later = c.blob_again.new.self in
    let x : ℕ = c.in-Some.known in
    let text : List ℕ = text_in (value_at p Kinds.Text c.args.word) in
    let found : IsRememberedTextWord p texts.words c.args.word x =
    subst (λ (o : Option ℕ). IfSome o (IsRememberedTextWord p texts.words c.args.word)) c.in-Some.is c.in_ok-known.ensures.known in
    let has : HasBlob d text x = known_blob p texts d c.requires.known c.args.word x found in
    on_ok _ _
    (λ again.
    let e : later ≡ draft_with (blob_or_null text) d = again text (subst (λ (w : ℕ). HasBlob d text w) (sym c.of.ensures) has) in
    let more = known_more p texts d later c.requires.known (blob_or_null text) e in
    record {
      known = known_inserted p c.word_of_equal.new.self.words c.insert.new.self c.word.result x later
          (subst (λ (ws : BTreeMap ℕ ℕ). (q y : ℕ) → get nat_cmp ws q ≡ Some y → HasBlob later (text_in (value_at p Kinds.Text q)) y) (sym c.in_ok-known.ensures.words) more.known)
          c.in_ok-insert-in-Some.ensures.updates.0
          (subst (λ (w : ℕ). HasBlob later (text_in (value_at p Kinds.Text w)) x) (sym c.word.ensures) (has_more (blob_or_null text) d later text x has e));
      periodic = c.in_ok-known.ensures.ranges;
    })
    c.blob_again.result c.blob_again.ensures.ok
