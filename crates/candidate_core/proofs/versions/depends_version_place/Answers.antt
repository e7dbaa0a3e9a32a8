use Rattle.std.proofs.Common.{◌≡◌, ◌∙◌, ◌+◌, ◌-◌, ◌<◌, List, ℕ, length, refl, ap, sym, subst, arith}
use Rattle.std.specs.Prelude.{Some}
use Rattle.adb_view.specs.Adb.{payload_of}
use Rattle.adb_view.specs.Entries.{array_entries}
use Rattle.adb_view.specs.Plain.{Plain}
use Rattle.adb_schema.specs.adb_fields.Fields.{array_at}
use Rattle.adb_view.specs.Values.{count_of, entries_in, entry_at_index, nth, text_in, value_at}
use Rattle.adb_view.specs.declared.tables.Kind.TheVariants as Kinds
use Rattle.adb_view.specs.declared.tables.Which.TheVariants as Tables
use Rattle.candidate_core.specs.Candidates.{dependency_in}
use Rattle.candidate_core.specs.PackageWords.{info_in_source}
use Rattle.candidate_core.proofs.JudgedLists.{sound_at}
use Rattle.candidate_core.proofs.ProvidedVersions.{provided_text}
use Rattle.candidate_core.proofs.ReadWords.{word_sound, word_value, word_within}
use Rattle.candidate_core.proofs.WantedVersions.{text_moved}
use Rattle.candidate_core.proofs.versions.depends_version_place.Goals as goal

pub field_word-text-requires : goal.field_word-text-requires
field_word-text-requires c =
    let ws : List ℕ = array_entries c.objects_field-entries.result in
    let within : c.args.index < length ws = omega (arith, c.len.ensures.value, c.if-index-len.false) in
    word_sound (payload_of c.args.source.now.adb) (Kinds.Obj Tables.Dep) ws c.args.index c.entry_word-entry.result c.objects_field-entries.ensures.sound within c.entry_word-entry.ensures

pub returns : goal.returns
returns c = λ text d of at.
    let p : List ℕ = payload_of c.args.source.now.adb in
    let ws : List ℕ = array_entries c.objects_field-entries.result in
    let i : ℕ = c.args.index in
    let word : ℕ = c.entry_word-entry.result in
    let list : Plain = entry_at_index (info_in_source c.args.source.now c.args.kept.word) 14 in
    let same : array_at p (Kinds.Obj Tables.Dep) ws ≡ list = c.objects_field-entries.ensures.value ∙ ap (λ (w : ℕ). entry_at_index (value_at p (Kinds.Obj Tables.PkgInfo) w) 14) c.of-word.ensures in
    let within : i < length ws = omega (arith, c.len.ensures.value, c.if-index-len.false) in
    let sound = c.objects_field-entries.ensures.sound in
    let there : i < count_of (entries_in list) =
    subst (λ (l : Plain). i < count_of (entries_in l)) same (word_within p (Kinds.Obj Tables.Dep) ws i word sound within c.entry_word-entry.ensures) in
    let z : (i + 1) - 1 ≡ i = omega arith in
    let value : value_at p (Kinds.Obj Tables.Dep) word ≡ nth (entries_in list) i =
    word_value p (Kinds.Obj Tables.Dep) ws i word sound within c.entry_word-entry.ensures
    ∙ (ap (λ (l : Plain). nth (entries_in l) ((i + 1) - 1)) same ∙ ap (nth (entries_in list)) z) in
    let found : Some d ≡ dependency_in (value_at p (Kinds.Obj Tables.Dep) word) =
    sym at ∙ (sound_at (entries_in list) i ((c.requires.texts c.if-not-source.false).depends) there ∙ ap dependency_in (sym value)) in
    let read : text_in (value_at p Kinds.Text c.word.result) ≡ text_in (entry_at_index (value_at p (Kinds.Obj Tables.Dep) word) 1) =
    ap (λ (w : ℕ). text_in (value_at p Kinds.Text w)) c.word.ensures ∙ ap text_in (c.field_word-text.ensures Kinds.Text refl).1 in
    text_moved d.version (text_in (value_at p Kinds.Text c.word.result)) (text c.args.kept.source c.word.result) (of c.word.result)
    (provided_text (value_at p (Kinds.Obj Tables.Dep) word) d (text_in (value_at p Kinds.Text c.word.result)) found read)
