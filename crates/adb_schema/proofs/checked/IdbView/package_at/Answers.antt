use Rattle.std.proofs.Common.{◌≡◌, ◌<◌, ◌∙◌, ℕ, List, true, length, ap, subst, sym}
use Rattle.adb_view.specs.Adb.{payload_of}
use Rattle.adb_view.specs.Entries.{array_entries}
use Rattle.adb_view.specs.Plain.{Plain}
use Rattle.adb_view.specs.Values.{count_of, entries_in, entry_at_index, is_sound, value_at}
use Rattle.adb_view.specs.declared.tables.Kind.TheVariants as Kinds
use Rattle.adb_view.specs.declared.tables.Which.TheVariants as Tables
use Rattle.adb_fields.proofs.FieldReads.{entry_count, entry_sound, entry_value}
use Rattle.adb_schema.proofs.checked.IdbView.package_at.Goals as goal

pub entry_word-requires : goal.entry_word-requires
entry_word-requires c =
    subst (λ (n : ℕ). c.args.i < n)
    (sym (entry_count (payload_of c.args.self.now.adb) (Kinds.Obj Tables.Package) (array_entries c.objects_field-entries.result) c.objects_field-entries.ensures.sound ∙ ap (λ (v : Plain). count_of (entries_in v)) c.objects_field-entries.ensures.value))
    c.requires

pub at-requires : goal.at-requires
at-requires c =
    let p : List ℕ = payload_of c.args.self.now.adb in
    let ws : List ℕ = array_entries c.objects_field-entries.result in
    let count : length ws ≡ count_of (entries_in (entry_at_index (value_at p (Kinds.Obj Tables.Idb) c.args.self.now.word) 0)) =
    entry_count p (Kinds.Obj Tables.Package) ws c.objects_field-entries.ensures.sound ∙ ap (λ (v : Plain). count_of (entries_in v)) c.objects_field-entries.ensures.value in
    let within : c.args.i < length ws = subst (λ (n : ℕ). c.args.i < n) (sym count) c.requires in
    subst (λ (w : ℕ). is_sound p (Kinds.Obj Tables.Package) w ≡ true) (sym c.entry_word.ensures) (entry_sound p (Kinds.Obj Tables.Package) ws c.args.i c.objects_field-entries.ensures.sound within)

pub returns-clause-value : goal.returns-clause-value
returns-clause-value c =
    let p : List ℕ = payload_of c.args.self.now.adb in
    let ws : List ℕ = array_entries c.objects_field-entries.result in
    let count : length ws ≡ count_of (entries_in (entry_at_index (value_at p (Kinds.Obj Tables.Idb) c.args.self.now.word) 0)) =
    entry_count p (Kinds.Obj Tables.Package) ws c.objects_field-entries.ensures.sound ∙ ap (λ (v : Plain). count_of (entries_in v)) c.objects_field-entries.ensures.value in
    let within : c.args.i < length ws = subst (λ (n : ℕ). c.args.i < n) (sym count) c.requires in
    c.at.ensures.value
    ∙ (ap (λ (w : ℕ). value_at p (Kinds.Obj Tables.Package) w) c.entry_word.ensures
    ∙ (entry_value p (Kinds.Obj Tables.Package) ws c.args.i c.objects_field-entries.ensures.sound within
    ∙ ap (λ (v : Plain). entry_at_index v c.args.i) c.objects_field-entries.ensures.value))
