use Rattle.std.specs.List.{list_any}
use Rattle.std.proofs.Common.{◌≡◌, ◌∙◌, ◌+◌, ◌-◌, ◌<◌, List, ℕ, Bool, length, ap, sym, subst, arith}
use Rattle.adb_view.specs.Adb.{payload_of}
use Rattle.adb_view.specs.Entries.{array_entries}
use Rattle.adb_view.specs.Plain.{Plain, Plains}
use Rattle.adb_schema.specs.adb_fields.Fields.{array_at}
use Rattle.adb_schema.proofs.adb_fields.FieldReads.{entry_count}
use Rattle.adb_schema.specs.SoundValues.{ObeysTextAndNumberRulesOfDependency}
use Rattle.adb_view.specs.Values.{count_of, entries_in, entry_at_index, nth, value_at}
use Rattle.adb_view.specs.declared.tables.Kind.TheVariants as Kinds
use Rattle.adb_view.specs.declared.tables.Which.TheVariants as Tables
use Rattle.dep_core.specs.Dependency.{Dependency}
use Rattle.dep_core.specs.Meets.{dependency}
use Rattle.candidate_core.specs.Candidates.{is_met_by_provides_entry}
use Rattle.candidate_core.specs.PackageWords.{info_in_source}
use Rattle.candidate_core.proofs.DependencyLists.{all_dependencies, dependencies_to}
use Rattle.candidate_core.proofs.WantedVersions.{any_next, any_of_all}
use Rattle.candidate_core.proofs.ReadWords.{word_sound, word_value, word_within}
use Rattle.candidate_core.proofs.versions.any_entry_meets.Goals as goal

pub entry_meets-requires : goal.entry_meets-requires
entry_meets-requires c =
    let p : List ℕ = payload_of c.args.source.now.adb in
    let ws : List ℕ = array_entries c.objects_field-entries.result in
    let i : ℕ = c.loop-i.i in
    let word : ℕ = c.entry_word-entry.result in
    let list : Plain = entry_at_index (info_in_source c.args.source.now c.args.kept.word) 15 in
    let same : array_at p (Kinds.Obj Tables.Dep) ws ≡ list = c.objects_field-entries.ensures.value ∙ ap (λ (w : ℕ). entry_at_index (value_at p (Kinds.Obj Tables.PkgInfo) w) 15) c.of-word.ensures in
    let within : i < length ws = omega (arith, c.len-i-end.ensures.value, c.loop-i-test.true) in
    let sound = c.objects_field-entries.ensures.sound in
    let there : i < count_of (entries_in list) =
    subst (λ (l : Plain). i < count_of (entries_in l)) same (word_within p (Kinds.Obj Tables.Dep) ws i word sound within c.entry_word-entry.ensures) in
    let z : (i + 1) - 1 ≡ i = omega arith in
    let value : value_at p (Kinds.Obj Tables.Dep) word ≡ entry_at_index list i =
    word_value p (Kinds.Obj Tables.Dep) ws i word sound within c.entry_word-entry.ensures
    ∙ (ap (λ (l : Plain). nth (entries_in l) ((i + 1) - 1)) same ∙ ap (nth (entries_in list)) z) in
    record {
      sound = word_sound p (Kinds.Obj Tables.Dep) ws i word sound within c.entry_word-entry.ensures;
      texts = λ known. subst ObeysTextAndNumberRulesOfDependency (sym value) ((c.requires.texts known).provides i there);
    }

pub returns-then-by_entry : goal.returns-then-by_entry
returns-then-by_entry c = λ text of known.
    let p : List ℕ = payload_of c.args.source.now.adb in
    let ws : List ℕ = array_entries c.objects_field-entries.result in
    let i : ℕ = c.loop-i.i in
    let word : ℕ = c.entry_word-entry.result in
    let list : Plain = entry_at_index (info_in_source c.args.source.now c.args.kept.word) 15 in
    let same : array_at p (Kinds.Obj Tables.Dep) ws ≡ list = c.objects_field-entries.ensures.value ∙ ap (λ (w : ℕ). entry_at_index (value_at p (Kinds.Obj Tables.PkgInfo) w) 15) c.of-word.ensures in
    let within : i < length ws = omega (arith, c.len-i-end.ensures.value, c.loop-i-test.true) in
    let sound = c.objects_field-entries.ensures.sound in
    let there : i < count_of (entries_in list) =
    subst (λ (l : Plain). i < count_of (entries_in l)) same (word_within p (Kinds.Obj Tables.Dep) ws i word sound within c.entry_word-entry.ensures) in
    let value : value_at p (Kinds.Obj Tables.Dep) word ≡ nth (entries_in list) ((i + 1) - 1) =
    word_value p (Kinds.Obj Tables.Dep) ws i word sound within c.entry_word-entry.ensures
    ∙ ap (λ (l : Plain). nth (entries_in l) ((i + 1) - 1)) same in
    let meets : Dependency → Bool = is_met_by_provides_entry (dependency c.args.dep.now) in
    let before = c.loop-i.invariant text of known in
    let one = c.in_ok-by_entry.ensures text of before.1 in
    (any_of_all meets i (entries_in list) (value_at p (Kinds.Obj Tables.Dep) word) c.in_ok-by_entry.by_entry there value one.0 before.0 c.if-by_entry.true, one.1)

pub loop-i-preserved : goal.loop-i-preserved
loop-i-preserved c = λ text of known.
    let p : List ℕ = payload_of c.args.source.now.adb in
    let ws : List ℕ = array_entries c.objects_field-entries.result in
    let i : ℕ = c.loop-i.i in
    let word : ℕ = c.entry_word-entry.result in
    let list : Plain = entry_at_index (info_in_source c.args.source.now c.args.kept.word) 15 in
    let same : array_at p (Kinds.Obj Tables.Dep) ws ≡ list = c.objects_field-entries.ensures.value ∙ ap (λ (w : ℕ). entry_at_index (value_at p (Kinds.Obj Tables.PkgInfo) w) 15) c.of-word.ensures in
    let within : i < length ws = omega (arith, c.len-i-end.ensures.value, c.loop-i-test.true) in
    let sound = c.objects_field-entries.ensures.sound in
    let there : i < count_of (entries_in list) =
    subst (λ (l : Plain). i < count_of (entries_in l)) same (word_within p (Kinds.Obj Tables.Dep) ws i word sound within c.entry_word-entry.ensures) in
    let value : value_at p (Kinds.Obj Tables.Dep) word ≡ nth (entries_in list) ((i + 1) - 1) =
    word_value p (Kinds.Obj Tables.Dep) ws i word sound within c.entry_word-entry.ensures
    ∙ ap (λ (l : Plain). nth (entries_in l) ((i + 1) - 1)) same in
    let meets : Dependency → Bool = is_met_by_provides_entry (dependency c.args.dep.now) in
    let before = c.loop-i.invariant text of known in
    let one = c.in_ok-by_entry.ensures text of before.1 in
    (any_next meets i (entries_in list) (value_at p (Kinds.Obj Tables.Dep) word) c.in_ok-by_entry.by_entry there value one.0 before.0 ∙ c.if-by_entry.false, one.1)

pub returns : goal.returns
returns c = λ text of known.
    let p : List ℕ = payload_of c.args.source.now.adb in
    let ws : List ℕ = array_entries c.objects_field-entries.result in
    let list : Plain = entry_at_index (info_in_source c.args.source.now c.args.kept.word) 15 in
    let values : Plains = entries_in list in
    let same : array_at p (Kinds.Obj Tables.Dep) ws ≡ list = c.objects_field-entries.ensures.value ∙ ap (λ (w : ℕ). entry_at_index (value_at p (Kinds.Obj Tables.PkgInfo) w) 15) c.of-word.ensures in
    let count : length ws ≡ count_of values = entry_count p (Kinds.Obj Tables.Dep) ws c.objects_field-entries.ensures.sound ∙ ap (λ (l : Plain). count_of (entries_in l)) same in
    let last : c.loop-i.i ≡ count_of values = omega (arith, count, c.len-i-end.ensures.value, c.loop-i-test.false) in
    let all = ap (λ (n : ℕ). dependencies_to n values) last ∙ all_dependencies values in
    let before = c.loop-i.invariant text of known in
    (sym before.0 ∙ ap (list_any (is_met_by_provides_entry (dependency c.args.dep.now))) all, before.1)
