use Rattle.std.proofs.Common.{◌≡◌, ◌∙◌, ◌+◌, ◌-◌, ◌<◌, List, ℕ, Bool, length, refl, ap, sym, subst, arith}
use Rattle.std.specs.Prelude.{Option}
use Rattle.std.specs.List.{find}
use Rattle.std.specs.Option.{option_and_then}
use Rattle.adb_view.specs.Adb.{payload_of}
use Rattle.adb_view.specs.Entries.{array_entries}
use Rattle.adb_view.specs.Plain.{Plain, Plains}
use Rattle.adb_schema.specs.adb_fields.Fields.{array_at}
use Rattle.adb_schema.proofs.adb_fields.FieldReads.{entry_count}
use Rattle.adb_schema.specs.SoundValues.{ObeysTextAndNumberRulesOfDependency}
use Rattle.adb_view.specs.Values.{count_of, entries_in, entry_at_index, nth, value_at}
use Rattle.adb_view.specs.declared.tables.Kind.TheVariants as Kinds
use Rattle.adb_view.specs.declared.tables.Which.TheVariants as Tables
use Rattle.dep_core.specs.Dependency.{Dependency}
use Rattle.dep_core.specs.Meets.{dependency}
use Rattle.candidate_core.specs.Candidates.{is_met_by_provides_entry}
use Rattle.candidate_core.specs.PackageWords.{info_in_source}
use Rattle.candidate_core.proofs.DependencyLists.{all_dependencies, dependencies_to}
use Rattle.candidate_core.proofs.ProvidedVersions.{first_found, no_dependency, passed_over}
use Rattle.candidate_core.proofs.ReadWords.{word_sound, word_value, word_within}
use Rattle.candidate_core.proofs.versions.provided_version.Goals as goal
use Rattle.candidate_core.proofs.versions.provided_version.Goals.{in-Some+else-is_met_as_known, in_default}

abbrev version_of : Option Dependency → Option (List ℕ)
version_of = option_and_then (λ (p : Dependency). p.version)

pub read_entry-requires : goal.read_entry-requires
read_entry-requires c =
    let p : List ℕ = payload_of c.args.source.now.adb in
    let ws : List ℕ = array_entries c.objects_field-entries.result in
    let i : ℕ = c.loop-i.i in
    let word : ℕ = c.entry_word-entry.result in
    let list : Plain = entry_at_index (info_in_source c.args.source.now c.args.kept.word) 15 in
    let same : array_at p (Kinds.Obj Tables.Dep) ws ≡ list = c.objects_field-entries.ensures.value ∙ ap (λ (w : ℕ). entry_at_index (value_at p (Kinds.Obj Tables.PkgInfo) w) 15) c.of-word.ensures in
    let within : i < length ws = omega (arith, c.len-i-end.ensures.value, c.loop-i-test.true) in
    let sound = c.objects_field-entries.ensures.sound in
    let there : i < count_of (entries_in list) =
    subst (λ (l : Plain). i < count_of (entries_in l)) same (word_within p (Kinds.Obj Tables.Dep) ws i word sound within c.entry_word-entry.ensures) in
    let z : (i + 1) - 1 ≡ i = omega arith in
    let value : value_at p (Kinds.Obj Tables.Dep) word ≡ entry_at_index list i =
    word_value p (Kinds.Obj Tables.Dep) ws i word sound within c.entry_word-entry.ensures
    ∙ (ap (λ (l : Plain). nth (entries_in l) ((i + 1) - 1)) same ∙ ap (nth (entries_in list)) z) in
    record {
      sound = word_sound p (Kinds.Obj Tables.Dep) ws i word sound within c.entry_word-entry.ensures;
      texts = λ known. subst ObeysTextAndNumberRulesOfDependency (sym value) ((c.requires.package.texts known).provides i there);
    }

pub is_met_as_known-requires-clause-entry : goal.is_met_as_known-requires-clause-entry
is_met_as_known-requires-clause-entry c =
    let ws : List ℕ = array_entries c.objects_field-entries.result in
    let within : c.loop-i.i < length ws = omega (arith, c.len-i-end.ensures.value, c.loop-i-test.true) in
    record {
      sound = word_sound (payload_of c.args.source.now.adb) (Kinds.Obj Tables.Dep) ws c.loop-i.i c.entry_word-entry.result c.objects_field-entries.ensures.sound within c.entry_word-entry.ensures;
      found = c.in-Some.ensures;
    }

pub version_of_entry-requires : goal.version_of_entry-requires
version_of_entry-requires c =
    let ws : List ℕ = array_entries c.objects_field-entries.result in
    let within : c.loop-i.i < length ws = omega (arith, c.len-i-end.ensures.value, c.loop-i-test.true) in
    record {
      sound = word_sound (payload_of c.args.source.now.adb) (Kinds.Obj Tables.Dep) ws c.loop-i.i c.entry_word-entry.result c.objects_field-entries.ensures.sound within c.entry_word-entry.ensures;
      found = c.in-Some.ensures;
    }

pub returns-then-is_met_as_known : goal.returns-then-is_met_as_known
returns-then-is_met_as_known c =
    let p : List ℕ = payload_of c.args.source.now.adb in
    let ws : List ℕ = array_entries c.objects_field-entries.result in
    let i : ℕ = c.loop-i.i in
    let word : ℕ = c.entry_word-entry.result in
    let list : Plain = entry_at_index (info_in_source c.args.source.now c.args.kept.word) 15 in
    let same : array_at p (Kinds.Obj Tables.Dep) ws ≡ list = c.objects_field-entries.ensures.value ∙ ap (λ (w : ℕ). entry_at_index (value_at p (Kinds.Obj Tables.PkgInfo) w) 15) c.of-word.ensures in
    let within : i < length ws = omega (arith, c.len-i-end.ensures.value, c.loop-i-test.true) in
    let sound = c.objects_field-entries.ensures.sound in
    let there : i < count_of (entries_in list) =
    subst (λ (l : Plain). i < count_of (entries_in l)) same (word_within p (Kinds.Obj Tables.Dep) ws i word sound within c.entry_word-entry.ensures) in
    let value : value_at p (Kinds.Obj Tables.Dep) word ≡ nth (entries_in list) ((i + 1) - 1) =
    word_value p (Kinds.Obj Tables.Dep) ws i word sound within c.entry_word-entry.ensures
    ∙ ap (λ (l : Plain). nth (entries_in l) ((i + 1) - 1)) same in
    record {
      version = c.version_of_entry.ensures.version
          ∙ sym (ap version_of (first_found (is_met_by_provides_entry (dependency c.args.dep.now)) i (entries_in list) (value_at p (Kinds.Obj Tables.Dep) word) (dependency c.in-Some.found) there value
          c.in-Some.ensures c.loop-i.invariant (sym c.is_met_as_known.ensures ∙ c.if-is_met_as_known.true)));
      source = c.version_of_entry.ensures.source;
      text = c.version_of_entry.ensures.text;
    }

pub loop-i-preserved : goal.loop-i-preserved
loop-i-preserved c =
    let p : List ℕ = payload_of c.args.source.now.adb in
    let ws : List ℕ = array_entries c.objects_field-entries.result in
    let i : ℕ = c.loop-i.i in
    let word : ℕ = c.entry_word-entry.result in
    let list : Plain = entry_at_index (info_in_source c.args.source.now c.args.kept.word) 15 in
    let same : array_at p (Kinds.Obj Tables.Dep) ws ≡ list = c.objects_field-entries.ensures.value ∙ ap (λ (w : ℕ). entry_at_index (value_at p (Kinds.Obj Tables.PkgInfo) w) 15) c.of-word.ensures in
    let within : i < length ws = omega (arith, c.len-i-end.ensures.value, c.loop-i-test.true) in
    let sound = c.objects_field-entries.ensures.sound in
    let there : i < count_of (entries_in list) =
    subst (λ (l : Plain). i < count_of (entries_in l)) same (word_within p (Kinds.Obj Tables.Dep) ws i word sound within c.entry_word-entry.ensures) in
    let value : value_at p (Kinds.Obj Tables.Dep) word ≡ nth (entries_in list) ((i + 1) - 1) =
    word_value p (Kinds.Obj Tables.Dep) ws i word sound within c.entry_word-entry.ensures
    ∙ ap (λ (l : Plain). nth (entries_in l) ((i + 1) - 1)) same in
    let meets : Dependency → Bool = is_met_by_provides_entry (dependency c.args.dep.now) in
    elim c.match-read_entry.branch [
      | in-Some+else-is_met_as_known w ↦
          passed_over meets i (entries_in list) (value_at p (Kinds.Obj Tables.Dep) word) (dependency w.in-Some.found) there value w.in-Some.ensures c.loop-i.invariant
          (sym w.is_met_as_known.ensures ∙ w.if-is_met_as_known.false)
      | in_default w ↦ no_dependency meets i (entries_in list) (value_at p (Kinds.Obj Tables.Dep) word) there value w.in_default.ensures c.loop-i.invariant
    ]

pub returns : goal.returns
returns c =
    let p : List ℕ = payload_of c.args.source.now.adb in
    let ws : List ℕ = array_entries c.objects_field-entries.result in
    let list : Plain = entry_at_index (info_in_source c.args.source.now c.args.kept.word) 15 in
    let values : Plains = entries_in list in
    let same : array_at p (Kinds.Obj Tables.Dep) ws ≡ list = c.objects_field-entries.ensures.value ∙ ap (λ (w : ℕ). entry_at_index (value_at p (Kinds.Obj Tables.PkgInfo) w) 15) c.of-word.ensures in
    let count : length ws ≡ count_of values = entry_count p (Kinds.Obj Tables.Dep) ws c.objects_field-entries.ensures.sound ∙ ap (λ (l : Plain). count_of (entries_in l)) same in
    let last : c.loop-i.i ≡ count_of values = omega (arith, count, c.len-i-end.ensures.value, c.loop-i-test.false) in
    let all = ap (λ (n : ℕ). dependencies_to n values) last ∙ all_dependencies values in
    record {
      version = sym (ap version_of (ap (find (is_met_by_provides_entry (dependency c.args.dep.now))) (sym all) ∙ c.loop-i.invariant));
      source = refl;
      text = tt;
    }
