use Rattle.std.proofs.Common.{◌≡◌, ◌∙◌, ◌<◌, ◌+◌, ◌-◌, ◌++◌, List, ℕ, length, length-append, ap, sym, subst, refl, arith, false}
use Rattle.std.specs.Prelude.{Some, Vec, slice_get}
use Rattle.std.specs.Global.{Global}
use Rattle.adb_view.specs.Adb.{payload_of}
use Rattle.adb_view.specs.Entries.{array_entries}
use Rattle.adb_view.specs.Plain.{Plains}
use Rattle.adb_schema.specs.adb_fields.Fields.{array_at}
use Rattle.adb_schema.proofs.adb_fields.FieldReads.{entry_count}
use Rattle.adb_view.specs.Values.{count_of, entries_in, nth, value_at}
use Rattle.adb_view.specs.declared.tables.Kind.TheVariants as Kinds
use Rattle.adb_view.specs.declared.tables.Which.TheVariants as Tables
use Rattle.candidate_core.specs.Candidates.{Candidate}
use Rattle.candidate_core.specs.Packages.{candidate_in_source, candidates_of_packages}
use Rattle.candidate_core.specs.SoundTexts.{HasSoundTexts}
use Rattle.candidate_core.specs.declared.packages.Source.{Source}
use Rattle.candidate_core.proofs.CandidateLists.{all_candidates, candidates_step, candidates_to, length-candidates_to}
use Rattle.candidate_core.proofs.ReadWords.{word_sound, word_value, word_within}
use Rattle.candidate_core.proofs.Steps.{fault_more}
use Rattle.candidate_core.proofs.candidate_list.CandidateList.push_all.Goals as goal

pub push-requires : goal.push-requires
push-requires c =
    let p : List ℕ = payload_of c.args.source.adb in
    let ws : List ℕ = array_entries c.args.packages in
    let infos : Plains = entries_in (array_at p (Kinds.Obj Tables.PkgInfo) ws) in
    let i : ℕ = c.loop-i.i in
    let word : ℕ = c.entry_word-word.result in
    let within : i < length ws = omega (arith, c.len-i-end.ensures.value, c.loop-i-test.true) in
    let value : value_at p (Kinds.Obj Tables.PkgInfo) word ≡ nth infos ((i + 1) - 1) = word_value p (Kinds.Obj Tables.PkgInfo) ws i word c.requires.sound within c.entry_word-word.ensures in
    let e : (i + 1) - 1 ≡ i = omega arith in
    record {
      list = c.loop-i.invariant.list;
      source = c.loop-i.invariant.source;
      word = record {
        sound = word_sound p (Kinds.Obj Tables.PkgInfo) ws i word c.requires.sound within c.entry_word-word.ensures;
        texts = λ known. subst HasSoundTexts (sym (value ∙ ap (nth infos) e)) (c.requires.texts known i (word_within p (Kinds.Obj Tables.PkgInfo) ws i word c.requires.sound within c.entry_word-word.ensures));
      };
    }

pub loop-i-preserved : goal.loop-i-preserved
loop-i-preserved c =
    let source : Source = c.args.source in
    let p : List ℕ = payload_of source.adb in
    let ws : List ℕ = array_entries c.args.packages in
    let infos : Plains = entries_in (array_at p (Kinds.Obj Tables.PkgInfo) ws) in
    let word : ℕ = c.entry_word-word.result in
    let within : c.loop-i.i < length ws = omega (arith, c.len-i-end.ensures.value, c.loop-i-test.true) in
    record {
      list = c.in-Ok.ensures.list;
      source = ap (λ (v : Vec Source Global). slice_get v.items c.in_ok-source_place.source_place) c.in-Ok.ensures.sources ∙ c.loop-i.invariant.source;
      pushed =
          candidates_step source c.loop-i.i infos (value_at p (Kinds.Obj Tables.PkgInfo) word) (candidate_in_source (Some source) word false)
          (candidates_of_packages c.args.self.now.packages) (candidates_of_packages c.loop-i.self.packages) (candidates_of_packages c.push.new.self.packages)
          (word_within p (Kinds.Obj Tables.PkgInfo) ws c.loop-i.i word c.requires.sound within c.entry_word-word.ensures)
          (word_value p (Kinds.Obj Tables.PkgInfo) ws c.loop-i.i word c.requires.sound within c.entry_word-word.ensures)
          refl c.loop-i.invariant.pushed c.in-Ok.ensures.pushed;
    }

pub returns-in-Err-clause-fault : goal.returns-in-Err-clause-fault
returns-in-Err-clause-fault c =
    let p : List ℕ = payload_of c.args.source.adb in
    let ws : List ℕ = array_entries c.args.packages in
    let infos : Plains = entries_in (array_at p (Kinds.Obj Tables.PkgInfo) ws) in
    let old : List Candidate = candidates_of_packages c.args.self.now.packages in
    let now : List Candidate = candidates_of_packages c.loop-i.self.packages in
    let within : c.loop-i.i < length ws = omega (arith, c.len-i-end.ensures.value, c.loop-i-test.true) in
    let here : c.loop-i.i < count_of infos = word_within p (Kinds.Obj Tables.PkgInfo) ws c.loop-i.i c.entry_word-word.result c.requires.sound within c.entry_word-word.ensures in
    let done : List Candidate = candidates_to c.args.source c.loop-i.i infos in
    let many : length done ≡ c.loop-i.i = length-candidates_to c.args.source c.loop-i.i infos (omega (arith, here)) in
    let len : length now ≡ length old + length done = ap length c.loop-i.invariant.pushed ∙ length-append old done in
    fault_more c.in-Err.fault (length now + 1) (length old + count_of infos) (omega (arith, here, many, len)) c.in-Err.ensures.fault

pub returns-clause-pushed : goal.returns-clause-pushed
returns-clause-pushed c =
    let p : List ℕ = payload_of c.args.source.adb in
    let ws : List ℕ = array_entries c.args.packages in
    let infos : Plains = entries_in (array_at p (Kinds.Obj Tables.PkgInfo) ws) in
    let last : c.loop-i.i ≡ count_of infos = omega (arith, c.len-i-end.ensures.value, c.loop-i-test.false, entry_count p (Kinds.Obj Tables.PkgInfo) ws c.requires.sound) in
    c.loop-i.invariant.pushed ∙ ap (λ (z : List Candidate). candidates_of_packages c.args.self.now.packages ++ z) (ap (λ (n : ℕ). candidates_to c.args.source n infos) last ∙ all_candidates c.args.source infos)
