use Rattle.std.proofs.Common.{◌≡◌, ◌∙◌, ◌+◌, ◌-◌, ◌<◌, List, ℕ, true, length, ap, sym, arith}
use Rattle.std.specs.Prelude.{is_some, not}
use Rattle.std.specs.Option.{option_map}
use Rattle.adb_view.specs.Adb.{payload_of}
use Rattle.adb_view.specs.Entries.{array_entries}
use Rattle.adb_view.specs.Plain.{Plain}
use Rattle.adb_view.specs.declared.adb.Adb.{Adb}
use Rattle.adb_schema.specs.adb_fields.Fields.{array_at}
use Rattle.adb_schema.proofs.adb_fields.FieldReads.{entry_count}
use Rattle.adb_view.specs.Values.{entries_in, nth, value_at}
use Rattle.adb_view.specs.declared.tables.Kind.TheVariants as Kinds
use Rattle.adb_view.specs.declared.tables.Which.TheVariants as Tables
use Rattle.dep_core.specs.Meets.{dependency}
use Rattle.candidate_core.specs.Candidates.{dependency_in}
use Rattle.candidate_core.proofs.JudgedLists.{one_more_sound, some_mapped}
use Rattle.candidate_core.proofs.ReadWords.{word_value}
use Rattle.candidate_core.proofs.judging.are_dependencies.Goals as goal

pub loop-i-preserved : goal.loop-i-preserved
loop-i-preserved c =
    let p : List ℕ = payload_of c.args.judged.now.adb in
    let ws : List ℕ = array_entries c.args.words in
    let list : Plain = array_at p (Kinds.Obj Tables.Dep) ws in
    let i : ℕ = c.loop-i.i in
    let word : ℕ = c.entry_word.result in
    let within : i < length ws = omega (arith, c.len-i-end.ensures.value, c.loop-i-test.true) in
    let value : value_at p (Kinds.Obj Tables.Dep) word ≡ nth (entries_in list) ((i + 1) - 1) = word_value p (Kinds.Obj Tables.Dep) ws i word c.requires within c.entry_word.ensures in
    let found : option_map dependency c.in_ok-found.found ≡ dependency_in (value_at p (Kinds.Obj Tables.Dep) word) =
    c.in_ok-found.ensures.found ∙ ap (λ (adb : Adb). dependency_in (value_at (payload_of adb) (Kinds.Obj Tables.Dep) word)) c.loop-i.invariant.payload in
    let some : is_some (dependency_in (value_at p (Kinds.Obj Tables.Dep) word)) ≡ true =
    ap is_some (sym found) ∙ some_mapped dependency c.in_ok-found.found (c.is_none.ensures ∙ ap not c.if-is_none.false) in
    record {
      each = one_more_sound list i (value_at p (Kinds.Obj Tables.Dep) word) value some c.loop-i.invariant.each;
      payload = c.read_entry.ensures.payload ∙ c.loop-i.invariant.payload;
    }

pub returns-clause-entries : goal.returns-clause-entries
returns-clause-entries c = λ known k h.
    let p : List ℕ = payload_of c.args.judged.now.adb in
    let ws : List ℕ = array_entries c.args.words in
    c.loop-i.invariant.each k (omega (arith, h, c.len-i-end.ensures.value, c.loop-i-test.false, entry_count p (Kinds.Obj Tables.Dep) ws c.requires))
