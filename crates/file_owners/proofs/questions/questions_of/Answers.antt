use Rattle.std.proofs.Common.{◌<◌, ℕ, List, length, sym, subst, arith}
use Rattle.std.specs.Prelude.{All}
use Rattle.path_claims.specs.adb_fields.Fields.{array_at}
use Rattle.path_claims.proofs.adb_fields.FieldReads.{entry_count}
use Rattle.db_core.specs.adb_schema.SoundValues.{ObeysTextAndNumberRulesOfDependency}
use Rattle.db_core.proofs.adb_schema.SoundLeaves.{each_at}
use Rattle.adb_view.specs.Values.{entries_in, value_at}
use Rattle.adb_view.specs.declared.tables.Kind.{Kind}
use Rattle.adb_view.specs.declared.tables.Kind.TheVariants as Kinds
use Rattle.adb_view.specs.declared.tables.Which.TheVariants as Tables
use Rattle.adb_view.specs.Adb.{payload_of}
use Rattle.adb_view.specs.Entries.{array_entries}
use Rattle.adb_view.specs.Plain.{Plains}
use Rattle.db_core.specs.Seen.{members_of}
use Rattle.file_owners.specs.Questions.{IsQuestionIn}
use Rattle.file_owners.specs.declared.questions.Question.{Question}
use Rattle.file_owners.proofs.AskedQuestions.{all_asked, all_with, entry_asked}
use Rattle.file_owners.proofs.ReadWords.{word_sound, word_value, word_within}
use Rattle.file_owners.proofs.questions.questions_of.Goals as goal

pub question_of-requires-clause-sound : goal.question_of-requires-clause-sound
question_of-requires-clause-sound c =
    let ws : List ℕ = array_entries c.args.entries in
    let within : c.loop-i.i < length ws = omega (arith, c.len-i-end.ensures.value, c.loop-i-test.true) in
    word_sound (payload_of c.args.adb) (Kinds.Obj Tables.Dep) ws c.loop-i.i c.entry_word.result c.requires.sound within c.entry_word.ensures

pub question_of-requires-clause-texts : goal.question_of-requires-clause-texts
question_of-requires-clause-texts c =
    let p : List ℕ = payload_of c.args.adb in
    let k : Kind = (Kinds.Obj Tables.Dep) in
    let ws : List ℕ = array_entries c.args.entries in
    let i : ℕ = c.loop-i.i in
    let within : i < length ws = omega (arith, c.len-i-end.ensures.value, c.loop-i-test.true) in
    subst ObeysTextAndNumberRulesOfDependency (sym (word_value p k ws i c.entry_word.result c.requires.sound within c.entry_word.ensures))
    (each_at ObeysTextAndNumberRulesOfDependency (entries_in (array_at p k ws)) i c.requires.texts (word_within p k ws i c.entry_word.result c.requires.sound within c.entry_word.ensures))

pub loop-i-preserved : goal.loop-i-preserved
loop-i-preserved c =
    let p : List ℕ = payload_of c.args.adb in
    let k : Kind = (Kinds.Obj Tables.Dep) in
    let ws : List ℕ = array_entries c.args.entries in
    let values : Plains = entries_in (array_at p k ws) in
    let i : ℕ = c.loop-i.i in
    let word : ℕ = c.entry_word.result in
    let within : i < length ws = omega (arith, c.len-i-end.ensures.value, c.loop-i-test.true) in
    let old : List Question = c.loop-i.questions.items in
    let P : Question → Type 0 = IsQuestionIn (members_of c.args.members.now) p in
    record {
      asked =
          entry_asked p (members_of c.args.members.now) old c.add_question.new.questions.items c.question_of.result values i (value_at p k word)
          (word_within p k ws i word c.requires.sound within c.entry_word.ensures) (word_value p k ws i word c.requires.sound within c.entry_word.ensures)
          c.in_ok-add_question.ensures c.question_of.ensures.asked c.loop-i.invariant.asked;
      each = subst (λ (qs : List Question). All P qs) (sym c.in_ok-add_question.ensures) (all_with P old c.question_of.result c.loop-i.invariant.each c.question_of.ensures.question);
    }

pub returns-clause-asked : goal.returns-clause-asked
returns-clause-asked c =
    let p : List ℕ = payload_of c.args.adb in
    let ws : List ℕ = array_entries c.args.entries in
    all_asked p (members_of c.args.members.now) c.loop-i.questions.items (entries_in (array_at p (Kinds.Obj Tables.Dep) ws)) c.loop-i.i
    (omega (arith, c.len-i-end.ensures.value, c.loop-i-test.false, c.loop-i.auto.i-end, entry_count p (Kinds.Obj Tables.Dep) ws c.requires.sound)) c.loop-i.invariant.asked

pub returns-clause-questions : goal.returns-clause-questions
returns-clause-questions c = c.loop-i.invariant.each
