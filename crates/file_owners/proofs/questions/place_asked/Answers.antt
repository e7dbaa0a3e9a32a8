use Rattle.std.proofs.Common.{◌≡◌}
use Rattle.std.specs.Prelude.{Some, slice_get}
use Rattle.adb_view.specs.Adb.{payload_of}
use Rattle.db_core.specs.Members.{is_found_place}
use Rattle.db_core.specs.Seen.{members_of}
use Rattle.file_owners.specs.Questions.{IsQuestionIn}
use Rattle.file_owners.specs.declared.questions.Question.{Question}
use Rattle.file_owners.proofs.AnyOfFront.{all_at, read_at}
use Rattle.file_owners.proofs.AskedQuestions.{again_answered, next_answered}
use Rattle.file_owners.proofs.questions.place_asked.Goals as goal

pub returns-then-repeats_the_one_before : goal.returns-then-repeats_the_one_before
returns-then-repeats_the_one_before c = λ y m g.
    again_answered (members_of c.args.members.now) (payload_of c.args.adb) c.args.questions.now c.args.i c.requires.questions y m
    (c.repeats_the_one_before.ensures.first c.if-repeats_the_one_before.true) c.requires.within (c.repeats_the_one_before.ensures.same c.if-repeats_the_one_before.true)

pub returns : goal.returns
returns c = λ y m g.
    let q : Question = c.index-questions-i.result in
    let at : slice_get c.args.questions.now c.args.i ≡ Some q = read_at c.args.questions.now c.args.i q c.requires.within c.index-questions-i.is in
    next_answered (members_of c.args.members.now) (payload_of c.args.adb) c.args.questions.now c.args.i c.requires.questions y m q (is_found_place y c.place_if_named.result) at (c.place_if_named.ensures y m g)

pub place_if_named-requires : goal.place_if_named-requires
place_if_named-requires c =
    let q : Question = c.index-questions-i.result in
    let at : slice_get c.args.questions.now c.args.i ≡ Some q = read_at c.args.questions.now c.args.i q c.requires.within c.index-questions-i.is in
    all_at (IsQuestionIn (members_of c.args.members.now) (payload_of c.args.adb)) c.args.questions.now c.args.i q c.requires.questions at
