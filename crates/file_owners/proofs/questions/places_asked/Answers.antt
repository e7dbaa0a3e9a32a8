use Rattle.std.proofs.Common.{◌∙◌, ◌≤◌, List, ap, arith, length}
use Rattle.std.specs.Prelude.{◌||◌}
use Rattle.std.specs.List.{list_any}
use Rattle.std.proofs.lemmas.List.{take_all}
use Rattle.adb_view.specs.Adb.{payload_of}
use Rattle.db_core.specs.Members.{is_found_place}
use Rattle.file_owners.specs.Questions.{question_names_package}
use Rattle.file_owners.specs.declared.questions.Question.{Question}
use Rattle.file_owners.proofs.questions.places_asked.Goals as goal

pub loop-i-preserved : goal.loop-i-preserved
loop-i-preserved c = λ y m g.
    c.in_ok-add_place.ensures y
    ∙ (ap (λ b. b || is_found_place y c.place_asked.result) (c.loop-i.invariant y m g) ∙ c.place_asked.ensures y m g)

pub returns : goal.returns
returns c = λ y m g.
    let questions : List Question = c.args.questions.now in
    let past : length questions ≤ c.loop-i.i = omega (arith, c.loop-i-test.false, c.loop-i.auto.i-end) in
    c.loop-i.invariant y m g ∙ ap (list_any (question_names_package (payload_of c.args.adb) y m.pkg)) (take_all c.loop-i.i questions past)
