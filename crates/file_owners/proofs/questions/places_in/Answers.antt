use Rattle.std.proofs.Common.{◌∙◌, All, Bool, List, ap, sym, subst}
use Rattle.std.specs.List.{list_any}
use Rattle.std.proofs.lemmas.List.Sorted.{All-permutation, list_any-IsPermutation}
use Rattle.adb_view.specs.Adb.{payload_of}
use Rattle.db_core.specs.Seen.{members_of}
use Rattle.file_owners.specs.Questions.{IsQuestionIn, question_names_package}
use Rattle.file_owners.specs.declared.questions.Question.{Question}
use Rattle.file_owners.proofs.questions.places_in.Goals as goal

pub places_asked-requires : goal.places_asked-requires
places_asked-requires c =
    let P : Question → Type 0 = IsQuestionIn (members_of c.args.members.now) (payload_of c.args.adb) in
    subst (λ (qs : List Question). All P qs) (sym c.deref.ensures.value)
    (All-permutation P c.in_ok-questions.questions.items c.sort_by.new.self.items c.in_ok-sort_by.ensures.permutation c.in_ok-questions.ensures.questions)

pub returns : goal.returns
returns c = λ y m g.
    let asks : Question → Bool = question_names_package (payload_of c.args.adb) y m.pkg in
    c.in_ok-places.ensures y m g
    ∙ (ap (list_any asks) c.deref.ensures.value
    ∙ (sym (list_any-IsPermutation asks c.in_ok-questions.questions.items c.sort_by.new.self.items c.in_ok-sort_by.ensures.permutation)
    ∙ c.in_ok-questions.ensures.asked y m g))
