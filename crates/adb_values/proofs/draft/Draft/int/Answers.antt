use Rattle.std.proofs.Common.{◌≡◌, ℕ, List, [], ◌∷◌, ◌++◌, ap, subst, ◌∙◌}
use Rattle.adb_view.specs.Plain.{int}
use Rattle.adb_values.specs.Drafts.{DraftState, draft_from_parts, draft_with}
use Rattle.adb_values.proofs.Taken.{takes}
use Rattle.adb_values.proofs.Words.{call_whole}
use Rattle.adb_write.proofs.Kept.{int_keeps}
use Rattle.adb_write.specs.Writing.{int_call}
use Rattle.adb_values.proofs.draft.Draft.int.Goals as goal

pub returns-clause-ok : goal.returns-clause-ok
returns-clause-ok c =
    let s = c.self.inside in
    let word : ℕ = c.in_ok-word.word in
    let added : c.push.new.self.items ≡ s.words.items ++ word ∷ [] = c.in_ok-push.ensures.items ∙ ap (λ (l : List ℕ). l ++ word ∷ []) c.reserve.ensures.items in
    subst (λ (d : DraftState). draft_from_parts c.int.new.self c.push.new.self.items s.starts.items ≡ draft_with (int c.args.n) d) c.self.view_is
    (takes (int c.args.n) s.writer c.int.new.self s.words.items c.push.new.self.items s.starts.items word c.in_ok-word.ensures.written added)

pub invariant_of-self-2 : goal.invariant_of-self-2
invariant_of-self-2 c =
    let w = c.self.inside.writer in
    call_whole c.in_ok-word.word w c.int.new.self (int_call c.args.n w) (int_keeps c.args.n w c.self.invariant) c.in_ok-word.ensures.ok
