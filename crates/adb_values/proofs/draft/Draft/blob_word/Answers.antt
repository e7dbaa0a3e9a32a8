use Rattle.std.proofs.Common.{◌≡◌, ℕ, List, [], ◌∷◌, ◌++◌, ap, subst, ◌∙◌}
use Rattle.adb_view.specs.Plain.{blob_or_null}
use Rattle.adb_values.specs.Drafts.{DraftState, draft_from_parts, draft_with}
use Rattle.adb_write.specs.Writing.{blob_call}
use Rattle.adb_write.proofs.Kept.{blob_keeps}
use Rattle.adb_values.proofs.Taken.{takes}
use Rattle.adb_values.proofs.Words.{blob_has, call_whole}
use Rattle.adb_values.proofs.draft.Draft.blob_word.Goals as goal

pub returns-clause-ok : goal.returns-clause-ok
returns-clause-ok c =
    let s = c.self.inside in
    let word : ℕ = c.in_ok-word.word in
    let added : c.push.new.self.items ≡ s.words.items ++ word ∷ [] = c.in_ok-push.ensures.items ∙ ap (λ (l : List ℕ). l ++ word ∷ []) c.reserve.ensures.items in
    subst (λ (d : DraftState). draft_from_parts c.blob.new.self c.push.new.self.items s.starts.items ≡ draft_with (blob_or_null c.args.bytes.now) d) c.self.view_is
    (takes (blob_or_null c.args.bytes.now) s.writer c.blob.new.self s.words.items c.push.new.self.items s.starts.items word c.in_ok-word.ensures.written added)

pub invariant_of-self-2 : goal.invariant_of-self-2
invariant_of-self-2 c =
    let s = c.self.inside in
    call_whole c.in_ok-word.word s.writer c.blob.new.self (blob_call c.args.bytes.now s.writer) (blob_keeps c.args.bytes.now s.writer c.self.invariant) c.in_ok-word.ensures.ok

pub returns-clause-word : goal.returns-clause-word
returns-clause-word c =
    let s = c.self.inside in
    blob_has c.args.bytes.now c.in_ok-word.word s.writer c.blob.new.self c.push.new.self.items s.starts.items c.self.invariant c.in_ok-word.ensures.ok
