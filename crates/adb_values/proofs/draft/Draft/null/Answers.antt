use Rattle.std.proofs.Common.{◌≡◌, ℕ, [], ◌∷◌, ◌++◌, ap, subst, ◌∙◌}
use Rattle.adb_view.specs.Plain.{null}
use Rattle.adb_values.specs.Drafts.{DraftState, draft_from_parts, draft_with}
use Rattle.adb_values.proofs.Taken.{takes_null}
use Rattle.adb_values.proofs.draft.Draft.null.Goals as goal

pub returns-clause-ok : goal.returns-clause-ok
returns-clause-ok c =
    let s = c.self.inside in
    let added : c.push.new.self.items ≡ s.words.items ++ 0 ∷ [] = c.in_ok-push.ensures.items ∙ ap (λ (w : ℕ). s.words.items ++ w ∷ []) c.of.ensures in
    subst (λ (d : DraftState). draft_from_parts s.writer c.push.new.self.items s.starts.items ≡ draft_with null d) c.self.view_is (takes_null s.writer s.words.items c.push.new.self.items s.starts.items added)
