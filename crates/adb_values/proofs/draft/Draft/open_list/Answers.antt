use Rattle.std.proofs.Common.{◌≡◌, ℕ, List, [], ◌∷◌, ◌++◌, length, ap, subst, ◌∙◌}
use Rattle.adb_values.specs.Drafts.{DraftState, draft_from_parts, draft_with_open_list}
use Rattle.adb_values.proofs.draft.Draft.open_list.Goals as goal

pub returns-clause-ok : goal.returns-clause-ok
unfolding draft_with_open_list
returns-clause-ok c =
    let s = c.self.inside in
    let count : c.len.result ≡ length s.words.items = c.len.ensures ∙ s.words.ok.0 in
    let added : c.push.new.self.items ≡ s.starts.items ++ length s.words.items ∷ [] = c.in_ok-push.ensures.items ∙ ap (λ (k : ℕ). s.starts.items ++ k ∷ []) count in
    subst (λ (d : DraftState). draft_from_parts s.writer s.words.items c.push.new.self.items ≡ draft_with_open_list d) c.self.view_is (ap (λ (l : List ℕ). draft_from_parts s.writer s.words.items l) added)
