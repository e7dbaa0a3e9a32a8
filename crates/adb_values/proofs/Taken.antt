-- A value that the writer wrote is one that the draft takes.
use Rattle.std.proofs.Common.{◌≡◌, ℕ, List, [], ◌∷◌, ◌++◌, sym, ap, ◌∙◌, append_assoc, append-nil}
use Rattle.adb_view.specs.Plain.{Plain, null, Plains, none, more}
use Rattle.adb_write.specs.DepthFirst.{WritesValueDepthFirst}
use Rattle.adb_write.specs.Writing.{Writing, calls, calls_all}
use Rattle.adb_write.proofs.DepthFirst.{calls_none, calls_more, calls_null}
use Rattle.adb_values.specs.Drafts.{draft_from_parts, draft_with, draft_with_all}

pub takes : (v : Plain) (old new : Writing) (words more_words starts : List ℕ) (word : ℕ) → WritesValueDepthFirst old v word new → more_words ≡ words ++ word ∷ []
    → draft_from_parts new more_words starts ≡ draft_with v (draft_from_parts old words starts)
unfolding draft_with
takes v old new words more_words starts word wrote is =
    ap (λ (ws : List ℕ). draft_from_parts new ws starts) is ∙ ap (λ (r : ℕ × Writing). draft_from_parts r.1 (words ++ r.0 ∷ []) starts) wrote.is

pub takes_null : (w : Writing) (words more_words starts : List ℕ) → more_words ≡ words ++ 0 ∷ [] → draft_from_parts w more_words starts ≡ draft_with null (draft_from_parts w words starts)
takes_null w words more_words starts is = takes null w w words more_words starts 0 (record { is = sym (calls_null w) }) is

-- a draft that takes values has their words after its own
pub takes_all : (vs : Plains) (w : Writing) (words starts : List ℕ) → draft_with_all vs (draft_from_parts w words starts) ≡ draft_from_parts (calls_all vs w).1 (words ++ (calls_all vs w).0) starts
unfolding draft_with
takes_all none w words starts =
    ap (λ (ws : List ℕ). draft_from_parts w ws starts) (sym (append-nil words)) ∙ ap (λ (r : List ℕ × Writing). draft_from_parts r.1 (words ++ r.0) starts) (sym (calls_none w))
takes_all (more v vs) w words starts =
    let there : Writing = (calls v w).1 in
    takes_all vs there (words ++ (calls v w).0 ∷ []) starts
    ∙ ap (λ (ws : List ℕ). draft_from_parts (calls_all vs there).1 ws starts) (append_assoc words ((calls v w).0 ∷ []) (calls_all vs there).0)
    ∙ ap (λ (r : List ℕ × Writing). draft_from_parts r.1 (words ++ r.0) starts) (sym (calls_more v vs w))
