-- Premises of the contracts are met by some files and moments.
use Rattle.std.proofs.Common.{◌≡◌, ◌⊎◌, inl, inr, ⊎_elim, ℕ, ◌≤◌, Bool, List, [], ◌∷◌, ◌++◌, codes, drop, get_or, length, Option, None, Some, IsSome, refl, sym, ap, ◌∙◌, arith}
use Rattle.std.proofs.lemmas.List.{length-append}
use Rattle.base_core.specs.Files.{Files, IsFolderOf, no_names, put_name}
use Rattle.base_core.specs.Tree.{TreeState, files_of}
use Rattle.base_core.proofs.AtName.{name_cases, off_name}
use Rattle.journal_core.specs.Recovery.{intent_name, state_of}
use Rattle.journal_core.specs.Replacing.{CanAddOutputNames, scratch_name_of}
use Rattle.journal_core.specs.Staged.{HasMomentOfIntentFileNumberedAtLeastForFiles, HasEmptyStageAndFreeJournalPaths, IsPresentOrOfJournal}
use Rattle.journal_intent.proofs.AtName.{put_name-off}
use Rattle.journal_intent.specs.FreeNames.{IsIntentNameOrNumberedStageName}

pub now_published : (ignored : List ℕ → Bool) (files : Files) (made n : ℕ) (v : TreeState) (earlier : List TreeState) → v.names intent_name ≡ Some n → made ≤ n → state_of ignored (files_of v) ≡ state_of ignored files
    → HasMomentOfIntentFileNumberedAtLeastForFiles ignored files made (v ∷ earlier)
now_published ignored files made n v earlier there late same = inl (n, there, late, same)

pub none_published : (ignored : List ℕ → Bool) (files : Files) (made : ℕ) (v : TreeState) → v.names intent_name ≡ None → HasMomentOfIntentFileNumberedAtLeastForFiles ignored files made (v ∷ []) → ⊥
none_published ignored files made v none (inl published) = let there = published.1 in cc (none, there)
none_published ignored files made v none (inr published) = published

taken : (q : List ℕ) → IsPresentOrOfJournal no_names q → IsIntentNameOrNumberedStageName q
taken q (inl some) = absurd (cc (some))
taken q (inr either) = either

pub room_to_stage : ((p q : List ℕ) → IsIntentNameOrNumberedStageName p → IsIntentNameOrNumberedStageName q → IsFolderOf p q → ⊥) → HasEmptyStageAndFreeJournalPaths no_names
room_to_stage apart = record {
  empty = λ q waits. refl;
  beside = record { folders = λ p q folder has_p has_q. apart p q (taken p has_p) (taken q has_q) folder };
}

-- ---- the scratch name of a file

no_longer : (p rest : List ℕ) (more : List ℕ) → p ≡ (p ++ more) ++ 47 ∷ rest → ⊥
no_longer p rest more is =
    let count = ap length is ∙ length-append (p ++ more) (47 ∷ rest) in
    let front = length-append p more in
    omega (arith, count, front)

after_same : (front xs ys : List ℕ) → front ++ xs ≡ front ++ ys → xs ≡ ys
after_same [] xs ys is = is
after_same (b ∷ front) xs ys is = after_same front xs ys (ap (drop 1) is)

not_below : (p rest : List ℕ) → p ≡ p ++ 47 ∷ rest → ⊥
not_below p rest is = let count = ap length is ∙ length-append p (47 ∷ rest) in omega (arith, count)

one_of_both : (scratch name q : List ℕ) → IsSome {T = List ℕ} (put_name (put_name no_names scratch []) name [] q) → (q ≡ name) ⊎ (q ≡ scratch)
one_of_both scratch name q some = ⊎_elim
    (λ is. inl is)
    (λ off. ⊎_elim
    (λ is. inr is)
    (λ away. let none : Option (List ℕ) = None in let gone : put_name (put_name no_names scratch []) name [] q ≡ none = put_name-off (put_name no_names scratch []) name [] q (off_name q name off) ∙ put_name-off no_names scratch [] q (off_name q scratch away) in absurd (cc (gone, some)))
    (name_cases q scratch))
    (name_cases q name)

apart_by : (name p q : List ℕ) → (p ≡ name) ⊎ (p ≡ scratch_name_of name) → (q ≡ name) ⊎ (q ≡ scratch_name_of name) → IsFolderOf p q → ⊥
apart_by name p q (inl p_is) (inl q_is) (rest, is) = not_below name rest (sym q_is ∙ is ∙ ap (λ (x : List ℕ). x ++ 47 ∷ rest) p_is)
apart_by name p q (inr p_is) (inr q_is) (rest, is) = not_below (scratch_name_of name) rest (sym q_is ∙ is ∙ ap (λ (x : List ℕ). x ++ 47 ∷ rest) p_is)
apart_by name p q (inr p_is) (inl q_is) (rest, is) = no_longer name rest (codes ".apk-tmp") (sym q_is ∙ is ∙ ap (λ (x : List ℕ). x ++ 47 ∷ rest) p_is)
apart_by name p q (inl p_is) (inr q_is) (rest, is) =
    let same : codes ".apk-tmp" ≡ 47 ∷ rest = after_same name (codes ".apk-tmp") (47 ∷ rest) (sym q_is ∙ is ∙ ap (λ (x : List ℕ). x ++ 47 ∷ rest) p_is) in
    let first : 46 ≡ 47 = ap (λ (x : List ℕ). get_or x 0 0) same in
    omega (arith, first)

pub room_for_file : (name : List ℕ) → CanAddOutputNames name no_names
room_for_file name = record {
  folders = λ p q folder has_p has_q. apart_by name p q (one_of_both (scratch_name_of name) name p has_p) (one_of_both (scratch_name_of name) name q has_q) folder;
}
