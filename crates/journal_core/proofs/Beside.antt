-- The calls of a stage are no misuse where there is room.
use Rattle.std.proofs.Common.{◌≡◌, ◌≢◌, ◌⊎◌, inl, inr, ℕ, ◌+◌, ◌≤◌, ◌<◌, ◌^◌, false, List, [], ◌∷◌, length, Option, None, Some, IsSome, refl, sym, ap, subst, ◌∙◌, arith}
use Rattle.std.specs.Str.{bytes_eq}
use Rattle.base_core.specs.Files.{Files, HasNoFileAsFolder, put_name}
use Rattle.base_core.specs.Tree.{TreeState, File, bytes_of_file_number, CanCreate}
use Rattle.base_core.proofs.AtName.{name_cases, off_name}
use Rattle.journal_core.specs.Recovery.{stage_name}
use Rattle.journal_core.specs.Staged.{Staging, IsPresentOrOfJournal, AreIntentAndStagedPathsFree, HasEmptyStageAndFreeJournalPaths, HasStagedContents, files_with_staged}
use Rattle.journal_intent.proofs.AtName.{put_name-off}
use Rattle.journal_intent.proofs.StageNames.{stage_names_apart}

-- names that are all stage_with_actions_done are folder-like
pub held_like : {A : Type 0} (files : Files) → AreIntentAndStagedPathsFree files → (m : List ℕ → Option A) → ((q : List ℕ) → IsSome (m q) → IsPresentOrOfJournal files q) → HasNoFileAsFolder m
held_like files room m stage_with_actions_done p q folder has_p has_q = room.folders p q folder (stage_with_actions_done p has_p) (stage_with_actions_done q has_q)

pub as_read : (files : ℕ → File) (n : Option ℕ) → IsSome n → IsSome (bytes_of_file_number files n)
as_read files None some = absurd (cc (some))
as_read files (Some n) some = refl

absent_read : (files : ℕ → File) (n : Option ℕ) → bytes_of_file_number files n ≡ None → n ≡ None
absent_read files None e = refl
absent_read files (Some n) e = absurd (cc)

-- what waits is stage_with_actions_done
staged_held : (contents : List (List ℕ)) (k : ℕ) (base F : Files) → ((q : List ℕ) → IsSome (F q) → IsPresentOrOfJournal base q) → (q : List ℕ) → IsSome (files_with_staged k contents F q) → IsPresentOrOfJournal base q
staged_held [] k base F stage_with_actions_done q some = stage_with_actions_done q some
staged_held (b ∷ bs) k base F stage_with_actions_done q some = staged_held bs (k + 1) base (put_name F (stage_name k) b) (λ r has. at r has (name_cases r (stage_name k))) q some
  where
    at : (r : List ℕ) → IsSome (put_name F (stage_name k) b r) → (r ≡ stage_name k) ⊎ (bytes_eq r (stage_name k) ≡ false) → IsPresentOrOfJournal base r
    at r has (inl is) = inr (inr (k, is))
    at r has (inr off) = stage_with_actions_done r (subst IsSome (put_name-off F (stage_name k) b r (off_name r (stage_name k) off)) has)

module _ (stage : Staging) (contents : List (List ℕ)) (base : Files) (v : TreeState) (few : 1 + length contents < 2 ^ 64) (staged : HasStagedContents stage contents None base v) where
  pub read_held : (q : List ℕ) → IsSome (v.names q) → IsPresentOrOfJournal base q
  read_held q some = staged_held contents 1 base base (λ r has. inl has) q (subst (λ (F : Files). IsSome (F q)) staged.reads (as_read v.files (v.names q) some))

  -- behind the last there is place for one more
  pub next_absent : HasEmptyStageAndFreeJournalPaths base → (k : ℕ) → ((j : ℕ) → 1 ≤ j → j < 1 + length contents → stage_name k ≢ stage_name j) → v.names (stage_name k) ≡ None
  next_absent room k apart =
      absent_read v.files (v.names (stage_name k)) (ap (λ (F : Files). F (stage_name k)) staged.reads ∙ below contents 1 base (λ j from until. apart j from until) ∙ room.empty (stage_name k) refl)
    where
      below : (cs : List (List ℕ)) (j : ℕ) (F : Files) → ((i : ℕ) → j ≤ i → i < j + length cs → stage_name k ≢ stage_name i) → files_with_staged j cs F (stage_name k) ≡ F (stage_name k)
      below [] j F off = refl
      below (c ∷ cs) j F off = below cs (j + 1) (put_name F (stage_name j) c) (λ i from until. off i (omega (arith, from)) (omega (arith, until))) ∙ put_name-off F (stage_name j) c (stage_name k) (off j (omega arith) (omega arith))

  pub can_make : HasEmptyStageAndFreeJournalPaths base → (k : ℕ) → ((j : ℕ) → 1 ≤ j → j < 1 + length contents → stage_name k ≢ stage_name j) → CanCreate (stage_name k) v
  can_make room k apart = record {
    absent = next_absent room k apart;
    folders = held_like base room.beside (put_name v.names (stage_name k) v.made) (λ q has. at q has (name_cases q (stage_name k)));
  }
    where
      at : (q : List ℕ) → IsSome (put_name v.names (stage_name k) v.made q) → (q ≡ stage_name k) ⊎ (bytes_eq q (stage_name k) ≡ false) → IsPresentOrOfJournal base q
      at q has (inl is) = inr (inr (k, is))
      at q has (inr off) = read_held q (subst IsSome (put_name-off v.names (stage_name k) v.made q (off_name q (stage_name k) off)) has)

  pub can_begin : (name : List ℕ) → name ≡ stage_name (1 + length contents) → HasEmptyStageAndFreeJournalPaths base → CanCreate name v
  can_begin name is room =
      subst (λ (n : List ℕ). CanCreate n v) (sym is)
      (can_make room (1 + length contents) (λ j from until e. absurd (let same = stage_names_apart (1 + length contents) j few (omega (arith, few, until)) e in omega (arith, until, same))))
