-- Files that agree where a state looks have one state.
use Rattle.std.proofs.Common.{◌≡◌, inl, inr, ℕ, ◌+◌, ◌≤◌, ◌<◌, Bool, true, false, cond, List, [], ◌∷◌, length, Option, None, Some, refl, sym, ap, subst, ◌∙◌, arith}
use Rattle.std.specs.List.{list_any}
use Rattle.std.specs.Str.{bytes_eq}
use Rattle.base_core.specs.Files.{Files}
use Rattle.journal_core.specs.Recovery.{intent_name, stage_name, Intent, intent_in_file, intent_of, files_without_names, move_if_present, files_after_staged_moves_from, files_after_intent, recovered_files, is_hidden, state_of, IsStagedNameOf, StateDependsOn}

-- two trees of files agree at these names
abbrev pub Agree : (List ℕ → Type 0) → Files → Files → Type 0
Agree S F G = (q : List ℕ) → S q → F q ≡ G q

module _ (S : List ℕ → Type 0) where
  pub agree-without : (names : List (List ℕ)) (F G : Files) → Agree S F G → Agree S (files_without_names names F) (files_without_names names G)
  agree-without names F G h q s = ap (cond (list_any (bytes_eq q) names) None) (h q s)

  agree_moved : (from to : List ℕ) (o : Option (List ℕ)) (F G : Files) → Agree S F G → Agree S (move_if_present F from to o) (move_if_present G from to o)
  agree_moved from to None F G h q s = h q s
  agree_moved from to (Some b) F G h q s = ap (λ (x : Option (List ℕ)). cond (bytes_eq q to) (Some b) (cond (bytes_eq q from) None x)) (h q s)

  agree-move_if_present : (from to : List ℕ) (F G : Files) → S from → Agree S F G → Agree S (move_if_present F from to (F from)) (move_if_present G from to (G from))
  agree-move_if_present from to F G at h =
      subst (λ o. Agree S (move_if_present F from to (F from)) (move_if_present G from to o)) (h from at) (agree_moved from to (F from) F G h)

  pub agree-unstaged : (names : List (List ℕ)) (k : ℕ) (F G : Files) → ((j : ℕ) → k ≤ j → j < k + length names → S (stage_name j)) → Agree S F G → Agree S (files_after_staged_moves_from k names F) (files_after_staged_moves_from k names G)
  agree-unstaged [] k F G at h = h
  agree-unstaged (name ∷ names) k F G at h =
      agree-unstaged names (k + 1) _ _ (λ j from below. at j (omega arith) (omega arith)) (agree-move_if_present (stage_name k) name F G (at k (omega arith) (omega arith)) h)

  agree-recovered_by : (intent : Option Intent) (F G : Files) → ((q : List ℕ) → IsStagedNameOf intent q → S q) → Agree S F G → Agree S (files_after_intent intent F) (files_after_intent intent G)
  agree-recovered_by None F G at h q s = h q s
  agree-recovered_by (Some intent) F G at h q s =
      ap (cond (bytes_eq q intent_name) None)
      (agree-unstaged intent.writes 1 _ _ (λ j from below. at (stage_name j) (j, from, below, refl)) (agree-without intent.removals F G h) q s)

same_shown : (ignored : List ℕ → Bool) (q : List ℕ) (a b : Option (List ℕ)) (hidden : Bool) → is_hidden ignored q ≡ hidden → (is_hidden ignored q ≡ false → a ≡ b) → cond (is_hidden ignored q) None a ≡ cond (is_hidden ignored q) None b
same_shown ignored q a b true is same = ap (λ r. cond r None a) is ∙ sym (ap (λ r. cond r None b) is)
same_shown ignored q a b false is same = ap (cond (is_hidden ignored q) None) (same is)

pub state_agree : (ignored : List ℕ → Bool) (F G : Files) → Agree (StateDependsOn ignored F) F G → state_of ignored F ≡ state_of ignored G
state_agree ignored F G h =
    let same_intent : intent_of F ≡ intent_of G = ap intent_in_file (h intent_name (inl refl)) in
    let same_recovered : (q : List ℕ) → StateDependsOn ignored F q → recovered_files F q ≡ recovered_files G q = λ q s.
    agree-recovered_by (StateDependsOn ignored F) (intent_of F) F G (λ r place. inr (inr place)) h q s ∙ ap (λ o. files_after_intent o G q) same_intent in
    λ i q. same_shown ignored q (recovered_files F q) (recovered_files G q) (is_hidden ignored q) refl (λ shown. same_recovered q (inr (inl shown))) i
