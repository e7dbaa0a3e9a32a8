-- Loops that divide claims by answers over the files of a tree.
use Rattle.std.proofs.Common.{◌≡◌, ℕ, ◌+◌, ◌<◌, ◌≤◌, Bool, true, false, cond, List, [], ◌∷◌, ◌++◌, length, map, take, Option, refl, ap, sym, ◌∙◌, subst, arith}
use Rattle.std.specs.Prelude.{slice_index_or}
use Rattle.base_core.specs.Tree.{TreeState}
use Rattle.path_claim_lists.specs.path_claims.Claims.{PathClaim}
use Rattle.path_claim_lists.specs.path_claims.Seen.{claim_seen}
use Rattle.path_claim_lists.specs.path_claims.declared.claim.Claim.{Claim}
use Rattle.path_claim_lists.proofs.Lists.{take_whole}
use Rattle.own_core.specs.Divided.{AreDividedByAnswer, claims_with_one_if}
use Rattle.own_core.specs.Fates.{marked_claims}
use Rattle.own_core.specs.Found.{IsByFile}
use Rattle.own_core.proofs.TreeLoops.{found_after, found_len}
use Rattle.own_core.proofs.Written.{seen_more}

marked_after : {Y : Type 0} (test : Y → Bool) (cs : List PathClaim) (ys : List Y) (c : PathClaim) (y : Y) → length ys ≡ length cs
    → marked_claims test (cs ++ c ∷ []) (ys ++ y ∷ []) ≡ claims_with_one_if (test y) c (marked_claims test cs ys)
marked_after test [] [] c y l = go (test y)
  where
    go : (b : Bool) → cond b (c ∷ []) [] ≡ claims_with_one_if b c []
    go true = refl
    go false = refl
marked_after test [] (z ∷ ys) c y l = absurd (omega arith)
marked_after test (d ∷ cs) [] c y l = absurd (omega arith)
marked_after test (d ∷ cs) (z ∷ ys) c y l =
    step (test z) (test y) (marked_claims test cs ys) (marked_claims test (cs ++ c ∷ []) (ys ++ y ∷ [])) (marked_after test cs ys c y (omega arith))
  where
    step : (b t : Bool) (old new : List PathClaim) → new ≡ claims_with_one_if t c old → cond b (d ∷ new) new ≡ claims_with_one_if t c (cond b (d ∷ old) old)
    step true true old new h = ap (λ r. d ∷ r) h
    step true false old new h = ap (λ r. d ∷ r) h
    step false t old new h = h

module _ {Y : Type 0} (said : PathClaim → Option (List ℕ) → Y) (first second : Y → Bool) (h : List TreeState) (xs : List Claim) where
  pub divided_start : (ones others : List PathClaim) → ones ≡ [] → others ≡ [] → AreDividedByAnswer said first second h (map claim_seen (take 0 xs)) ones others
  divided_start ones others e f = record { answers = []; found = tt; passing_first = e; passing_second = f }

  -- one answer more
  pub divided_more : (h1 : List TreeState) (i : ℕ) (d : Claim) (y : Y) (ones others new_ones new_others : List PathClaim) → h1 ≡ h → i < length xs
      → AreDividedByAnswer said first second h (map claim_seen (take i xs)) ones others → IsByFile said h1 (claim_seen (slice_index_or xs i d)) y
      → new_ones ≡ claims_with_one_if (first y) (claim_seen (slice_index_or xs i d)) ones → new_others ≡ claims_with_one_if (second y) (claim_seen (slice_index_or xs i d)) others
      → AreDividedByAnswer said first second h (map claim_seen (take (i + 1) xs)) new_ones new_others
  divided_more h1 i d y ones others new_ones new_others same l are is e f =
      subst (λ (cs : List PathClaim). AreDividedByAnswer said first second h cs new_ones new_others) (sym (seen_more xs i d l))
      (record {
        answers = are.answers ++ y ∷ [];
        found = found_after said h so_far are.answers (claim_seen (slice_index_or xs i d)) y are.found (subst (λ (k : List TreeState). IsByFile said k (claim_seen (slice_index_or xs i d)) y) same is);
        passing_first = e ∙ (ap (claims_with_one_if (first y) (claim_seen (slice_index_or xs i d))) are.passing_first ∙ sym (marked_after first so_far are.answers (claim_seen (slice_index_or xs i d)) y long));
        passing_second = f ∙ (ap (claims_with_one_if (second y) (claim_seen (slice_index_or xs i d))) are.passing_second ∙ sym (marked_after second so_far are.answers (claim_seen (slice_index_or xs i d)) y long));
      })
    where
      so_far : List PathClaim
      so_far = map claim_seen (take i xs)

      long : length are.answers ≡ length so_far
      long = found_len said h so_far are.answers are.found

  pub divided_all : (i : ℕ) (ones others : List PathClaim) → length xs ≤ i → AreDividedByAnswer said first second h (map claim_seen (take i xs)) ones others → AreDividedByAnswer said first second h (map claim_seen xs) ones others
  divided_all i ones others l = subst (λ (zs : List Claim). AreDividedByAnswer said first second h (map claim_seen zs) ones others) (take_whole xs i l)
