-- The files of a tree that does not tell them, put together of those that were found path by path.
use Rattle.std.proofs.Common.{◌≡◌, inl, inr, ℕ, List, [], ◌∷◌, Option, None, refl, ap, sym, ◌∙◌}
use Rattle.std.specs.Prelude.{bytes_eq, if◌then◌else◌}
use Rattle.std.specs.Cmp.Lexicographic.{bytes_decides}
use Rattle.std.specs.Ordering.{is_lt}
use Rattle.base_core.specs.Calls.{IfObservable}
use Rattle.base_core.specs.Files.{Files}
use Rattle.base_core.specs.Tree.{TreeState, files_of}
use Rattle.base_core.proofs.Rising as Names
use Rattle.base_core.proofs.NameParts.{other_bytes}
use Rattle.path_claim_lists.specs.path_claims.Claims.{PathClaim}
use Rattle.path_claim_lists.proofs.Firsts.{paths}
use Rattle.path_claim_lists.proofs.PathOrder.{less_apart}
use Rattle.own_core.specs.Found.{AreAnswersByFiles, results_for_claims}

pub by_tree : {Y : Type 0} (said : PathClaim → Option (List ℕ) → Y) (v : TreeState) (earlier : List TreeState) (cs : List PathClaim) (ys : List Y) → AreAnswersByFiles said (v ∷ earlier) cs ys → ys ≡ results_for_claims said (files_of v) cs
by_tree said v earlier [] [] are = refl
by_tree said v earlier [] (y ∷ ys) are = absurd are
by_tree said v earlier (c ∷ cs) [] are = absurd are
by_tree said v earlier (c ∷ cs) (y ∷ ys) are = (λ j. (are.0.is ∙ ap (said c) are.0.told) j ∷ by_tree said v earlier cs ys are.1 j)

same_said : {Y : Type 0} (said : PathClaim → Option (List ℕ) → Y) (f g : Files) (cs : List PathClaim) → ((q : List ℕ) → Names.IsIn q (paths cs) → f q ≡ g q) → results_for_claims said f cs ≡ results_for_claims said g cs
same_said said f g [] h = refl
same_said said f g (c ∷ cs) h = (λ j. said c (h c.path (inl refl) j) ∷ same_said said f g cs (λ q here. h q (inr here)) j)

-- ---- put together

-- the files that were found under the paths of claims, and others elsewhere
abbrev found_or : {Y : Type 0} (said : PathClaim → Option (List ℕ) → Y) (h : List TreeState) (cs : List PathClaim) (ys : List Y) → AreAnswersByFiles said h cs ys → Files → Files
found_or said h [] ys are others q = others q
found_or said h (c ∷ cs) [] are others q = others q
found_or said h (c ∷ cs) (y ∷ ys) are others q = if bytes_eq c.path q then are.0.found else found_or said h cs ys are.1 others q

found_elsewhere : {Y : Type 0} (said : PathClaim → Option (List ℕ) → Y) (h : List TreeState) (cs : List PathClaim) (ys : List Y) (are : AreAnswersByFiles said h cs ys) (others : Files) (q : List ℕ)
    → (Names.IsIn q (paths cs) → ⊥) → found_or said h cs ys are others q ≡ others q
found_elsewhere said h [] ys are others q off = refl
found_elsewhere said h (c ∷ cs) [] are others q off = refl
found_elsewhere said h (c ∷ cs) (y ∷ ys) are others q off =
    ap (λ b. if b then are.0.found else found_or said h cs ys are.1 others q) (other_bytes c.path q (λ is. off (inl (sym is))))
    ∙ found_elsewhere said h cs ys are.1 others q (λ here. off (inr here))

found_each : {Y : Type 0} (said : PathClaim → Option (List ℕ) → Y) (h : List TreeState) (cs : List PathClaim) (ys : List Y) (are : AreAnswersByFiles said h cs ys) (others : Files)
    → Names.Rises (paths cs) → ys ≡ results_for_claims said (found_or said h cs ys are others) cs
found_each said h [] [] are others up = refl
found_each said h [] (y ∷ ys) are others up = absurd are
found_each said h (c ∷ cs) [] are others up = absurd are
found_each said h (c ∷ cs) (y ∷ ys) are others up =
    let here : found_or said h (c ∷ cs) (y ∷ ys) are others c.path ≡ are.0.found = ap (λ b. if b then are.0.found else found_or said h cs ys are.1 others c.path) ((bytes_decides c.path c.path).1 refl) in
    let behind : results_for_claims said (found_or said h cs ys are.1 others) cs ≡ results_for_claims said (found_or said h (c ∷ cs) (y ∷ ys) are others) cs =
    same_said said (found_or said h cs ys are.1 others) (found_or said h (c ∷ cs) (y ∷ ys) are others) cs
    (λ q there. sym (ap (λ b. if b then are.0.found else found_or said h cs ys are.1 others q) (less_apart c.path q (ap is_lt (up.0 q there))))) in
    (λ j. (are.0.is ∙ ap (said c) (sym here)) j ∷ (found_each said h cs ys are.1 others up.1 ∙ behind) j)

-- ---- over two lists that have no path in common

pub record AreFilesFound {Y Z : Type 0} (first : PathClaim → Option (List ℕ) → Y) (second : PathClaim → Option (List ℕ) → Z) (h : List TreeState) (cs ds : List PathClaim) (ys : List Y) (zs : List Z) : Type 0 where
  pub files : Files
  pub told : IfObservable h (λ v. files ≡ files_of v)
  pub one : ys ≡ results_for_claims first files cs
  pub other : zs ≡ results_for_claims second files ds

pub files_found : {Y Z : Type 0} (first : PathClaim → Option (List ℕ) → Y) (second : PathClaim → Option (List ℕ) → Z) (h : List TreeState) (cs ds : List PathClaim) (ys : List Y) (zs : List Z)
    → Names.Rises (paths cs) → Names.Rises (paths ds) → ((q : List ℕ) → Names.IsIn q (paths cs) → Names.IsIn q (paths ds) → ⊥)
    → AreAnswersByFiles first h cs ys → AreAnswersByFiles second h ds zs → AreFilesFound first second h cs ds ys zs
files_found first second (v ∷ earlier) cs ds ys zs up down apart are others =
    record { files = files_of v; told = refl; one = by_tree first v earlier cs ys are; other = by_tree second v earlier ds zs others }
files_found first second [] cs ds ys zs up down apart are others =
    let behind : Files = found_or second [] ds zs others (λ q. None) in
    record {
      files = found_or first [] cs ys are behind;
      told = tt;
      one = found_each first [] cs ys are behind up;
      other = found_each second [] ds zs others (λ q. None) down
          ∙ same_said second behind (found_or first [] cs ys are behind) ds (λ q here. sym (found_elsewhere first [] cs ys are behind q (λ there. apart q there here)));
    }
