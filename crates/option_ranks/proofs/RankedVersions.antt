-- Options whose versions are ranked: what stays of each, and which texts are one.
use Rattle.std.proofs.Common.{◌≡◌, All, inl, inr, ℕ, zero, suc, ◌+◌, ◌-◌, ◌≤◌, ◌<◌, List, [], ◌∷◌, ◌++◌, length, take, map, get_or, set, refl, sym, subst, ap, ◌∙◌, arith}
use Rattle.std.specs.Prelude.{IfSome, Option, Some, None, is_some, slice_get}
use Rattle.std.specs.List.Sorted.{IsPermutation}
use Rattle.std.proofs.lemmas.List.Elements.{All-map, All-push}
use Rattle.std.proofs.lemmas.List.Sorted.{All-permutation, IsPermutation-map}
use Rattle.candidate_core.specs.Options.{IsIn}
use Rattle.option_ranks.specs.Ranking.{Ranking}
use Rattle.candidate_core.specs.VersionTexts.{HasVersionTextFrom}
use Rattle.option_ranks.specs.VersionRanks.{AreRankedFrom, HaveVersionsFromSameTexts, HaveSamePlace, IsVersionAmong, rank_among, version_of, with_version_rank, with_rank_among}
use Rattle.candidate_core.specs.declared.versions.RankedVersion.{RankedVersion}
use Rattle.candidate_core.specs.declared.versions.VersionKind.{VersionKind}
use Rattle.candidate_core.specs.declared.versions.VersionKind.TheVariants.{Under, Own}
use Rattle.candidate_core.proofs.Steps.{get_at, take_one_more}

-- ---- texts

same_text : (text : ℕ → ℕ → List ℕ) (s t w u : ℕ) (o p : Option (List ℕ)) → IfSome o (λ v. v ≡ text s w) → IfSome p (λ v. v ≡ text t u) → is_some o ≡ is_some p → s ≡ t → w ≡ u → o ≡ p
same_text text s t w u None None f g e h k = refl
same_text text s t w u None (Some y) f g e h k = absurd (cc)
same_text text s t w u (Some x) None f g e h k = absurd (cc)
same_text text s t w u (Some x) (Some y) f g e h k = ap Some (f ∙ (ap (λ (n : ℕ). text n w) h ∙ (ap (text t) k ∙ sym g)))

pub same_version : (text : ℕ → ℕ → List ℕ) (one other : RankedVersion) → HasVersionTextFrom text one → HasVersionTextFrom text other → HaveSamePlace one other → one.version ≡ other.version
same_version text one other f g same = same_text text one.source other.source one.word other.word one.version other.version f g same.version same.source same.word

pub all_at : {X : Type 0} (P : X → Type 0) (xs : List X) (i : ℕ) (x : X) → All P xs → slice_get xs i ≡ Some x → P x
all_at P [] zero x all h = absurd (cc)
all_at P [] (suc i) x all h = absurd (cc)
all_at {X} P (y ∷ xs) zero x all h = let s : y ≡ x = cc in subst P s (all 0 y (omega arith))
all_at P (y ∷ xs) (suc i) x all h = all_at P xs i x (λ k d low. all (suc k) d (omega (arith, low))) h

pub alike_at : (kind : VersionKind) (rs : List Ranking) (i j : ℕ) (one other : Ranking) → HaveVersionsFromSameTexts kind rs → slice_get rs i ≡ Some one → slice_get rs j ≡ Some other → HaveSamePlace (version_of kind one) (version_of kind other) → (version_of kind one).version ≡ (version_of kind other).version
alike_at kind rs i j one other alike f g same =
    same_version alike.0 (version_of kind one) (version_of kind other)
    (all_at (λ r. HasVersionTextFrom alike.0 (version_of kind r)) rs i one alike.1 f) (all_at (λ r. HasVersionTextFrom alike.0 (version_of kind r)) rs j other alike.1 g) same

-- ---- lists of versions

pub still_listed : (v w : Option (List ℕ)) (vs : List (Option (List ℕ))) → IsIn v vs → IsIn v (vs ++ w ∷ [])
still_listed v w [] m = absurd m
still_listed v w (x ∷ vs) (inl e) = inl e
still_listed v w (x ∷ vs) (inr m) = inr (still_listed v w vs m)

pub last_listed : (v w : Option (List ℕ)) (vs : List (Option (List ℕ))) → v ≡ w → IsIn v (vs ++ w ∷ [])
last_listed v w [] e = inl e
last_listed v w (x ∷ vs) e = inr (last_listed v w vs e)

pub all_next : {X : Type 0} (P : X → Type 0) (xs : List X) (i : ℕ) (x : X) → slice_get xs i ≡ Some x → P x → All P (take i xs) → All P (take (i + 1) xs)
all_next {X} P xs i x h p all = subst (λ (ys : List X). All P ys) (sym (take_one_more xs i x h)) (All-push P (take i xs) x all p)

get_in_front : {X : Type 0} (xs : List X) (i j : ℕ) → j < i → slice_get (take i xs) j ≡ slice_get xs j
get_in_front xs zero j low = absurd (omega (arith, low))
get_in_front [] (suc i) j low = refl
get_in_front (x ∷ xs) (suc i) zero low = refl
get_in_front (x ∷ xs) (suc i) (suc j) low = get_in_front xs i j (omega (arith, low))

-- one that is read from the same text as the one before it is listed as that is
pub listed_before : (kind : VersionKind) (vs : List (Option (List ℕ))) (rs : List Ranking) (i : ℕ) (d : Ranking) → HaveVersionsFromSameTexts kind rs → 0 < i → i < length rs → ((one other : Ranking) → slice_get rs (i - 1) ≡ Some one → slice_get rs i ≡ Some other → HaveSamePlace (version_of kind one) (version_of kind other)) → All (IsVersionAmong kind vs) (take i rs) → IsVersionAmong kind vs (get_or rs i d)
listed_before kind vs rs i d alike low within same was =
    let one : Ranking = get_or rs (i - 1) d in
    let other : Ranking = get_or rs i d in
    let f : slice_get rs (i - 1) ≡ Some one = get_at rs (i - 1) d (omega (arith, low, within)) in
    let g : slice_get rs i ≡ Some other = get_at rs i d within in
    let front : slice_get (take i rs) (i - 1) ≡ slice_get rs (i - 1) = get_in_front rs i (i - 1) (omega (arith, low)) in
    let there : IsVersionAmong kind vs one = all_at (IsVersionAmong kind vs) (take i rs) (i - 1) one was (front ∙ f) in
    subst (λ (v : Option (List ℕ)). IsIn v vs) (alike_at kind rs (i - 1) i one other alike f g (same one other f g)) there

-- ---- the first of a list, changed

abbrev pub map_first : {X : Type 0} → (X → X) → ℕ → List X → List X
map_first f zero xs = xs
map_first f (suc i) [] = []
map_first f (suc i) (x ∷ xs) = f x ∷ map_first f i xs

module _ {X : Type 0} (f : X → X) where
  pub first_length : (i : ℕ) (xs : List X) → length (map_first f i xs) ≡ length xs
  first_length zero xs = refl
  first_length (suc i) [] = refl
  first_length (suc i) (x ∷ xs) = ap suc (first_length i xs)

  pub first_all : (i : ℕ) (xs : List X) → length xs ≤ i → map_first f i xs ≡ map f xs
  first_all zero [] h = refl
  first_all zero (x ∷ xs) h = absurd (omega (arith, h))
  first_all (suc i) [] h = refl
  first_all (suc i) (x ∷ xs) h = ap (λ (ys : List X). f x ∷ ys) (first_all i xs (omega (arith, h)))

  -- what is there, and in front of it
  pub first_here : (i : ℕ) (xs : List X) → slice_get (map_first f i xs) i ≡ slice_get xs i
  first_here zero xs = refl
  first_here (suc i) [] = refl
  first_here (suc i) (x ∷ xs) = first_here i xs

  pub first_below : (i k : ℕ) (xs : List X) (x : X) → k < i → slice_get xs k ≡ Some x → slice_get (map_first f i xs) k ≡ Some (f x)
  first_below zero k xs x low h = absurd (omega (arith, low))
  first_below (suc i) zero [] x low h = absurd (cc)
  first_below (suc i) (suc k) [] x low h = absurd (cc)
  first_below (suc i) zero (y ∷ xs) x low h = let s : y ≡ x = cc in ap (λ (z : X). Some (f z)) s
  first_below (suc i) (suc k) (y ∷ xs) x low h = first_below i k xs x (omega (arith, low)) h

  first_next : (i : ℕ) (xs : List X) (x : X) → slice_get xs i ≡ Some x → set (map_first f i xs) i (f x) ≡ map_first f (suc i) xs
  first_next zero [] x h = absurd (cc)
  first_next (suc i) [] x h = absurd (cc)
  first_next zero (y ∷ xs) x h = let s : y ≡ x = cc in ap (λ (z : X). f z ∷ xs) (sym s)
  first_next (suc i) (y ∷ xs) x h = ap (λ (ys : List X). f y ∷ ys) (first_next i xs x h)

  pub one_more_changed : (i : ℕ) (xs ys : List X) (x y : X) → slice_get xs i ≡ Some x → y ≡ f x → ys ≡ set (map_first f i xs) i y → ys ≡ map_first f (i + 1) xs
  one_more_changed i xs ys x y h e is =
      let z : i + 1 ≡ suc i = omega arith in
      is ∙ (ap (set (map_first f i xs) i) e ∙ (first_next i xs x h ∙ ap (λ (n : ℕ). map_first f n xs) (sym z)))

-- ---- ranks

-- its version has the rank that it has among some, and is one of them
pub record HasRank (kind : VersionKind) (versions : List (Option (List ℕ))) (r : Ranking) : Type 0 where
  pub rank : (version_of kind r).rank ≡ rank_among kind versions (version_of kind r).version
  pub listed : IsVersionAmong kind versions r

ranked_one : (kind : VersionKind) (vs : List (Option (List ℕ))) (r : Ranking) → IsVersionAmong kind vs r → HasRank kind vs (with_rank_among kind vs r)
ranked_one Under vs r m = record { rank = refl; listed = m }
ranked_one Own vs r m = record { rank = refl; listed = m }

module _ (kind : VersionKind) (xs ys : List Ranking) (from : AreRankedFrom kind xs ys) where
  pub all_kept : (P : Ranking → Type 0) → ((n : ℕ) (r : Ranking) → P r → P (with_version_rank kind n r)) → All P xs → All P ys
  all_kept P keeps all =
      subst (λ (rs : List Ranking). All P rs) (sym from.ranked)
      (All-map P (with_rank_among kind from.versions) from.moved (λ i d h. keeps _ _ (All-permutation P xs from.moved from.permutation all i d h)))

  pub all_ranked : All (HasRank kind from.versions) ys
  all_ranked =
      subst (λ (rs : List Ranking). All (HasRank kind from.versions) rs) (sym from.ranked)
      (All-map (HasRank kind from.versions) (with_rank_among kind from.versions) from.moved (λ i d h. ranked_one kind from.versions _ (from.listed i d h)))

  pub places_kept : IsPermutation (map (λ (r : Ranking). r.place) xs) (map (λ (r : Ranking). r.place) ys)
  places_kept =
      subst (λ (ns : List ℕ). IsPermutation (map (λ (r : Ranking). r.place) xs) ns) (sym (ap (map (λ (r : Ranking). r.place)) from.ranked ∙ same_places from.moved))
      (IsPermutation-map (λ (r : Ranking). r.place) xs from.moved from.permutation)
    where
      same_place : (k : VersionKind) (n : ℕ) (r : Ranking) → (with_version_rank k n r).place ≡ r.place
      same_place Under n r = refl
      same_place Own n r = refl

      same_places : (rs : List Ranking) → map (λ (r : Ranking). r.place) (map (with_rank_among kind from.versions) rs) ≡ map (λ (r : Ranking). r.place) rs
      same_places [] = refl
      same_places (r ∷ rs) =
          ap (λ (n : ℕ). n ∷ map (λ (r : Ranking). r.place) (map (with_rank_among kind from.versions) rs)) (same_place kind _ r)
          ∙ ap (λ (ns : List ℕ). r.place ∷ ns) (same_places rs)
