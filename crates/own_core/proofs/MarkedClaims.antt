-- Some claims of a list: those that a test or a mark picks.
use Rattle.std.proofs.Common.{◌≡◌, inl, inr, ℕ, suc, zero, Bool, true, false, cond, List, [], ◌∷◌, Some, ap, sym, ◌∙◌, subst}
use Rattle.std.specs.Prelude.{slice_get}
use Rattle.std.specs.List.{filter, find}
use Rattle.std.specs.List.Sorted.{IsSorted}
use Rattle.base_core.proofs.Rising as Names
use Rattle.file_owners.specs.db_core.Members.{Member}
use Rattle.path_claim_lists.specs.path_claims.Claims.{PathClaim, claim_cmp}
use Rattle.path_claim_lists.proofs.path_claims.Places.{no_some}
use Rattle.path_claim_lists.proofs.Firsts.{paths}
use Rattle.own_core.specs.ClaimEntries.{AreClaimsOf}
use Rattle.own_core.specs.Fates.{marked_claims}
use Rattle.own_core.proofs.ChangeClaims.{rising_sorted}

pub found_from : {X : Type 0} (p : X → Bool) (xs : List X) (x : X) → find p xs ≡ Some x → (k : ℕ) × (slice_get xs k ≡ Some x)
found_from p [] x e = absurd (no_some x e)
found_from p (y ∷ ys) x e = go (p y) (λ f. found_from p ys x f) e
  where
    go : (b : Bool) → (find p ys ≡ Some x → (k : ℕ) × (slice_get ys k ≡ Some x)) → cond b (Some y) (find p ys) ≡ Some x → (k : ℕ) × (slice_get (y ∷ ys) k ≡ Some x)
    go true rest f = (zero, f)
    go false rest f = let r = rest f in (suc r.0, r.1)

pub filter_from : {X : Type 0} (p : X → Bool) (xs : List X) (i : ℕ) (x : X) → slice_get (filter p xs) i ≡ Some x → (k : ℕ) × (slice_get xs k ≡ Some x)
filter_from p [] i x e = absurd (no_some x e)
filter_from p (y ∷ ys) i x e = go (p y) i (λ j f. filter_from p ys j x f) e
  where
    go : (b : Bool) (i : ℕ) → ((j : ℕ) → slice_get (filter p ys) j ≡ Some x → (k : ℕ) × (slice_get ys k ≡ Some x)) → slice_get (cond b (y ∷ filter p ys) (filter p ys)) i ≡ Some x → (k : ℕ) × (slice_get (y ∷ ys) k ≡ Some x)
    go true zero rest f = (zero, f)
    go true (suc i) rest f = let r = rest i f in (suc r.0, r.1)
    go false i rest f = let r = rest i f in (suc r.0, r.1)

pub marked_from : {Y : Type 0} (test : Y → Bool) (cs : List PathClaim) (ms : List Y) (i : ℕ) (c : PathClaim) → slice_get (marked_claims test cs ms) i ≡ Some c → (k : ℕ) × (slice_get cs k ≡ Some c)
marked_from test [] ms i c e = absurd (no_some c e)
marked_from test (d ∷ cs) [] i c e = absurd (no_some c e)
marked_from test (d ∷ cs) (m ∷ ms) i c e = go (test m) i (λ j f. marked_from test cs ms j c f) e
  where
    go : (b : Bool) (i : ℕ) → ((j : ℕ) → slice_get (marked_claims test cs ms) j ≡ Some c → (k : ℕ) × (slice_get cs k ≡ Some c)) → slice_get (cond b (d ∷ marked_claims test cs ms) (marked_claims test cs ms)) i ≡ Some c
        → (k : ℕ) × (slice_get (d ∷ cs) k ≡ Some c)
    go true zero rest f = (zero, f)
    go true (suc i) rest f = let r = rest i f in (suc r.0, r.1)
    go false i rest f = let r = rest i f in (suc r.0, r.1)

in_marked : {Y : Type 0} (test : Y → Bool) (cs : List PathClaim) (ms : List Y) (q : List ℕ) → Names.IsIn q (paths (marked_claims test cs ms)) → Names.IsIn q (paths cs)
in_marked test [] ms q here = here
in_marked test (d ∷ cs) [] q here = absurd here
in_marked test (d ∷ cs) (m ∷ ms) q here = go (test m) (in_marked test cs ms q) here
  where
    go : (b : Bool) → (Names.IsIn q (paths (marked_claims test cs ms)) → Names.IsIn q (paths cs)) → Names.IsIn q (paths (cond b (d ∷ marked_claims test cs ms) (marked_claims test cs ms))) → Names.IsIn q (paths (d ∷ cs))
    go true rest (inl is) = inl is
    go true rest (inr old) = inr (rest old)
    go false rest old = inr (rest old)

pub marked_rises : {Y : Type 0} (test : Y → Bool) (cs : List PathClaim) (ms : List Y) → Names.Rises (paths cs) → Names.Rises (paths (marked_claims test cs ms))
marked_rises test [] ms r = tt
marked_rises test (d ∷ cs) [] r = tt
marked_rises test (d ∷ cs) (m ∷ ms) r = go (test m) (marked_rises test cs ms r.1)
  where
    go : (b : Bool) → Names.Rises (paths (marked_claims test cs ms)) → Names.Rises (paths (cond b (d ∷ marked_claims test cs ms) (marked_claims test cs ms)))
    go true rest = (λ q here. r.0 q (in_marked test cs ms q here), rest)
    go false rest = rest

in_filtered : (t : PathClaim → Bool) (cs : List PathClaim) (q : List ℕ) → Names.IsIn q (paths (filter t cs)) → Names.IsIn q (paths cs)
in_filtered t [] q here = here
in_filtered t (c ∷ cs) q here = go (t c) (in_filtered t cs q) here
  where
    go : (b : Bool) → (Names.IsIn q (paths (filter t cs)) → Names.IsIn q (paths cs)) → Names.IsIn q (paths (cond b (c ∷ filter t cs) (filter t cs))) → Names.IsIn q (paths (c ∷ cs))
    go true rest (inl is) = inl is
    go true rest (inr old) = inr (rest old)
    go false rest old = inr (rest old)

pub filtered_rises : (t : PathClaim → Bool) (cs : List PathClaim) → Names.Rises (paths cs) → Names.Rises (paths (filter t cs))
filtered_rises t [] r = tt
filtered_rises t (c ∷ cs) r = go (t c) (filtered_rises t cs r.1)
  where
    go : (b : Bool) → Names.Rises (paths (filter t cs)) → Names.Rises (paths (cond b (c ∷ filter t cs) (filter t cs)))
    go true rest = (λ q here. r.0 q (in_filtered t cs q here), rest)
    go false rest = rest

pub marked_sorted : {Y : Type 0} (test : Y → Bool) (cs xs : List PathClaim) (ms : List Y) → Names.Rises (paths cs) → xs ≡ marked_claims test cs ms → IsSorted claim_cmp xs
marked_sorted test cs xs ms r e =
    rising_sorted xs (Names.pairs_from_rises (paths xs) (subst (λ ys. Names.Rises (paths ys)) (sym e) (marked_rises test cs ms r)))

pub files_kept : (members : List Member) (p : PathClaim → Bool) (cs xs : List PathClaim) → AreClaimsOf members cs → xs ≡ filter p cs → AreClaimsOf members xs
files_kept members p cs xs h e i c g = let f = filter_from p cs i c (ap (λ ys. slice_get ys i) (sym e) ∙ g) in h f.0 c f.1
