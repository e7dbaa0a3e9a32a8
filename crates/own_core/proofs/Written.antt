-- Loops that add a write for each claim.
use Rattle.std.proofs.Common.{◌≡◌, ℕ, suc, zero, ◌+◌, ◌<◌, ◌≤◌, Bool, true, false, cond, List, [], ◌∷◌, ◌++◌, length, map, take, Some, refl, ap, sym, ◌∙◌, arith, append_assoc}
use Rattle.std.specs.Prelude.{slice_get, slice_index_or}
use Rattle.std.specs.List.{filter}
use Rattle.path_claim_lists.specs.adb_fields.JoinedPath.{joined_path}
use Rattle.path_claim_lists.specs.adb_fields.declared.file_path.FilePath.{FilePath}
use Rattle.path_claim_lists.specs.path_claims.Claims.{PathClaim}
use Rattle.path_claim_lists.proofs.path_claims.Places.{map_len, seen_at}
use Rattle.path_claim_lists.specs.path_claims.Seen.{claim_seen}
use Rattle.path_claim_lists.specs.path_claims.declared.claim.Claim.{Claim}
use Rattle.path_claim_lists.proofs.Lists.{take_at, take_whole}
use Rattle.own_core.specs.PlanLists.{FileWrite}
use Rattle.own_core.specs.WritesSeen.{write_of_claim_under}
use Rattle.own_core.proofs.Kept.{filter_step, map_more, none_more}

there : (xs : List Claim) (i : ℕ) (d : Claim) → i < length xs → slice_get xs i ≡ Some (slice_index_or xs i d)
there [] i d l = absurd (omega arith)
there (x ∷ xs) zero d l = refl
there (x ∷ xs) (suc i) d l = there xs i d (omega arith)

pub seen_more : (xs : List Claim) (i : ℕ) (d : Claim) → i < length xs → map claim_seen (take (i + 1) xs) ≡ map claim_seen (take i xs) ++ claim_seen (slice_index_or xs i d) ∷ []
seen_more xs i d l =
    let n : i + 1 ≡ suc i = omega arith in
    ap (λ k. map claim_seen (take k xs)) n ∙ (ap (map claim_seen) (take_at xs i (slice_index_or xs i d) (there xs i d l)) ∙ map_more claim_seen (take i xs) (slice_index_or xs i d))

-- one element more behind the others
pub behind_more : {Y : Type 0} (g : PathClaim → Y) (xs : List Claim) (i : ℕ) (d : Claim) (old now new : List Y) (y : Y) → i < length xs → new ≡ now ++ y ∷ [] → y ≡ g (claim_seen (slice_index_or xs i d))
    → now ≡ old ++ map g (map claim_seen (take i xs)) → new ≡ old ++ map g (map claim_seen (take (i + 1) xs))
behind_more g xs i d old now new y l e is inv =
    e ∙ ((λ j. inv j ++ is j ∷ [])
    ∙ (append_assoc old (map g (map claim_seen (take i xs))) (g (claim_seen (slice_index_or xs i d)) ∷ [])
    ∙ ap (λ r. old ++ r) (sym (map_more g (map claim_seen (take i xs)) (claim_seen (slice_index_or xs i d))) ∙ ap (map g) (sym (seen_more xs i d l)))))

pub written_more : (name : PathClaim → List ℕ) (xs : List Claim) (i : ℕ) (d : Claim) (old now new : List FileWrite) (n : List ℕ) → i < length xs → new ≡ now ++ write_of_claim_under n (claim_seen (slice_index_or xs i d)) ∷ []
    → n ≡ name (claim_seen (slice_index_or xs i d))
    → now ≡ old ++ map (λ c. write_of_claim_under (name c) c) (map claim_seen (take i xs)) → new ≡ old ++ map (λ c. write_of_claim_under (name c) c) (map claim_seen (take (i + 1) xs))
written_more name xs i d old now new n l e is inv =
    behind_more (λ c. write_of_claim_under (name c) c) xs i d old now new (write_of_claim_under n (claim_seen (slice_index_or xs i d))) l e (ap (λ m. write_of_claim_under m (claim_seen (slice_index_or xs i d))) is) inv

pub after_all : {Y : Type 0} (g : PathClaim → Y) (xs : List Claim) (i : ℕ) (old now : List Y) → length xs ≤ i → now ≡ old ++ map g (map claim_seen (take i xs)) → now ≡ old ++ map g (map claim_seen xs)
after_all g xs i old now l inv = inv ∙ ap (λ (zs : List Claim). old ++ map g (map claim_seen zs)) (take_whole xs i l)

-- ---- paths

paths_in_steps : (p : PathClaim → Bool) (xs : List Claim) (i : ℕ) (d : Claim) (t : Bool) → i < length xs → t ≡ p (claim_seen (slice_index_or xs i d))
    → map (λ c. c.path) (filter p (take (i + 1) (map claim_seen xs))) ≡ map (λ c. c.path) (filter p (take i (map claim_seen xs))) ++ map (λ c. c.path) (cond t (claim_seen (slice_index_or xs i d) ∷ []) [])
paths_in_steps p xs i d t l is =
    let n : i + 1 ≡ suc i = omega arith in
    ap (λ k. map (λ c. c.path) (filter p (take k (map claim_seen xs)))) n
    ∙ (ap (map (λ c. c.path)) (filter_step p (map claim_seen xs) i (claim_seen (slice_index_or xs i d)) (seen_at claim_seen xs i d l))
    ∙ (map_both (filter p (take i (map claim_seen xs))) (cond (p (claim_seen (slice_index_or xs i d))) (claim_seen (slice_index_or xs i d) ∷ []) [])
    ∙ ap (λ b. map (λ c. c.path) (filter p (take i (map claim_seen xs))) ++ map (λ c. c.path) (cond b (claim_seen (slice_index_or xs i d) ∷ []) [])) (sym is)))
  where
    map_both : (cs bs : List PathClaim) → map (λ c. c.path) (cs ++ bs) ≡ map (λ c. c.path) cs ++ map (λ c. c.path) bs
    map_both [] bs = refl
    map_both (c ∷ cs) bs = ap (λ r. c.path ∷ r) (map_both cs bs)

pub path_more : (p : PathClaim → Bool) (xs : List Claim) (i : ℕ) (d : Claim) (t : Bool) (old : List (List ℕ)) (now new : List FilePath) → i < length xs → t ≡ p (claim_seen (slice_index_or xs i d)) → t ≡ true
    → new ≡ now ++ (slice_index_or xs i d).path ∷ [] → map joined_path now ≡ old ++ map (λ c. c.path) (filter p (take i (map claim_seen xs)))
    → map joined_path new ≡ old ++ map (λ c. c.path) (filter p (take (i + 1) (map claim_seen xs)))
path_more p xs i d t old now new l is passes e inv =
    ap (map joined_path) e ∙ (map_more joined_path now (slice_index_or xs i d).path
    ∙ ((λ j. inv j ++ map (λ c. c.path) (cond (sym passes j) (claim_seen (slice_index_or xs i d) ∷ []) []))
    ∙ (append_assoc old (map (λ c. c.path) (filter p (take i (map claim_seen xs)))) (map (λ c. c.path) (cond t (claim_seen (slice_index_or xs i d) ∷ []) []))
    ∙ ap (λ r. old ++ r) (sym (paths_in_steps p xs i d t l is)))))

pub path_left : (p : PathClaim → Bool) (xs : List Claim) (i : ℕ) (d : Claim) (t : Bool) (old : List (List ℕ)) (now new : List FilePath) → i < length xs → t ≡ p (claim_seen (slice_index_or xs i d)) → t ≡ false
    → new ≡ now → map joined_path now ≡ old ++ map (λ c. c.path) (filter p (take i (map claim_seen xs)))
    → map joined_path new ≡ old ++ map (λ c. c.path) (filter p (take (i + 1) (map claim_seen xs)))
path_left p xs i d t old now new l is fails e inv =
    ap (map joined_path) e ∙ (inv
    ∙ ap (λ r. old ++ r) (sym (none_more (map (λ c. c.path) (filter p (take i (map claim_seen xs)))))
    ∙ (ap (λ b. map (λ c. c.path) (filter p (take i (map claim_seen xs))) ++ map (λ c. c.path) (cond b (claim_seen (slice_index_or xs i d) ∷ []) [])) (sym fails)
    ∙ sym (paths_in_steps p xs i d t l is))))

pub paths_whole : (p : PathClaim → Bool) (xs : List Claim) (i : ℕ) (old now : List (List ℕ)) → length xs ≤ i → now ≡ old ++ map (λ c. c.path) (filter p (take i (map claim_seen xs)))
    → now ≡ old ++ map (λ c. c.path) (filter p (map claim_seen xs))
paths_whole p xs i old now l inv =
    let n : length (map claim_seen xs) ≡ length xs = map_len claim_seen xs in
    inv ∙ ap (λ zs. old ++ map (λ c. c.path) (filter p zs)) (take_whole (map claim_seen xs) i (omega (arith, n, l)))

pub name_more : (names : List (List ℕ)) (i : ℕ) (name : List ℕ) (old : List (List ℕ)) (now new : List FilePath) (path : FilePath) → slice_get names i ≡ Some name → joined_path path ≡ name → new ≡ now ++ path ∷ []
    → map joined_path now ≡ old ++ take i names → map joined_path new ≡ old ++ take (i + 1) names
name_more names i name old now new path g is e inv =
    let n : i + 1 ≡ suc i = omega arith in
    ap (map joined_path) e ∙ (map_more joined_path now path
    ∙ ((λ j. inv j ++ is j ∷ [])
    ∙ (append_assoc old (take i names) (name ∷ [])
    ∙ ap (λ r. old ++ r) (sym (take_at names i name g) ∙ ap (λ k. take k names) (sym n)))))

pub names_whole : (names : List (List ℕ)) (i : ℕ) (old now : List (List ℕ)) → length names ≤ i → now ≡ old ++ take i names → now ≡ old ++ names
names_whole names i old now l inv = inv ∙ ap (λ r. old ++ r) (take_whole names i l)
