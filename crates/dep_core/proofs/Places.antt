-- Where the entry of a name is in a world, or would stand, and what an edit there leaves.
use Rattle.std.proofs.Common.{◌≡◌, ℕ, ◌+◌, ◌<◌, ◌≤◌, Bool, true, false, not, List, [], ◌∷◌, length, get_or, set, Ordering, refl, ap, sym, ◌∙◌, arith, zero, suc, cond, subst, ⊎_elim}
use Rattle.std.specs.Prelude.{◌||◌}
use Rattle.std.specs.List.{list_all, insert, remove, HoldsAt}
use Rattle.std.specs.List.Sorted.{IsPartitionPoint, IsNonDecreasingBy}
use Rattle.std.specs.Ordering.{is_lt, is_eq, match_ordering, ordering_reverse, ordering_index}
use Rattle.std.specs.Str.{bytes_eq}
use Rattle.std.specs.Cmp.Lexicographic.{texts_ties}
use Rattle.std.specs.declared.cmp.Ordering.TheVariants.{Less, Equal, Greater}
use Rattle.std.proofs.lemmas.Bool.{and_parts, cases_lt}
use Rattle.std.proofs.lemmas.List.Folds.{list_any_at}
use Rattle.std.proofs.lemmas.List.Sums.{AllPass-from_list_all, list_all-from_AllPass}
use Rattle.std.proofs.lemmas.List.Sorted.{searchable_from_sorted}
use Rattle.dep_core.specs.Dependency.{Dependency}
use Rattle.dep_core.specs.DependencyText.{is_dependency}
use Rattle.dep_core.specs.World.{IsWorldSortedByName, has_dependency_named, is_in_order, world_with_dependency_put_in_name_order, world_without_name}
use Rattle.base_core.specs.ByteOrder.{bytes_cmp}
use Rattle.base_core.proofs.Orderings.{is_less, names_total}
use Rattle.dep_core.proofs.Worlds.{is_behind, cmp-equal, cmp-back, filter-same}

-- two entries are in order
pub in_order_at : (w : List Dependency) (i j : ℕ) (d : Dependency) → is_in_order w ≡ true → i < j → j < length w → is_lt (bytes_cmp (get_or w i d).name (get_or w j d).name) ≡ true
in_order_at [] i j d h l m = absurd (omega arith)
in_order_at (e ∷ rest) i zero d h l m = absurd (omega arith)
in_order_at (e ∷ rest) zero (suc j) d h l m =
    AllPass-from_list_all (is_behind e.name) rest (and_parts (list_all (is_behind e.name) rest) (is_in_order rest) h).0 j d (omega arith)
in_order_at (e ∷ rest) (suc i) (suc j) d h l m =
    in_order_at rest i j d (and_parts (list_all (is_behind e.name) rest) (is_in_order rest) h).1 (omega arith) (omega arith)

pub not_before : (o : Ordering) → is_lt o ≡ true → is_lt (ordering_reverse o) ≡ false
not_before Less h = refl
not_before Equal h = (cc)
not_before Greater h = (cc)

-- the premise of a binary search
pub searchable : (w : List Dependency) (name : List ℕ) → is_in_order w ≡ true → IsNonDecreasingBy (λ (e : Dependency). ordering_index (bytes_cmp e.name name)) w
searchable w name h =
    searchable_from_sorted names_total (λ (e : Dependency). e.name) w name
    (λ k d l m. ap is_lt (names_total.antisymm (get_or w (k + 1) d).name (get_or w k d).name) ∙ not_before (bytes_cmp (get_or w k d).name (get_or w (k + 1) d).name) (in_order_at w k (k + 1) d h (omega arith) m))

-- ---- at an entry of the name

before_at : (e : Dependency) (rest : List Dependency) (name : List ℕ) (i : ℕ) (d : Dependency) → is_in_order (e ∷ rest) ≡ true → i < length rest → bytes_cmp (get_or rest i d).name name ≡ Equal → bytes_cmp e.name name ≡ Less
before_at e rest name i d h l t =
    let P : List ℕ → Type 0 = λ n. bytes_cmp e.name n ≡ Less in
    subst P (cmp-equal (get_or rest i d).name name t) (is_less (bytes_cmp e.name (get_or rest i d).name) (AllPass-from_list_all (is_behind e.name) rest (and_parts (list_all (is_behind e.name) rest) (is_in_order rest) h).0 i d l))

pub world_with_dependency_put_in_name_order-set : (d : Dependency) (w : List Dependency) (i : ℕ) → is_in_order w ≡ true → i < length w → HoldsAt (λ (e : Dependency). bytes_cmp e.name d.name ≡ Equal) w i → world_with_dependency_put_in_name_order d w ≡ set w i d
world_with_dependency_put_in_name_order-set d [] i h l t = absurd (omega arith)
world_with_dependency_put_in_name_order-set d (e ∷ rest) zero h l t =
    ap (λ o. match_ordering o (d ∷ (e ∷ rest)) (d ∷ rest) (e ∷ world_with_dependency_put_in_name_order d rest)) (cmp-back e.name d.name Equal (t d))
world_with_dependency_put_in_name_order-set d (e ∷ rest) (suc i) h l t =
    ap (λ o. match_ordering o (d ∷ (e ∷ rest)) (d ∷ rest) (e ∷ world_with_dependency_put_in_name_order d rest)) (cmp-back e.name d.name Less (before_at e rest d.name i d h (omega arith) (t d)))
    ∙ ap (λ more. e ∷ more) (world_with_dependency_put_in_name_order-set d rest i (and_parts (list_all (is_behind e.name) rest) (is_in_order rest) h).1 (omega arith) t)

-- the test of `world_without_name`
abbrev other : List ℕ → Dependency → Bool
other name e = not (bytes_eq e.name name)

other-by : (e : Dependency) (name : List ℕ) (o : Ordering) → bytes_cmp e.name name ≡ o → other name e ≡ not (is_eq o)
other-by e name o h = ap not (texts_ties e.name name ∙ ap is_eq h)

pub without-remove : (name : List ℕ) (w : List Dependency) (i : ℕ) → is_in_order w ≡ true → i < length w → HoldsAt (λ (e : Dependency). bytes_cmp e.name name ≡ Equal) w i → world_without_name name w ≡ remove w i
without-remove name [] i h l t = absurd (omega arith)
without-remove name (e ∷ rest) zero h l t =
    let P : List ℕ → Type 0 = λ n. list_all (is_behind n) rest ≡ true in
    let behind : list_all (is_behind name) rest ≡ true =
    subst P (cmp-equal e.name name (t e)) (and_parts (list_all (is_behind e.name) rest) (is_in_order rest) h).0 in
    ap (λ b. cond b (e ∷ world_without_name name rest) (world_without_name name rest)) (other-by e name Equal (t e))
    ∙ filter-same (other name) rest (list_all-from_AllPass (other name) rest (λ k f m. other-by (get_or rest k f) name Greater (cmp-back name (get_or rest k f).name Less (is_less (bytes_cmp name (get_or rest k f).name) (AllPass-from_list_all (is_behind name) rest behind k f m)))))
without-remove name (e ∷ rest) (suc i) h l t =
    ap (λ b. cond b (e ∷ world_without_name name rest) (world_without_name name rest)) (other-by e name Less (before_at e rest name i e h (omega arith) (t e)))
    ∙ ap (λ more. e ∷ more) (without-remove name rest i (and_parts (list_all (is_behind e.name) rest) (is_in_order rest) h).1 (omega arith) t)

pub has_dependency_named-at : (name : List ℕ) (w : List Dependency) (i : ℕ) → i < length w → HoldsAt (λ (e : Dependency). bytes_cmp e.name name ≡ Equal) w i → has_dependency_named name w ≡ true
has_dependency_named-at name [] i l t = absurd (omega arith)
has_dependency_named-at name (e ∷ rest) i l t =
    list_any_at (λ (e' : Dependency). bytes_eq e'.name name) (e ∷ rest) i e l (texts_ties (get_or (e ∷ rest) i e).name name ∙ ap is_eq (t e))

-- ---- between the entries before the name and those after it

pub world_with_dependency_put_in_name_order-insert : (d : Dependency) (w : List Dependency) (i : ℕ) → i ≤ length w → IsPartitionPoint (λ (e : Dependency). bytes_cmp e.name d.name ≡ Less) (λ (e : Dependency). bytes_cmp e.name d.name ≡ Greater) w i → world_with_dependency_put_in_name_order d w ≡ insert w i d
world_with_dependency_put_in_name_order-insert d [] zero l p = refl
world_with_dependency_put_in_name_order-insert d [] (suc i) l p = absurd (omega arith)
world_with_dependency_put_in_name_order-insert d (e ∷ rest) zero l p =
    ap (λ o. match_ordering o (d ∷ (e ∷ rest)) (d ∷ rest) (e ∷ world_with_dependency_put_in_name_order d rest)) (cmp-back e.name d.name Greater (p.1 0 d (omega arith) (omega arith)))
world_with_dependency_put_in_name_order-insert d (e ∷ rest) (suc i) l p =
    ap (λ o. match_ordering o (d ∷ (e ∷ rest)) (d ∷ rest) (e ∷ world_with_dependency_put_in_name_order d rest)) (cmp-back e.name d.name Less (p.0 0 d (omega arith) (omega arith)))
    ∙ ap (λ more. e ∷ more) (world_with_dependency_put_in_name_order-insert d rest i (omega arith) ((λ k f m n. p.0 (suc k) f (omega arith) (omega arith)), (λ k f m n. p.1 (suc k) f (omega arith) (omega arith))))

others : (name : List ℕ) (w : List Dependency) (i : ℕ) → IsPartitionPoint (λ (e : Dependency). bytes_cmp e.name name ≡ Less) (λ (e : Dependency). bytes_cmp e.name name ≡ Greater) w i → list_all (other name) w ≡ true
others name w i p =
    list_all-from_AllPass (other name) w
    (λ k f m. ⊎_elim (λ (below : k < i). other-by (get_or w k f) name Less (p.0 k f (omega arith) below)) (λ (above : i ≤ k). other-by (get_or w k f) name Greater (p.1 k f above m)) (cases_lt k i))

pub without-same : (name : List ℕ) (w : List Dependency) (i : ℕ) → IsPartitionPoint (λ (e : Dependency). bytes_cmp e.name name ≡ Less) (λ (e : Dependency). bytes_cmp e.name name ≡ Greater) w i → world_without_name name w ≡ w
without-same name w i p = filter-same (other name) w (others name w i p)

none_by : (name : List ℕ) (w : List Dependency) → list_all (other name) w ≡ true → has_dependency_named name w ≡ false
none_by name [] h = refl
none_by name (e ∷ rest) h =
    let parts : (other name e ≡ true) × (list_all (other name) rest ≡ true) = and_parts (other name e) (list_all (other name) rest) h in
    by (bytes_eq e.name name) parts.0 (none_by name rest parts.1)
  where
    by : (b : Bool) → not b ≡ true → has_dependency_named name rest ≡ false → (b || has_dependency_named name rest) ≡ false
    by true n more = (cc)
    by false n more = more

pub has_dependency_named-none : (name : List ℕ) (w : List Dependency) (i : ℕ) → IsPartitionPoint (λ (e : Dependency). bytes_cmp e.name name ≡ Less) (λ (e : Dependency). bytes_cmp e.name name ≡ Greater) w i → has_dependency_named name w ≡ false
has_dependency_named-none name w i p = none_by name w (others name w i p)

-- ---- what a search of the entries says, where v is the slice of them

pub in_order : (w : List Dependency) → IsWorldSortedByName w → is_in_order w ≡ true
in_order w h = (and_parts (list_all is_dependency w) (is_in_order w) h).1

abbrev IsPlace : List ℕ → List Dependency → ℕ → Type 0
IsPlace name w i = (i < length w) × HoldsAt (λ (e : Dependency). bytes_cmp e.name name ≡ Equal) w i

abbrev IsGap : List ℕ → List Dependency → ℕ → Type 0
IsGap name w i =
    (i ≤ length w) × (IsNonDecreasingBy (λ (e : Dependency). ordering_index (bytes_cmp e.name name)) w → IsPartitionPoint (λ (e : Dependency). bytes_cmp e.name name ≡ Less) (λ (e : Dependency). bytes_cmp e.name name ≡ Greater) w i)

pub del-found : (name : List ℕ) (w v more : List Dependency) (i : ℕ) → v ≡ w → IsWorldSortedByName w → IsPlace name v i → more ≡ remove w i → (more ≡ world_without_name name w) × (has_dependency_named name w ≡ true)
del-found name w v more i e h p r =
    let P : List Dependency → Type 0 = λ u. IsPlace name u i in
    let q : P w = subst P e p in
    (r ∙ sym (without-remove name w i (in_order w h) q.0 q.1), has_dependency_named-at name w i q.0 q.1)

pub del-absent : (name : List ℕ) (w v : List Dependency) (i : ℕ) → v ≡ w → IsWorldSortedByName w → IsGap name v i → (world_without_name name w ≡ w) × (has_dependency_named name w ≡ false)
del-absent name w v i e h p =
    let P : List Dependency → Type 0 = λ u. IsGap name u i in
    let q : P w = subst P e p in
    (without-same name w i (q.1 (searchable w name (in_order w h))), has_dependency_named-none name w i (q.1 (searchable w name (in_order w h))))

pub add-found : (d : Dependency) (name : List ℕ) (w v more : List Dependency) (i : ℕ) → name ≡ d.name → v ≡ w → IsWorldSortedByName w → IsPlace name v i → more ≡ set w i d → more ≡ world_with_dependency_put_in_name_order d w
add-found d name w v more i n e h p r =
    let P : List Dependency → Type 0 = λ u. IsPlace name u i in
    let Q : List ℕ → Type 0 = λ m. IsPlace m w i in
    let q : IsPlace d.name w i = subst Q n (subst P e p) in
    r ∙ sym (world_with_dependency_put_in_name_order-set d w i (in_order w h) q.0 q.1)

pub add-absent : (d : Dependency) (name : List ℕ) (w v more : List Dependency) (i : ℕ) → name ≡ d.name → v ≡ w → IsWorldSortedByName w → IsGap name v i → more ≡ insert w i d → more ≡ world_with_dependency_put_in_name_order d w
add-absent d name w v more i n e h p r =
    let P : List Dependency → Type 0 = λ u. IsGap name u i in
    let Q : List ℕ → Type 0 = λ m. IsGap m w i in
    let q : IsGap d.name w i = subst Q n (subst P e p) in
    r ∙ sym (world_with_dependency_put_in_name_order-insert d w i q.0 (q.1 (searchable w d.name (in_order w h))))
