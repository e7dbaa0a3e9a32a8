-- Lists whose keys rise, and tests of all their words.
use Rattle.std.proofs.Common.{◌≡◌, ℕ, zero, suc, ◌+◌, ◌<◌, List, [], ◌∷◌, ◌++◌, length, get_or, map, take, drop, ap, ◌∙◌, arith}
use Rattle.std.specs.List.{AllByRecursion, AllWithin}
use Rattle.std.specs.List.Sorted.{IsStrictlySortedBy, IsNonDecreasingBy}
use Rattle.std.specs.Ordering.{nat_cmp, ordering_index, ordering_reverse, is_lt}
use Rattle.std.specs.Cmp.Lexicographic.{slice_cmp}
use Rattle.std.specs.declared.cmp.Ordering.{Ordering}
use Rattle.std.specs.declared.cmp.Ordering.TheVariants.{Less}
use Rattle.std.proofs.lemmas.Cmp.{nat_list_cmp_total}
use Rattle.std.proofs.lemmas.List.Sorted.{searchable_from_sorted}
use Rattle.adb_write.specs.Keys.{key_of_locator, HaveRisingKeys}

abbrev pub cmp : List ℕ → List ℕ → Ordering
cmp = slice_cmp nat_cmp

pub flipped : (p q : List ℕ) (o : Ordering) → cmp p q ≡ o → cmp q p ≡ ordering_reverse o
flipped p q o is = nat_list_cmp_total.antisymm q p ∙ ap ordering_reverse is

-- ---- all elements

pub all_both : {A : Type 0} (P : A → Type 0) (xs ys : List A) → AllByRecursion P xs → AllByRecursion P ys → AllByRecursion P (xs ++ ys)
all_both P [] ys a b = b
all_both P (x ∷ xs) ys a b = (a.0, all_both P xs ys a.1 b)

pub all_first : {A : Type 0} (P : A → Type 0) (xs ys : List A) → AllByRecursion P (xs ++ ys) → AllByRecursion P xs
all_first P [] ys a = tt
all_first P (x ∷ xs) ys a = (a.0, all_first P xs ys a.1)

pub all_last : {A : Type 0} (P : A → Type 0) (xs ys : List A) → AllByRecursion P (xs ++ ys) → AllByRecursion P ys
all_last P [] ys a = a
all_last P (x ∷ xs) ys a = all_last P xs ys a.1

pub all_into : {A : Type 0} (P Q : A → Type 0) → ((x : A) → P x → Q x) → (xs : List A) → AllByRecursion P xs → AllByRecursion Q xs
all_into P Q f [] a = tt
all_into P Q f (x ∷ xs) a = (f x a.0, all_into P Q f xs a.1)

pub all_two : {A : Type 0} (P Q R : A → Type 0) → ((x : A) → P x → Q x → R x) → (xs : List A) → AllByRecursion P xs → AllByRecursion Q xs → AllByRecursion R xs
all_two P Q R f [] a b = tt
all_two P Q R f (x ∷ xs) a b = (f x a.0 b.0, all_two P Q R f xs a.1 b.1)

pub all_at : {A : Type 0} (P : A → Type 0) (xs : List A) (k : ℕ) (d : A) → k < length xs → AllByRecursion P xs → P (get_or xs k d)
all_at P [] k d within a = absurd (omega arith)
all_at P (x ∷ xs) zero d within a = a.0
all_at P (x ∷ xs) (suc k) d within a = all_at P xs k d (omega arith) a.1

pub all_mapped : {A B : Type 0} (f : A → B) (P : B → Type 0) (xs : List A) → AllByRecursion P (map f xs) → AllByRecursion (λ x. P (f x)) xs
all_mapped f P [] a = tt
all_mapped f P (x ∷ xs) a = (a.0, all_mapped f P xs a.1)

pub map_all : {A B : Type 0} (f : A → B) (P : B → Type 0) (xs : List A) → AllByRecursion (λ x. P (f x)) xs → AllByRecursion P (map f xs)
map_all f P [] a = tt
map_all f P (x ∷ xs) a = (a.0, map_all f P xs a.1)

pub all_front : {A : Type 0} (P : A → Type 0) (xs : List A) (i : ℕ) → AllWithin P xs 0 i → AllByRecursion P (take i xs)
all_front P [] zero h = tt
all_front P [] (suc i) h = tt
all_front P (x ∷ xs) zero h = tt
all_front P (x ∷ xs) (suc i) h = (h 0 x (omega arith) (omega arith), all_front P xs i (λ k d low high. h (suc k) d (omega arith) (omega arith)))

pub all_back : {A : Type 0} (P : A → Type 0) (xs : List A) (i : ℕ) → AllWithin P xs i (length xs) → AllByRecursion P (drop i xs)
all_back P [] zero h = tt
all_back P [] (suc i) h = tt
all_back P (x ∷ xs) zero h = (h 0 x (omega arith) (omega arith), all_back P xs zero (λ k d low high. h (suc k) d (omega arith) (omega arith)))
all_back P (x ∷ xs) (suc i) h = all_back P xs i (λ k d low high. h (suc k) d (omega arith) (omega arith))

-- ---- rising words

-- a word is below another
abbrev pub IsBelow : List ℕ → ℕ → ℕ → Type 0
IsBelow p v w = cmp (key_of_locator p v) (key_of_locator p w) ≡ Less

pub rising_head : (p : List ℕ) (w : ℕ) (ws : List ℕ) → HaveRisingKeys p (w ∷ ws) → AllByRecursion (IsBelow p w) ws
unfolding IsStrictlySortedBy
rising_head p w ws r = all_mapped (key_of_locator p) (λ k. cmp (key_of_locator p w) k ≡ Less) ws r.0

pub rising_rest : (p : List ℕ) (w : ℕ) (ws : List ℕ) → HaveRisingKeys p (w ∷ ws) → HaveRisingKeys p ws
unfolding IsStrictlySortedBy
rising_rest p w ws r = r.1

pub rising_more : (p : List ℕ) (w : ℕ) (ws : List ℕ) → AllByRecursion (IsBelow p w) ws → HaveRisingKeys p ws → HaveRisingKeys p (w ∷ ws)
unfolding IsStrictlySortedBy
rising_more p w ws a r = (map_all (key_of_locator p) (λ k. cmp (key_of_locator p w) k ≡ Less) ws a, r)

pub rising_none : (p : List ℕ) → HaveRisingKeys p []
unfolding IsStrictlySortedBy
rising_none p = tt

pub rising_last : (p : List ℕ) (vs ws : List ℕ) → HaveRisingKeys p (vs ++ ws) → HaveRisingKeys p ws
rising_last p [] ws r = r
rising_last p (v ∷ vs) ws r = rising_last p vs ws (rising_rest p v (vs ++ ws) r)

pub rising_first : (p : List ℕ) (vs ws : List ℕ) → HaveRisingKeys p (vs ++ ws) → HaveRisingKeys p vs
rising_first p [] ws r = rising_none p
rising_first p (v ∷ vs) ws r = rising_more p v vs (all_first (IsBelow p v) vs ws (rising_head p v (vs ++ ws) r)) (rising_first p vs ws (rising_rest p v (vs ++ ws) r))

-- the words in front of one are below it
pub rising_before : (p : List ℕ) (vs : List ℕ) (w : ℕ) (ws : List ℕ) → HaveRisingKeys p (vs ++ w ∷ ws) → AllByRecursion (λ v. IsBelow p v w) vs
rising_before p [] w ws r = tt
rising_before p (v ∷ vs) w ws r = ((all_last (IsBelow p v) vs (w ∷ ws) (rising_head p v (vs ++ w ∷ ws) r)).0, rising_before p vs w ws (rising_rest p v (vs ++ w ∷ ws) r))

-- one more word, above those in front of it and below those after
pub rising_with : (p : List ℕ) (vs : List ℕ) (w : ℕ) (ws : List ℕ) → HaveRisingKeys p (vs ++ ws) → AllByRecursion (λ v. IsBelow p v w) vs → AllByRecursion (IsBelow p w) ws → HaveRisingKeys p (vs ++ w ∷ ws)
rising_with p [] w ws r a b = rising_more p w ws b r
rising_with p (v ∷ vs) w ws r a b =
    let head = rising_head p v (vs ++ ws) r in
    rising_more p v (vs ++ w ∷ ws) (all_both (IsBelow p v) vs (w ∷ ws) (all_first (IsBelow p v) vs ws head) (a.0, all_last (IsBelow p v) vs ws head)) (rising_with p vs w ws (rising_rest p v (vs ++ ws) r) a.1 b)

pub rising_pair : (p : List ℕ) (ws : List ℕ) → HaveRisingKeys p ws → (i j : ℕ) (d : ℕ) → i < j → j < length ws → IsBelow p (get_or ws i d) (get_or ws j d)
rising_pair p [] r i j d less within = absurd (omega arith)
rising_pair p (w ∷ ws) r zero zero d less within = absurd (omega arith)
rising_pair p (w ∷ ws) r zero (suc j) d less within = all_at (IsBelow p w) ws j d (omega arith) (rising_head p w ws r)
rising_pair p (w ∷ ws) r (suc i) zero d less within = absurd (omega arith)
rising_pair p (w ∷ ws) r (suc i) (suc j) d less within = rising_pair p ws (rising_rest p w ws r) i j d (omega arith) (omega arith)

-- rising words may be searched in halves
pub searchable : (p : List ℕ) (ws key : List ℕ) → HaveRisingKeys p ws → IsNonDecreasingBy (λ w. ordering_index (ordering_reverse (cmp key (key_of_locator p w)))) ws
searchable p ws key r i j d upto within =
    let by = searchable_from_sorted nat_list_cmp_total (key_of_locator p) ws key (λ k d low high. ap is_lt (flipped (key_of_locator p (get_or ws k d)) (key_of_locator p (get_or ws (k + 1) d)) Less (rising_pair p ws r k (k + 1) d (omega arith) high))) i j d upto within in
    omega (arith, ap ordering_index (nat_list_cmp_total.antisymm (key_of_locator p (get_or ws i d)) key), ap ordering_index (nat_list_cmp_total.antisymm (key_of_locator p (get_or ws j d)) key))

-- ---- three keys

pub less_chain : (a b c : List ℕ) → cmp a b ≡ Less → cmp b c ≡ Less → cmp a c ≡ Less
less_chain a b c x y = nat_list_cmp_total.trans a b c x y
