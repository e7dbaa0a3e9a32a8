-- The items of a writer, by the locators of its pages.
use Rattle.std.proofs.Common.{◌≡◌, ◌≢◌, ℕ, ◌<◌, ◌≤◌, Bool, true, false, cond, ltb, List, [], ◌∷◌, ◌++◌, length, take, drop, replicate, Some, None, refl, sym, ap, subst, ◌∙◌, arith, inl, inr, ◌⊎◌}
use Rattle.std.specs.Prelude.{find}
use Rattle.std.specs.List.{AllByRecursion, concat}
use Rattle.std.specs.declared.cmp.Ordering.TheVariants.{Less, Equal, Greater}
use Rattle.std.proofs.lemmas.Bool.{lt-ltb, le-ltb}
use Rattle.std.proofs.lemmas.Cmp.{nat_list_cmp_total}
use Rattle.std.proofs.lemmas.List.{length-take}
use Rattle.base_core.specs.declared.cause.Cause.{Cause}
use Rattle.adb_view.specs.Head.{payload_head_fault}
use Rattle.adb_view.specs.Readers.{low_28_bits}
use Rattle.adb_write.specs.Canonical.{WrittenItem, is_equal_item, word_of_written_item, MOST_BYTES}
use Rattle.adb_write.specs.Items.{item_of, HasNumbersInRange}
use Rattle.adb_write.specs.declared.item.Parts.{Parts}
use Rattle.adb_write.specs.Keys.{key_of, key_of_locator, HaveRisingKeys, word_of_locator}
use Rattle.adb_write.specs.WordPages.{HaveNoEmptyPage, AllCompareToKey, IsLocatorWithKey, IsBetween}
use Rattle.adb_write.specs.WriterState.{IsEmptyOrHasHead, IsStored, AreStored, written_item, with_item, items_of_locators}
use Rattle.adb_write.proofs.Found.{find-none, Has}
use Rattle.adb_write.proofs.Rising.{cmp, flipped, IsBelow, all_both, all_first, all_last, all_into, all_two, rising_none, rising_head, rising_rest, rising_more, rising_before, rising_with, rising_last}
use Rattle.adb_write.proofs.StoredWords.{stored_ends, item_some, stored_more, key_more, equal_key, key_equal}

-- ---- the one that is found

pub find-one : {A : Type 0} (test : A → Bool) (xs : List A) (y : A) → AllByRecursion (λ x. test x ≡ true → x ≡ y) xs → Has y xs → test y ≡ true → find test xs ≡ Some y
find-one test [] y a h e = absurd h
find-one test (x ∷ xs) y a h e = go (test x) refl h (λ more. find-one test xs y a.1 more e)
  where
    go : (b : Bool) → test x ≡ b → (x ≡ y) ⊎ Has y xs → (Has y xs → find test xs ≡ Some y) → cond b (Some x) (find test xs) ≡ Some y
    go true is k rest = ap Some (a.0 is)
    go false is (inl same) rest = absurd (let t : true ≡ false = sym e ∙ ap test (sym same) ∙ is in cc)
    go false is (inr more) rest = rest more

-- ---- the items of words

all_with : (Q : WrittenItem → Type 0) (x : WrittenItem) (xs : List WrittenItem) → Q x → AllByRecursion Q xs → AllByRecursion Q (with_item x xs)
all_with Q x [] q a = (q, tt)
all_with Q x (y ∷ ys) q a = go (ltb y.offset x.offset) (all_with Q x ys q a.1)
  where
    go : (b : Bool) → AllByRecursion Q (with_item x ys) → AllByRecursion Q (cond b (x ∷ y ∷ ys) (y ∷ with_item x ys))
    go true rest = (q, a)
    go false rest = (a.0, rest)

pub all_items : (Q : WrittenItem → Type 0) (ws : List ℕ) → AllByRecursion (λ w. Q (written_item w)) ws → AllByRecursion Q (items_of_locators ws)
all_items Q [] a = tt
all_items Q (w ∷ ws) a = all_with Q (written_item w) (items_of_locators ws) a.0 (all_items Q ws a.1)

has_new : (x : WrittenItem) (xs : List WrittenItem) → Has x (with_item x xs)
has_new x [] = inl refl
has_new x (y ∷ ys) = go (ltb y.offset x.offset) (has_new x ys)
  where
    go : (b : Bool) → Has x (with_item x ys) → Has x (cond b (x ∷ y ∷ ys) (y ∷ with_item x ys))
    go true rest = inl refl
    go false rest = inr rest

has_old : (x y : WrittenItem) (xs : List WrittenItem) → Has y xs → Has y (with_item x xs)
has_old x y [] h = absurd h
has_old x y (z ∷ zs) h = go (ltb z.offset x.offset) h (λ more. has_old x y zs more)
  where
    go : (b : Bool) → (z ≡ y) ⊎ Has y zs → (Has y zs → Has y (with_item x zs)) → Has y (cond b (x ∷ z ∷ zs) (z ∷ with_item x zs))
    go true k rest = inr k
    go false (inl same) rest = inl same
    go false (inr more) rest = inr (rest more)

pub has_item : (before : List ℕ) (w : ℕ) (behind : List ℕ) → Has (written_item w) (items_of_locators (before ++ w ∷ behind))
has_item [] w behind = has_new (written_item w) (items_of_locators behind)
has_item (v ∷ before) w behind = has_old (written_item v) (written_item w) (items_of_locators (before ++ w ∷ behind)) (has_item before w behind)

-- ---- an item after all others comes first

top : (x : WrittenItem) (xs : List WrittenItem) → AllByRecursion (λ y. y.offset < x.offset) xs → with_item x xs ≡ x ∷ xs
top x [] a = refl
top x (y ∷ ys) a = let t : ltb y.offset x.offset ≡ true = lt-ltb _ _ a.0 in rw t refl

under : (x y : WrittenItem) (xs : List WrittenItem) → y.offset < x.offset → with_item y (x ∷ xs) ≡ x ∷ with_item y xs
under x y xs less = let t : ltb x.offset y.offset ≡ false = le-ltb _ _ (omega arith) in rw t refl

pub new_item : (before : List ℕ) (w : ℕ) (behind : List ℕ) → AllByRecursion (λ v. (written_item v).offset < (written_item w).offset) (before ++ behind)
    → items_of_locators (before ++ w ∷ behind) ≡ written_item w ∷ items_of_locators (before ++ behind)
new_item [] w behind a = top (written_item w) (items_of_locators behind) (all_items (λ y. y.offset < (written_item w).offset) behind a)
new_item (v ∷ before) w behind a =
    ap (with_item (written_item v)) (new_item before w behind a.1) ∙ under (written_item w) (written_item v) (items_of_locators (before ++ behind)) a.0

-- ---- what the pages tell of the items

-- no item equals one that is neither lower nor higher
pub not_found : (p : List ℕ) (parts : Parts) (ws : List ℕ) (before behind : List ℕ) → before ++ behind ≡ ws → AreStored p ws → HasNumbersInRange parts → length p ≤ MOST_BYTES
    → AllCompareToKey Greater p (key_of parts) before → AllCompareToKey Less p (key_of parts) behind → find (is_equal_item (drop 8 p) (item_of parts)) (items_of_locators ws) ≡ None
not_found p parts ws before behind is stored room few low high =
    find-none (is_equal_item (drop 8 p) (item_of parts)) (items_of_locators ws)
    (all_items (λ x. is_equal_item (drop 8 p) (item_of parts) x ≡ false) ws (all_two (IsStored p) (λ w. cmp (key_of parts) (key_of_locator p w) ≢ Equal) (λ w. is_equal_item (drop 8 p) (item_of parts) (written_item w) ≡ false)
    (λ w s ne. not_equal w s ne (is_equal_item (drop 8 p) (item_of parts) (written_item w)) refl) ws stored
    (subst (AllByRecursion (λ w. cmp (key_of parts) (key_of_locator p w) ≢ Equal)) is
    (all_both (λ w. cmp (key_of parts) (key_of_locator p w) ≢ Equal) before behind
    (all_into (λ w. cmp (key_of parts) (key_of_locator p w) ≡ Greater) (λ w. cmp (key_of parts) (key_of_locator p w) ≢ Equal) (λ w g e. let no : Greater ≡ Equal = sym g ∙ e in absurd cc) before low)
    (all_into (λ w. cmp (key_of parts) (key_of_locator p w) ≡ Less) (λ w. cmp (key_of parts) (key_of_locator p w) ≢ Equal) (λ w g e. let no : Less ≡ Equal = sym g ∙ e in absurd cc) behind high)))))
  where
    not_equal : (w : ℕ) → IsStored p w → cmp (key_of parts) (key_of_locator p w) ≢ Equal → (b : Bool) → is_equal_item (drop 8 p) (item_of parts) (written_item w) ≡ b → is_equal_item (drop 8 p) (item_of parts) (written_item w) ≡ false
    not_equal w s ne true e = absurd (ne (equal_key p w parts s room few e))
    not_equal w s ne false e = e

-- the words with the key of the one that is found
pub found_item : (p : List ℕ) (parts : Parts) (ws : List ℕ) (w : ℕ) → AreStored p ws → HaveRisingKeys p ws → HasNumbersInRange parts → length p ≤ MOST_BYTES → IsLocatorWithKey p ws (key_of parts) w
    → find (is_equal_item (drop 8 p) (item_of parts)) (items_of_locators ws) ≡ Some (written_item w)
found_item p parts ws w stored rising room few f =
    let rs = subst (HaveRisingKeys p) f.is rising in
    let ss = subst (AreStored p) f.is stored in
    let own : IsStored p w = (all_last (IsStored p) f.before (w ∷ f.behind) ss).0 in
    let below = all_into (λ v. IsBelow p v w) (λ v. cmp (key_of parts) (key_of_locator p v) ≢ Equal) (λ v b e. differ v b e) f.before (rising_before p f.before w f.behind rs) in
    let higher = all_into (IsBelow p w) (λ v. cmp (key_of parts) (key_of_locator p v) ≢ Equal) (λ v b e. differ_up v b e) f.behind (rising_head p w f.behind (rising_last p f.before (w ∷ f.behind) rs)) in
    let one = all_both (λ v. is_equal_item (drop 8 p) (item_of parts) (written_item v) ≡ true → written_item v ≡ written_item w) f.before (w ∷ f.behind)
    (all_two (IsStored p) (λ v. cmp (key_of parts) (key_of_locator p v) ≢ Equal) (λ v. is_equal_item (drop 8 p) (item_of parts) (written_item v) ≡ true → written_item v ≡ written_item w) (λ v s ne e. absurd (ne (equal_key p v parts s room few e))) f.before (all_first (IsStored p) f.before (w ∷ f.behind) ss) below)
    (λ e. refl, all_two (IsStored p) (λ v. cmp (key_of parts) (key_of_locator p v) ≢ Equal) (λ v. is_equal_item (drop 8 p) (item_of parts) (written_item v) ≡ true → written_item v ≡ written_item w) (λ v s ne e. absurd (ne (equal_key p v parts s room few e))) f.behind (all_last (IsStored p) f.before (w ∷ f.behind) ss).1 higher) in
    ap (λ (l : List ℕ). find (is_equal_item (drop 8 p) (item_of parts)) (items_of_locators l)) f.is
    ∙ find-one (is_equal_item (drop 8 p) (item_of parts)) (items_of_locators (f.before ++ w ∷ f.behind)) (written_item w)
    (all_items (λ x. is_equal_item (drop 8 p) (item_of parts) x ≡ true → x ≡ written_item w) (f.before ++ w ∷ f.behind) one)
    (has_item f.before w f.behind) (key_equal p w parts own f.equal)
  where
    -- the key equals that of w
    with_key : (v : ℕ) → cmp (key_of parts) (key_of_locator p v) ≡ cmp (key_of_locator p w) (key_of_locator p v)
    with_key v = nat_list_cmp_total.congr (key_of parts) (key_of_locator p w) (key_of_locator p v) f.equal

    differ : (v : ℕ) → IsBelow p v w → cmp (key_of parts) (key_of_locator p v) ≡ Equal → ⊥
    differ v b e = let no : Equal ≡ Greater = sym e ∙ with_key v ∙ flipped (key_of_locator p v) (key_of_locator p w) Less b in absurd cc

    differ_up : (v : ℕ) → IsBelow p w v → cmp (key_of parts) (key_of_locator p v) ≡ Equal → ⊥
    differ_up v b e = let no : Equal ≡ Less = sym e ∙ with_key v ∙ b in absurd cc

pub found_word : (p : List ℕ) (ws : List ℕ) (key : List ℕ) (w : ℕ) → AreStored p ws → IsLocatorWithKey p ws key w → word_of_written_item (written_item w) ≡ word_of_locator w
found_word p ws key w stored f =
    let own : IsStored p w = (all_last (IsStored p) f.before (w ∷ f.behind) (subst (AreStored p) f.is stored)).0 in
    omega (arith, own.stored.behind_head)

-- ---- pages with one word more

pub stored_with : (p q : List ℕ) (w : ℕ) (before behind : List ℕ) → AreStored p (before ++ behind) → IsStored (p ++ q) w → AreStored (p ++ q) (before ++ w ∷ behind)
stored_with p q w before behind s new =
    all_both (IsStored (p ++ q)) before (w ∷ behind)
    (all_into (IsStored p) (IsStored (p ++ q)) (λ v t. stored_more p q v t) before (all_first (IsStored p) before behind s))
    (new, all_into (IsStored p) (IsStored (p ++ q)) (λ v t. stored_more p q v t) behind (all_last (IsStored p) before behind s))

rising_on : (p q : List ℕ) (ws : List ℕ) → AreStored p ws → HaveRisingKeys p ws → HaveRisingKeys (p ++ q) ws
rising_on p q [] s r = rising_none (p ++ q)
rising_on p q (w ∷ ws) s r =
    rising_more (p ++ q) w ws
    (all_two (IsStored p) (IsBelow p w) (IsBelow (p ++ q) w) (λ v t b. ap (λ (k : List ℕ). cmp k (key_of_locator (p ++ q) v)) (key_more p q w s.0) ∙ ap (cmp (key_of_locator p w)) (key_more p q v t) ∙ b) ws s.1 (rising_head p w ws r))
    (rising_on p q ws s.1 (rising_rest p w ws r))

pub rising_new : (p q : List ℕ) (key : List ℕ) (w : ℕ) (before behind : List ℕ) → AreStored p (before ++ behind) → HaveRisingKeys p (before ++ behind) → key_of_locator (p ++ q) w ≡ key
    → AllCompareToKey Greater p key before → AllCompareToKey Less p key behind → HaveRisingKeys (p ++ q) (before ++ w ∷ behind)
rising_new p q key w before behind s r is low high =
    rising_with (p ++ q) before w behind (rising_on p q (before ++ behind) s r)
    (all_two (IsStored p) (λ v. cmp key (key_of_locator p v) ≡ Greater) (λ v. IsBelow (p ++ q) v w)
    (λ v t g. ap (λ (k : List ℕ). cmp k (key_of_locator (p ++ q) w)) (key_more p q v t) ∙ ap (cmp (key_of_locator p v)) is ∙ flipped key (key_of_locator p v) Greater g) before (all_first (IsStored p) before behind s) low)
    (all_two (IsStored p) (λ v. cmp key (key_of_locator p v) ≡ Less) (IsBelow (p ++ q) w)
    (λ v t g. ap (λ (k : List ℕ). cmp k (key_of_locator (p ++ q) v)) is ∙ ap (cmp key) (key_more p q v t) ∙ g) behind (all_last (IsStored p) before behind s) high)

-- what was written ends before what is written next
pub all_lower : (p : List ℕ) (w : ℕ) (ws : List ℕ) → length p ≤ low_28_bits (word_of_locator w) → AreStored p ws → AllByRecursion (λ v. (written_item v).offset < (written_item w).offset) ws
all_lower p w ws behind s =
    all_into (IsStored p) (λ v. (written_item v).offset < (written_item w).offset) (λ v t. omega (arith, stored_ends p v t, t.stored.behind_head, item_some t.what)) ws s

-- ---- without a head nothing was written

pub nothing_between : (p key : List ℕ) (pages : List (List ℕ)) (c : Cause) → IsEmptyOrHasHead p → HaveNoEmptyPage pages → AreStored p (concat pages) → Some c ≡ payload_head_fault p → IsBetween p pages key (record { page = 0; index = 0 })
nothing_between p key [] c h f s e = record { inside = (refl, refl); lower = tt; higher = tt }
nothing_between p key ([] ∷ pages) c h f s e = absurd (let some = f.0 in omega arith)
nothing_between p key ((w ∷ page) ∷ pages) c (inl none) f s e = absurd (let t = s.0 in omega (arith, ap length none, stored_ends p w t, t.stored.behind_head))
nothing_between p key ((w ∷ page) ∷ pages) c (inr head) f s e = absurd (let no : Some c ≡ None = e ∙ no_fault p head in cc)
  where
    no_fault : (p : List ℕ) → take 8 p ≡ replicate 8 0 → payload_head_fault p ≡ None
    no_fault [] h = absurd cc
    no_fault (x ∷ xs) h =
        let zero_is : x ≡ 0 = cc in
        let long : 8 ≤ length (x ∷ xs) = omega (arith, ap length h, length-take 8 (x ∷ xs)) in
        let t : ltb (length (x ∷ xs)) 8 ≡ false = le-ltb _ _ long in
        rw (t, zero_is) refl
