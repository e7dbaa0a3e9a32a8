-- Words in pages: where a key would stand, and what changes of the pages do.
use Rattle.std.proofs.Common.{◌≡◌, ℕ, zero, suc, ◌+◌, ◌-◌, ◌<◌, ◌≤◌, Bool, true, false, List, [], ◌∷◌, ◌++◌, length, get_or, set, map, take, drop, refl, sym, ap, subst, ◌∙◌, arith, inl, inr, append_assoc, take-append-drop}
use Rattle.std.specs.Prelude.{not}
use Rattle.std.specs.Bool.{OnTrue}
use Rattle.std.specs.List.{AllByRecursion, AllWithin, concat, insert}
use Rattle.std.specs.List.Sorted.{IsPartitionPoint, IsPartitionedBy}
use Rattle.std.proofs.lemmas.Bool.{cases_lt, not-true, not-false}
use Rattle.std.specs.Ordering.{ordering_reverse, is_lt}
use Rattle.std.specs.declared.cmp.Ordering.{Ordering}
use Rattle.std.specs.declared.cmp.Ordering.TheVariants.{Less, Equal, Greater}
use Rattle.std.proofs.lemmas.Cmp.{nat_list_cmp_total}
use Rattle.std.proofs.lemmas.List.{drop_more, length-append, length-take, length-drop, drop-drop, get_or-map, length-map, map-set, take_all}
use Rattle.std.proofs.lemmas.List.Edits.{get_or-insert_below}
use Rattle.adb_write.specs.Keys.{key_of_locator, HaveRisingKeys}
use Rattle.adb_write.specs.WordPages.{page_at, locators_before_slot, locators_from_slot, IsSlotIn, IsSameSlot, HaveNoEmptyPage, HALF, with_page_split, page_begins_above_key, AllCompareToKey, IsPageAt, IsPageFor, IsLocatorWithKey, IsBetween}
use Rattle.adb_write.specs.declared.word_pages.Slot.{Slot}
use Rattle.adb_write.proofs.Rising.{cmp, flipped, IsBelow, less_chain, all_both, all_last, all_into, all_front, all_back, rising_none, rising_head, rising_rest, rising_first, rising_last}

-- ---- a slot parts the words

pub parts_at : (pages : List (List ℕ)) (k index : ℕ) → locators_before_slot pages k index ++ locators_from_slot pages k index ≡ concat pages
parts_at [] k index = refl
parts_at (page ∷ pages) zero index = sym (append_assoc (take index page) (drop index page) (concat pages)) ∙ ap (λ (x : List ℕ). x ++ concat pages) (take-append-drop index page)
parts_at (page ∷ pages) (suc k) index = append_assoc page (locators_before_slot pages k index) (locators_from_slot pages k index) ∙ ap (λ (x : List ℕ). page ++ x) (parts_at pages k index)

pub before_split : (pages : List (List ℕ)) (k index : ℕ) → locators_before_slot pages k index ≡ locators_before_slot pages k 0 ++ take index (page_at pages k)
before_split [] k zero = refl
before_split [] k (suc index) = refl
before_split (page ∷ pages) zero index = refl
before_split (page ∷ pages) (suc k) index = ap (λ (x : List ℕ). page ++ x) (before_split pages k index) ∙ sym (append_assoc page (locators_before_slot pages k 0) (take index (page_at pages k)))

from_start : (pages : List (List ℕ)) → locators_from_slot pages 0 0 ≡ concat pages
from_start [] = refl
from_start (page ∷ pages) = refl

pub after_split : (pages : List (List ℕ)) (k index : ℕ) → locators_from_slot pages k index ≡ drop index (page_at pages k) ++ locators_from_slot pages (suc k) 0
after_split [] k zero = refl
after_split [] k (suc index) = refl
after_split (page ∷ pages) zero index = ap (λ (x : List ℕ). drop index page ++ x) (sym (from_start pages))
after_split (page ∷ pages) (suc k) index = after_split pages k index

-- ---- pages that begin above a key

above : (p key : List ℕ) (page : List ℕ) (rest : List ℕ) → HaveRisingKeys p (page ++ rest) → page_begins_above_key p key page ≡ true → AllCompareToKey Less p key (page ++ rest)
above p key [] rest r e = absurd cc
above p key (w ∷ page) rest r e =
    let first : cmp key (key_of_locator p w) ≡ Less = is_less (cmp key (key_of_locator p w)) e in
    (first, all_into (IsBelow p w) (λ v. cmp key (key_of_locator p v) ≡ Less) (λ v below. less_chain key (key_of_locator p w) (key_of_locator p v) first below) (page ++ rest) (rising_head p w (page ++ rest) r))
  where
    is_less : (o : Ordering) → is_lt o ≡ true → o ≡ Less
    is_less Less is = refl
    is_less Equal is = absurd cc
    is_less Greater is = absurd cc

-- if all words are above it, each page begins so
all_above : (p key : List ℕ) (pages : List (List ℕ)) → HaveNoEmptyPage pages → AllCompareToKey Less p key (concat pages) → (k : ℕ) → k < length pages → page_begins_above_key p key (page_at pages k) ≡ true
all_above p key [] f a k within = absurd (omega arith)
all_above p key ([] ∷ pages) f a zero within = absurd (let some = f.0 in omega arith)
all_above p key ((w ∷ page) ∷ pages) f a zero within = ap is_lt a.0
all_above p key (page ∷ pages) f a (suc k) within = all_above p key pages f.1 (all_last (λ v. cmp key (key_of_locator p v) ≡ Less) page (concat pages) a) k (omega arith)

pub above_on : (p key : List ℕ) (pages : List (List ℕ)) → HaveNoEmptyPage pages → HaveRisingKeys p (concat pages) → (i j : ℕ) → i ≤ j → j < length pages → page_begins_above_key p key (page_at pages i) ≡ true → page_begins_above_key p key (page_at pages j) ≡ true
above_on p key [] f r i j upto within e = absurd (omega arith)
above_on p key (page ∷ pages) f r zero j upto within e = all_above p key (page ∷ pages) f (above p key page (concat pages) r e) j within
above_on p key (page ∷ pages) f r (suc i) zero upto within e = absurd (omega arith)
above_on p key (page ∷ pages) f r (suc i) (suc j) upto within e = above_on p key pages f.1 (rising_last p page (concat pages) r) i j (omega arith) (omega arith) e

pub above_after : (p key : List ℕ) (pages : List (List ℕ)) (k : ℕ) → HaveRisingKeys p (concat pages) → k < length pages → page_begins_above_key p key (page_at pages k) ≡ true → AllCompareToKey Less p key (locators_from_slot pages k 0)
above_after p key [] k r within e = absurd (omega arith)
above_after p key (page ∷ pages) zero r within e = above p key page (concat pages) r e
above_after p key (page ∷ pages) (suc k) r within e = above_after p key pages k (rising_last p page (concat pages) r) (omega arith) e

pub behind_last : (pages : List (List ℕ)) (k : ℕ) → length pages ≤ k → locators_from_slot pages k 0 ≡ []
behind_last [] k past = refl
behind_last (page ∷ pages) zero past = absurd (omega arith)
behind_last (page ∷ pages) (suc k) past = behind_last pages k (omega arith)

pub after_less : (p key : List ℕ) (pages : List (List ℕ)) (k : ℕ) → AllCompareToKey Less p key (locators_from_slot pages k 0) → AllCompareToKey Less p key (locators_from_slot pages (suc k) 0)
after_less p key [] k a = tt
after_less p key (page ∷ pages) zero a = subst (AllCompareToKey Less p key) (sym (from_start pages)) (all_last (λ v. cmp key (key_of_locator p v) ≡ Less) page (concat pages) a)
after_less p key (page ∷ pages) (suc k) a = after_less p key pages k a

-- ---- pages in front of one that does not begin above a key

-- a word below another one, at which the key is or above which it is, is below the key
below_key : (key a b : List ℕ) → cmp a b ≡ Less → is_lt (cmp key b) ≡ false → cmp key a ≡ Greater
below_key key a b less upto = go (cmp key b) refl upto
  where
    go : (o : Ordering) → cmp key b ≡ o → is_lt o ≡ false → cmp key a ≡ Greater
    go Less is f = absurd cc
    go Equal is f = nat_list_cmp_total.congr key b a is ∙ flipped a b Less less
    go Greater is f = flipped a key Less (less_chain a b key less (flipped key b Greater is))

-- a word below all others is below those of the key
first_of : (p key : List ℕ) (v : ℕ) (pages : List (List ℕ)) (k : ℕ) → HaveNoEmptyPage pages → k < length pages → page_begins_above_key p key (page_at pages k) ≡ false → AllByRecursion (IsBelow p v) (concat pages) → cmp key (key_of_locator p v) ≡ Greater
first_of p key v [] k f within e a = absurd (omega arith)
first_of p key v ([] ∷ pages) zero f within e a = absurd (let some = f.0 in omega arith)
first_of p key v ((w ∷ page) ∷ pages) zero f within e a = below_key key (key_of_locator p v) (key_of_locator p w) a.0 e
first_of p key v (page ∷ pages) (suc k) f within e a = first_of p key v pages k f.1 (omega arith) e (all_last (IsBelow p v) page (concat pages) a)

page_lower : (p key : List ℕ) (page : List ℕ) (pages : List (List ℕ)) (k : ℕ) → HaveNoEmptyPage pages → k < length pages → page_begins_above_key p key (page_at pages k) ≡ false → HaveRisingKeys p (page ++ concat pages) → AllCompareToKey Greater p key page
page_lower p key [] pages k f within e r = tt
page_lower p key (v ∷ page) pages k f within e r =
    (first_of p key v pages k f within e (all_last (IsBelow p v) page (concat pages) (rising_head p v (page ++ concat pages) r)), page_lower p key page pages k f within e (rising_rest p v (page ++ concat pages) r))

pub lower_before : (p key : List ℕ) (pages : List (List ℕ)) (k : ℕ) → HaveNoEmptyPage pages → HaveRisingKeys p (concat pages) → k < length pages → page_begins_above_key p key (page_at pages k) ≡ false → AllCompareToKey Greater p key (locators_before_slot pages k 0)
lower_before p key [] k f r within e = tt
lower_before p key (page ∷ pages) zero f r within e = tt
lower_before p key (page ∷ pages) (suc k) f r within e =
    all_both (λ v. cmp key (key_of_locator p v) ≡ Greater) page (locators_before_slot pages k 0) (page_lower p key page pages k f.1 (omega arith) e r) (lower_before p key pages k f.1 (rising_last p page (concat pages) r) (omega arith) e)

pub start_lower : (p key : List ℕ) (pages : List (List ℕ)) → AllCompareToKey Greater p key (locators_before_slot pages 0 0)
start_lower p key [] = tt
start_lower p key (page ∷ pages) = tt

-- ---- places

pub slot_in : (pages : List (List ℕ)) (k index : ℕ) → k < length pages → index ≤ length (page_at pages k) → IsSlotIn pages k index
slot_in [] k index within upto = absurd (omega arith)
slot_in (page ∷ pages) zero index within upto = upto
slot_in (page ∷ []) (suc k) index within upto = absurd (omega arith)
slot_in (page ∷ next ∷ pages) (suc k) index within upto = slot_in (next ∷ pages) k index (omega arith) upto

pub slot_page : (pages : List (List ℕ)) (k index : ℕ) → 0 < length pages → IsSlotIn pages k index → k < length pages
slot_page [] k index some i = absurd (omega arith)
slot_page (page ∷ pages) zero index some i = omega arith
slot_page (page ∷ []) (suc k) index some i = absurd i
slot_page (page ∷ next ∷ pages) (suc k) index some i = let m = slot_page (next ∷ pages) k index (omega arith) i in omega arith

pub slot_index : (pages : List (List ℕ)) (k index : ℕ) → 0 < length pages → IsSlotIn pages k index → index ≤ length (page_at pages k)
slot_index [] k index some i = absurd (omega arith)
slot_index (page ∷ pages) zero index some i = i
slot_index (page ∷ []) (suc k) index some i = absurd i
slot_index (page ∷ next ∷ pages) (suc k) index some i = slot_index (next ∷ pages) k index (omega arith) i

-- ---- one word more in a page

pub inserted : (pages : List (List ℕ)) (k index w : ℕ) → k < length pages → concat (set pages k (insert (page_at pages k) index w)) ≡ locators_before_slot pages k index ++ w ∷ locators_from_slot pages k index
inserted [] k index w within = absurd (omega arith)
inserted (page ∷ pages) zero index w within = append_assoc (take index page) (w ∷ drop index page) (concat pages)
inserted (page ∷ pages) (suc k) index w within = ap (λ (x : List ℕ). page ++ x) (inserted pages k index w (omega arith)) ∙ sym (append_assoc page (locators_before_slot pages k index) (w ∷ locators_from_slot pages k index))

pub filled_set : (pages : List (List ℕ)) (k : ℕ) (page : List ℕ) → HaveNoEmptyPage pages → 0 < length page → HaveNoEmptyPage (set pages k page)
filled_set [] k page f some = tt
filled_set (x ∷ pages) zero page f some = (some, f.1)
filled_set (x ∷ pages) (suc k) page f some = (f.0, filled_set pages k page f.1 some)

-- ---- a page in two

pub split_is : (pages : List (List ℕ)) (k : ℕ) → k < length pages → set (insert pages (suc k) (drop HALF (page_at pages k))) k (take HALF (page_at pages k)) ≡ with_page_split pages k
split_is [] k within = absurd (omega arith)
split_is (page ∷ pages) zero within = refl
split_is (page ∷ pages) (suc k) within = ap (λ (x : List (List ℕ)). page ∷ x) (split_is pages k (omega arith))

pub split_whole : (pages : List (List ℕ)) (k : ℕ) → concat (with_page_split pages k) ≡ concat pages
split_whole [] k = refl
split_whole (page ∷ pages) zero = sym (append_assoc (take HALF page) (drop HALF page) (concat pages)) ∙ ap (λ (x : List ℕ). x ++ concat pages) (take-append-drop HALF page)
split_whole (page ∷ pages) (suc k) = ap (λ (x : List ℕ). page ++ x) (split_whole pages k)

pub split_long : (pages : List (List ℕ)) (k : ℕ) → k < length pages → length (with_page_split pages k) ≡ suc (length pages)
split_long [] k within = absurd (omega arith)
split_long (page ∷ pages) zero within = refl
split_long (page ∷ pages) (suc k) within = ap suc (split_long pages k (omega arith))

pub split_filled : (pages : List (List ℕ)) (k : ℕ) → HaveNoEmptyPage pages → HALF < length (page_at pages k) → HaveNoEmptyPage (with_page_split pages k)
split_filled [] k f full = tt
split_filled (page ∷ pages) zero f full = (omega (arith, length-take HALF page), (omega (arith, length-drop HALF page), f.1))
split_filled (page ∷ pages) (suc k) f full = (f.0, split_filled pages k f.1 full)

pub split_lower : (pages : List (List ℕ)) (k : ℕ) → page_at (with_page_split pages k) k ≡ take HALF (page_at pages k)
split_lower [] zero = refl
split_lower [] (suc k) = refl
split_lower (page ∷ pages) zero = refl
split_lower (page ∷ pages) (suc k) = split_lower pages k

pub split_upper : (pages : List (List ℕ)) (k : ℕ) → page_at (with_page_split pages k) (suc k) ≡ drop HALF (page_at pages k)
split_upper [] zero = refl
split_upper [] (suc k) = refl
split_upper (page ∷ pages) zero = refl
split_upper (page ∷ pages) (suc k) = split_upper pages k

-- ---- a list in two at h, seen from a slot before it or after it

pub take_take : (i h : ℕ) (xs : List ℕ) → i ≤ h → take i (take h xs) ≡ take i xs
take_take zero h xs upto = refl
take_take (suc i) zero xs upto = absurd (omega arith)
take_take (suc i) (suc h) [] upto = refl
take_take (suc i) (suc h) (x ∷ xs) upto = ap (λ (ys : List ℕ). x ∷ ys) (take_take i h xs (omega arith))

pub drop_take : (i h : ℕ) (xs : List ℕ) → i ≤ h → drop i (take h xs) ++ drop h xs ≡ drop i xs
drop_take zero h xs upto = take-append-drop h xs
drop_take (suc i) zero xs upto = absurd (omega arith)
drop_take (suc i) (suc h) [] upto = refl
drop_take (suc i) (suc h) (x ∷ xs) upto = drop_take i h xs (omega arith)

pub take_on : (h n i : ℕ) (xs : List ℕ) → i ≡ h + n → take h xs ++ take n (drop h xs) ≡ take i xs
take_on zero n i xs is = ap (λ (m : ℕ). take m xs) (omega arith)
take_on (suc h) n zero xs is = absurd (omega arith)
take_on (suc h) zero (suc i) [] is = refl
take_on (suc h) (suc n) (suc i) [] is = refl
take_on (suc h) n (suc i) (x ∷ xs) is = ap (λ (ys : List ℕ). x ∷ ys) (take_on h n i xs (omega arith))

lower_before_same : (pages : List (List ℕ)) (k index : ℕ) → index ≤ HALF → locators_before_slot (with_page_split pages k) k index ≡ locators_before_slot pages k index
lower_before_same [] k index upto = refl
lower_before_same (page ∷ pages) zero index upto = take_take index HALF page upto
lower_before_same (page ∷ pages) (suc k) index upto = ap (λ (x : List ℕ). page ++ x) (lower_before_same pages k index upto)

lower_after_same : (pages : List (List ℕ)) (k index : ℕ) → index ≤ HALF → locators_from_slot (with_page_split pages k) k index ≡ locators_from_slot pages k index
lower_after_same [] k index upto = refl
lower_after_same (page ∷ pages) zero index upto = sym (append_assoc (drop index (take HALF page)) (drop HALF page) (concat pages)) ∙ ap (λ (x : List ℕ). x ++ concat pages) (drop_take index HALF page upto)
lower_after_same (page ∷ pages) (suc k) index upto = lower_after_same pages k index upto

upper_before_same : (pages : List (List ℕ)) (k n i : ℕ) → i ≡ HALF + n → locators_before_slot (with_page_split pages k) (suc k) n ≡ locators_before_slot pages k i
upper_before_same [] k n i is = refl
upper_before_same (page ∷ pages) zero n i is = take_on HALF n i page is
upper_before_same (page ∷ pages) (suc k) n i is = ap (λ (x : List ℕ). page ++ x) (upper_before_same pages k n i is)

upper_after_same : (pages : List (List ℕ)) (k n i : ℕ) → i ≡ HALF + n → locators_from_slot (with_page_split pages k) (suc k) n ≡ locators_from_slot pages k i
upper_after_same [] k n i is = refl
upper_after_same (page ∷ pages) zero n i is = ap (λ (x : List ℕ). x ++ concat pages) (drop-drop n HALF page ∙ ap (λ (m : ℕ). drop m page) (sym is))
upper_after_same (page ∷ pages) (suc k) n i is = upper_after_same pages k n i is

pub lower_slot : (pages new : List (List ℕ)) (k index : ℕ) → new ≡ with_page_split pages k → k < length pages → HALF < length (page_at pages k) → index ≤ HALF
    → IsSlotIn new k index × (locators_before_slot new k index ≡ locators_before_slot pages k index) × (locators_from_slot new k index ≡ locators_from_slot pages k index)
lower_slot pages new k index is within full upto =
    let long : index ≤ length (page_at (with_page_split pages k) k) = omega (arith, ap length (split_lower pages k), length-take HALF (page_at pages k)) in
    subst (λ (ps : List (List ℕ)). IsSlotIn ps k index × (locators_before_slot ps k index ≡ locators_before_slot pages k index) × (locators_from_slot ps k index ≡ locators_from_slot pages k index)) (sym is)
    (slot_in (with_page_split pages k) k index (omega (arith, split_long pages k within)) long, lower_before_same pages k index upto, lower_after_same pages k index upto)

pub upper_slot : (pages new : List (List ℕ)) (k index : ℕ) → new ≡ with_page_split pages k → k < length pages → index ≤ length (page_at pages k) → HALF < index
    → IsSlotIn new (k + 1) (index - HALF) × (locators_before_slot new (k + 1) (index - HALF) ≡ locators_before_slot pages k index) × (locators_from_slot new (k + 1) (index - HALF) ≡ locators_from_slot pages k index)
upper_slot pages new k index is within upto past =
    let n : ℕ = index - HALF in
    let whole : index ≡ HALF + n = omega arith in
    let next : suc k ≡ k + 1 = omega arith in
    let long : n ≤ length (page_at (with_page_split pages k) (suc k)) = omega (arith, ap length (split_upper pages k), length-drop HALF (page_at pages k)) in
    subst (λ (ps : List (List ℕ)). IsSlotIn ps (k + 1) n × (locators_before_slot ps (k + 1) n ≡ locators_before_slot pages k index) × (locators_from_slot ps (k + 1) n ≡ locators_from_slot pages k index)) (sym is)
    (subst (λ (m : ℕ). IsSlotIn (with_page_split pages k) m n × (locators_before_slot (with_page_split pages k) m n ≡ locators_before_slot pages k index) × (locators_from_slot (with_page_split pages k) m n ≡ locators_from_slot pages k index)) next
    (slot_in (with_page_split pages k) (suc k) n (omega (arith, split_long pages k within)) long, upper_before_same pages k n index whole, upper_after_same pages k n index whole))

-- ---- the pages as vectors have them

pub page_of_map : {V : Type 0} (f : V → List ℕ) (vs : List V) (k : ℕ) (d : V) → k < length vs → page_at (map f vs) k ≡ f (get_or vs k d)
page_of_map f vs k d within = get_or-map f vs k d [] within

map_insert : {V : Type 0} (f : V → List ℕ) (vs : List V) (i : ℕ) (v : V) → map f (insert vs i v) ≡ insert (map f vs) i (f v)
map_insert f [] zero v = refl
map_insert f [] (suc i) v = refl
map_insert f (x ∷ vs) zero v = refl
map_insert f (x ∷ vs) (suc i) v = ap (λ (ps : List (List ℕ)). f x ∷ ps) (map_insert f vs i v)

inserted_below : {V : Type 0} (f : V → List ℕ) (old new : List V) (k : ℕ) (u r : V) → k < length old → new ≡ insert old (suc k) u → r ≡ get_or new k r → f r ≡ page_at (map f old) k
inserted_below f old new k u r within is here =
    ap f (here ∙ ap (λ vs. get_or vs k r) is ∙ get_or-insert_below old (suc k) u r k (omega arith) (omega arith)) ∙ sym (page_of_map f old k r within)

pub split_vectors : {V : Type 0} (f : V → List ℕ) (old new : List V) (k : ℕ) (u t r : V) → k < length old → new ≡ insert old (k + 1) u → r ≡ get_or new k r
    → f t ≡ take HALF (f r) → f u ≡ drop HALF (page_at (map f old) k) → map f (set new k t) ≡ with_page_split (map f old) k
split_vectors f old new k u t r within is here lower upper =
    let next : k + 1 ≡ suc k = omega arith in
    let new_is : new ≡ insert old (suc k) u = is ∙ ap (λ (m : ℕ). insert old m u) next in
    map-set f new k t
    ∙ ap (λ (ps : List (List ℕ)). set ps k (f t)) (ap (map f) new_is ∙ map_insert f old (suc k) u)
    ∙ ap (λ (p : List ℕ). set (insert (map f old) (suc k) (f u)) k p) (lower ∙ ap (take HALF) (inserted_below f old new k u r within new_is here))
    ∙ ap (λ (p : List ℕ). set (insert (map f old) (suc k) p) k (take HALF (page_at (map f old) k))) upper
    ∙ split_is (map f old) k (omega (arith, length-map old f))

-- what is copied into the upper page
pub upper_copy : {V : Type 0} (f : V → List ℕ) (old : List V) (k : ℕ) (front xs : List ℕ) (r : V) → k < length old → front ≡ [] → xs ≡ f r → r ≡ get_or old k r
    → front ++ take (length xs - HALF) (drop HALF xs) ≡ drop HALF (page_at (map f old) k)
upper_copy f old k front xs r within none is here =
    ap (λ (ys : List ℕ). ys ++ take (length xs - HALF) (drop HALF xs)) none
    ∙ take_all (length xs - HALF) (drop HALF xs) (omega (arith, length-drop HALF xs))
    ∙ ap (drop HALF) (is ∙ ap f here ∙ sym (page_of_map f old k r within))

-- one word more in a vector
pub insert_vectors : {V : Type 0} (f : V → List ℕ) (old : List V) (k index w : ℕ) (t r : V) → k < length old → r ≡ get_or old k r → f t ≡ insert (f r) index w
    → concat (map f (set old k t)) ≡ locators_before_slot (map f old) k index ++ w ∷ locators_from_slot (map f old) k index
insert_vectors f old k index w t r within here is =
    ap concat (map-set f old k t ∙ ap (set (map f old) k) (is ∙ ap (λ (p : List ℕ). insert p index w) (ap f here ∙ sym (page_of_map f old k r within))))
    ∙ inserted (map f old) k index w (omega (arith, length-map old f))

-- a vector with one of its own
pub same_vectors : {V : Type 0} (f : V → List ℕ) (old : List V) (k : ℕ) (t r : V) → k < length old → r ≡ get_or old k r → f t ≡ f r → map f (set old k t) ≡ map f old
same_vectors f old k t r within here same =
    map-set f old k t ∙ ap (set (map f old) k) (same ∙ ap f here ∙ sym (page_of_map f old k r within)) ∙ set_own (map f old) k
  where
    set_own : (pages : List (List ℕ)) (k : ℕ) → set pages k (page_at pages k) ≡ pages
    set_own [] k = refl
    set_own (page ∷ pages) zero = refl
    set_own (page ∷ pages) (suc k) = ap (λ (ps : List (List ℕ)). page ∷ ps) (set_own pages k)

pub filled_vectors : {V : Type 0} (f : V → List ℕ) (old : List V) (k index w : ℕ) (t r : V) → HaveNoEmptyPage (map f old) → f t ≡ insert (f r) index w → HaveNoEmptyPage (map f (set old k t))
filled_vectors f old k index w t r filled is =
    subst HaveNoEmptyPage (sym (map-set f old k t)) (filled_set (map f old) k (f t) filled (omega (arith, ap length is, length-append (take index (f r)) (w ∷ drop index (f r)))))

pub slot_long : {V : Type 0} (f : V → List ℕ) (old : List V) (k index : ℕ) (r : V) → k < length old → r ≡ get_or old k r → IsSlotIn (map f old) k index → index ≤ length (f r)
slot_long f old k index r within here inside =
    let long = slot_index (map f old) k index (omega (arith, length-map old f)) inside in
    omega (arith, ap length (page_of_map f old k r within ∙ ap f (sym here)))

pub same_words : (pages new : List (List ℕ)) (slot there : Slot) → IsSameSlot pages slot new there → concat new ≡ concat pages
same_words pages new slot there same =
    sym (parts_at new there.page there.index) ∙ ap (λ (x : List ℕ). x ++ locators_from_slot new there.page there.index) same.before
    ∙ ap (λ (x : List ℕ). locators_before_slot pages slot.page slot.index ++ x) same.behind ∙ parts_at pages slot.page slot.index

-- ---- the page for a key

pub page_for_first : (p key : List ℕ) (pages : List (List ℕ)) → HaveRisingKeys p (concat pages) → (0 < length pages → page_begins_above_key p key (page_at pages 0) ≡ true) → IsPageFor p pages key 0
page_for_first p key [] r e = record { inside = (refl, refl); lower = tt; higher = tt }
page_for_first p key (page ∷ pages) r e = record {
  inside = omega arith;
  lower = tt;
  higher = after_less p key (page ∷ pages) 0 (above_after p key (page ∷ pages) 0 r (omega arith) (e (omega arith)));
}

pub page_for_next : (p key : List ℕ) (pages : List (List ℕ)) (k : ℕ) → HaveNoEmptyPage pages → HaveRisingKeys p (concat pages) → k < length pages → page_begins_above_key p key (page_at pages k) ≡ false
    → (suc k < length pages → page_begins_above_key p key (page_at pages (suc k)) ≡ true) → IsPageFor p pages key k
page_for_next p key pages k f r within low high = record {
  inside = slot_in pages k 0 within (omega arith);
  lower = lower_before p key pages k f r within low;
  higher = elim (cases_lt (suc k) (length pages)) [
    | inl more ↦ above_after p key pages (suc k) r more (high more)
    | inr last ↦ subst (AllCompareToKey Less p key) (sym (behind_last pages (suc k) last)) tt
  ];
}

-- the page that begins at or before a key, while the next one begins above it
pub page_for_at : (p key : List ℕ) (pages : List (List ℕ)) (k : ℕ) → HaveNoEmptyPage pages → HaveRisingKeys p (concat pages) → IsPageAt p pages key k → IsPageFor p pages key k
page_for_at p key pages k f r at = page_for_next p key pages k f r at.inside at.here at.next

pub next_begins : (p key : List ℕ) (pages : List (List ℕ)) (k : ℕ) (r : Bool) → k < length pages → page_begins_above_key p key (page_at pages k) ≡ false → r ≡ page_begins_above_key p key (page_at pages (suc k)) → OnTrue r (IsPageAt p pages key k)
next_begins p key pages k true inside here is = record { inside = inside; here = here; next = λ more. sym is }
next_begins p key pages k false inside here is = tt

-- the pages that do not begin above a key are in front
pub parted : {V : Type 0} (f : V → List ℕ) (p key : List ℕ) (vs : List V) → HaveNoEmptyPage (map f vs) → HaveRisingKeys p (concat (map f vs)) → IsPartitionedBy (λ v. not (page_begins_above_key p key (f v))) vs
parted f p key vs filled rising i j d upto within e =
    let a = page_of_map f vs i d (omega arith) in
    let b = page_of_map f vs j d within in
    go (page_begins_above_key p key (f (get_or vs i d))) refl
  where
    go : (b : Bool) → page_begins_above_key p key (f (get_or vs i d)) ≡ b → not (page_begins_above_key p key (f (get_or vs i d))) ≡ true
    go false is = ap not is
    go true is =
        let at_i : page_begins_above_key p key (page_at (map f vs) i) ≡ true = ap (page_begins_above_key p key) (page_of_map f vs i d (omega arith)) ∙ is in
        let at_j : page_begins_above_key p key (page_at (map f vs) j) ≡ true = above_on p key (map f vs) filled rising i j upto (omega (arith, length-map vs f)) at_i in
        let same : true ≡ page_begins_above_key p key (f (get_or vs j d)) = sym at_j ∙ ap (page_begins_above_key p key) (page_of_map f vs j d within) in
        let no : false ≡ true = ap not same ∙ e in
        absurd cc

pub page_for : {V : Type 0} (f : V → List ℕ) (p key : List ℕ) (vs : List V) (r k : ℕ) → HaveNoEmptyPage (map f vs) → HaveRisingKeys p (concat (map f vs)) → r ≤ length vs → k ≡ r - 1
    → IsPartitionPoint (λ v. not (page_begins_above_key p key (f v)) ≡ true) (λ v. not (page_begins_above_key p key (f v)) ≡ false) vs r → IsPageFor p (map f vs) key k
page_for f p key vs zero k filled rising upto is point =
    subst (IsPageFor p (map f vs) key) {x = 0} (omega arith) (page_for_first p key (map f vs) rising (λ some. begin vs (λ d within. point.1 0 d (omega arith) within) (omega (arith, length-map vs f))))
  where
    begin : (us : List _) → ((d : _) → 0 < length us → not (page_begins_above_key p key (f (get_or us 0 d))) ≡ false) → 0 < length us → page_begins_above_key p key (page_at (map f us) 0) ≡ true
    begin [] h some = absurd (omega arith)
    begin (u ∷ us) h some = not-false _ (h u (omega arith))
page_for f p key vs (suc r) k filled rising upto is point =
    let long = length-map vs f in
    subst (IsPageFor p (map f vs) key) {x = r} (omega arith)
    (page_for_next p key (map f vs) r filled rising (omega arith)
    (at_page r (omega arith) (λ b. b ≡ false) (λ d. not-true _ (point.0 r d (omega arith) (omega arith))))
    (λ more. at_page (suc r) (omega arith) (λ b. b ≡ true) (λ d. not-false _ (point.1 (suc r) d (omega arith) (omega arith)))))
  where
    at_page : (i : ℕ) → i < length vs → (P : Bool → Type 0) → ((d : _) → P (page_begins_above_key p key (f (get_or vs i d)))) → P (page_begins_above_key p key (page_at (map f vs) i))
    at_page i within P h = go vs refl
      where
        go : (us : List _) → us ≡ vs → P (page_begins_above_key p key (page_at (map f vs) i))
        go [] e = absurd (omega (arith, ap length e))
        go (u ∷ us) e = subst (λ (q : List ℕ). P (page_begins_above_key p key q)) (sym (page_of_map f vs i u within)) (h u)

-- ---- the slot in the page

pub found_at : (p : List ℕ) (pages : List (List ℕ)) (key : List ℕ) (k index w : ℕ) → index < length (page_at pages k) → w ≡ get_or (page_at pages k) index w → cmp key (key_of_locator p w) ≡ Equal → IsLocatorWithKey p (concat pages) key w
found_at p pages key k index w within here equal = record {
  before = locators_before_slot pages k index;
  behind = drop (index + 1) (page_at pages k) ++ locators_from_slot pages (suc k) 0;
  is = sym (parts_at pages k index)
      ∙ ap (λ (x : List ℕ). locators_before_slot pages k index ++ x) (after_split pages k index
      ∙ ap (λ (x : List ℕ). x ++ locators_from_slot pages (suc k) 0) (drop_more (page_at pages k) index w within ∙ ap (λ (v : ℕ). v ∷ drop (index + 1) (page_at pages k)) (sym here)));
  equal = equal;
}

pub between_at : (p : List ℕ) (pages : List (List ℕ)) (key : List ℕ) (k index : ℕ) → IsPageFor p pages key k → IsSlotIn pages k index
    → AllCompareToKey Greater p key (take index (page_at pages k)) → AllCompareToKey Less p key (drop index (page_at pages k)) → IsBetween p pages key (record { page = k; index = index })
between_at p pages key k index page inside low high = record {
  inside = inside;
  lower = subst (AllCompareToKey Greater p key) (sym (before_split pages k index)) (all_both (λ v. cmp key (key_of_locator p v) ≡ Greater) (locators_before_slot pages k 0) (take index (page_at pages k)) page.lower low);
  higher = subst (AllCompareToKey Less p key) (sym (after_split pages k index)) (all_both (λ v. cmp key (key_of_locator p v) ≡ Less) (drop index (page_at pages k)) (locators_from_slot pages (suc k) 0) high page.higher);
}

-- the words of one page rise
pub page_rising : (p : List ℕ) (pages : List (List ℕ)) (k : ℕ) → HaveRisingKeys p (concat pages) → HaveRisingKeys p (page_at pages k)
page_rising p [] zero r = rising_none p
page_rising p [] (suc k) r = rising_none p
page_rising p (page ∷ pages) zero r = rising_first p page (concat pages) r
page_rising p (page ∷ pages) (suc k) r = page_rising p pages k (rising_last p page (concat pages) r)

-- what a search in halves tells
pub reversed : (o q : Ordering) → ordering_reverse o ≡ q → o ≡ ordering_reverse q
reversed Less q e = ap ordering_reverse e
reversed Equal q e = ap ordering_reverse e
reversed Greater q e = ap ordering_reverse e

pub searched_low : (p key ws : List ℕ) (i : ℕ) → AllWithin (λ w. ordering_reverse (cmp key (key_of_locator p w)) ≡ Less) ws 0 i → AllCompareToKey Greater p key (take i ws)
searched_low p key ws i h = all_front (λ w. cmp key (key_of_locator p w) ≡ Greater) ws i (λ k d low high. reversed (cmp key (key_of_locator p (get_or ws k d))) Less (h k d low high))

pub searched_high : (p key ws : List ℕ) (i : ℕ) → AllWithin (λ w. ordering_reverse (cmp key (key_of_locator p w)) ≡ Greater) ws i (length ws) → AllCompareToKey Less p key (drop i ws)
searched_high p key ws i h = all_back (λ w. cmp key (key_of_locator p w) ≡ Less) ws i (λ k d low high. reversed (cmp key (key_of_locator p (get_or ws k d))) Greater (h k d low high))

pub no_page : (p key : List ℕ) (pages : List (List ℕ)) (k : ℕ) → IsPageFor p pages key k → length pages ≤ k → IsBetween p pages key (record { page = k; index = 0 })
no_page p key [] k page past = record { inside = page.inside; lower = tt; higher = tt }
no_page p key (first ∷ pages) k page past = absurd (let within = slot_page (first ∷ pages) k 0 (omega arith) page.inside in omega arith)
