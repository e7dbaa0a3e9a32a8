-- Among names in order the first that is looked for stands behind all that come before it.
use Rattle.std.proofs.Common.{◌≡◌, ℕ, suc, zero, ◌+◌, ◌<◌, ◌≤◌, Bool, true, false, cond, List, [], ◌∷◌, ◌++◌, map, length, drop, get_or, Option, Some, None, refl, ap, sym, ◌∙◌, subst, arith, true≢false}
use Rattle.std.specs.Prelude.{bytes_eq, if◌then◌else◌, not, option_map, slice_get, IfSome}
use Rattle.std.specs.Cmp.{IsTotalOrder}
use Rattle.std.specs.Cmp.Lexicographic.{bytes_decides, texts_ties}
use Rattle.std.specs.List.{find, position_from}
use Rattle.std.specs.List.Sorted.{IsPartitionPoint, IsPartitionedBy, IsSorted}
use Rattle.std.specs.Ordering.{is_eq, is_gt, is_lt, ordering_reverse}
use Rattle.std.specs.declared.cmp.Ordering.{Ordering}
use Rattle.std.specs.declared.cmp.Ordering.TheVariants.{Less, Equal, Greater}
use Rattle.std.proofs.lemmas.Cmp.{nat_list_cmp_total, on_total, tied_itself}
use Rattle.std.proofs.lemmas.List.{get_or-map, length-map}
use Rattle.std.proofs.lemmas.List.Sorted.{sorted_far}
use Rattle.base_core.specs.ByteOrder.{bytes_cmp, precedes}
use Rattle.base_core.specs.Sorted.{sorted_by, with_element_inserted}
use Rattle.base_core.proofs.Sorting.{Each, Rises, ranks, rises_sorted, sorted_up}
use Rattle.adb_view.specs.Plain.{Plain, Plains, none, more}
use Rattle.adb_view.specs.Values.{count_of, nth}
use Rattle.pkg_core.specs.adb_fields.Repeated.{list_of, package_name}
use Rattle.db_core.specs.NamePlaces.{NameWithPlace, placed_name_cmp, placed_names_in_order, place_under_name, placed_names_from}
use Rattle.db_core.specs.NameSeen.{name_seen}
use Rattle.db_core.specs.Packages.{is_package_named}
use Rattle.db_core.specs.declared.name_places.NamePlace.{NamePlace}
use Rattle.db_core.proofs.AnyOf.{nothing}

pub names_total : IsTotalOrder placed_name_cmp
unfolding placed_name_cmp
names_total = on_total (λ n. n.name) nat_list_cmp_total

abbrev pub is_named : List ℕ → NameWithPlace → Bool
is_named q n = bytes_eq n.name q

abbrev pub is_below : NameWithPlace → NameWithPlace → Bool
is_below x y = is_lt (placed_name_cmp x y)

-- ---- order among texts

-- a text that is compared with itself
same_text : (a b : List ℕ) → bytes_eq a b ≡ true → bytes_cmp a b ≡ Equal
same_text a b e = subst (λ c. bytes_cmp a c ≡ Equal) ((bytes_decides a b).0 e) (tied_itself nat_list_cmp_total a)

other : (a b : List ℕ) → (bytes_cmp a b ≡ Equal → ⊥) → bytes_eq a b ≡ false
other a b f = go (bytes_eq a b) refl
  where
    go : (t : Bool) → bytes_eq a b ≡ t → t ≡ false
    go false e = refl
    go true e = absurd (f (same_text a b e))

less_other : (a b : List ℕ) → is_lt (bytes_cmp a b) ≡ true → bytes_eq a b ≡ false
less_other a b h = other a b (λ e. true≢false (sym h ∙ ap is_lt e))

behind : (o : Ordering) → is_lt o ≡ false → is_eq o ≡ false → is_lt (ordering_reverse o) ≡ true
behind Less h e = absurd (true≢false h)
behind Equal h e = absurd (true≢false e)
behind Greater h e = refl

-- neither before a text nor the same is behind it
is_behind : (a q : List ℕ) → precedes a q ≡ false → bytes_eq a q ≡ false → is_lt (bytes_cmp q a) ≡ true
is_behind a q h e = ap is_lt (nat_list_cmp_total.antisymm q a) ∙ behind (bytes_cmp a q) h (sym (texts_ties a q) ∙ e)

-- ---- a sort keeps the first of those that are one

after_other : (a b q : List ℕ) → is_gt (bytes_cmp a b) ≡ true → bytes_eq a q ≡ true → bytes_eq b q ≡ false
after_other a b q h e = go (bytes_eq b q) refl
  where
    go : (t : Bool) → bytes_eq b q ≡ t → t ≡ false
    go false s = refl
    go true s =
        let one : b ≡ a = (bytes_decides b q).0 s ∙ sym ((bytes_decides a q).0 e) in
        absurd (true≢false (sym h ∙ (ap (λ c. is_gt (bytes_cmp a c)) one ∙ ap is_gt (tied_itself nat_list_cmp_total a))))

cond_swap : (a b : Bool) (x y : NameWithPlace) (r : Option NameWithPlace) → (a ≡ true → b ≡ false) → cond b (Some y) (cond a (Some x) r) ≡ cond a (Some x) (cond b (Some y) r)
cond_swap true b x y r f = ap (λ t. cond t (Some y) (Some x)) (f refl)
cond_swap false b x y r f = refl

found_put : (q : List ℕ) (x : NameWithPlace) (ys : List NameWithPlace) → find (is_named q) (with_element_inserted placed_name_cmp x ys) ≡ cond (is_named q x) (Some x) (find (is_named q) ys)
unfolding placed_name_cmp
found_put q x [] = refl
found_put q x (y ∷ ys) = go (is_gt (placed_name_cmp x y)) refl (found_put q x ys)
  where
    go : (t : Bool) → is_gt (placed_name_cmp x y) ≡ t → find (is_named q) (with_element_inserted placed_name_cmp x ys) ≡ cond (is_named q x) (Some x) (find (is_named q) ys)
        → find (is_named q) (if t then y ∷ with_element_inserted placed_name_cmp x ys else x ∷ y ∷ ys) ≡ cond (is_named q x) (Some x) (cond (is_named q y) (Some y) (find (is_named q) ys))
    go true g r = ap (λ o. cond (is_named q y) (Some y) o) r ∙ cond_swap (is_named q x) (is_named q y) x y (find (is_named q) ys) (after_other x.name y.name q g)
    go false g r = refl

found_sorted : (q : List ℕ) (xs : List NameWithPlace) → find (is_named q) (sorted_by placed_name_cmp xs) ≡ find (is_named q) xs
found_sorted q [] = refl
found_sorted q (x ∷ xs) = found_put q x (sorted_by placed_name_cmp xs) ∙ ap (λ o. cond (is_named q x) (Some x) o) (found_sorted q xs)

found_place : (q : List ℕ) (n : ℕ) (pkgs : List Plain) → place_under_name q (placed_names_from n pkgs) ≡ position_from (is_package_named q) n pkgs
found_place q n [] = refl
found_place q n (pkg ∷ pkgs) = go (is_package_named q pkg) (found_place q (n + 1) pkgs)
  where
    go : (t : Bool) → place_under_name q (placed_names_from (n + 1) pkgs) ≡ position_from (is_package_named q) (n + 1) pkgs
        → option_map (λ m. m.place) (cond t (Some (record { name = package_name pkg; place = n })) (find (is_named q) (placed_names_from (n + 1) pkgs))) ≡ cond t (Some n) (position_from (is_package_named q) (n + 1) pkgs)
    go true r = refl
    go false r = r

-- the place that is found is that of the first package with the name
pub place_in_order : (q : List ℕ) (pkgs : List Plain) → place_under_name q (placed_names_in_order pkgs) ≡ position_from (is_package_named q) 0 pkgs
place_in_order q pkgs = ap (option_map (λ m. m.place)) (found_sorted q (placed_names_from 0 pkgs)) ∙ found_place q 0 pkgs

-- ---- where a name stands

none_named : (q : List ℕ) (x : NameWithPlace) (ys : List NameWithPlace) → is_lt (bytes_cmp q x.name) ≡ true → Each (λ y. is_below y x ≡ false) ys → find (is_named q) ys ≡ None
unfolding placed_name_cmp
none_named q x [] h up = refl
none_named q x (y ∷ ys) h up = ap (λ t. cond t (Some y) (find (is_named q) ys)) (go (is_named q y) refl) ∙ none_named q x ys h up.1
  where
    go : (t : Bool) → is_named q y ≡ t → t ≡ false
    go false e = refl
    go true e = absurd (true≢false (sym h ∙ (ap (λ a. is_lt (bytes_cmp a x.name)) (sym ((bytes_decides y.name q).0 e)) ∙ up.0)))

-- the one at a place, if it has the name
abbrev at_place : List ℕ → Option NameWithPlace → Option NameWithPlace
at_place q None = None
at_place q (Some n) = cond (is_named q n) (Some n) None

parted : (q : List ℕ) (xs : List NameWithPlace) (i : ℕ) → Rises is_below (ranks placed_name_cmp names_total) xs
    → ((k : ℕ) (d : NameWithPlace) → k < i → precedes (get_or xs k d).name q ≡ true)
    → ((k : ℕ) (d : NameWithPlace) → i ≤ k → k < length xs → precedes (get_or xs k d).name q ≡ false)
    → find (is_named q) xs ≡ at_place q (slice_get xs i)
parted q [] i up low high = refl
parted q (x ∷ xs) zero up low high = go (is_named q x) refl
  where
    go : (t : Bool) → is_named q x ≡ t → cond t (Some x) (find (is_named q) xs) ≡ cond t (Some x) None
    go true e = refl
    go false e = none_named q x xs (is_behind x.name q (high zero x (omega arith) (omega arith)) e) up.0
parted q (x ∷ xs) (suc i) up low high =
    ap (λ t. cond t (Some x) (find (is_named q) xs)) (less_other x.name q (low zero x (omega arith)))
    ∙ parted q xs i up.1 (λ k d l. low (suc k) d (omega arith)) (λ k d l m. high (suc k) d (omega arith) (omega arith))

-- ---- over what is seen

seen_within : (P : NameWithPlace → Type 0) (ns : List NamePlace) (k : ℕ) (d : NameWithPlace) → k < length ns → ((e : NamePlace) → P (name_seen (get_or ns k e))) → P (get_or (map name_seen ns) k d)
seen_within P [] k d l h = absurd (omega arith)
seen_within P (n ∷ ns) zero d l h = h n
seen_within P (n ∷ ns) (suc k) d l h = seen_within P ns k d (omega arith) h

pub names_parted : (ns : List NamePlace) (q : List ℕ) → IsSorted placed_name_cmp (map name_seen ns) → IsPartitionedBy (λ n. precedes n.name.now q) ns
unfolding placed_name_cmp
names_parted ns q up i j d le l h = go (precedes (get_or ns i d).name.now q) refl
  where
    far : is_lt (bytes_cmp (get_or ns j d).name.now (get_or ns i d).name.now) ≡ false
    far =
        let long : j < length (map name_seen ns) = omega (arith, l, length-map ns name_seen) in
        let seen = sorted_far is_below (ranks placed_name_cmp names_total) (map name_seen ns) up i j (name_seen d) le long in
        sym (λ t. is_below (get_or-map name_seen ns j d (name_seen d) l t) (get_or-map name_seen ns i d (name_seen d) (omega (arith, le, l)) t)) ∙ seen

    go : (t : Bool) → precedes (get_or ns i d).name.now q ≡ t → t ≡ true
    go true e = refl
    go false e = absurd (true≢false (sym h ∙ (ranks bytes_cmp nat_list_cmp_total).chain (get_or ns j d).name.now (get_or ns i d).name.now q far e))

pub point_seen : (ns : List NamePlace) (q : List ℕ) (i : ℕ) → i ≤ length ns → IsPartitionPoint (λ n. precedes n.name.now q ≡ true) (λ n. precedes n.name.now q ≡ false) ns i
    → IsPartitionPoint (λ n. precedes n.name q ≡ true) (λ n. precedes n.name q ≡ false) (map name_seen ns) i
point_seen ns q i l (low, high) = (
  λ k d f g. seen_within (λ n. precedes n.name q ≡ true) ns k d (omega (arith, l, g)) (λ e. low k e f g),
  λ k d f g. let h : k < length ns = omega (arith, g, length-map ns name_seen) in seen_within (λ n. precedes n.name q ≡ false) ns k d h (λ e. high k e f h),
)

module _ (ns : List NamePlace) (q : List ℕ) (i : ℕ) (up : IsSorted placed_name_cmp (map name_seen ns))
    (point : IsPartitionPoint (λ n. precedes n.name q ≡ true) (λ n. precedes n.name q ≡ false) (map name_seen ns) i) where
  found_at : place_under_name q (map name_seen ns) ≡ option_map (λ n. n.place) (at_place q (slice_get (map name_seen ns) i))
  found_at =
      ap (option_map (λ n. n.place))
      (parted q (map name_seen ns) i (rises_sorted is_below (ranks placed_name_cmp names_total) (map name_seen ns) up) (λ k d l. point.0 k d (omega arith) l) point.1)

  past : (xs : List NamePlace) (k : ℕ) → length xs ≤ k → slice_get (map name_seen xs) k ≡ None
  past [] k l = refl
  past (x ∷ xs) zero l = absurd (omega arith)
  past (x ∷ xs) (suc k) l = past xs k (omega arith)

  seen_at : (xs : List NamePlace) (k : ℕ) (d : NamePlace) → k < length xs → slice_get (map name_seen xs) k ≡ Some (name_seen (get_or xs k d))
  seen_at [] k d l = absurd (omega arith)
  seen_at (x ∷ xs) zero d l = refl
  seen_at (x ∷ xs) (suc k) d l = seen_at xs k d (omega arith)

  pub none_past : i ≡ length ns → None ≡ place_under_name q (map name_seen ns)
  none_past e = sym (found_at ∙ ap (λ o. option_map (λ n. n.place) (at_place q o)) (past ns i (omega (arith, e))))

  pub none_there : (d : NamePlace) → i < length ns → bytes_eq (get_or ns i d).name.now q ≡ false → None ≡ place_under_name q (map name_seen ns)
  none_there d l e =
      sym (found_at ∙ (ap (λ o. option_map (λ n. n.place) (at_place q o)) (seen_at ns i d l)
      ∙ ap (λ t. option_map (λ n. n.place) (cond t (Some (name_seen (get_or ns i d))) None)) e))

  pub one_there : (d : NamePlace) → i < length ns → bytes_eq (get_or ns i d).name.now q ≡ true → Some (get_or ns i d).place ≡ place_under_name q (map name_seen ns)
  one_there d l e =
      sym (found_at ∙ (ap (λ o. option_map (λ n. n.place) (at_place q o)) (seen_at ns i d l)
      ∙ ap (λ t. option_map (λ n. n.place) (cond t (Some (name_seen (get_or ns i d))) None)) e))

pub not_true : (t b : Bool) → t ≡ not b → t ≡ true → b ≡ false
not_true t true h e = absurd (true≢false (sym e ∙ h))
not_true t false h e = refl

pub not_false : (t b : Bool) → t ≡ not b → t ≡ false → b ≡ true
not_false t true h e = refl
not_false t false h e = absurd (true≢false (sym h ∙ e))

-- ---- the names of packages, one by one

-- those of the packages that are left are still to come
abbrev pub NamesLeft : List NameWithPlace → Plains → ℕ → Type 0
NamesLeft names vs i = names ++ placed_names_from i (drop i (list_of vs)) ≡ placed_names_from 0 (list_of vs)

left_step : (vs : Plains) (n i : ℕ) → i < count_of vs
    → placed_names_from n (drop i (list_of vs)) ≡ record { name = package_name (nth vs i); place = n } ∷ placed_names_from (n + 1) (drop (suc i) (list_of vs))
left_step none n i h = absurd (omega arith)
left_step (more v vs) n zero h = refl
left_step (more v vs) n (suc i) h = left_step vs n i (omega arith)

left_past : (vs : Plains) (n i : ℕ) → count_of vs ≤ i → placed_names_from n (drop i (list_of vs)) ≡ []
left_past none n i h = ap (placed_names_from n) (nothing i)
left_past (more v vs) n zero h = absurd (omega arith)
left_past (more v vs) n (suc i) h = left_past vs n i (omega arith)

joined : {X : Type 0} (xs : List X) (y : X) (ys : List X) → (xs ++ (y ∷ [])) ++ ys ≡ xs ++ (y ∷ ys)
joined [] y ys = refl
joined (x ∷ xs) y ys = ap (λ r. x ∷ r) (joined xs y ys)

none_behind : {X : Type 0} (xs : List X) → xs ++ [] ≡ xs
none_behind [] = refl
none_behind (x ∷ xs) = ap (λ r. x ∷ r) (none_behind xs)

seen_more : (ns : List NamePlace) (n : NamePlace) → map name_seen (ns ++ n ∷ []) ≡ map name_seen ns ++ name_seen n ∷ []
seen_more [] n = refl
seen_more (x ∷ ns) n = ap (λ r. name_seen x ∷ r) (seen_more ns n)

pub name_added : (ns new : List NamePlace) (n : NamePlace) (vs : Plains) (i : ℕ) → i < count_of vs → new ≡ ns ++ n ∷ [] → n.name.now ≡ package_name (nth vs i) → n.place ≡ i
    → NamesLeft (map name_seen ns) vs i → NamesLeft (map name_seen new) vs (i + 1)
name_added ns new n vs i h is name place inv =
    let s : i + 1 ≡ suc i = omega arith in
    (λ j. map name_seen (is j) ++ placed_names_from (i + 1) (drop (s j) (list_of vs)))
    ∙ (ap (λ r. r ++ placed_names_from (i + 1) (drop (suc i) (list_of vs))) (seen_more ns n)
    ∙ (joined (map name_seen ns) (name_seen n) (placed_names_from (i + 1) (drop (suc i) (list_of vs)))
    ∙ ((λ j. map name_seen ns ++ (record { name = name j; place = place j } ∷ placed_names_from (i + 1) (drop (suc i) (list_of vs))))
    ∙ (ap (λ r. map name_seen ns ++ r) (sym (left_step vs i i h)) ∙ inv))))

pub names_added : (ns : List NamePlace) (vs : Plains) (i : ℕ) → count_of vs ≤ i → NamesLeft (map name_seen ns) vs i → map name_seen ns ≡ placed_names_from 0 (list_of vs)
names_added ns vs i h inv = sym (none_behind (map name_seen ns)) ∙ (ap (λ r. map name_seen ns ++ r) (sym (left_past vs i i h)) ∙ inv)

-- ---- in a database

pub names_sorted : (pkgs : List Plain) (names : List NameWithPlace) → names ≡ placed_names_in_order pkgs → IsSorted placed_name_cmp names
names_sorted pkgs names e = subst (IsSorted placed_name_cmp) (sym e) (sorted_up placed_name_cmp names_total (placed_names_from 0 pkgs))

pub within : (p : Plain → Bool) (n : ℕ) (pkgs : List Plain) → IfSome (position_from p n pkgs) (λ i. i < n + length pkgs)
within p n [] = tt
within p n (pkg ∷ pkgs) = go (p pkg) (within p (n + 1) pkgs)
  where
    up : (o : Option ℕ) → IfSome o (λ i. i < n + 1 + length pkgs) → IfSome o (λ i. i < n + length (pkg ∷ pkgs))
    up None h = tt
    up (Some i) h = omega (arith, h)

    go : (t : Bool) → IfSome (position_from p (n + 1) pkgs) (λ i. i < n + 1 + length pkgs) → IfSome (cond t (Some n) (position_from p (n + 1) pkgs)) (λ i. i < n + length (pkg ∷ pkgs))
    go true h = omega arith
    go false h = up (position_from p (n + 1) pkgs) h

pub found_within : (p : Plain → Bool) (pkgs : List Plain) (r : Option ℕ) → r ≡ position_from p 0 pkgs → IfSome r (λ i. i < length pkgs)
found_within p pkgs r e = go (position_from p 0 pkgs) (within p 0 pkgs) r e
  where
    zero_less : (o : Option ℕ) → IfSome o (λ i. i < 0 + length pkgs) → IfSome o (λ i. i < length pkgs)
    zero_less None h = tt
    zero_less (Some i) h = omega (arith, h)

    go : (o : Option ℕ) → IfSome o (λ i. i < 0 + length pkgs) → (r : Option ℕ) → r ≡ o → IfSome r (λ i. i < length pkgs)
    go o h r e = subst (λ o. IfSome o (λ i. i < length pkgs)) (sym e) (zero_less o h)
