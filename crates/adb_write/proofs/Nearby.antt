-- A part of a page around a likely index: what precedes it and after it.
use Rattle.std.proofs.Common.{◌≡◌, ℕ, zero, suc, ◌+◌, ◌<◌, ◌≤◌, List, [], ◌∷◌, ◌++◌, length, get_or, take, drop, refl, sym, ap, subst, ◌∙◌, arith, take-append-drop}
use Rattle.std.specs.List.{HoldsAt}
use Rattle.std.specs.Ordering.{ordering_then, ordering_reverse}
use Rattle.std.specs.declared.cmp.Ordering.{Ordering}
use Rattle.std.specs.declared.cmp.Ordering.TheVariants.{Less, Greater}
use Rattle.std.proofs.lemmas.Cmp.{nat_cmp_total}
use Rattle.std.proofs.lemmas.List.{drop-drop, get_or-take, get_or-drop}
use Rattle.adb_write.specs.Keys.{kind_and_comparison_numbers_at, key_of_locator, fingerprint_of_locator, word_of_locator, HaveRisingKeys}
use Rattle.adb_write.specs.WordPages.{AllCompareToKey}
use Rattle.adb_write.proofs.Compared.{lower}
use Rattle.adb_write.proofs.Pages.{take_take, drop_take, take_on}
use Rattle.adb_write.proofs.Rising.{cmp, flipped, IsBelow, less_chain, all_at, all_into, all_both, rising_head, rising_rest, rising_first, rising_last}

-- ---- where fingerprints differ, they decide

pub above_locator : (p content : List ℕ) (f w : ℕ) → fingerprint_of_locator w < f → cmp (f ∷ content) (key_of_locator p w) ≡ Greater
above_locator p content f w less =
    ap (λ (o : Ordering). ordering_then o (cmp content (kind_and_comparison_numbers_at p (word_of_locator w))))
    (nat_cmp_total.antisymm f (fingerprint_of_locator w) ∙ ap ordering_reverse (lower (fingerprint_of_locator w) f less))

pub below_locator : (p content : List ℕ) (f w : ℕ) → f < fingerprint_of_locator w → cmp (f ∷ content) (key_of_locator p w) ≡ Less
below_locator p content f w less =
    ap (λ (o : Ordering). ordering_then o (cmp content (kind_and_comparison_numbers_at p (word_of_locator w)))) (lower f (fingerprint_of_locator w) less)

-- ---- what precedes a lower key, and after a higher one

pub lower_front : (p key page : List ℕ) (i d : ℕ) → HaveRisingKeys p page → i < length page → cmp key (key_of_locator p (get_or page i d)) ≡ Greater → AllCompareToKey Greater p key (take i page)
lower_front p key [] i d r within above = absurd (omega arith)
lower_front p key (v ∷ page) zero d r within above = tt
lower_front p key (v ∷ page) (suc i) d r within above =
    let w : ℕ = get_or page i d in
    let low : IsBelow p v w = all_at (IsBelow p v) page i d (omega arith) (rising_head p v page r) in
    (flipped (key_of_locator p v) key Less (less_chain (key_of_locator p v) (key_of_locator p w) key low (flipped key (key_of_locator p w) Greater above)), lower_front p key page i d (rising_rest p v page r) (omega arith) above)

pub higher_back : (p key page : List ℕ) (i d : ℕ) → HaveRisingKeys p page → i < length page → cmp key (key_of_locator p (get_or page i d)) ≡ Less → AllCompareToKey Less p key (drop i page)
higher_back p key [] i d r within below = absurd (omega arith)
higher_back p key (v ∷ page) zero d r within below =
    (below, all_into (IsBelow p v) (λ u. cmp key (key_of_locator p u) ≡ Less) (λ u low. less_chain key (key_of_locator p v) (key_of_locator p u) below low) page (rising_head p v page r))
higher_back p key (v ∷ page) (suc i) d r within below = higher_back p key page i d (rising_rest p v page r) (omega arith) below

-- ---- an index in the part from one index on

pub low_joined : (p key page : List ℕ) (from n i : ℕ) → i ≤ n → AllCompareToKey Greater p key (take from page) → AllCompareToKey Greater p key (take i (take n (drop from page))) → AllCompareToKey Greater p key (take (from + i) page)
low_joined p key page from n i upto front low =
    subst (AllCompareToKey Greater p key) (ap (λ (ys : List ℕ). take from page ++ ys) (take_take i n (drop from page) upto) ∙ take_on from i (from + i) page refl)
    (all_both (λ w. cmp key (key_of_locator p w) ≡ Greater) (take from page) (take i (take n (drop from page))) front low)

pub high_joined : (p key page : List ℕ) (from n i : ℕ) → i ≤ n → AllCompareToKey Less p key (drop i (take n (drop from page))) → AllCompareToKey Less p key (drop (from + n) page) → AllCompareToKey Less p key (drop (from + i) page)
high_joined p key page from n i upto high back =
    subst (AllCompareToKey Less p key) (ap (λ (ys : List ℕ). drop i (take n (drop from page)) ++ ys) (sym (drop-drop n from page)) ∙ drop_take i n (drop from page) upto ∙ drop-drop i from page)
    (all_both (λ w. cmp key (key_of_locator p w) ≡ Less) (drop i (take n (drop from page))) (drop (from + n) page) high back)

pub holds_joined : (P : ℕ → Type 0) (page : List ℕ) (from n i : ℕ) → i < n → HoldsAt P (take n (drop from page)) i → HoldsAt P page (from + i)
holds_joined P page from n i within holds d =
    subst P (get_or-take n (drop from page) i d within ∙ get_or-drop from page i d) (holds d)

pub rising_part : (p page : List ℕ) (from n : ℕ) → HaveRisingKeys p page → HaveRisingKeys p (take n (drop from page))
rising_part p page from n r =
    rising_first p (take n (drop from page)) (drop n (drop from page))
    (subst (HaveRisingKeys p) (sym (take-append-drop n (drop from page)))
    (rising_last p (take from page) (drop from page) (subst (HaveRisingKeys p) (sym (take-append-drop from page)) r)))
