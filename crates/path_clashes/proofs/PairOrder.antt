-- Pairs are ordered by path, then by other; and a name comes behind each one that it begins with.
use Rattle.std.proofs.Common.{◌≡◌, ℕ, true, false, List, [], ◌∷◌, ◌++◌, refl, ap, sym, ◌∙◌}
use Rattle.std.specs.Prelude.{◌&&◌, ◌||◌, bytes_eq}
use Rattle.std.specs.Cmp.{IsTotalOrder, IsStrictWeakOrder}
use Rattle.std.specs.Ordering.{is_eq, is_lt, on, ordering_then, then_cmp}
use Rattle.std.specs.declared.cmp.Ordering.{Ordering}
use Rattle.std.specs.declared.cmp.Ordering.TheVariants.{Less, Equal, Greater}
use Rattle.std.proofs.lemmas.Bool.{and_left, and_right, or_from}
use Rattle.std.proofs.lemmas.Cmp.{nat_cmp_total, nat_list_cmp_total, on_total, then_total, tied_itself}
use Rattle.std.proofs.lemmas.List.Sorted.{ranks_by}
use Rattle.std.proofs.lemmas.Map.Text.{is_eq-slice_cmp}
use Rattle.base_core.specs.ByteOrder.{bytes_cmp, precedes}
use Rattle.path_clashes.specs.Clash.{NamePair, is_pair_before_by_first_then_second_name}

-- ---- names

pub precedes_itself : (a : List ℕ) → precedes a a ≡ false
precedes_itself a = ap is_lt (tied_itself nat_list_cmp_total a)

pub precedes_front : (front rest : List ℕ) → precedes (front ++ rest) front ≡ false
precedes_front [] [] = refl
precedes_front [] (b ∷ rest) = refl
precedes_front (b ∷ front) rest =
    ap (λ o. is_lt (ordering_then o (bytes_cmp (front ++ rest) front))) (tied_itself nat_cmp_total b) ∙ precedes_front front rest

-- ---- pairs

abbrev pair_cmp : NamePair → NamePair → Ordering
pair_cmp = then_cmp (on (λ (p : NamePair). p.path) bytes_cmp) (on (λ (p : NamePair). p.other) bytes_cmp)

pairs_total : IsTotalOrder pair_cmp
pairs_total = then_total (on_total (λ (p : NamePair). p.path) nat_list_cmp_total) (on_total (λ (p : NamePair). p.other) nat_list_cmp_total)

pairs_rank : IsStrictWeakOrder (λ a b. is_lt (pair_cmp a b))
pairs_rank = ranks_by pairs_total (λ (p : NamePair). p)

by_both : (o r : Ordering) → (is_lt o || (is_eq o && is_lt r)) ≡ is_lt (ordering_then o r)
by_both Less r = refl
by_both Equal r = refl
by_both Greater r = refl

pub precedes_pair_is : (a b : NamePair) → is_pair_before_by_first_then_second_name a b ≡ is_lt (ordering_then (bytes_cmp a.path b.path) (bytes_cmp a.other b.other))
precedes_pair_is a b =
    ap (λ t. precedes a.path b.path || (t && precedes a.other b.other)) (sym (is_eq-slice_cmp a.path b.path))
    ∙ by_both (bytes_cmp a.path b.path) (bytes_cmp a.other b.other)

pub pairs_chain : (a b c : NamePair) → is_pair_before_by_first_then_second_name a b ≡ false → is_pair_before_by_first_then_second_name b c ≡ false → is_pair_before_by_first_then_second_name a c ≡ false
pairs_chain a b c h g = precedes_pair_is a c ∙ pairs_rank.chain a b c (sym (precedes_pair_is a b) ∙ h) (sym (precedes_pair_is b c) ∙ g)

pub pairs_one_way : (a b : NamePair) → is_pair_before_by_first_then_second_name a b ≡ true → is_pair_before_by_first_then_second_name b a ≡ false
pairs_one_way a b h = precedes_pair_is b a ∙ pairs_rank.one_way a b (sym (precedes_pair_is a b) ∙ h)

-- with one path, by other
pub same_path : (path a b : List ℕ) → precedes a b ≡ false → is_pair_before_by_first_then_second_name (record { path = path; other = a }) (record { path = path; other = b }) ≡ false
same_path path a b h = or_from (precedes path path) (bytes_eq path path && precedes a b) (precedes_itself path) (and_right (bytes_eq path path) (precedes a b) h)

-- with one other, by path
pub same_other : (p q other : List ℕ) → precedes p q ≡ false → is_pair_before_by_first_then_second_name (record { path = p; other = other }) (record { path = q; other = other }) ≡ false
same_other p q other h = or_from (precedes p q) (bytes_eq p q && precedes other other) h (and_right (bytes_eq p q) (precedes other other) (precedes_itself other))

pub other_path : (p q a b : List ℕ) → precedes p q ≡ false → bytes_eq p q ≡ false → is_pair_before_by_first_then_second_name (record { path = p; other = a }) (record { path = q; other = b }) ≡ false
other_path p q a b h g = or_from (precedes p q) (bytes_eq p q && precedes a b) h (and_left (bytes_eq p q) (precedes a b) g)
