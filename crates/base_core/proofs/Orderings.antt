-- What an ordering is, by its tests.
use Rattle.std.specs.declared.cmp.Ordering.{Ordering}
use Rattle.std.specs.Ordering.{is_lt, ordering_then}
use Rattle.std.proofs.Common.{◌≡◌, true, refl, ap, List, ℕ, false}
use Rattle.std.specs.declared.cmp.Ordering.TheVariants.{Less, Equal, Greater}
use Rattle.std.specs.Cmp.{IsTotalOrder, IsStrictWeakOrder}
use Rattle.std.specs.Cmp.Lexicographic.{nat_list_cmp_total}
use Rattle.std.proofs.lemmas.List.Sorted.{ranks_by}
use Rattle.base_core.specs.ByteOrder.{bytes_cmp, precedes}

pub is_less : (o : Ordering) → is_lt o ≡ true → o ≡ Less
is_less Less h = refl
is_less Equal h = absurd (cc)
is_less Greater h = absurd (cc)

pub tied_then : (a b : Ordering) → a ≡ Equal → ordering_then a b ≡ b
tied_then a b e = ap (λ o. ordering_then o b) e

pub names_total : IsTotalOrder bytes_cmp
names_total = nat_list_cmp_total

names_rank : IsStrictWeakOrder precedes
names_rank = ranks_by nat_list_cmp_total (λ (a : List ℕ). a)

pub precedes_one_way : (a b : List ℕ) → precedes a b ≡ true → precedes b a ≡ false
precedes_one_way a b h = names_rank.one_way a b h
