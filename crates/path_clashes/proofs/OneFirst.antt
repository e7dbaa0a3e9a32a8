-- A change has one first clash, and changes that say the same of each name have the same one.
use Rattle.std.proofs.Common.{◌≡◌, ⊎_elim, ℕ, false, List, Option, Some, None, refl, sym, ap, subst, ◌∙◌, true≢false}
use Rattle.std.specs.Prelude.{◌&&◌, bytes_eq}
use Rattle.std.specs.Cmp.Lexicographic.{bytes_decides}
use Rattle.std.specs.Ordering.{is_lt, ordering_reverse}
use Rattle.std.specs.declared.cmp.Ordering.{Ordering}
use Rattle.std.specs.declared.cmp.Ordering.TheVariants.{Less, Equal, Greater}
use Rattle.std.proofs.lemmas.Bool.{and_cases, false_from_ne_true, or_parts}
use Rattle.std.proofs.lemmas.Cmp.{nat_list_cmp_total}
use Rattle.std.proofs.lemmas.Map.Lookups.{exact_bytes}
use Rattle.base_core.specs.Files.{Files}
use Rattle.base_core.specs.ByteOrder.{bytes_cmp, precedes}
use Rattle.path_clashes.specs.Clash.{NameChange, NamePair, is_pair_before_by_first_then_second_name}
use Rattle.path_clashes.specs.FirstClash.{IsFirstClashOrNone}

pub one_name : (a b : List ℕ) → precedes a b ≡ false → precedes b a ≡ false → a ≡ b
one_name a b first second = by (bytes_cmp a b) refl
  where
    by : (o : Ordering) → bytes_cmp a b ≡ o → a ≡ b
    by Less is = absurd (true≢false (sym (ap is_lt is) ∙ first))
    by Equal is = exact_bytes a b is
    by Greater is = absurd (true≢false (sym (ap is_lt (nat_list_cmp_total.antisymm b a ∙ ap ordering_reverse is)) ∙ second))

one_pair : (a b : NamePair) → is_pair_before_by_first_then_second_name a b ≡ false → is_pair_before_by_first_then_second_name b a ≡ false → a ≡ b
one_pair a b first second = (λ i. record { path = path i; other = other i })
  where
    ahead : (precedes a.path b.path ≡ false) × ((bytes_eq a.path b.path && precedes a.other b.other) ≡ false)
    ahead = or_parts (precedes a.path b.path) (bytes_eq a.path b.path && precedes a.other b.other) first

    behind : (precedes b.path a.path ≡ false) × ((bytes_eq b.path a.path && precedes b.other a.other) ≡ false)
    behind = or_parts (precedes b.path a.path) (bytes_eq b.path a.path && precedes b.other a.other) second

    path : a.path ≡ b.path
    path = one_name a.path b.path ahead.0 behind.0

    by_other : (p q x y : List ℕ) → p ≡ q → (bytes_eq p q && precedes x y) ≡ false → precedes x y ≡ false
    by_other p q x y same off =
        ⊎_elim (λ differs. absurd (true≢false (sym ((bytes_decides p q).1 same) ∙ differs))) (λ is. is) (and_cases (bytes_eq p q) (precedes x y) off)

    other : a.other ≡ b.other
    other = one_name a.other b.other (by_other a.path b.path a.other b.other path ahead.1) (by_other b.path a.path b.other a.other (sym path) behind.1)

pub one_first : (change : NameChange) (files : Files) (a b : Option NamePair) → IsFirstClashOrNone change files a → IsFirstClashOrNone change files b → a ≡ b
one_first change files None None h g = refl
one_first change files None (Some b) h g = absurd (h b g.is_one)
one_first change files (Some a) None h g = absurd (g a h.is_one)
one_first change files (Some a) (Some b) h g =
    ap (λ (p : NamePair). Some p)
    (one_pair a b (false_from_ne_true (is_pair_before_by_first_then_second_name a b) (g.first a h.is_one)) (false_from_ne_true (is_pair_before_by_first_then_second_name b a) (h.first b g.is_one)))

pub same_first : (one other : NameChange) (files : Files) (found : Option NamePair) → ((name : List ℕ) → one.counts_as_written name ≡ other.counts_as_written name)
    → ((name : List ℕ) → one.does_release name ≡ other.does_release name) → IsFirstClashOrNone one files found → IsFirstClashOrNone other files found
same_first one other files found counts goes =
    subst (λ (c : NameChange). IsFirstClashOrNone c files found) (λ i. record { counts_as_written = λ name. counts name i; does_release = λ name. goes name i })
