-- The order of entries, comparison by comparison.
use Rattle.std.proofs.Common.{◌≡◌, ℕ, true, false, List, refl, ap, sym, ◌∙◌, true≢false}
use Rattle.std.specs.Cmp.{IsTotalOrder}
use Rattle.std.specs.Ordering.{ordering_then, is_ne}
use Rattle.std.specs.declared.cmp.Ordering.{Ordering}
use Rattle.std.specs.declared.cmp.Ordering.TheVariants.{Less, Equal, Greater}
use Rattle.std.proofs.lemmas.Cmp.{on_total, then_total, nat_list_cmp_total}
use Rattle.version_core.specs.Order.{version_cmp}
use Rattle.adb_view.specs.Plain.{Plain}
use Rattle.make_core.specs.Kept.{IsEntryWithKeys}
use Rattle.make_core.specs.EntryOrder.{index_entry_cmp, id_of_index_entry, name_of_index_entry, version_of_index_entry}
use Rattle.base_core.specs.ByteOrder.{bytes_cmp}

pub decided : (r s : Ordering) → is_ne r ≡ true → r ≡ ordering_then r s
decided Less s h = refl
decided Equal s h = absurd (true≢false (sym h))
decided Greater s h = refl

pub undecided : (r s : Ordering) → is_ne r ≡ false → s ≡ ordering_then r s
undecided Less s h = absurd (true≢false h)
undecided Equal s h = refl
undecided Greater s h = absurd (true≢false h)

pub by_keys : (n1 v1 i1 n2 v2 i2 : List ℕ) (e1 e2 : Plain) → IsEntryWithKeys n1 v1 i1 e1 → IsEntryWithKeys n2 v2 i2 e2
    → ordering_then (bytes_cmp n1 n2) (ordering_then (version_cmp v1 v2) (ordering_then (bytes_cmp v1 v2) (bytes_cmp i1 i2))) ≡ index_entry_cmp e1 e2
unfolding index_entry_cmp
by_keys n1 v1 i1 n2 v2 i2 e1 e2 h g =
    λ j. ordering_then (bytes_cmp (h.by_name j) (g.by_name j)) (ordering_then (version_cmp (h.by_version j) (g.by_version j)) (ordering_then (bytes_cmp (h.by_version j) (g.by_version j)) (bytes_cmp (h.by_id j) (g.by_id j))))

pub entry_cmp_total : IsTotalOrder version_cmp → IsTotalOrder index_entry_cmp
unfolding index_entry_cmp
entry_cmp_total versions = then_total (on_total name_of_index_entry nat_list_cmp_total) (then_total (on_total version_of_index_entry versions) (then_total (on_total version_of_index_entry nat_list_cmp_total) (on_total id_of_index_entry nat_list_cmp_total)))

-- what each comparison answers where those before it did not tell the entries apart
module _ (n1 v1 i1 n2 v2 i2 : List ℕ) (x1 x2 : Plain) (h : IsEntryWithKeys n1 v1 i1 x1) (g : IsEntryWithKeys n2 v2 i2 x2) (r1 : Ordering) (e1 : r1 ≡ bytes_cmp n1 n2) where
  pub name_decides : is_ne r1 ≡ true → r1 ≡ index_entry_cmp x1 x2
  name_decides t = e1 ∙ (decided (bytes_cmp n1 n2) _ (sym (ap is_ne e1) ∙ t) ∙ by_keys n1 v1 i1 n2 v2 i2 x1 x2 h g)

  pub name_leaves : (r : Ordering) → is_ne r1 ≡ false → r ≡ ordering_then (version_cmp v1 v2) (ordering_then (bytes_cmp v1 v2) (bytes_cmp i1 i2)) → r ≡ index_entry_cmp x1 x2
  name_leaves r t e = e ∙ (undecided (bytes_cmp n1 n2) _ (sym (ap is_ne e1) ∙ t) ∙ by_keys n1 v1 i1 n2 v2 i2 x1 x2 h g)

pub first_decides : (r c s : Ordering) → r ≡ c → is_ne r ≡ true → r ≡ ordering_then c s
first_decides r c s e t = e ∙ decided c s (sym (ap is_ne e) ∙ t)

pub first_leaves : (q r c s : Ordering) → q ≡ c → is_ne q ≡ false → r ≡ s → r ≡ ordering_then c s
first_leaves q r c s e t f = f ∙ undecided c s (sym (ap is_ne e) ∙ t)
