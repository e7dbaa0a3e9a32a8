-- The smallest of several texts.
use Rattle.std.proofs.Common.{◌≡◌, ℕ, zero, Bool, true, false, List, [], ◌∷◌, Some, refl, ap, sym, ◌∙◌}
use Rattle.std.specs.Prelude.{if◌then◌else◌, slice_get}
use Rattle.std.specs.Ordering.{is_gt}
use Rattle.std.proofs.lemmas.Cmp.{nat_list_cmp_total}
use Rattle.base_core.specs.ByteOrder.{bytes_cmp, smaller_text, smallest_text}
use Rattle.base_core.specs.Sorted.{sorted_by, with_element_inserted}
use Rattle.base_core.proofs.Sorting.{gt_is_lt}

first_by : (a b : List ℕ) (xs ys : List (List ℕ)) (t : Bool) → (if t then Some b else Some a) ≡ slice_get (if t then b ∷ xs else a ∷ ys) zero
first_by a b xs ys true = refl
first_by a b xs ys false = refl

first_with : (a : List ℕ) (xs : List (List ℕ)) → smaller_text a (slice_get xs zero) ≡ slice_get (with_element_inserted bytes_cmp a xs) zero
first_with a [] = refl
first_with a (b ∷ xs) =
    ap (λ t. if t then Some b else Some a) (sym (gt_is_lt bytes_cmp nat_list_cmp_total a b))
    ∙ first_by a b (with_element_inserted bytes_cmp a xs) (b ∷ xs) (is_gt (bytes_cmp a b))

pub smallest_first : (texts : List (List ℕ)) → smallest_text texts ≡ slice_get (sorted_by bytes_cmp texts) zero
smallest_first [] = refl
smallest_first (a ∷ texts) = ap (smaller_text a) (smallest_first texts) ∙ first_with a (sorted_by bytes_cmp texts)
