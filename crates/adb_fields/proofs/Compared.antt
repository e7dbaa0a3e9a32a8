-- The order of two byte lists, from a place on.
use Rattle.std.proofs.Common.{◌≡◌, ℕ, suc, zero, ◌+◌, ◌<◌, List, [], ◌∷◌, length, drop, Option, Some, None, refl, ap, sym, ◌∙◌, subst, arith}
use Rattle.std.specs.Prelude.{slice_get, Bool, true, false, nat_lt, ◌==◌, bytes_eq, codes, ◌++◌}
use Rattle.std.proofs.Common.{cond, take, ◌≤◌}
use Rattle.std.proofs.lemmas.List.{take-append-le}
use Rattle.adb_fields.specs.Paths.{path_of}
use borrow.Author.Tests.{eqb-true}
use Rattle.std.specs.Cmp.{Equal-is}
use Rattle.std.proofs.lemmas.Bool.{true≢false}
use Rattle.std.proofs.lemmas.Cmp.{tied_itself, nat_cmp_total}
use Rattle.std.specs.Cmp.Lexicographic.{slice_cmp, texts_ties, bytes_decides}
use Rattle.std.specs.Ordering.{nat_cmp, ordering_then, is_eq}
use Rattle.std.specs.declared.cmp.Ordering.{Ordering}
use Rattle.std.specs.declared.cmp.Ordering.TheVariants.{Less, Equal, Greater}
use Rattle.base_core.proofs.Orderings.{tied_then}

abbrev pub at_place : Option ℕ → Option ℕ → Ordering → Ordering
at_place None None more = Equal
at_place None (Some y) more = Less
at_place (Some x) None more = Greater
at_place (Some x) (Some y) more = ordering_then (nat_cmp x y) more

abbrev pub from_place : List ℕ → List ℕ → ℕ → Ordering
from_place a b i = slice_cmp nat_cmp (drop i a) (drop i b)

nothing : (n : ℕ) → drop {A = ℕ} n [] ≡ []
nothing zero = refl
nothing (suc n) = refl

first_ended : (b : List ℕ) (i : ℕ) (more : Ordering) → slice_cmp nat_cmp [] (drop i b) ≡ at_place None (slice_get b i) more
first_ended [] zero more = refl
first_ended [] (suc i) more = refl
first_ended (y ∷ b) zero more = refl
first_ended (y ∷ b) (suc i) more = first_ended b i more

second_ended : (a : List ℕ) (i : ℕ) (more : Ordering) → slice_cmp nat_cmp (drop i a) [] ≡ at_place (slice_get a i) None more
second_ended [] zero more = refl
second_ended [] (suc i) more = refl
second_ended (x ∷ a) zero more = refl
second_ended (x ∷ a) (suc i) more = second_ended a i more

step_at : (a b : List ℕ) (i : ℕ) → from_place a b i ≡ at_place (slice_get a i) (slice_get b i) (from_place a b (i + 1))
step_at [] b i = ap (λ l. slice_cmp nat_cmp l (drop i b)) (nothing i) ∙ first_ended b i (from_place [] b (i + 1))
step_at (x ∷ a) [] i = ap (λ l. slice_cmp nat_cmp (drop i (x ∷ a)) l) (nothing i) ∙ second_ended (x ∷ a) i (from_place (x ∷ a) [] (i + 1))
step_at (x ∷ a) (y ∷ b) zero = refl
step_at (x ∷ a) (y ∷ b) (suc i) =
    let e : suc i + 1 ≡ suc (i + 1) = omega arith in
    let P : ℕ → Type 0 = λ n. from_place a b i ≡ at_place (slice_get a i) (slice_get b i) (from_place (x ∷ a) (y ∷ b) n) in
    subst P (sym e) (step_at a b i)

-- what the two bytes at a place say of the whole
pub decided : (a b : List ℕ) (i : ℕ) (p q : Option ℕ) (o : Ordering) → p ≡ slice_get a i → q ≡ slice_get b i → from_place a b i ≡ o → at_place p q (from_place a b (i + 1)) ≡ o
decided a b i p q o h g e = (λ j. at_place (h j) (g j) (from_place a b (i + 1))) ∙ (sym (step_at a b i) ∙ e)

then-apart : (a b : Ordering) → (a ≡ Equal → ⊥) → ordering_then a b ≡ a
then-apart Less b h = refl
then-apart Equal b h = absurd (h refl)
then-apart Greater b h = refl

equal-by : (x y : ℕ) (s t : Bool) → nat_lt x y ≡ s → (x == y) ≡ t → cond s Less (cond t Equal Greater) ≡ Equal → x ≡ y
equal-by x y true t e f h = (cc)
equal-by x y false true e f h = eqb-true x y f
equal-by x y false false e f h = (cc)

pub same_byte : (a b : List ℕ) (i : ℕ) (x y : ℕ) (o : Ordering) → Some x ≡ slice_get a i → Some y ≡ slice_get b i → x ≡ y → from_place a b i ≡ o → from_place a b (i + 1) ≡ o
same_byte a b i x y o h g e f =
    let tied : nat_cmp x y ≡ Equal = (let P : ℕ → Type 0 = λ n. nat_cmp x n ≡ Equal in subst P e (tied_itself nat_cmp_total x)) in
    sym (tied_then (nat_cmp x y) (from_place a b (i + 1)) tied) ∙ decided a b i (Some x) (Some y) o h g f

pub other_byte : (a b : List ℕ) (i : ℕ) (x y : ℕ) (o : Ordering) → Some x ≡ slice_get a i → Some y ≡ slice_get b i → (x ≡ y → ⊥) → from_place a b i ≡ o → nat_cmp x y ≡ o
other_byte a b i x y o h g n f = sym (then-apart (nat_cmp x y) (from_place a b (i + 1)) (λ e. n (equal-by x y (nat_lt x y) (x == y) refl refl e))) ∙ decided a b i (Some x) (Some y) o h g f

pub place_below : (a : List ℕ) (i : ℕ) (x : ℕ) → Some x ≡ slice_get a i → i < length a
place_below [] i x h = (cc)
place_below (y ∷ a) zero x h = omega arith
place_below (y ∷ a) (suc i) x h = let l = place_below a i x h in omega arith

pub same_names : (a b : List ℕ) (t : Bool) → t ≡ is_eq (slice_cmp nat_cmp a b) → bytes_eq a b ≡ t
same_names a b t h = texts_ties a b ∙ sym h

-- ---- the fronts of two names first

-- the fronts decide, or else what is left
pub front_first : (a b : List ℕ) (n : ℕ) → slice_cmp nat_cmp a b ≡ ordering_then (slice_cmp nat_cmp (take n a) (take n b)) (from_place a b n)
front_first a b zero = refl
front_first [] [] (suc n) = refl
front_first [] (y ∷ b) (suc n) = refl
front_first (x ∷ a) [] (suc n) = refl
front_first (x ∷ a) (y ∷ b) (suc n) = ap (ordering_then (nat_cmp x y)) (front_first a b n) ∙ then-regrouped (nat_cmp x y) (slice_cmp nat_cmp (take n a) (take n b)) (from_place a b n)
  where
    then-regrouped : (p q r : Ordering) → ordering_then p (ordering_then q r) ≡ ordering_then (ordering_then p q) r
    then-regrouped Less q r = refl
    then-regrouped Equal q r = refl
    then-regrouped Greater q r = refl

-- the front of a path, within its folder
pub front_of : (folder name : List ℕ) (n : ℕ) → n ≤ length folder → take n (path_of folder name) ≡ take n folder
front_of [] name zero h = refl
front_of [] name (suc n) h = absurd (omega arith)
front_of (c ∷ cs) name n h = take-append-le n (c ∷ cs) (codes "/" ++ name) h

-- two paths of one folder
same-front : (p a b : List ℕ) → slice_cmp nat_cmp (p ++ a) (p ++ b) ≡ slice_cmp nat_cmp a b
same-front [] a b = refl
same-front (x ∷ p) a b = tied_then (nat_cmp x x) (slice_cmp nat_cmp (p ++ a) (p ++ b)) (tied_itself nat_cmp_total x) ∙ same-front p a b

in-folder : (folder a b : List ℕ) → slice_cmp nat_cmp (path_of folder a) (path_of folder b) ≡ slice_cmp nat_cmp a b
in-folder [] a b = refl
in-folder (c ∷ cs) a b = same-front (c ∷ cs) (codes "/" ++ a) (codes "/" ++ b) ∙ same-front (codes "/") a b

pub apart_in_front : (f g a b : List ℕ) (n : ℕ) (o : Ordering) → n ≤ length f → n ≤ length g → o ≡ slice_cmp nat_cmp (take n f) (take n g) → is_eq o ≡ false → o ≡ slice_cmp nat_cmp (path_of f a) (path_of g b)
apart_in_front f g a b n o h k e t =
    let apart : o ≡ Equal → ⊥ = λ q. true≢false (sym (ap is_eq q) ∙ t) in
    let fronts : slice_cmp nat_cmp (take n (path_of f a)) (take n (path_of g b)) ≡ o = (λ i. slice_cmp nat_cmp (front_of f a n h i) (front_of g b n k i)) ∙ sym e in
    sym (front_first (path_of f a) (path_of g b) n ∙ (ap (λ p. ordering_then p (from_place (path_of f a) (path_of g b) n)) fronts ∙ then-apart o _ apart))

pub same_in_front : (f g a b : List ℕ) (n : ℕ) (o : Ordering) (r : Ordering) → n ≤ length f → n ≤ length g → o ≡ slice_cmp nat_cmp (take n f) (take n g) → is_eq o ≡ true → r ≡ from_place (path_of f a) (path_of g b) n → r ≡ slice_cmp nat_cmp (path_of f a) (path_of g b)
same_in_front f g a b n o r h k e t more =
    let same : o ≡ Equal = (Equal-is o).0 t in
    let fronts : slice_cmp nat_cmp (take n (path_of f a)) (take n (path_of g b)) ≡ Equal = (λ i. slice_cmp nat_cmp (front_of f a n h i) (front_of g b n k i)) ∙ (sym e ∙ same) in
    sym (front_first (path_of f a) (path_of g b) n ∙ (ap (λ p. ordering_then p (from_place (path_of f a) (path_of g b) n)) fronts ∙ sym more))

pub equal_folders : (f g a b : List ℕ) → bytes_eq f g ≡ true → slice_cmp nat_cmp a b ≡ slice_cmp nat_cmp (path_of f a) (path_of g b)
equal_folders f g a b e = let one : f ≡ g = (bytes_decides f g).0 e in sym ((λ i. slice_cmp nat_cmp (path_of (one i) a) (path_of g b)) ∙ in-folder g a b)
