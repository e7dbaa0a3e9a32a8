-- The laws of the order and of the matches.
use Rattle.std.proofs.Common.{◌≡◌, ◌∷◌, [], ℕ, Bool, true, false, ◌&&◌, ◌||◌, cond, eqb, List, length, take, refl, ap, sym, ◌∙◌, arith, subst}
use Rattle.std.specs.Prelude.{count_by}
use Rattle.std.specs.Cmp.{IsTotalOrder}
use Rattle.std.specs.Cmp.Lexicographic.{slice_cmp}
use Rattle.std.specs.Ordering.{nat_cmp, ordering_then, is_lt, is_eq, is_gt}
use Rattle.std.specs.declared.cmp.Ordering.{Ordering}
use Rattle.std.specs.declared.cmp.Ordering.TheVariants.{Less, Equal, Greater}
use Rattle.std.proofs.lemmas.Bool.{false≢true, or_right}
use Rattle.std.proofs.lemmas.Cmp.{on_total, then_total, lists_total, nat_cmp_total, nat_list_cmp_total, tied_itself}
use Rattle.std.proofs.lemmas.List.{take_all}
use Rattle.std.proofs.lemmas.Slice.Eq.{bytes_eq-Decides}
use Rattle.version_core.specs.declared.token.Class.{Class}
use Rattle.version_core.specs.declared.token.Class.TheVariants.{Stray, PreRelease, End, Revision, Hash, SuffixNumber, Suffix, Letter, ZeroComponent, Component}
use Rattle.version_core.specs.Token.{Token}
use Rattle.version_core.specs.Order.{class_rank, is_end_or_stray_class, token_cmp, tokens, version_cmp}
use Rattle.version_core.specs.Matching.{are_wanted_tokens_met_by, is_prefix_of, is_wanted_token_met_by, is_fuzzy_match, is_zero_component, matches, has_bit}
use Rattle.version_core.proofs.Fits.{nat_cmp-Equal}

-- each part of the comparison of two tokens is a total order
pub token_cmp-total : IsTotalOrder token_cmp
token_cmp-total =
    then_total (on_total (λ (token : Token). class_rank token.class) nat_cmp_total)
    (then_total (on_total (λ (token : Token). token.number) nat_cmp_total)
    (on_total (λ (token : Token). token.text) nat_list_cmp_total))

pub version_cmp-total : IsTotalOrder version_cmp
unfolding version_cmp
version_cmp-total = on_total tokens (lists_total token_cmp-total)

-- what is equal in an order that is made of two
both_equal : (o p : Ordering) → ordering_then o p ≡ Equal → (o ≡ Equal) × (p ≡ Equal)
both_equal Less p h = absurd (false≢true (ap is_eq h))
both_equal Equal p h = (refl, h)
both_equal Greater p h = absurd (false≢true (ap is_eq h))

lists-Equal : {A : Type 0} (R : A → A → Ordering) → ((x y : A) → R x y ≡ Equal → x ≡ y) → (xs ys : List A) → slice_cmp R xs ys ≡ Equal → xs ≡ ys
lists-Equal R same [] [] h = refl
lists-Equal R same [] (y ∷ ys) h = absurd (false≢true (ap is_eq h))
lists-Equal R same (x ∷ xs) [] h = absurd (false≢true (ap is_eq h))
lists-Equal R same (x ∷ xs) (y ∷ ys) h =
    let two = both_equal (R x y) (slice_cmp R xs ys) h in
    λ i. same x y two.0 i ∷ lists-Equal R same xs ys two.1 i

abbrev class_of_rank : ℕ → Class
class_of_rank rank =
    cond (eqb rank 0) Stray (cond (eqb rank 1) PreRelease (cond (eqb rank 2) End (cond (eqb rank 3) Revision
    (cond (eqb rank 4) Hash (cond (eqb rank 5) SuffixNumber (cond (eqb rank 6) Suffix (cond (eqb rank 7) Letter
    (cond (eqb rank 8) ZeroComponent Component))))))))

class_of_rank-class_rank : (class : Class) → class_of_rank (class_rank class) ≡ class
class_of_rank-class_rank Stray = refl
class_of_rank-class_rank PreRelease = refl
class_of_rank-class_rank End = refl
class_of_rank-class_rank Revision = refl
class_of_rank-class_rank Hash = refl
class_of_rank-class_rank SuffixNumber = refl
class_of_rank-class_rank Suffix = refl
class_of_rank-class_rank Letter = refl
class_of_rank-class_rank ZeroComponent = refl
class_of_rank-class_rank Component = refl

class_rank-injective : (a b : Class) → class_rank a ≡ class_rank b → a ≡ b
class_rank-injective a b h = sym (class_of_rank-class_rank a) ∙ ap class_of_rank h ∙ class_of_rank-class_rank b

token_cmp-Equal : (a b : Token) → token_cmp a b ≡ Equal → a ≡ b
token_cmp-Equal a b h =
    let class = both_equal (nat_cmp (class_rank a.class) (class_rank b.class)) _ h in
    let value = both_equal (nat_cmp a.number b.number) (slice_cmp nat_cmp a.text b.text) class.1 in
    λ i. record {
      class = class_rank-injective a.class b.class (nat_cmp-Equal _ _ class.0) i;
      number = nat_cmp-Equal a.number b.number value.0 i;
      text = lists-Equal nat_cmp nat_cmp-Equal a.text b.text value.1 i;
    }

pub equal_tokens_of : (left right : List ℕ) → version_cmp left right ≡ Equal → tokens left ≡ tokens right
unfolding version_cmp
equal_tokens_of left right h = lists-Equal token_cmp token_cmp-Equal (tokens left) (tokens right) h

pub equal_by_tokens : (left right : List ℕ) → tokens left ≡ tokens right → version_cmp left right ≡ Equal
unfolding version_cmp
equal_by_tokens left right h =
    subst (λ ts. slice_cmp token_cmp (tokens left) ts ≡ Equal) h (tied_itself (lists_total token_cmp-total) (tokens left))

abbrev matches_by : ℕ → Ordering → Bool → Bool
matches_by bits order fuzzy =
    (has_bit bits 1 && is_eq order) || (has_bit bits 2 && is_lt order) || (has_bit bits 4 && is_gt order) || (has_bit bits 8 && fuzzy)

one_of_three_by : (order : Ordering) (fuzzy : Bool) → count_by (λ holds. holds) (matches_by 2 order fuzzy ∷ matches_by 1 order fuzzy ∷ matches_by 4 order fuzzy ∷ []) ≡ 1
one_of_three_by Less fuzzy = refl
one_of_three_by Equal fuzzy = refl
one_of_three_by Greater fuzzy = refl

pub one_of_three : (found wanted : List ℕ) → count_by (λ holds. holds) (matches 2 found wanted ∷ matches 1 found wanted ∷ matches 4 found wanted ∷ []) ≡ 1
unfolding matches
one_of_three found wanted = one_of_three_by (version_cmp found wanted) (is_fuzzy_match found wanted)

-- a token is_wanted_token_met_by itself
is_eq-itself : (t : Token) → is_eq (token_cmp t t) ≡ true
is_eq-itself t = ap is_eq (tied_itself token_cmp-total t)

fits_by : (a b c : Bool) → b ≡ true → c ≡ true → cond a b c ≡ true
fits_by true b c h k = h
fits_by false b c h k = k

is_wanted_token_met_by-itself : (t : Token) → is_wanted_token_met_by t t ≡ true
unfolding is_wanted_token_met_by
is_wanted_token_met_by-itself t =
    fits_by (is_zero_component t.class && is_zero_component t.class) (is_prefix_of t.text t.text) (is_eq (token_cmp t t))
    ((bytes_eq-Decides t.text (take (length t.text) t.text)).1 (sym (take_all (length t.text) t.text (omega arith)))) (is_eq-itself t)

are_wanted_tokens_met_by-itself : (ts : List Token) → are_wanted_tokens_met_by ts ts ≡ true
are_wanted_tokens_met_by-itself [] = refl
are_wanted_tokens_met_by-itself (t ∷ ts) = or_right (is_end_or_stray_class t.class) (is_wanted_token_met_by t t && are_wanted_tokens_met_by ts ts) (rw (is_wanted_token_met_by-itself t) (are_wanted_tokens_met_by-itself ts))

pub fuzzy_by_tokens : (found wanted : List ℕ) → version_cmp found wanted ≡ Equal → is_fuzzy_match found wanted ≡ true
unfolding is_fuzzy_match
fuzzy_by_tokens found wanted h =
    ap (λ ts. are_wanted_tokens_met_by ts (tokens found)) (sym (equal_tokens_of found wanted h)) ∙ are_wanted_tokens_met_by-itself (tokens found)
