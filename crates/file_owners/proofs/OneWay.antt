-- No two members beat each other.
use Rattle.std.proofs.Common.{◌≡◌, ℕ, suc, zero, ◌≤◌, Bool, true, false, List, [], ◌∷◌, length, Option, Some, None, refl, ap, sym, ◌∙◌, arith, true≢false}
use Rattle.std.specs.Prelude.{◌||◌, ◌&&◌, not, nat_lt, ◌==◌, slice_get}
use Rattle.dep_core.proofs.Places.{not_before}
use Rattle.adb_view.specs.Plain.{Plain}
use Rattle.path_claims.specs.adb_fields.Repeated.{package_name}
use Rattle.base_core.specs.ByteOrder.{precedes}
use Rattle.base_core.proofs.Orderings.{precedes_one_way}
use Rattle.db_core.specs.Members.{Member}
use Rattle.path_claims.specs.Contest.{IsAsymmetric}
use Rattle.file_owners.specs.Owners.{member_beats, takes_over_if_both_exist}
use Rattle.file_owners.specs.Replaces.{is_preferred_by_priority_or_later_name, does_first_list_second_in_replaces, replacing_priority, takes_over}

by_number : (m n : ℕ) (s t : Bool) → (s ≡ true → t ≡ false) → (nat_lt n m || ((m == n) && s)) ≡ true → (nat_lt m n || ((n == m) && t)) ≡ false
by_number m n true t f h = let e : t ≡ false = f refl in grind (arith, e)
by_number m n false t f h = grind arith

by_names : (a b p q : Bool) → (p ≡ true → q ≡ false) → (a && (not b || p)) ≡ true → (b && (not a || q)) ≡ false
by_names true true p q f h = f h
by_names true false p q f h = refl
by_names false b p q f h = absurd (true≢false (sym h))

pub takes_over_one_way : (x y : Plain) → takes_over x y ≡ true → takes_over y x ≡ false
unfolding takes_over is_preferred_by_priority_or_later_name
takes_over_one_way x y h =
    by_names (does_first_list_second_in_replaces x y) (does_first_list_second_in_replaces y x) (is_preferred_by_priority_or_later_name x y) (is_preferred_by_priority_or_later_name y x)
    (by_number (replacing_priority x) (replacing_priority y) (precedes (package_name y) (package_name x)) (precedes (package_name x) (package_name y)) (precedes_one_way (package_name y) (package_name x))) h

pub members_one_way : (members : List Member) → IsAsymmetric (member_beats members)
unfolding member_beats
members_one_way members x y h = go (slice_get members x) (slice_get members y) h
  where
    go : (a b : Option Member) → takes_over_if_both_exist a b ≡ true → takes_over_if_both_exist b a ≡ false
    go None b h = absurd (true≢false (sym h))
    go (Some a) None h = refl
    go (Some a) (Some b) h = takes_over_one_way a.pkg b.pkg h

none_beats : (members : List Member) (x y : ℕ) → slice_get members x ≡ None → false ≡ member_beats members x y
unfolding member_beats
none_beats members x y g = sym (ap (λ a. takes_over_if_both_exist a (slice_get members y)) g)

none_is_beaten : (members : List Member) (x y : ℕ) → slice_get members y ≡ None → false ≡ member_beats members x y
unfolding member_beats
none_is_beaten members x y g = sym (ap (takes_over_if_both_exist (slice_get members x)) g ∙ go (slice_get members x))
  where
    go : (a : Option Member) → takes_over_if_both_exist a None ≡ false
    go None = refl
    go (Some a) = refl

-- no member stands past the last
none_member : (members : List Member) (i : ℕ) → length members ≤ i → slice_get members i ≡ None
none_member [] i l = refl
none_member (m ∷ members) zero l = absurd (omega arith)
none_member (m ∷ members) (suc i) l = none_member members i (omega arith)

pub no_first : (members : List Member) (x y : ℕ) → length members ≤ x → false ≡ member_beats members x y
no_first members x y l = none_beats members x y (none_member members x l)

pub no_second : (members : List Member) (x y : ℕ) → length members ≤ y → false ≡ member_beats members x y
no_second members x y l = none_is_beaten members x y (none_member members y l)
