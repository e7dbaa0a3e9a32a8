-- A package names the members whose places were gathered.
use Rattle.std.proofs.Common.{◌≡◌, ◌⊎◌, inl, inr, ℕ, suc, zero, ◌+◌, ◌<◌, ◌≤◌, Bool, true, false, List, [], ◌∷◌, ◌++◌, map, length, get_or, Option, Some, None, Result, Ok, Err, refl, ap, sym, ◌∙◌, subst, arith, true≢false}
use Rattle.std.specs.Prelude.{◌%◌, ◌==◌, ◌&&◌, ◌||◌, not, bytes_eq, if◌then◌else◌, is_ok, nat_lt, slice_get, MatchResult}
use Rattle.std.specs.Cmp.Lexicographic.{bytes_decides}
use Rattle.std.specs.List.{list_any}
use Rattle.std.specs.List.Sorted.{IsBinarySearchResult, IsPermutation, IsSorted}
use Rattle.std.specs.Ordering.{is_lt, nat_cmp}
use Rattle.std.proofs.lemmas.Bool.{cases_lt}
use Rattle.std.proofs.lemmas.Bool.Decides.{eqb_tells}
use Rattle.std.proofs.lemmas.Cmp.{nat_cmp_total}
use Rattle.std.proofs.lemmas.List.{get_or_default, length-append}
use Rattle.std.proofs.lemmas.List.Folds.{list_any_at, list_any_none}
use Rattle.std.proofs.lemmas.List.Sorted.{list_any-IsPermutation, ranks_by, searched, sorted_far}
use Rattle.std.proofs.lemmas.Map.Keys.{ge_from_not_lt}
use Rattle.dep_core.specs.Dependency.{Dependency}
use Rattle.dep_core.specs.Reading.{dependency_on_any_version}
use Rattle.dep_core.specs.Value.{is_match_number, is_version_or_empty}
use Rattle.dep_core.specs.ValueReading.{match_bits_of_low_bits_unless_any_version, dependency_of_value, with_constraint_if_version_and_match_bits}
use Rattle.dep_core.specs.Dependency.{is_dependency_name_by_bytes_and_length}
use Rattle.version_core.specs.Order.{is_version}
use Rattle.adb_view.specs.Plain.{Plain}
use Rattle.path_claims.specs.adb_fields.Repeated.{entries_of_field_at_index, package_name}
use Rattle.adb_view.specs.Values.{entry_at_index, int_in, text_in}
use Rattle.db_core.specs.Members.{Member, member_name}
use Rattle.file_owners.specs.NamedPlaces.{ArePlacesOfNamedMembers, ArePlacesNamedByEachMember}
use Rattle.file_owners.specs.Owners.{member_beats, takes_over_if_both_exist}
use Rattle.file_owners.specs.Replaces.{does_replaces_entry_name_package, is_preferred_by_priority_or_later_name, is_package_met_by_replaces_entry, does_first_list_second_in_replaces, takes_over, package_version_text}
use Rattle.db_core.specs.adb_schema.Dependencies.{dependency_in}
use Rattle.file_owners.proofs.AnyOfFront.{some_at}

abbrev is_one : {X : Type 0} → Option X → Bool
is_one None = false
is_one (Some x) = true

abbrev value_or : {X : Type 0} → X → Option X → X
value_or d None = d
value_or d (Some x) = x

-- ---- an entry names no package of another name

named_on : (d : Dependency) (version : List ℕ) (bits : Option ℕ) → (with_constraint_if_version_and_match_bits d version bits).name ≡ d.name
named_on d [] bits = refl
named_on d (b ∷ rest) None = refl
named_on d (b ∷ rest) (Some bits) = refl

not_met : (o : Option Dependency) (name version : List ℕ) → ((d : Dependency) → o ≡ Some d → bytes_eq d.name name ≡ false) → is_package_met_by_replaces_entry o name version ≡ false
not_met None name version h = refl
not_met (Some d) name version h = go (not d.conflict) (bytes_eq d.name name) _ (h d refl)
  where
    go : (a b c : Bool) → b ≡ false → (a && (b && c)) ≡ false
    go true b c e = ap (λ x. x && c) e
    go false b c e = refl

value_named : (name version : List ℕ) (matching : ℕ) (d : Dependency) → dependency_of_value name version matching ≡ Some d → d.name ≡ name
unfolding dependency_of_value
value_named name version matching d e =
    let made : Dependency = with_constraint_if_version_and_match_bits (dependency_on_any_version (not (nat_lt matching 16)) name) version (match_bits_of_low_bits_unless_any_version (matching % 16)) in
    go (is_dependency_name_by_bytes_and_length name && (is_version_or_empty version && is_match_number matching)) made (named_on (dependency_on_any_version (not (nat_lt matching 16)) name) version (match_bits_of_low_bits_unless_any_version (matching % 16))) e
  where
    go : (t : Bool) (made : Dependency) → made.name ≡ name → (if t then Some made else None) ≡ Some d → d.name ≡ name
    go true made n s = sym (ap (λ o. (value_or d o).name) s) ∙ n
    go false made n s = absurd (true≢false (sym (ap is_one s)))

pub turned : (a b : List ℕ) → bytes_eq a b ≡ false → bytes_eq b a ≡ false
turned a b h = go (bytes_eq b a) refl
  where
    go : (t : Bool) → bytes_eq b a ≡ t → t ≡ false
    go false e = refl
    go true e = absurd (true≢false (sym ((bytes_decides a b).1 (sym ((bytes_decides b a).0 e))) ∙ h))

pub other_name : (entry y : Plain) → bytes_eq (package_name y) (text_in (entry_at_index entry 0)) ≡ false → does_replaces_entry_name_package entry y ≡ false
other_name entry y h =
    let name : List ℕ = text_in (entry_at_index entry 0) in
    ap (λ t. is_version (package_version_text y) && t)
    (not_met (dependency_in entry) (package_name y) (package_version_text y)
    (λ d e. ap (λ n. bytes_eq n (package_name y)) (value_named name (text_in (entry_at_index entry 1)) (int_in (entry_at_index entry 2)) d e) ∙ turned (package_name y) name h))
    ∙ none_and (is_version (package_version_text y))
  where
    none_and : (a : Bool) → (a && false) ≡ false
    none_and true = refl
    none_and false = refl

-- ---- the member that an entry names

pub none_found : (entry : Plain) (members : List Member) → ((i : ℕ) (m : Member) → slice_get members i ≡ Some m → false ≡ bytes_eq (member_name m) (text_in (entry_at_index entry 0)))
    → (y : ℕ) (m : Member) → slice_get members y ≡ Some m → false ≡ does_replaces_entry_name_package entry m.pkg
none_found entry members h y m g = sym (other_name entry m.pkg (sym (h y m g)))

-- ---- in rising order

pub in_order : (members : List Member) (pkg : Plain) (old new : List ℕ) → IsPermutation old new → IsSorted nat_cmp new
    → ((y : ℕ) (m : Member) → slice_get members y ≡ Some m → list_any (λ p. p == y) old ≡ list_any (λ entry. does_replaces_entry_name_package entry m.pkg) (entries_of_field_at_index 16 (entry_at_index pkg 0)))
    → ArePlacesOfNamedMembers members pkg new
unfolding does_first_list_second_in_replaces
in_order members pkg old new moved rising named = record {
  rising = rising;
  named = λ y m g. sym (list_any-IsPermutation (λ p. p == y) old new moved) ∙ named y m g;
}

nat_rises : (xs : List ℕ) → IsSorted nat_cmp xs → (i j : ℕ) → i ≤ j → j < length xs → get_or xs i 0 ≤ get_or xs j 0
nat_rises xs up i j le l = ge_from_not_lt (get_or xs j 0) (get_or xs i 0) (sorted_far (λ x y. is_lt (nat_cmp x y)) (ranks_by nat_cmp_total (λ x. x)) xs up i j 0 le l)

pub among : (xs : List ℕ) (x : ℕ) (r : Result ℕ ℕ) → IsBinarySearchResult (λ y. nat_cmp y x) xs r → IsSorted nat_cmp xs → is_ok r ≡ list_any (λ p. p == x) xs
among xs x r position up = go r (searched xs x r position (nat_rises xs up))
  where
    same : (a : ℕ) → a ≡ x → (a == x) ≡ true
    same a e = elim (eqb_tells a x) [ inl h ↦ h.0 | inr h ↦ absurd (h.1 e) ]

    other : (a : ℕ) → (a ≡ x → ⊥) → (a == x) ≡ false
    other a n = elim (eqb_tells a x) [ inl h ↦ absurd (n h.1) | inr h ↦ h.0 ]

    elsewhere : (i : ℕ) → ((k : ℕ) → k < i → get_or xs k 0 < x) → ((k : ℕ) → i ≤ k → k < length xs → x < get_or xs k 0) → (k : ℕ) → k < length xs → (k < i) ⊎ (i ≤ k) → (get_or xs k 0 ≡ x → ⊥)
    elsewhere i low high k l (inl h) e = let less = low k h in omega (arith, less, e)
    elsewhere i low high k l (inr h) e = let more = high k h l in omega (arith, more, e)

    go : (r : Result ℕ ℕ) → MatchResult r (λ i. (i < length xs) × (get_or xs i 0 ≡ x)) (λ i. (i ≤ length xs) × ((k : ℕ) → k < i → get_or xs k 0 < x) × ((k : ℕ) → i ≤ k → k < length xs → x < get_or xs k 0))
        → is_ok r ≡ list_any (λ p. p == x) xs
    go (Ok i) h = sym (list_any_at (λ p. p == x) xs i 0 h.0 (same (get_or xs i 0) h.1))
    go (Err i) h = sym (list_any_none (λ p. p == x) xs (λ k d l. other (get_or xs k d) (λ e. elsewhere i h.1 h.2 k l (cases_lt k i) (get_or_default xs k 0 d l ∙ e))))

-- ---- member by member

abbrev pub AreOfEachSoFar : List Member → List (List ℕ) → ℕ → Type 0
AreOfEachSoFar members named i =
    (length named ≡ i)
    × ((x : ℕ) (m : Member) (places : List ℕ) → slice_get members x ≡ Some m → slice_get named x ≡ Some places → ArePlacesOfNamedMembers members m.pkg places)

at_end : (xs : List (List ℕ)) (y z : List ℕ) (k : ℕ) → slice_get (xs ++ y ∷ []) k ≡ Some z → (slice_get xs k ≡ Some z) ⊎ ((k ≡ length xs) × (y ≡ z))
at_end [] y z zero g = inr (refl, ap (value_or y) g)
at_end [] y z (suc k) g = absurd (true≢false (sym (ap is_one g)))
at_end (x ∷ xs) y z zero g = inl g
at_end (x ∷ xs) y z (suc k) g = behind (at_end xs y z k g)
  where
    behind : (slice_get xs k ≡ Some z) ⊎ ((k ≡ length xs) × (y ≡ z)) → (slice_get xs k ≡ Some z) ⊎ ((suc k ≡ suc (length xs)) × (y ≡ z))
    behind (inl h) = inl h
    behind (inr (e, s)) = inr (ap suc e, s)

pub member_gathered : (members : List Member) (old new : List (List ℕ)) (places : List ℕ) (i : ℕ) (pkg : Plain) → new ≡ old ++ places ∷ []
    → ((m : Member) → slice_get members i ≡ Some m → pkg ≡ m.pkg) → ArePlacesOfNamedMembers members pkg places
    → AreOfEachSoFar members old i → AreOfEachSoFar members new (i + 1)
member_gathered members old new places i pkg is there named inv = (
  omega (arith, ap length is, length-append old (places ∷ []), inv.0),
  λ x m ps g h. go x m ps g (at_end old places ps x (ap (λ xs. slice_get xs x) (sym is) ∙ h)),
)
  where
    go : (x : ℕ) (m : Member) (ps : List ℕ) → slice_get members x ≡ Some m → (slice_get old x ≡ Some ps) ⊎ ((x ≡ length old) × (places ≡ ps)) → ArePlacesOfNamedMembers members m.pkg ps
    go x m ps g (inl h) = inv.1 x m ps g h
    go x m ps g (inr (e, s)) =
        let at : slice_get members i ≡ Some m = ap (slice_get members) (sym (inv.0) ∙ sym e) ∙ g in
        subst (λ v. ArePlacesOfNamedMembers members v ps) (there m at) (subst (ArePlacesOfNamedMembers members pkg) s named)

pub all_gathered : (members : List Member) (named : List (List ℕ)) (i : ℕ) → i ≡ length members → AreOfEachSoFar members named i → ArePlacesNamedByEachMember members named
all_gathered members named i e inv = record { long = inv.0 ∙ e; each = inv.1 }

-- ---- which of two members beats the other

-- places at a place, as they are kept
pub kept_at : {V : Type 0} (f : V → List ℕ) (named : List V) (i : ℕ) (v : V) → i < length named → v ≡ get_or named i v → slice_get (map f named) i ≡ Some (f v)
kept_at f [] i v l e = absurd (omega arith)
kept_at f (x ∷ xs) zero v l e = ap (λ u. Some (f u)) (sym e)
kept_at f (x ∷ xs) (suc i) v l e = kept_at f xs i v (omega arith) e

module _ (members : List Member) (named : List (List ℕ)) (all : ArePlacesNamedByEachMember members named) (x y : ℕ) (l : x < length members) (k : y < length members) where
  pub rising_at : (i : ℕ) (places : List ℕ) → i < length members → slice_get named i ≡ Some places → IsSorted nat_cmp places
  rising_at i places h g = let m = some_at members i h in (all.each i m.0 places m.1 g).rising

  names_at : (i j : ℕ) (m n : Member) (places : List ℕ) → slice_get members i ≡ Some m → slice_get members j ≡ Some n → slice_get named i ≡ Some places → list_any (λ p. p == j) places ≡ does_first_list_second_in_replaces m.pkg n.pkg
  names_at i j m n places g h s = (all.each i m places g s).named j n h

  beats_is : (m n : Member) → slice_get members x ≡ Some m → slice_get members y ≡ Some n → takes_over m.pkg n.pkg ≡ member_beats members x y
  unfolding member_beats
  beats_is m n g h = sym (λ j. takes_over_if_both_exist (g j) (h j))

  pub not_named : (places : List ℕ) (t : Bool) → slice_get named x ≡ Some places → t ≡ list_any (λ p. p == y) places → t ≡ false → false ≡ member_beats members x y
  unfolding takes_over
  not_named places t g is absent =
      let m = some_at members x l in
      let n = some_at members y k in
      let e : does_first_list_second_in_replaces m.0.pkg n.0.pkg ≡ false = sym (names_at x y m.0 n.0 places m.1 n.1 g) ∙ (sym is ∙ absent) in
      sym (sym (beats_is m.0 n.0 m.1 n.1) ∙ ap (λ b. b && (not (does_first_list_second_in_replaces n.0.pkg m.0.pkg) || is_preferred_by_priority_or_later_name m.0.pkg n.0.pkg)) e)

  pub not_back : (places others : List ℕ) (t u : Bool) → slice_get named x ≡ Some places → slice_get named y ≡ Some others → t ≡ list_any (λ p. p == y) places → t ≡ true
      → u ≡ list_any (λ p. p == x) others → u ≡ false → true ≡ member_beats members x y
  unfolding takes_over
  not_back places others t u g h is yes_named back no_back =
      let m = some_at members x l in
      let n = some_at members y k in
      let e : does_first_list_second_in_replaces m.0.pkg n.0.pkg ≡ true = sym (names_at x y m.0 n.0 places m.1 n.1 g) ∙ (sym is ∙ yes_named) in
      let f : does_first_list_second_in_replaces n.0.pkg m.0.pkg ≡ false = sym (names_at y x n.0 m.0 others n.1 m.1 h) ∙ (sym back ∙ no_back) in
      sym (sym (beats_is m.0 n.0 m.1 n.1) ∙ (λ j. e j && (not (f j) || is_preferred_by_priority_or_later_name m.0.pkg n.0.pkg)))

  pub by_preference : (places others : List ℕ) (t u p : Bool) (v w : Plain) → slice_get named x ≡ Some places → slice_get named y ≡ Some others → t ≡ list_any (λ p. p == y) places → t ≡ true
      → u ≡ list_any (λ p. p == x) others → u ≡ true → ((m : Member) → slice_get members x ≡ Some m → v ≡ m.pkg) → ((m : Member) → slice_get members y ≡ Some m → w ≡ m.pkg)
      → p ≡ is_preferred_by_priority_or_later_name v w → p ≡ member_beats members x y
  unfolding takes_over
  by_preference places others t u p v w g h is yes_named back yes_back first second preferred =
      let m = some_at members x l in
      let n = some_at members y k in
      let e : does_first_list_second_in_replaces m.0.pkg n.0.pkg ≡ true = sym (names_at x y m.0 n.0 places m.1 n.1 g) ∙ (sym is ∙ yes_named) in
      let f : does_first_list_second_in_replaces n.0.pkg m.0.pkg ≡ true = sym (names_at y x n.0 m.0 others n.1 m.1 h) ∙ (sym back ∙ yes_back) in
      preferred ∙ ((λ j. is_preferred_by_priority_or_later_name (first m.0 m.1 j) (second n.0 n.1 j))
      ∙ (sym (λ j. e j && (not (f j) || is_preferred_by_priority_or_later_name m.0.pkg n.0.pkg)) ∙ beats_is m.0 n.0 m.1 n.1))
