-- No pair is reported exactly if each name stands once.
use Rattle.std.proofs.Common.{◌≡◌, ℕ, ◌+◌, ◌<◌, ◌≤◌, ◌⊎◌, inl, inr, Bool, true, false, cond, List, [], ◌∷◌, Option, Some, None, refl, ap, sym, subst, ◌∙◌, arith, ◌↔◌}
use Rattle.adb_view.specs.Plain.{Plain}
use Rattle.std.specs.Option.{option_or}
use Rattle.base_core.proofs.Causes.{both_none, none_both}
use Rattle.adb_view.specs.declared.tables.Which.{Which}
use Rattle.adb_view.specs.declared.tables.Which.TheVariants.{Dep, Acl, PkgInfo, File, Dir, Scripts, Package, Index, Idb, Intent}
use Rattle.adb_fields.specs.declared.pairs.Pair.{Pair}
use Rattle.adb_fields.specs.Pairs.{NameWithPosition, is_lesser_pair_by_second_then_first, lesser_pair}
use Rattle.adb_fields.specs.FirstPair.{IsLeastPairIfAny}
use Rattle.adb_fields.specs.FirstPair.{IsPairOfEqualNames}
use Rattle.adb_fields.specs.FirstPair.{IsIn}
use Rattle.adb_view.specs.FieldIndexes.{DIR_NAME_INDEX, FILE_NAME_INDEX, IDB_PACKAGES_INDEX, INTENT_WRITES_INDEX}
use Rattle.adb_fields.specs.Repeated.{place_in_causes_of_field_at_index, numbered_from, names_all_at_position, names_with_list_positions, least_positions_of_name_twice_in_list, least_positions_of_name_twice_in_one_list, least_pair_of_lists_sharing_a_name, entries_of_field_at_index, positions_of_folder_repeated_in_a_package, positions_of_file_repeated_in_a_folder, positions_of_repeated_package_name, pair_of_packages_listing_one_path, positions_of_repeated_intent_name, repeated_cause, fault_of_repeats_within_one_of_packages, fault_of_two_packages_sharing_name_or_path, repeated_fault}
use Rattle.adb_fields.specs.Once.{AreDistinctNames, EachHasDistinctNames, IsInOneOf, ShareNoName, HaveNoRepeatInside, HaveNoRepeatBetween, HasNoForbiddenRepeatedName}
use Rattle.adb_fields.proofs.Members.{in-front, in-behind, in-either, in-map, from-map}
use Rattle.adb_fields.proofs.FirstPair.{least_pair_of_equal_names-first}

-- ---- one list

abbrev NoPair : List NameWithPosition → Type 0
NoPair names = (q : Pair) → ¬ IsPairOfEqualNames names q

-- a name after is at a later position
pub record IsInTreeAt (name : List ℕ) (n : ℕ) (names : List NameWithPosition) : Type 0 where
  pub one : NameWithPosition
  pub inside : IsIn one names
  pub alike : name ≡ one.name
  pub later : n ≤ one.position

located : (name : List ℕ) (n : ℕ) (names : List (List ℕ)) → IsIn name names → IsInTreeAt name n (numbered_from n names)
located name n [] h = absurd h
located name n (x ∷ xs) (inl e) = record { one = record { name = x; position = n }; inside = inl refl; alike = e; later = omega arith }
located name n (x ∷ xs) (inr h) =
    let r = located name (n + 1) xs h in
    let l : n + 1 ≤ r.one.position = r.later in
    record { one = r.one; inside = inr r.inside; alike = r.alike; later = omega arith }

-- and each numbered name is one of the list, at a position from the first on
pub record IsOf (one : NameWithPosition) (n : ℕ) (names : List (List ℕ)) : Type 0 where
  pub inside : IsIn one.name names
  pub later : n ≤ one.position

of_numbered : (one : NameWithPosition) (n : ℕ) (names : List (List ℕ)) → IsIn one (numbered_from n names) → IsOf one n names
of_numbered one n [] h = absurd h
of_numbered one n (x ∷ xs) (inl e) =
    let p : one.position ≡ n = ap (λ m. m.position) e in
    record { inside = inl (ap (λ m. m.name) e); later = omega arith }
of_numbered one n (x ∷ xs) (inr h) =
    let r = of_numbered one (n + 1) xs h in
    let l : n + 1 ≤ one.position = r.later in
    record { inside = inr r.inside; later = omega arith }

pair_of_two : (names : List NameWithPosition) (a b : NameWithPosition) → IsIn a names → IsIn b names → a.name ≡ b.name → a.position < b.position → IsPairOfEqualNames names (record { first = a.position; second = b.position })
pair_of_two names a b h k e l = record { one = a; other = b; one_in = h; other_in = k; alike = e; first = refl; second = refl; rises = l }

wider : (x : NameWithPosition) (xs : List NameWithPosition) (q : Pair) → IsPairOfEqualNames xs q → IsPairOfEqualNames (x ∷ xs) q
wider x xs q k = record { one = k.one; other = k.other; one_in = inr k.one_in; other_in = inr k.other_in; alike = k.alike; first = k.first; second = k.second; rises = k.rises }

distinct : (n : ℕ) (names : List (List ℕ)) → NoPair (numbered_from n names) → AreDistinctNames names
distinct n [] h = tt
distinct n (x ∷ xs) h = (
  λ k.
      let r = located x (n + 1) xs k in
      let l : n + 1 ≤ r.one.position = r.later in
      h _ (pair_of_two (numbered_from n (x ∷ xs)) (record { name = x; position = n }) r.one (inl refl) (inr r.inside) r.alike (omega arith)),
  distinct (n + 1) xs (λ q k. h q (wider (record { name = x; position = n }) (numbered_from (n + 1) xs) q k)),
)

no_pair_by : (n : ℕ) (x : List ℕ) (xs : List (List ℕ)) (a b : NameWithPosition) → ¬ IsIn x xs → NoPair (numbered_from (n + 1) xs) → IsIn a (numbered_from n (x ∷ xs)) → IsIn b (numbered_from n (x ∷ xs)) → a.name ≡ b.name → a.position < b.position → ⊥
no_pair_by n x xs a b once none (inl e) (inl f) same less =
    let p : a.position ≡ n = ap (λ m. m.position) e in
    let q : b.position ≡ n = ap (λ m. m.position) f in
    omega arith
no_pair_by n x xs a b once none (inl e) (inr k) same less =
    let r = of_numbered b (n + 1) xs k in
    let P : List ℕ → Type 0 = λ m. IsIn m xs in
    once (subst P (sym same ∙ ap (λ m. m.name) e) r.inside)
no_pair_by n x xs a b once none (inr h) (inl f) same less =
    let r = of_numbered a (n + 1) xs h in
    let l : n + 1 ≤ a.position = r.later in
    let q : b.position ≡ n = ap (λ m. m.position) f in
    omega arith
no_pair_by n x xs a b once none (inr h) (inr k) same less = none _ (pair_of_two (numbered_from (n + 1) xs) a b h k same less)

no_pair : (n : ℕ) (names : List (List ℕ)) → AreDistinctNames names → NoPair (numbered_from n names)
no_pair n [] d = λ q k. k.one_in
no_pair n (x ∷ xs) d = λ q k.
    let e = k.first in let f = k.second in let g = k.rises in
    no_pair_by n x xs k.one k.other d.0 (no_pair (n + 1) xs d.1) k.one_in k.other_in k.alike (omega arith)

none_of : (IsOne : Pair → Type 0) (o : Option Pair) → IsLeastPairIfAny IsOne o → o ≡ None → (q : Pair) → ¬ IsOne q
none_of IsOne o first e = let P : Option Pair → Type 0 = λ p. IsLeastPairIfAny IsOne p in subst P e first

is_none_by : (IsOne : Pair → Type 0) (o : Option Pair) → IsLeastPairIfAny IsOne o → ((q : Pair) → ¬ IsOne q) → o ≡ None
is_none_by IsOne None first h = refl
is_none_by IsOne (Some p) first h = absurd (h p first.is_one)

pub twice_none : (names : List (List ℕ)) → least_positions_of_name_twice_in_list names ≡ None → AreDistinctNames names
twice_none names e = distinct 1 names (none_of (IsPairOfEqualNames (numbered_from 1 names)) (least_positions_of_name_twice_in_list names) (least_pair_of_equal_names-first (numbered_from 1 names)) e)

pub none_twice : (names : List (List ℕ)) → AreDistinctNames names → least_positions_of_name_twice_in_list names ≡ None
none_twice names d = is_none_by (IsPairOfEqualNames (numbered_from 1 names)) (least_positions_of_name_twice_in_list names) (least_pair_of_equal_names-first (numbered_from 1 names)) (no_pair 1 names d)

-- ---- several lists, each for itself

never_none : (b : Bool) (p q : Pair) → cond b (Some q) (Some p) ≡ None → ⊥
never_none true p q e = cc
never_none false p q e = cc

earlier_none : (a b : Option Pair) → lesser_pair a b ≡ None → (a ≡ None) × (b ≡ None)
earlier_none None b e = (refl, e)
earlier_none (Some p) None e = absurd (cc)
earlier_none (Some p) (Some q) e = absurd (never_none (is_lesser_pair_by_second_then_first q p) p q e)

none_earlier : (a b : Option Pair) → a ≡ None → b ≡ None → lesser_pair a b ≡ None
none_earlier None b e f = f
none_earlier (Some p) b e f = absurd (cc)

each_none : (lists : List (List (List ℕ))) → least_positions_of_name_twice_in_one_list lists ≡ None → EachHasDistinctNames lists
each_none [] e = tt
each_none (names ∷ lists) e =
    let (one, others) = earlier_none (least_positions_of_name_twice_in_list names) (least_positions_of_name_twice_in_one_list lists) e in (twice_none names one, each_none lists others)

none_each : (lists : List (List (List ℕ))) → EachHasDistinctNames lists → least_positions_of_name_twice_in_one_list lists ≡ None
none_each [] d = refl
none_each (names ∷ lists) d = none_earlier (least_positions_of_name_twice_in_list names) (least_positions_of_name_twice_in_one_list lists) (none_twice names d.0) (none_each lists d.1)

-- ---- between several lists

stands_in_one : (name : List ℕ) (n : ℕ) (lists : List (List (List ℕ))) → IsInOneOf name lists → IsInTreeAt name n (names_with_list_positions n lists)
stands_in_one name n [] h = absurd h
stands_in_one name n (names ∷ lists) (inl h) = record {
  one = record { name = name; position = n };
  inside = in-front _ (names_all_at_position n names) (names_with_list_positions (n + 1) lists) (in-map (λ m. record { name = m; position = n }) name names h);
  alike = refl;
  later = omega arith;
}
stands_in_one name n (names ∷ lists) (inr h) =
    let r = stands_in_one name (n + 1) lists h in
    let l : n + 1 ≤ r.one.position = r.later in
    record { one = r.one; inside = in-behind r.one (names_all_at_position n names) (names_with_list_positions (n + 1) lists) r.inside; alike = r.alike; later = omega arith }

pub record IsOfOne (one : NameWithPosition) (n : ℕ) (lists : List (List (List ℕ))) : Type 0 where
  pub inside : IsInOneOf one.name lists
  pub later : n ≤ one.position

-- of the first list, or of one after it
pub record IsHere (one : NameWithPosition) (n : ℕ) (names : List (List ℕ)) : Type 0 where
  pub inside : IsIn one.name names
  pub at : one.position ≡ n

here : (one : NameWithPosition) (n : ℕ) (names : List (List ℕ)) → IsIn one (names_all_at_position n names) → IsHere one n names
here one n names h =
    let r = from-map (λ m. record { name = m; position = n }) one names h in
    let P : List ℕ → Type 0 = λ m. IsIn m names in
    record { inside = subst P (sym (ap (λ m. m.name) r.2)) r.1; at = ap (λ m. m.position) r.2 }

of_lists : (one : NameWithPosition) (n : ℕ) (lists : List (List (List ℕ))) → IsIn one (names_with_list_positions n lists) → IsOfOne one n lists
of_lists one n [] h = absurd h
of_lists one n (names ∷ lists) h =
    elim (in-either one (names_all_at_position n names) (names_with_list_positions (n + 1) lists) h) [
      | inl k ↦ let r = here one n names k in let e = r.at in record { inside = inl r.inside; later = omega arith }
      | inr k ↦ let r = of_lists one (n + 1) lists k in let l : n + 1 ≤ one.position = r.later in record { inside = inr r.inside; later = omega arith }
    ]

apart : (n : ℕ) (lists : List (List (List ℕ))) → NoPair (names_with_list_positions n lists) → ShareNoName lists
apart n [] h = tt
apart n (names ∷ lists) h = (
  λ name k others.
      let r = stands_in_one name (n + 1) lists others in
      let l : n + 1 ≤ r.one.position = r.later in
      h _
      (pair_of_two (names_with_list_positions n (names ∷ lists)) (record { name = name; position = n }) r.one
      (in-front _ (names_all_at_position n names) (names_with_list_positions (n + 1) lists) (in-map (λ m. record { name = m; position = n }) name names k))
      (in-behind r.one (names_all_at_position n names) (names_with_list_positions (n + 1) lists) r.inside) r.alike (omega arith)),
  apart (n + 1) lists
      (λ q k. h q (record {
        one = k.one;
        other = k.other;
        one_in = in-behind k.one (names_all_at_position n names) (names_with_list_positions (n + 1) lists) k.one_in;
        other_in = in-behind k.other (names_all_at_position n names) (names_with_list_positions (n + 1) lists) k.other_in;
        alike = k.alike;
        first = k.first;
        second = k.second;
        rises = k.rises;
      })),
)

no_pair_between : (n : ℕ) (names : List (List ℕ)) (lists : List (List (List ℕ))) (a b : NameWithPosition) → ((name : List ℕ) → IsIn name names → ¬ IsInOneOf name lists) → NoPair (names_with_list_positions (n + 1) lists)
    → IsIn a (names_all_at_position n names) ⊎ IsIn a (names_with_list_positions (n + 1) lists) → IsIn b (names_all_at_position n names) ⊎ IsIn b (names_with_list_positions (n + 1) lists) → a.name ≡ b.name → a.position < b.position → ⊥
no_pair_between n names lists a b once none (inl h) (inl k) same less =
    let e = (here a n names h).at in let f = (here b n names k).at in omega arith
no_pair_between n names lists a b once none (inl h) (inr k) same less =
    let P : List ℕ → Type 0 = λ m. IsInOneOf m lists in
    once a.name (here a n names h).inside (subst P (sym same) (of_lists b (n + 1) lists k).inside)
no_pair_between n names lists a b once none (inr h) (inl k) same less =
    let l : n + 1 ≤ a.position = (of_lists a (n + 1) lists h).later in let f = (here b n names k).at in omega arith
no_pair_between n names lists a b once none (inr h) (inr k) same less = none _ (pair_of_two (names_with_list_positions (n + 1) lists) a b h k same less)

none_between : (n : ℕ) (lists : List (List (List ℕ))) → ShareNoName lists → NoPair (names_with_list_positions n lists)
none_between n [] d = λ q k. k.one_in
none_between n (names ∷ lists) d = λ q k.
    let e = k.first in let f = k.second in let g = k.rises in
    no_pair_between n names lists k.one k.other d.0 (none_between (n + 1) lists d.1)
    (in-either k.one (names_all_at_position n names) (names_with_list_positions (n + 1) lists) k.one_in) (in-either k.other (names_all_at_position n names) (names_with_list_positions (n + 1) lists) k.other_in) k.alike (omega arith)

two_none : (lists : List (List (List ℕ))) → least_pair_of_lists_sharing_a_name lists ≡ None → ShareNoName lists
two_none lists e = apart 1 lists (none_of (IsPairOfEqualNames (names_with_list_positions 1 lists)) (least_pair_of_lists_sharing_a_name lists) (least_pair_of_equal_names-first (names_with_list_positions 1 lists)) e)

none_two : (lists : List (List (List ℕ))) → ShareNoName lists → least_pair_of_lists_sharing_a_name lists ≡ None
none_two lists d = is_none_by (IsPairOfEqualNames (names_with_list_positions 1 lists)) (least_pair_of_lists_sharing_a_name lists) (least_pair_of_equal_names-first (names_with_list_positions 1 lists)) (none_between 1 lists d)

-- ---- kind by kind

at_none : (n : ℕ) (o : Option Pair) → repeated_cause n o ≡ None → o ≡ None
at_none n None e = refl
at_none n (Some p) e = absurd (cc)

none_at : (n : ℕ) (o : Option Pair) → o ≡ None → repeated_cause n o ≡ None
none_at n None e = refl
none_at n (Some p) e = absurd (cc)

inside_once : (packages : List Plain) → fault_of_repeats_within_one_of_packages packages ≡ None → HaveNoRepeatInside packages
inside_once packages e =
    let (a, b) = both_none (repeated_cause (place_in_causes_of_field_at_index Dir DIR_NAME_INDEX) (positions_of_folder_repeated_in_a_package packages)) (repeated_cause (place_in_causes_of_field_at_index File FILE_NAME_INDEX) (positions_of_file_repeated_in_a_folder packages)) e in
    record { folders = each_none _ (at_none (place_in_causes_of_field_at_index Dir DIR_NAME_INDEX) (positions_of_folder_repeated_in_a_package packages) a); files = each_none _ (at_none (place_in_causes_of_field_at_index File FILE_NAME_INDEX) (positions_of_file_repeated_in_a_folder packages) b) }

once_inside : (packages : List Plain) → HaveNoRepeatInside packages → fault_of_repeats_within_one_of_packages packages ≡ None
once_inside packages d =
    none_both (repeated_cause (place_in_causes_of_field_at_index Dir DIR_NAME_INDEX) (positions_of_folder_repeated_in_a_package packages)) (repeated_cause (place_in_causes_of_field_at_index File FILE_NAME_INDEX) (positions_of_file_repeated_in_a_folder packages)) (none_at (place_in_causes_of_field_at_index Dir DIR_NAME_INDEX) (positions_of_folder_repeated_in_a_package packages) (none_each _ d.folders)) (none_at (place_in_causes_of_field_at_index File FILE_NAME_INDEX) (positions_of_file_repeated_in_a_folder packages) (none_each _ d.files))

between_once : (packages : List Plain) → fault_of_two_packages_sharing_name_or_path packages ≡ None → HaveNoRepeatBetween packages
between_once packages e =
    let (a, b) = both_none (repeated_cause (place_in_causes_of_field_at_index Idb IDB_PACKAGES_INDEX) (positions_of_repeated_package_name packages)) (repeated_cause (place_in_causes_of_field_at_index File FILE_NAME_INDEX) (pair_of_packages_listing_one_path packages)) e in
    record { packages_once = twice_none _ (at_none (place_in_causes_of_field_at_index Idb IDB_PACKAGES_INDEX) (positions_of_repeated_package_name packages) a); paths_once = two_none _ (at_none (place_in_causes_of_field_at_index File FILE_NAME_INDEX) (pair_of_packages_listing_one_path packages) b) }

once_between : (packages : List Plain) → HaveNoRepeatBetween packages → fault_of_two_packages_sharing_name_or_path packages ≡ None
once_between packages d =
    none_both (repeated_cause (place_in_causes_of_field_at_index Idb IDB_PACKAGES_INDEX) (positions_of_repeated_package_name packages)) (repeated_cause (place_in_causes_of_field_at_index File FILE_NAME_INDEX) (pair_of_packages_listing_one_path packages)) (none_at (place_in_causes_of_field_at_index Idb IDB_PACKAGES_INDEX) (positions_of_repeated_package_name packages) (none_twice _ d.packages_once)) (none_at (place_in_causes_of_field_at_index File FILE_NAME_INDEX) (pair_of_packages_listing_one_path packages) (none_two _ d.paths_once))

database_once : (packages : List Plain) → option_or (fault_of_repeats_within_one_of_packages packages) (fault_of_two_packages_sharing_name_or_path packages) ≡ None → HaveNoRepeatInside packages × HaveNoRepeatBetween packages
database_once packages e = let (a, b) = both_none (fault_of_repeats_within_one_of_packages packages) (fault_of_two_packages_sharing_name_or_path packages) e in (inside_once packages a, between_once packages b)

pub names_once : (which : Which) (v : Plain) → (repeated_fault which v ≡ None) ↔ HasNoForbiddenRepeatedName which v
unfolding repeated_fault
names_once Dep v = (λ e. tt, λ d. refl)
names_once Acl v = (λ e. tt, λ d. refl)
names_once PkgInfo v = (λ e. tt, λ d. refl)
names_once File v = (λ e. tt, λ d. refl)
names_once Dir v = (λ e. tt, λ d. refl)
names_once Scripts v = (λ e. tt, λ d. refl)
names_once Package v = (inside_once (v ∷ []), once_inside (v ∷ []))
names_once Index v = (λ e. tt, λ d. refl)
names_once Idb v = (
  database_once (entries_of_field_at_index 0 v),
  λ d. none_both (fault_of_repeats_within_one_of_packages (entries_of_field_at_index 0 v)) (fault_of_two_packages_sharing_name_or_path (entries_of_field_at_index 0 v)) (once_inside (entries_of_field_at_index 0 v) d.0) (once_between (entries_of_field_at_index 0 v) d.1),
)
names_once Intent v = (λ e. twice_none _ (at_none (place_in_causes_of_field_at_index Intent INTENT_WRITES_INDEX) (positions_of_repeated_intent_name v) e), λ d. none_at (place_in_causes_of_field_at_index Intent INTENT_WRITES_INDEX) (positions_of_repeated_intent_name v) (none_twice _ d))
