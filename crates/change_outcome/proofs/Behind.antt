-- Each package that was read stands behind those before it.
use Rattle.std.proofs.Common.{◌≡◌, inl, inr, ℕ, zero, suc, ◌+◌, ◌<◌, ◌≤◌, Bool, true, get_or, List, [], ◌∷◌, ◌++◌, map, length, take, drop, Option, Some, None, Result, Ok, Err, refl, sym, ap, ◌∙◌, subst, arith, Less}
use Rattle.std.proofs.lemmas.List.{take_more}
use Rattle.std.specs.Prelude.{OnOk, option_map, option_to_list}
use Rattle.db_core.specs.adb_fields.Repeated.{package_name}
use Rattle.std.specs.List.{cons_option, filter_map, slice_get}
use Rattle.std.specs.Ordering.{is_lt}
use Rattle.adb_view.specs.Plain.{Plain}
use Rattle.base_core.proofs.Rising.{IsIn, Rises, order, rises_from_pairs}
use Rattle.db_core.specs.Members.{AreMembersInNameOrder, Member, is_after_members, member_of_added, member_name, member_of_kept}
use Rattle.db_core.specs.declared.members.TheConstants.{MOST_MEMBERS}
use Rattle.package_changes.proofs.Lists.{item_at, option_in_front}
use Rattle.package_verifier.specs.Tested.{tested_id, tested_value}
use Rattle.package_verifier.specs.declared.package.TestedPackage.{TestedPackage}
use Rattle.change_outcome.specs.Arrivals.{HavePlacesIfKept, CanBeMembers, HasPlaceIfKept, member_of_read_package, members_by_packages_before_and_reads}
use Rattle.change_outcome.specs.declared.arrivals.MemberRead.{MemberRead}
use Rattle.change_outcome.specs.declared.arrivals.MemberRead.TheVariants.{Comes, Stays}

after_all : (name : List ℕ) (members : List Member) → ((q : List ℕ) → IsIn q (map member_name members) → order q name ≡ Less) → is_after_members name members ≡ true
after_all name [] each = refl
after_all name (m ∷ []) each = ap is_lt (each (member_name m) (inl refl))
after_all name (m ∷ n ∷ members) each = after_all name (n ∷ members) (λ q here. each q (inr here))

before_it : (names : List (List ℕ)) (name : List ℕ) (others : List (List ℕ)) → Rises (names ++ name ∷ others) → (q : List ℕ) → IsIn q names → order q name ≡ Less
before_it [] name others rises q here = absurd here
before_it (x ∷ names) name others rises q (inl is) = subst (λ z. order z name ≡ Less) (sym is) (rises.0 name (in_middle names name others))
  where
    in_middle : (names : List (List ℕ)) (name : List ℕ) (others : List (List ℕ)) → IsIn name (names ++ name ∷ others)
    in_middle [] name others = inl refl
    in_middle (x ∷ names) name others = inr (in_middle names name others)
before_it (x ∷ names) name others rises q (inr more) = before_it names name others rises.1 q more

names_join : (xs : List Member) (m : Member) (ys : List Member) → map member_name (xs ++ m ∷ ys) ≡ map member_name xs ++ member_name m ∷ map member_name ys
names_join [] m ys = refl
names_join (x ∷ xs) m ys = ap (λ z. member_name x ∷ z) (names_join xs m ys)

behind_front : (xs : List Member) (m : Member) (ys : List Member) → AreMembersInNameOrder (xs ++ m ∷ ys) → is_after_members (member_name m) xs ≡ true
behind_front xs m ys rising =
    after_all (member_name m) xs
    (before_it (map member_name xs) (member_name m) (map member_name ys) (subst Rises (names_join xs m ys) (rises_from_pairs _ rising)))

module _ (before : List Plain) where
  reads_join : (xs ys : List MemberRead) → members_by_packages_before_and_reads before (xs ++ ys) ≡ members_by_packages_before_and_reads before xs ++ members_by_packages_before_and_reads before ys
  reads_join [] ys = refl
  reads_join (r ∷ xs) ys = ap (cons_option (member_of_read_package before r)) (reads_join xs ys) ∙ go (member_of_read_package before r)
    where
      go : (o : Option Member) → cons_option o (members_by_packages_before_and_reads before xs ++ members_by_packages_before_and_reads before ys) ≡ cons_option o (members_by_packages_before_and_reads before xs) ++ members_by_packages_before_and_reads before ys
      go None = refl
      go (Some m) = refl

  whole : (reads : List MemberRead) (i : ℕ) → take i reads ++ drop i reads ≡ reads
  whole reads zero = refl
  whole [] (suc i) = refl
  whole (r ∷ reads) (suc i) = ap (λ z. r ∷ z) (whole reads i)

  pub next_behind : (reads : List MemberRead) (i : ℕ) (d : MemberRead) → i < length reads → CanBeMembers before reads → (m : Member) → member_of_read_package before (get_or reads i d) ≡ Some m → is_after_members (member_name m) (members_by_packages_before_and_reads before (take i reads)) ≡ true
  next_behind reads i d lt can m is =
      behind_front (members_by_packages_before_and_reads before (take i reads)) m (members_by_packages_before_and_reads before (drop (i + 1) reads))
      (subst AreMembersInNameOrder
      (ap (members_by_packages_before_and_reads before) (sym (whole reads i))
      ∙ (reads_join (take i reads) (drop i reads)
      ∙ ap (λ z. members_by_packages_before_and_reads before (take i reads) ++ z) (ap (members_by_packages_before_and_reads before) (item_at reads i d lt) ∙ ap (λ o. cons_option o (members_by_packages_before_and_reads before (drop (i + 1) reads))) is)))
      can.in_order)

  pub next_placed : (reads : List MemberRead) (i : ℕ) (d : MemberRead) → i < length reads → HavePlacesIfKept before reads → HasPlaceIfKept before (get_or reads i d)
  next_placed [] i d lt placed = absurd (omega arith)
  next_placed (r ∷ reads) zero d lt placed = placed.0
  next_placed (r ∷ reads) (suc i) d lt placed = next_placed reads i d (omega arith) placed.1

  fewer : (reads : List MemberRead) → length (members_by_packages_before_and_reads before reads) ≤ length reads
  fewer [] = omega arith
  fewer (r ∷ reads) = go (member_of_read_package before r) (fewer reads)
    where
      go : (o : Option Member) → length (members_by_packages_before_and_reads before reads) ≤ length reads → length (cons_option o (members_by_packages_before_and_reads before reads)) ≤ suc (length reads)
      go None less = omega (arith, less)
      go (Some m) less = omega (arith, less)

  taken : (reads : List MemberRead) (i : ℕ) → length (take i reads) ≤ i
  taken reads zero = omega arith
  taken [] (suc i) = omega arith
  taken (r ∷ reads) (suc i) = let less = taken reads i in omega (arith, less)

  pub next_few : (reads : List MemberRead) (i : ℕ) → i < length reads → length reads ≤ MOST_MEMBERS → length (members_by_packages_before_and_reads before (take i reads)) < MOST_MEMBERS
  next_few reads i lt few =
      let a = fewer (take i reads) in
      let b = taken reads i in
      omega (arith, a, b, lt, few)

  pub one_more : (reads : List MemberRead) (i : ℕ) (d : MemberRead) → i < length reads → members_by_packages_before_and_reads before (take (i + 1) reads) ≡ members_by_packages_before_and_reads before (take i reads) ++ option_to_list (member_of_read_package before (get_or reads i d))
  one_more reads i d lt =
      ap (members_by_packages_before_and_reads before) (take_more reads i d lt)
      ∙ (reads_join (take i reads) (get_or reads i d ∷ []) ∙ ap (λ z. members_by_packages_before_and_reads before (take i reads) ++ z) (go (member_of_read_package before (get_or reads i d))))
    where
      go : (o : Option Member) → cons_option o [] ≡ option_to_list o
      go None = refl
      go (Some m) = refl

-- ---- one that stays

pub stays_after : (before : List Plain) (members : List Member) (read : MemberRead) (place : ℕ) → read ≡ Stays place → ((m : Member) → member_of_read_package before read ≡ Some m → is_after_members (member_name m) members ≡ true)
    → (pkg : Plain) → slice_get before place ≡ Some pkg → is_after_members (package_name pkg) members ≡ true
stays_after before members read place is behind pkg here = behind (member_of_kept pkg) (ap (member_of_read_package before) is ∙ ap (option_map member_of_kept) here)

is_there : (before : List Plain) (place : ℕ) → place < length before → (pkg : Plain) × (slice_get before place ≡ Some pkg)
is_there [] place lt = absurd (omega arith)
is_there (p ∷ before) zero lt = (p, refl)
is_there (p ∷ before) (suc place) lt = is_there before place (omega arith)

pub stays_added : {E : Type 0} (before : List Plain) (old new : List Member) (read : MemberRead) (place : ℕ) (result : Result (Unit {0}) E) → read ≡ Stays place → HasPlaceIfKept before read → OnOk result ((pkg : Plain) → slice_get before place ≡ Some pkg → new ≡ old ++ member_of_kept pkg ∷ []) → OnOk result (new ≡ old ++ option_to_list (member_of_read_package before read))
stays_added before old new read place (Ok done) is placed added =
    let there = is_there before place (subst (HasPlaceIfKept before) is placed) in
    added there.0 there.1 ∙ ap (λ o. old ++ option_to_list o) (sym (ap (member_of_read_package before) is ∙ ap (option_map member_of_kept) there.1))
stays_added before old new read place (Err e) is placed added = tt

pub all_taken : (before : List Plain) (reads : List MemberRead) (i : ℕ) → length reads ≤ i → members_by_packages_before_and_reads before (take i reads) ≡ members_by_packages_before_and_reads before reads
all_taken before reads i past = ap (members_by_packages_before_and_reads before) (go reads i past)
  where
    go : (reads : List MemberRead) (i : ℕ) → length reads ≤ i → take i reads ≡ reads
    go [] zero past = refl
    go [] (suc i) past = refl
    go (r ∷ reads) zero past = absurd (omega arith)
    go (r ∷ reads) (suc i) past = ap (λ z. r ∷ z) (go reads i (omega arith))

-- ---- one that comes

pub comes_next : (before : List Plain) (members : List Member) (read : MemberRead) (pkg : TestedPackage) (value : Plain) → read ≡ Comes pkg → value ≡ tested_value pkg → ((m : Member) → member_of_read_package before read ≡ Some m → is_after_members (member_name m) members ≡ true) → is_after_members (package_name value) members ≡ true
comes_next before members read pkg value is same behind =
    ap (λ v. is_after_members (package_name v) members) same ∙ behind (member_of_added (tested_value pkg) (tested_id pkg)) (ap (member_of_read_package before) is)
