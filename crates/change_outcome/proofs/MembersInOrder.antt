-- The packages after a change stand in byte order of names, and are no more than the candidates.
use Rattle.std.proofs.Common.{◌≡◌, ◌≢◌, ◌⊎◌, inl, inr, ℕ, zero, suc, ◌+◌, ◌<◌, ◌≤◌, Bool, true, false, not, if◌then◌else◌, cond, List, [], ◌∷◌, ◌++◌, map, length, Option, Some, None, Result, Ok, Err, refl, sym, ap, ◌∙◌, subst, arith, Less, Equal}
use Rattle.std.specs.Prelude.{bytes_eq, option_map}
use Rattle.std.specs.List.{cons_option, filter_map, find, slice_get}
use Rattle.std.specs.Cmp.Lexicographic.{bytes_decides}
use Rattle.std.proofs.lemmas.Cmp.{nat_list_cmp_total, tied_itself}
use Rattle.db_core.specs.adb_fields.Repeated.{package_name}
use Rattle.adb_view.specs.Plain.{Plain}
use Rattle.base_core.specs.Listed.{AreSortedDistinctTexts}
use Rattle.base_core.specs.declared.cause.Cause.{Cause}
use Rattle.base_core.proofs.Rising.{IsIn, Rises, order, pairs_from_rises}
use Rattle.package_changes.proofs.own_core.InOrder.{order_rises}
use Rattle.package_changes.specs.own_core.PlanLists.{sorted_distinct_names}
use Rattle.change_inputs.specs.Chains.{and_then}
use Rattle.change_inputs.specs.Inputs.{first_index_read_number}
use Rattle.change_outcome.specs.MembersAfter.{MemberFound, added_package_by_path, added_member_found, members_after, found_members, member_of_name_after, member_of_name_by_change, no_member_unless_removal_needs_script, members_of_names_after, kept_member_found}
use Rattle.change_outcome.specs.PackageFiles.{AddedPackage, first_script_number_of_package, package_file_path_of_candidate, added_package_or_refusal, package_in_file, scripts_of_change, package_unless_bad_or_different, package_unless_other_than_candidate, unless_script_number, unless_script_needed}
use Rattle.db_core.specs.Members.{AreMembersInNameOrder, Member, member_name}
use Rattle.db_core.specs.Packages.{is_package_named}
use Rattle.dep_core.specs.Repositories.{Repository}
use Rattle.package_changes.specs.file_owners.Replaces.{package_version_text}
use Rattle.change_inputs.specs.make_info.Reads.{Reads}
use Rattle.package_changes.specs.Changes.{Replacement, change_between, change_of_name, is_candidate_named, names_before_and_selected}
use Rattle.package_changes.specs.Placed.{ReplacementWithSelectionAsPlaces, candidates_at, replacement_of}
use Rattle.package_verifier.specs.pkg_core.Whole.{package_fault}
use Rattle.change_inputs.specs.candidate_core.Candidates.{Candidate}
use Rattle.change_inputs.specs.candidate_core.Rank.{SelectionProblem, candidate_at}
use Rattle.report_core.specs.Reports.{Change, Purge}
use Rattle.report_core.specs.declared.refusal.Refusal as Refusals

-- ---- a value that was not refused

given : {A B : Type 0} (r : Result A Refusals.Refusal) (next : A → Result B Refusals.Refusal) (b : B) → and_then r next ≡ Ok b → (a : A) × (r ≡ Ok a) × (next a ≡ Ok b)
given (Ok a) next b is = (a, refl, is)
given (Err refusal) next b is = absurd (cc)

passed_tests : (a b d : Bool) (e1 e2 e3 : Refusals.Refusal) (pkg p : AddedPackage) → (if not a then Err e1 else if not b then Err e2 else if not d then Err e3 else Ok pkg) ≡ Ok p → (b ≡ true) × (pkg ≡ p)
passed_tests true true true e1 e2 e3 pkg p is = (refl, cc)
passed_tests true true false e1 e2 e3 pkg p is = absurd (cc)
passed_tests true false d e1 e2 e3 pkg p is = absurd (cc)
passed_tests false b d e1 e2 e3 pkg p is = absurd (cc)

-- a package that comes has the candidate's name
same_name : (c : Candidate) (pkg p : AddedPackage) → package_unless_other_than_candidate c pkg ≡ Ok p → package_name p.value ≡ c.name
same_name c pkg p is =
    let passed = passed_tests _ (bytes_eq c.name (package_name pkg.value)) _ _ _ _ pkg p is in
    sym ((bytes_decides c.name (package_name pkg.value)).0 passed.0 ∙ ap (λ (q : AddedPackage). package_name q.value) passed.1)

named_by_file : (c : Candidate) (file : Option (List ℕ)) (p : AddedPackage) → added_package_or_refusal c file ≡ Ok p → package_name p.value ≡ c.name
named_by_file c None p is = absurd (cc)
named_by_file c (Some file) p is = go (package_fault file) is
  where
    go : (fault : Option Cause) → package_unless_bad_or_different c fault (package_in_file file) ≡ Ok p → package_name p.value ≡ c.name
    go None is = same_name c (package_in_file file) p is
    go (Some cause) is = absurd (cc)

named_by_path : (read : Reads) (n : ℕ) (c : Candidate) (path : Option (List ℕ)) (p : AddedPackage) → added_package_by_path read n c path ≡ Ok p → package_name p.value ≡ c.name
named_by_path read n c None p is = named_by_file c None p is
named_by_path read n c (Some path) p is = named_by_file c (read n path) p is

-- scripts leave a value as it is
by_number : {A : Type 0} (name : List ℕ) (n : Option ℕ) (a b : A) → unless_script_number name n a ≡ Ok b → a ≡ b
by_number name None a b is = cc
by_number name (Some k) a b is = absurd (cc)

by_scripts : {A : Type 0} (no_scripts : Bool) (name : List ℕ) (pkg : Plain) (numbers : List ℕ) (a b : A) → unless_script_needed no_scripts name pkg numbers a ≡ Ok b → a ≡ b
by_scripts true name pkg numbers a b is = cc
by_scripts false name pkg numbers a b is = by_number name (first_script_number_of_package pkg numbers) a b is

none_goes : (no_scripts : Bool) (name : List ℕ) (change : Change) (before : Option Plain) (m : MemberFound) → no_member_unless_removal_needs_script no_scripts name change before ≡ Ok (Some m) → ⊥
none_goes no_scripts name change None m is = cc
none_goes no_scripts name change (Some pkg) m is =
    let same : None ≡ Some m = by_scripts no_scripts name pkg (scripts_of_change change) None (Some m) is in cc

-- ---- what a name comes to has the name, and its candidate is selected

module _ (read : Reads) (repositories : List Repository) (no_scripts : Bool) (n : ℕ) (name : List ℕ) where
  named : (change : Option Change) (before : Option Plain) (selected : Option Candidate) (m : MemberFound) → ((pkg : Plain) → before ≡ Some pkg → package_name pkg ≡ name) → ((c : Candidate) → selected ≡ Some c → c.name ≡ name)
      → member_of_name_by_change read repositories no_scripts n name change before selected ≡ Ok (Some m) → member_name m.member ≡ name
  named None None selected m old new is = absurd (cc)
  named None (Some pkg) selected m old new is =
      let same : kept_member_found pkg ≡ m = cc in
      sym (ap (λ (x : MemberFound). member_name x.member) same) ∙ old pkg refl
  named (Some change) before None m old new is = absurd (none_goes no_scripts name change before m is)
  named (Some change) before (Some c) m old new is =
      let part = given (added_package_by_path read n c (package_file_path_of_candidate repositories c)) (λ pkg. unless_script_needed no_scripts name pkg.value (scripts_of_change change) (Some (added_member_found pkg))) (Some m) is in
      let same : Some (added_member_found part.0) ≡ Some m = by_scripts no_scripts name part.0.value (scripts_of_change change) (Some (added_member_found part.0)) (Some m) part.2 in
      let found : added_member_found part.0 ≡ m = cc in
      sym (ap (λ (x : MemberFound). member_name x.member) found) ∙ (named_by_path read n c (package_file_path_of_candidate repositories c) part.0 part.1 ∙ new c refl)

  chosen : (is_again : Bool) (before : Option Plain) (selected : Option Candidate) (m : MemberFound) → member_of_name_by_change read repositories no_scripts n name (change_between is_again name before selected) before selected ≡ Ok (Some m) → (c : Candidate) × (selected ≡ Some c)
  chosen is_again None None m is = absurd (cc)
  chosen is_again (Some pkg) None m is = absurd (none_goes no_scripts name (Purge name (package_version_text pkg)) (Some pkg) m is)
  chosen is_again None (Some c) m is = (c, refl)
  chosen is_again (Some pkg) (Some c) m is = (c, refl)

-- ---- the first of a list

abbrev names_of_selected : List Candidate → List (List ℕ)
names_of_selected cs = map (λ (c : Candidate). c.name) cs

module _ {X : Type 0} (p : X → Bool) where
  found_passes : (xs : List X) (x : X) → find p xs ≡ Some x → p x ≡ true
  found_passes [] x is = absurd (cc)
  found_passes (y ∷ xs) x is = go (p y) refl is (found_passes xs x)
    where
      go : (t : Bool) → p y ≡ t → cond t (Some y) (find p xs) ≡ Some x → (find p xs ≡ Some x → p x ≡ true) → p x ≡ true
      go true e is rest = let same : y ≡ x = cc in subst (λ z. p z ≡ true) same e
      go false e is rest = rest is

in_selected : (p : Candidate → Bool) (cs : List Candidate) (c : Candidate) → find p cs ≡ Some c → IsIn c.name (names_of_selected cs)
in_selected p [] c is = absurd (cc)
in_selected p (d ∷ cs) c is = go (p d) is (in_selected p cs c)
  where
    go : (t : Bool) → cond t (Some d) (find p cs) ≡ Some c → (find p cs ≡ Some c → IsIn c.name (names_of_selected cs)) → IsIn c.name (names_of_selected (d ∷ cs))
    go true is rest = inl (let same : d ≡ c = cc in ap (λ (x : Candidate). x.name) (sym same))
    go false is rest = inr (rest is)

in_pool : (cs : List Candidate) (n : ℕ) (c : Candidate) → slice_get cs n ≡ Some c → IsIn c.name (names_of_selected cs)
in_pool [] n c is = absurd (cc)
in_pool (d ∷ cs) zero c is = inl (let same : d ≡ c = cc in ap (λ (x : Candidate). x.name) (sym same))
in_pool (d ∷ cs) (suc n) c is = inr (in_pool cs n c is)

pub at_places : (pool : SelectionProblem) (places : List ℕ) (q : List ℕ) → IsIn q (names_of_selected (candidates_at pool places)) → IsIn q (names_of_selected pool.candidates)
at_places pool [] q here = absurd here
at_places pool (n ∷ places) q here = go (candidate_at pool n) refl here (at_places pool places q)
  where
    go : (o : Option Candidate) → candidate_at pool n ≡ o → IsIn q (names_of_selected (cons_option o (candidates_at pool places))) → (IsIn q (names_of_selected (candidates_at pool places)) → IsIn q (names_of_selected pool.candidates)) → IsIn q (names_of_selected pool.candidates)
    go None e here rest = rest here
    go (Some c) e (inl is) rest = subst (λ x. IsIn x (names_of_selected pool.candidates)) (sym is) (in_pool pool.candidates n c e)
    go (Some c) e (inr more) rest = rest more

-- ---- all names

abbrev pub found_names : List MemberFound → List (List ℕ)
found_names found = map (λ (m : MemberFound). member_name m.member) found

module _ (r : Replacement) (read : Reads) (repositories : List Repository) (no_scripts : Bool) where
  one_named : (n : ℕ) (name : List ℕ) (m : MemberFound) → member_of_name_after r read repositories no_scripts n name ≡ Ok (Some m) → (member_name m.member ≡ name) × IsIn name (names_of_selected r.selected)
  unfolding change_of_name
  one_named n name m is =
      let new : (c : Candidate) → find (is_candidate_named name) r.selected ≡ Some c → c.name ≡ name = λ c e. (bytes_decides c.name name).0 (found_passes (is_candidate_named name) r.selected c e) in
      let picked = chosen read repositories no_scripts n name _ (find (is_package_named name) r.before) (find (is_candidate_named name) r.selected) m is in (
        named read repositories no_scripts n name (change_of_name r name) (find (is_package_named name) r.before) (find (is_candidate_named name) r.selected) m
            (λ pkg e. (bytes_decides (package_name pkg) name).0 (found_passes (is_package_named name) r.before pkg e)) new is,
        subst (λ x. IsIn x (names_of_selected r.selected)) (new picked.0 picked.1) (in_selected (is_candidate_named name) r.selected picked.0 picked.1),
      )

  pub record AreNamed (names : List (List ℕ)) (found : List MemberFound) : Type 0 where
    pub rises : Rises (found_names found)
    pub among : (q : List ℕ) → IsIn q (found_names found) → IsIn q names
    pub selected : (q : List ℕ) → IsIn q (found_names found) → IsIn q (names_of_selected r.selected)

  all_named : (n : ℕ) (names : List (List ℕ)) (found : List MemberFound) → Rises names → members_of_names_after r read repositories no_scripts n names ≡ Ok found → AreNamed names found
  all_named n [] found rises is =
      let same : [] ≡ found = cc in
      subst (AreNamed []) same (record { rises = tt; among = λ q here. here; selected = λ q here. absurd here })
  all_named n (name ∷ names) found rises is =
      let first = given (member_of_name_after r read repositories no_scripts n name) (λ first. and_then (members_of_names_after r read repositories no_scripts (suc n) names) (λ others. Ok (cons_option first others))) found is in
      let others = given (members_of_names_after r read repositories no_scripts (suc n) names) (λ others. Ok (cons_option first.0 others)) found first.2 in
      let same : cons_option first.0 others.0 ≡ found = cc (others.2) in
      subst (AreNamed (name ∷ names)) same (go first.0 first.1 others.0 (all_named (suc n) names others.0 rises.1 others.1))
    where
      go : (first : Option MemberFound) → member_of_name_after r read repositories no_scripts n name ≡ Ok first → (others : List MemberFound) → AreNamed names others → AreNamed (name ∷ names) (cons_option first others)
      go None is others rest = record { rises = rest.rises; among = λ q here. inr (rest.among q here); selected = rest.selected }
      go (Some m) is others rest =
          let one = one_named n name m is in
          record {
            rises = (λ q here. subst (λ x. order x q ≡ Less) (sym one.0) (rises.0 q (rest.among q here)), rest.rises);
            among = λ q here. elim here [ inl e ↦ inl (e ∙ one.0) | inr more ↦ inr (rest.among q more) ];
            selected = λ q here. elim here [
              | inl e ↦ subst (λ x. IsIn x (names_of_selected r.selected)) (sym (e ∙ one.0)) one.1
              | inr more ↦ rest.selected q more
            ];
          }

  pub after_named : (found : List MemberFound) → members_after r read repositories no_scripts ≡ Ok found → AreNamed (names_before_and_selected r) found
  unfolding members_after
  after_named found is = all_named (first_index_read_number + length repositories) (names_before_and_selected r) found (order_rises _) is

-- ---- in order

names_of_members : (found : List MemberFound) → map member_name (found_members found) ≡ found_names found
names_of_members [] = refl
names_of_members (m ∷ found) = ap (λ z. member_name m.member ∷ z) (names_of_members found)

pub members_rise : (r : Replacement) (read : Reads) (repositories : List Repository) (no_scripts : Bool) (found : List MemberFound) → members_after r read repositories no_scripts ≡ Ok found → AreMembersInNameOrder (found_members found)
members_rise r read repositories no_scripts found is =
    subst AreSortedDistinctTexts (sym (names_of_members found)) (pairs_from_rises _ (after_named r read repositories no_scripts found is).rises)

-- ---- few

abbrev without_one : (x : List ℕ) (ys : List (List ℕ)) → IsIn x ys → List (List ℕ)
without_one x [] here = []
without_one x (y ∷ ys) (inl e) = ys
without_one x (y ∷ ys) (inr more) = y ∷ without_one x ys more

one_less : (x : List ℕ) (ys : List (List ℕ)) (here : IsIn x ys) → length ys ≡ suc (length (without_one x ys here))
one_less x [] here = absurd here
one_less x (y ∷ ys) (inl e) = refl
one_less x (y ∷ ys) (inr more) = ap suc (one_less x ys more)

still_in : (x q : List ℕ) (ys : List (List ℕ)) (here : IsIn x ys) → q ≢ x → IsIn q ys → IsIn q (without_one x ys here)
still_in x q [] here other there = absurd here
still_in x q (y ∷ ys) (inl e) other (inl is) = absurd (other (is ∙ sym e))
still_in x q (y ∷ ys) (inl e) other (inr more) = more
still_in x q (y ∷ ys) (inr before) other (inl is) = inl is
still_in x q (y ∷ ys) (inr before) other (inr more) = inr (still_in x q ys before other more)

-- names in byte order, each once, are no more than a list that has them all
pub no_more : (xs ys : List (List ℕ)) → Rises xs → ((q : List ℕ) → IsIn q xs → IsIn q ys) → length xs ≤ length ys
no_more [] ys rises among = omega arith
no_more (x ∷ xs) ys rises among =
    let here = among x (inl refl) in
    let less = one_less x ys here in
    let fewer = no_more xs (without_one x ys here) rises.1 (λ q there. still_in x q ys here (λ same. other q same (rises.0 q there)) (among q (inr there))) in
    omega (arith, less, fewer)
  where
    other : (q : List ℕ) → q ≡ x → order x q ≡ Less → ⊥
    other q same is = let equal : order x x ≡ Equal = tied_itself nat_list_cmp_total x in let less : order x x ≡ Less = subst (λ z. order x z ≡ Less) same is in cc

count_names : (found : List MemberFound) → length (found_names found) ≡ length found
count_names [] = refl
count_names (m ∷ found) = ap suc (count_names found)

count_candidates : (cs : List Candidate) → length (names_of_selected cs) ≡ length cs
count_candidates [] = refl
count_candidates (c ∷ cs) = ap suc (count_candidates cs)

pub members_few : (p : ReplacementWithSelectionAsPlaces) (read : Reads) (repositories : List Repository) (no_scripts : Bool) (found : List MemberFound) → members_after (replacement_of p) read repositories no_scripts ≡ Ok found → length found ≤ length p.pool.candidates
members_few p read repositories no_scripts found is =
    let are = after_named (replacement_of p) read repositories no_scripts found is in
    let most = no_more (found_names found) (names_of_selected p.pool.candidates) are.rises (λ q here. at_places p.pool p.trace q (are.selected q here)) in
    omega (arith, most, count_names found, count_candidates p.pool.candidates)
