-- The packages that were read are those after the change.
use Rattle.std.proofs.Common.{◌≡◌, ℕ, suc, ◌+◌, ◌≤◌, Bool, List, [], ◌∷◌, map, length, Option, Some, None, Result, Ok, Err, refl, sym, ap, ◌∙◌, subst}
use Rattle.std.specs.List.{cons_option, find, slice_get}
use Rattle.std.specs.Result.{IsErrAnd}
use Rattle.adb_view.specs.Plain.{Plain}
use Rattle.base_core.specs.Tree.{TreeState}
use Rattle.change_inputs.specs.Chains.{and_then}
use Rattle.change_inputs.specs.Answers.{IsDiskOrMemoryFailure}
use Rattle.change_inputs.specs.Inputs.{first_index_read_number}
use Rattle.change_inputs.specs.declared.root.Refused.{Refused}
use Rattle.change_inputs.specs.declared.root.Refused.TheVariants.{Disk, Memory, Refusal}
use Rattle.change_outcome.specs.MembersAfter.{MemberFound, members_after, member_of_name_after, member_of_name_by_change, members_of_names_after}
use Rattle.db_core.specs.Packages.{is_package_named}
use Rattle.db_core.specs.declared.members.TheConstants.{MOST_MEMBERS}
use Rattle.dep_core.specs.Repositories.{Repository}
use Rattle.change_inputs.specs.make_info.Reads.{Reads}
use Rattle.change_inputs.specs.package_files.Runs.{HoldsOfSomeReadsOfTree}
use Rattle.package_changes.specs.Changes.{change_of_name, is_candidate_named, names_before_and_selected}
use Rattle.package_changes.specs.Placed.{PlacedName, ReplacementWithSelectionAsPlaces, candidates_at, candidate_at_new_place, package_at_old_place, name_with_change_and_old_and_pool_place, names_with_change_and_old_and_pool_place, replacement_of}
use Rattle.change_inputs.specs.candidate_core.Rank.{SelectionProblem}
use Rattle.report_core.specs.declared.refusal.Refusal as Refusals
use Rattle.change_outcome.specs.Answered.{DenotesUnlessDisk}
use Rattle.change_outcome.specs.Arrivals.{AreMembersFoundFromOldPackagesAndReads, CanBeMembers}
use Rattle.change_outcome.specs.NameReads.{IsAnswerByRead, IsNameRead, member_of_name_by_read}
use Rattle.change_outcome.specs.declared.arrivals.MemberRead.{MemberRead}
use Rattle.change_outcome.proofs.ArrivalSteps.{IsReadTo, names_read, read_all, read_refused, reads_are, reads_by}
use Rattle.change_outcome.proofs.ReadMembers.{can_be}

-- where the places of a name lead
pub record PlacesLead : Type 0 where
  pub name : (p : ReplacementWithSelectionAsPlaces) (name : List ℕ) → (name_with_change_and_old_and_pool_place p name).name ≡ name
  pub change : (p : ReplacementWithSelectionAsPlaces) (name : List ℕ) → (name_with_change_and_old_and_pool_place p name).change ≡ change_of_name (replacement_of p) name
  pub old : (p : ReplacementWithSelectionAsPlaces) (name : List ℕ) → package_at_old_place p.before (name_with_change_and_old_and_pool_place p name) ≡ find (is_package_named name) p.before
  pub new : (p : ReplacementWithSelectionAsPlaces) (name : List ℕ) → candidate_at_new_place p.pool (name_with_change_and_old_and_pool_place p name) ≡ find (is_candidate_named name) (candidates_at p.pool p.trace)

module _ (law : PlacesLead) (p : ReplacementWithSelectionAsPlaces) (repositories : List Repository) (no_scripts : Bool) where
  one_name : (read : Reads) (n : ℕ) (name : List ℕ) → member_of_name_after (replacement_of p) read repositories no_scripts n name ≡ member_of_name_by_read p.before p.pool repositories no_scripts (name_with_change_and_old_and_pool_place p name) read n
  one_name read n name =
      let e0 : name ≡ (name_with_change_and_old_and_pool_place p name).name = sym (law.name p name) in
      let e1 : change_of_name (replacement_of p) name ≡ (name_with_change_and_old_and_pool_place p name).change = sym (law.change p name) in
      let e2 : find (is_package_named name) p.before ≡ package_at_old_place p.before (name_with_change_and_old_and_pool_place p name) = sym (law.old p name) in
      let e3 : find (is_candidate_named name) (candidates_at p.pool p.trace) ≡ candidate_at_new_place p.pool (name_with_change_and_old_and_pool_place p name) = sym (law.new p name) in
      λ i. member_of_name_by_change read repositories no_scripts n (e0 i) (e1 i) (e2 i) (e3 i)

  each_name : (read : Reads) (n : ℕ) (names : List (List ℕ)) → members_of_names_after (replacement_of p) read repositories no_scripts n names ≡ names_read p.before p.pool repositories no_scripts read n (map (name_with_change_and_old_and_pool_place p) names)
  each_name read n [] = refl
  each_name read n (name ∷ names) =
      let here : member_of_name_after (replacement_of p) read repositories no_scripts n name ≡ member_of_name_by_read p.before p.pool repositories no_scripts (name_with_change_and_old_and_pool_place p name) read n = one_name read n name in
      let rest : members_of_names_after (replacement_of p) read repositories no_scripts (suc n) names ≡ names_read p.before p.pool repositories no_scripts read (suc n) (map (name_with_change_and_old_and_pool_place p) names) = each_name read (suc n) names in
      λ i. and_then (here i) (λ first. and_then (rest i) (λ others. Ok (cons_option first others)))

  pub members_are : (read : Reads) (names : List PlacedName) → names ≡ names_with_change_and_old_and_pool_place p → members_after (replacement_of p) read repositories no_scripts ≡ names_read p.before p.pool repositories no_scripts read (first_index_read_number + length repositories) names
  unfolding members_after names_with_change_and_old_and_pool_place
  members_are read names are =
      each_name read (first_index_read_number + length repositories) (names_before_and_selected (replacement_of p))
      ∙ ap (names_read p.before p.pool repositories no_scripts read (first_index_read_number + length repositories)) (sym are)

  module _ {A : Type 0} (reads_of : A → List MemberRead) (h : List TreeState) (names : List PlacedName) (are : names ≡ names_with_change_and_old_and_pool_place p) where
    abbrev pub IsExplained : Result A Refused → Type 0
    IsExplained r = HoldsOfSomeReadsOfTree h (λ read. DenotesUnlessDisk (λ a found. AreMembersFoundFromOldPackagesAndReads h p.before (reads_of a) found) r (members_after (replacement_of p) read repositories no_scripts))

    pub explained_failure : (P : Refused → Type 0) (r : Result A Refused) → ((e : Refused) → P e → IsDiskOrMemoryFailure e) → IsErrAnd r P → IsExplained r
    explained_failure P r fails is = record { read = reads_by h (λ k. None); observed = reads_are h (λ k. None); is = go r is }
      where
        go : (r : Result A Refused) → IsErrAnd r P → DenotesUnlessDisk (λ a found. AreMembersFoundFromOldPackagesAndReads h p.before (reads_of a) found) r (members_after (replacement_of p) (reads_by h (λ k. None)) repositories no_scripts)
        go (Ok a) is = absurd is
        go (Err (Refusal refusal)) is = absurd (fails (Refusal refusal) is)
        go (Err Disk) is = tt
        go (Err Memory) is = tt

    explained_handed : (r : Result A Refused) (fault : Refused) → IsErrAnd r (λ e. e ≡ fault) → IsExplained (Err fault) → IsExplained r
    explained_handed (Ok a) fault is answers = absurd is
    explained_handed (Err e) fault is answers = let P : Refused → Type 0 = λ x. IsExplained (Err x) in subst P (sym is) answers

    pub explained_refusal : (i : ℕ) (name : PlacedName) (reads : List MemberRead) (r : Result A Refused) (fault : Refused) → IsErrAnd r (λ e. e ≡ fault) → slice_get names i ≡ Some name
        → IsReadTo p.before p.pool repositories no_scripts h (first_index_read_number + length repositories) names i reads
        → IsAnswerByRead (IsNameRead h p.before) h (member_of_name_by_read p.before p.pool repositories no_scripts name) (Err fault) → IsExplained r
    explained_refusal i name reads r fault is here so_far answers = explained_handed r fault is (go fault answers)
      where
        go : (x : Refused) → IsAnswerByRead (IsNameRead h p.before) h (member_of_name_by_read p.before p.pool repositories no_scripts name) (Err x) → IsExplained (Err x)
        go (Refusal refusal) by =
            let refused = read_refused p.before p.pool repositories no_scripts h (first_index_read_number + length repositories) names i name reads here so_far refusal by in
            record {
              read = reads_by h refused.0;
              observed = reads_are h refused.0;
              is = members_are (reads_by h refused.0) names are ∙ refused.1;
            }
        go Disk by = record { read = reads_by h (λ k. None); observed = reads_are h (λ k. None); is = tt }
        go Memory by = record { read = reads_by h (λ k. None); observed = reads_are h (λ k. None); is = tt }

    pub explained_all : (i : ℕ) (a : A) (reads : List MemberRead) → reads_of a ≡ reads → length names ≤ i
        → IsReadTo p.before p.pool repositories no_scripts h (first_index_read_number + length repositories) names i reads → IsExplained (Ok a)
    explained_all i a reads has past so_far =
        let all = read_all p.before p.pool repositories no_scripts h (first_index_read_number + length repositories) names i reads past so_far in
        record {
          read = reads_by h all.0;
          observed = reads_are h all.0;
          is = (
            all.1,
            members_are (reads_by h all.0) names are ∙ all.2,
            subst (λ z. AreMembersFoundFromOldPackagesAndReads h p.before z all.1) (sym has) all.3,
          );
        }

-- the packages that were read can be members
pub can_be_members : PlacesLead → (p : ReplacementWithSelectionAsPlaces) (repositories : List Repository) (no_scripts : Bool) (h : List TreeState) (names : List PlacedName) → names ≡ names_with_change_and_old_and_pool_place p → (i : ℕ) (reads : List MemberRead) → length names ≤ i
    → IsReadTo p.before p.pool repositories no_scripts h (first_index_read_number + length repositories) names i reads → length p.pool.candidates ≤ MOST_MEMBERS → CanBeMembers p.before reads
can_be_members law p repositories no_scripts h names are i reads past so_far few =
    let all = read_all p.before p.pool repositories no_scripts h (first_index_read_number + length repositories) names i reads past so_far in
    can_be h p (reads_by h all.0) repositories no_scripts reads all.1 (members_are law p repositories no_scripts (reads_by h all.0) names are ∙ all.2) all.3 few

-- what is answered of a tree that is as it was
pub answer_as_before : (now old : List TreeState) (before : List Plain) (by : Reads → ℕ → Result (Option MemberFound) Refusals.Refusal) (r : Result (Option MemberRead) Refused) → now ≡ old → IsAnswerByRead (IsNameRead now before) now by r → IsAnswerByRead (IsNameRead old before) old by r
answer_as_before now old before by r same answers = subst (λ (t : List TreeState). IsAnswerByRead (IsNameRead t before) t by r) same answers
