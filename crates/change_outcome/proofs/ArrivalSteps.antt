-- The packages after a change, name after name.
use Rattle.std.proofs.Common.{◌≡◌, ℕ, zero, suc, ◌+◌, ◌<◌, ◌≤◌, ◌==◌, Bool, true, false, if◌then◌else◌, List, [], ◌∷◌, ◌++◌, length, drop, Option, Some, None, Result, Ok, Err, refl, sym, ap, ◌∙◌, subst, append_assoc, append-nil, arith, inl, inr}
use Rattle.std.proofs.lemmas.Bool.Decides.{eqb_tells}
use Rattle.std.proofs.Math.ListN.{drop_of_length-le}
use Rattle.std.specs.Prelude.{option_to_list}
use Rattle.std.specs.List.{cons_option, slice_get}
use Rattle.adb_view.specs.Plain.{Plain}
use Rattle.base_core.specs.Tree.{TreeState, files_of}
use Rattle.change_inputs.specs.Chains.{and_then}
use Rattle.change_inputs.specs.declared.root.Refused.{Refused}
use Rattle.change_inputs.specs.declared.root.Refused.TheVariants.{Disk, Memory, Refusal}
use Rattle.change_outcome.specs.MembersAfter.{MemberFound}
use Rattle.dep_core.specs.Repositories.{Repository}
use Rattle.change_inputs.specs.make_info.Reads.{Reads}
use Rattle.change_inputs.specs.package_files.Runs.{AreReadsOfTreeIfObservable}
use Rattle.package_changes.specs.Placed.{PlacedName}
use Rattle.package_changes.proofs.Lists.{left_at}
use Rattle.change_inputs.specs.candidate_core.Rank.{SelectionProblem}
use Rattle.report_core.specs.declared.refusal.Refusal as Refusals
use Rattle.change_outcome.specs.Arrivals.{AreMembersFoundFromOldPackagesAndReads, IsMemberRead}
use Rattle.change_outcome.specs.NameReads.{FindsTreeFileOrFound, IsAnswerByRead, IsByRead, IsNameRead, member_of_name_by_read}
use Rattle.change_outcome.specs.declared.arrivals.MemberRead.{MemberRead}

-- ---- reads

-- a tree that shows its files is read, and else this is found at each number
abbrev pub reads_by : List TreeState → (ℕ → Option (List ℕ)) → Reads
reads_by [] at n name = at n
reads_by (v ∷ earlier) at n name = files_of v name

pub reads_are : (h : List TreeState) (at : ℕ → Option (List ℕ)) → AreReadsOfTreeIfObservable h (reads_by h at)
reads_are [] at = tt
reads_are (v ∷ earlier) at = λ n name. refl

finds_here : (h : List TreeState) (at : ℕ → Option (List ℕ)) (n : ℕ) (found : Option (List ℕ)) → at n ≡ found → FindsTreeFileOrFound h (reads_by h at) n found
finds_here [] at n found is = λ name. is
finds_here (v ∷ earlier) at n found is = λ name. refl

-- what is found at one number more
abbrev with_at : (ℕ → Option (List ℕ)) → ℕ → Option (List ℕ) → ℕ → Option (List ℕ)
with_at at n found k = if k == n then found else at k

at_itself : (at : ℕ → Option (List ℕ)) (n : ℕ) (found : Option (List ℕ)) → with_at at n found n ≡ found
at_itself at n found = elim (eqb_tells n n) [
  | inl p ↦ ap (λ t. if t then found else at n) p.0
  | inr p ↦ absurd (p.1 refl)
]

at_others : (at : ℕ → Option (List ℕ)) (n : ℕ) (found : Option (List ℕ)) (k : ℕ) → k < n → with_at at n found k ≡ at k
at_others at n found k lt = elim (eqb_tells k n) [
  | inl p ↦ (let same : k ≡ n = p.1 in absurd (omega (arith, same, lt)))
  | inr p ↦ ap (λ t. if t then found else at k) p.0
]

-- ---- in front of what is to come

abbrev pub in_front : List MemberFound → Result (List MemberFound) Refusals.Refusal → Result (List MemberFound) Refusals.Refusal
in_front found r = and_then r (λ others. Ok (found ++ others))

front_none : (r : Result (List MemberFound) Refusals.Refusal) → r ≡ in_front [] r
front_none (Ok found) = refl
front_none (Err refusal) = refl

front_more : (found : List MemberFound) (m : Option MemberFound) (r : Result (List MemberFound) Refusals.Refusal) → in_front found (and_then r (λ others. Ok (cons_option m others))) ≡ in_front (found ++ option_to_list m) r
front_more found None (Ok others) = ap (λ z. Ok (z ++ others)) (sym (append-nil found))
front_more found (Some m) (Ok others) = ap (λ z. Ok z) (sym (append_assoc found (m ∷ []) others))
front_more found m (Err refusal) = refl

are_more : (h : List TreeState) (before : List Plain) (reads : List MemberRead) (found : List MemberFound) (r : Option MemberRead) (m : Option MemberFound) → AreMembersFoundFromOldPackagesAndReads h before reads found → IsNameRead h before r m → AreMembersFoundFromOldPackagesAndReads h before (reads ++ option_to_list r) (found ++ option_to_list m)
are_more h before [] [] None None are is = tt
are_more h before [] [] (Some r) (Some m) are is = (is, tt)
are_more h before [] [] None (Some m) are is = absurd is
are_more h before [] [] (Some r) None are is = absurd is
are_more h before [] (m ∷ found) r o are is = absurd are
are_more h before (r ∷ reads) [] p o are is = absurd are
are_more h before (r ∷ reads) (m ∷ found) p o are is = (are.0, are_more h before reads found p o are.1 is)

module _ (before : List Plain) (pool : SelectionProblem) (repositories : List Repository) (no_scripts : Bool) where
  -- what names come to, of which the first has this number
  abbrev pub names_read : Reads → ℕ → List PlacedName → Result (List MemberFound) Refusals.Refusal
  names_read read n [] = Ok []
  names_read read n (name ∷ names) =
      and_then (member_of_name_by_read before pool repositories no_scripts name read n) (λ first.
      and_then (names_read read (suc n) names) (λ others. Ok (cons_option first others)))

  module _ (h : List TreeState) (first : ℕ) (names : List PlacedName) where
    -- so far these were found, whatever is found behind them
    pub record IsReadTo (i : ℕ) (reads : List MemberRead) : Type 0 where
      pub at : ℕ → Option (List ℕ)
      pub found : List MemberFound
      pub are : AreMembersFoundFromOldPackagesAndReads h before reads found
      pub leads : (other : ℕ → Option (List ℕ)) → ((k : ℕ) → k < first + i → other k ≡ at k) → names_read (reads_by h other) first names ≡ in_front found (names_read (reads_by h other) (first + i) (drop i names))

    pub read_none : (reads : List MemberRead) → reads ≡ [] → IsReadTo 0 reads
    read_none reads none = record {
      at = λ k. None;
      found = [];
      are = subst (λ z. AreMembersFoundFromOldPackagesAndReads h before z []) (sym none) tt;
      leads = λ other same.
          (let begin : first + 0 ≡ first = omega arith in
          front_none (names_read (reads_by h other) first names) ∙ ap (λ n. in_front [] (names_read (reads_by h other) n names)) (sym begin));
    }

    module _ (i : ℕ) (name : PlacedName) (reads : List MemberRead) (here : slice_get names i ≡ Some name) (so_far : IsReadTo i reads) where
      -- a name that comes to this, by the read that has its number
      abbrev at_name : Option (List ℕ) → ℕ → Option (List ℕ)
      at_name file = with_at so_far.at (first + i) file

      leads_here : (wanted : Result (Option MemberFound) Refusals.Refusal) (by : IsByRead h (member_of_name_by_read before pool repositories no_scripts name) wanted) (other : ℕ → Option (List ℕ)) → ((k : ℕ) → k < suc (first + i) → other k ≡ at_name by.found k)
          → names_read (reads_by h other) first names ≡ in_front so_far.found (and_then wanted (λ m. and_then (names_read (reads_by h other) (suc (first + i)) (drop (i + 1) names)) (λ others. Ok (cons_option m others))))
      leads_here wanted by other same =
          so_far.leads other (λ k lt. same k (omega (arith, lt)) ∙ at_others so_far.at (first + i) by.found k lt)
          ∙ (ap (λ z. in_front so_far.found (names_read (reads_by h other) (first + i) z)) (left_at names i name here)
          ∙ ap (λ (r : Result (Option MemberFound) Refusals.Refusal). in_front so_far.found (and_then r (λ m. and_then (names_read (reads_by h other) (suc (first + i)) (drop (i + 1) names)) (λ others. Ok (cons_option m others)))))
          (by.is (reads_by h other) (first + i) (finds_here h other (first + i) by.found (same (first + i) (omega arith) ∙ at_itself so_far.at (first + i) by.found))))

      pub read_more : (r : Option MemberRead) (next : List MemberRead) → next ≡ reads ++ option_to_list r → IsAnswerByRead (IsNameRead h before) h (member_of_name_by_read before pool repositories no_scripts name) (Ok r) → IsReadTo (i + 1) next
      read_more r next pushed (m, by, is) = record {
        at = at_name by.found;
        found = so_far.found ++ option_to_list m;
        are = subst (λ z. AreMembersFoundFromOldPackagesAndReads h before z (so_far.found ++ option_to_list m)) (sym pushed) (are_more h before reads so_far.found r m so_far.are is);
        leads = λ other same.
            (let more : suc (first + i) ≡ first + (i + 1) = omega arith in
            leads_here (Ok m) by other (λ k lt. same k (omega (arith, lt)))
            ∙ (front_more so_far.found m (names_read (reads_by h other) (suc (first + i)) (drop (i + 1) names))
            ∙ ap (λ n. in_front (so_far.found ++ option_to_list m) (names_read (reads_by h other) n (drop (i + 1) names))) more));
      }

      pub read_refused : (refusal : Refusals.Refusal) → IsByRead h (member_of_name_by_read before pool repositories no_scripts name) (Err refusal) → (at : ℕ → Option (List ℕ)) × (names_read (reads_by h at) first names ≡ Err refusal)
      read_refused refusal by = (at_name by.found, leads_here (Err refusal) by (at_name by.found) (λ k lt. refl))

    pub read_all : (i : ℕ) (reads : List MemberRead) → length names ≤ i → IsReadTo i reads → (at : ℕ → Option (List ℕ)) × (found : List MemberFound) × (names_read (reads_by h at) first names ≡ Ok found) × AreMembersFoundFromOldPackagesAndReads h before reads found
    read_all i reads past so_far = (
      so_far.at,
      so_far.found,
      so_far.leads so_far.at (λ k lt. refl)
          ∙ (ap (λ z. in_front so_far.found (names_read (reads_by h so_far.at) (first + i) z)) (drop_of_length-le names past)
          ∙ ap (λ z. Ok z) (append-nil so_far.found)),
      so_far.are,
    )
