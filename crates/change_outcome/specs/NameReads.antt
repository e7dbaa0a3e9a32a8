-- The result of a call that reads the package of one name, given the file that its read finds. The rules are in
-- `docs/commands.md`, "`add` and `del`", parts "What is read" and "What is refused". The definition that follows them
-- is *member_of_name_by_change* of `change_outcome`. Serves the contracts of `src/package.rt` and `src/arrivals.rt`.
use Rattle.std.specs.Prelude.{◌≡◌, ℕ, Bool, List, [], ◌∷◌, Option, Some, None, Result, Ok, Err, option_map}
use Rattle.adb_view.specs.Plain.{Plain}
use Rattle.base_core.specs.Tree.{TreeState, files_of}
use Rattle.change_inputs.specs.Chains.{and_then}
use Rattle.change_inputs.specs.declared.root.Refused.{Refused}
use Rattle.change_inputs.specs.declared.root.Refused.TheVariants.{Disk, Memory, Refusal}
use Rattle.change_outcome.specs.MembersAfter.{MemberFound, added_package_by_path, member_of_name_by_change, kept_member_found}
use Rattle.change_outcome.specs.PackageFiles.{AddedPackage, package_file_path_of_candidate, added_package_or_refusal, scripts_of_change, unless_script_needed}
use Rattle.dep_core.specs.Repositories.{Repository}
use Rattle.change_inputs.specs.make_info.Reads.{Reads}
use Rattle.package_changes.specs.Placed.{PlacedName, candidate_at_new_place, package_at_old_place}
use Rattle.change_inputs.specs.candidate_core.Candidates.{Candidate}
use Rattle.change_inputs.specs.candidate_core.Rank.{SelectionProblem}
use Rattle.report_core.specs.Reports.{Change}
use Rattle.report_core.specs.declared.refusal.Refusal as Refusals
use Rattle.change_outcome.specs.Arrivals.{IsMemberRead}
use Rattle.change_outcome.specs.declared.arrivals.MemberRead.{MemberRead}

-- the read with number `n` finds, under each name, the tree's file on an observable tree, and otherwise `found`
abbrev pub FindsTreeFileOrFound : List TreeState → Reads → ℕ → Option (List ℕ) → Type 0
FindsTreeFileOrFound [] read n found = (name : List ℕ) → read n name ≡ found
FindsTreeFileOrFound (v ∷ earlier) read n found = (name : List ℕ) → read n name ≡ files_of v name

-- The definition `by`, whose arguments are a map of reads and the number of a read, has the value `wanted` if this read
-- finds some contents `found`; on an observable tree these are the tree's file.
pub record IsByRead {B : Type 0} (history : List TreeState) (by : Reads → ℕ → B) (wanted : B) :
    Type 0 where
  -- the bytes that are found, or none
  pub found : Option (List ℕ)
  -- the definition has the value `wanted` for each map of reads that finds these bytes
  pub is : (read : Reads) (n : ℕ) → FindsTreeFileOrFound history read n found → by read n ≡ wanted

-- The result of a call is that of the definition `by` for such a read (*IsByRead*): its value denotes the definition's,
-- or it is the definition's refusal. An I/O error of the tree and out of memory say nothing.
abbrev pub IsAnswerByRead :
    {A B : Type 0} → (A → B → Type 0) → List TreeState
    → (Reads → ℕ → Result B Refusals.Refusal) → Result A Refused → Type 0
IsAnswerByRead {A} {B} Denotes history by (Ok a) =
    (b : B) × IsByRead history by (Ok b) × Denotes a b
IsAnswerByRead Denotes history by (Err (Refusal refusal)) = IsByRead history by (Err refusal)
IsAnswerByRead Denotes history by (Err Disk) = Unit {0}
IsAnswerByRead Denotes history by (Err Memory) = Unit {0}

-- the package of a candidate, by what read number `n` finds at this path, or the refusal
abbrev pub package_of_candidate_by_path :
    Candidate → List ℕ → Reads → ℕ → Result AddedPackage Refusals.Refusal
package_of_candidate_by_path c path read n = added_package_or_refusal c (read n path)

-- the package of a candidate, by what read number `n` finds at the path of its file beside the index, or the refusal
abbrev pub package_of_candidate_by_read :
    List Repository → Candidate → Reads → ℕ → Result AddedPackage Refusals.Refusal
package_of_candidate_by_read repositories c read n =
    added_package_by_path read n c (package_file_path_of_candidate repositories c)

-- the package of a candidate, by what read number `n` finds, or the refusal: of its file, or of a script that its
-- change would have to run
abbrev pub added_package_read :
    List Repository → Bool → List ℕ → Change → Candidate → Reads → ℕ
    → Result AddedPackage Refusals.Refusal
added_package_read repositories no_scripts name change c read n =
    and_then (package_of_candidate_by_read repositories c read n) (λ pkg.
    unless_script_needed no_scripts name pkg.value (scripts_of_change change) pkg)

-- the result for a name, by what read number `n` finds as its package's file: a package after the change, None if it is
-- removed, or the refusal
abbrev pub member_of_name_by_read :
    List Plain → SelectionProblem → List Repository → Bool → PlacedName → Reads → ℕ
    → Result (Option MemberFound) Refusals.Refusal
member_of_name_by_read before pool repositories no_scripts name read n =
    member_of_name_by_change read repositories no_scripts n name.name name.change
    (package_at_old_place before name) (candidate_at_new_place pool name)

-- what was read for a name is what the definition finds: both None, or a package as it was read and the found package
abbrev pub IsNameRead :
    List TreeState → List Plain → Option MemberRead → Option MemberFound → Type 0
IsNameRead history before None None = Unit {0}
IsNameRead history before None (Some m) = ⊥
IsNameRead history before (Some r) None = ⊥
IsNameRead history before (Some r) (Some m) = IsMemberRead history before r m

-- `r` is the package `old`, kept as it is in the database `before`; both are None if there was no such package
abbrev pub IsReadOfKeptPackage : List Plain → Option Plain → Option MemberRead → Type 0
IsReadOfKeptPackage before old r =
    (history : List TreeState) → IsNameRead history before r (option_map kept_member_found old)
