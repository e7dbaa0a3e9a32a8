-- The packages after a change, name by name. In these definitions `n` is the number of the read of a package's file,
-- and `no_scripts` says whether scripts may be left out. The rules are in `docs/commands.md`, "`add` and `del`", parts
-- "What is read" and "What is refused".
use Rattle.std.specs.Prelude.{ℕ, suc, ◌+◌, Bool, List, [], ◌∷◌, length, map, Option, Some, None, Result, Ok, option_map, slice_get}
use Rattle.std.specs.Option.{option_map_or}
use Rattle.std.specs.List.{cons_option, find}
use Rattle.adb_view.specs.Plain.{Plain}
use Rattle.change_inputs.specs.Chains.{and_then}
use Rattle.change_inputs.specs.Inputs.{first_index_read_number}
use Rattle.db_core.specs.Members.{Member, member_of_added, member_of_kept}
use Rattle.db_core.specs.Packages.{is_package_named}
use Rattle.dep_core.specs.Repositories.{Repository}
use Rattle.change_inputs.specs.make_info.Reads.{Reads}
use Rattle.package_changes.specs.Changes.{Replacement, change_of_name, is_candidate_named, names_before_and_selected}
use Rattle.db_core.specs.pkg_core.Contents.{Contents}
use Rattle.change_inputs.specs.candidate_core.Candidates.{Candidate}
use Rattle.report_core.specs.Reports.{Change}
use Rattle.report_core.specs.declared.refusal.Refusal.{Refusal}
use Rattle.change_outcome.specs.PackageFiles.{AddedPackage, package_file_path_of_candidate, added_package_or_refusal, scripts_of_change, unless_script_needed}

-- a package after the change; for an added package also the bytes of its file, and the contents of its files
pub record MemberFound : Type 0 where
  -- the package, as one that is installed after the change
  pub member : Member
  -- the bytes of an added package's file; None for a kept package
  pub file : Option (List ℕ)
  -- the contents of an added package's files; none for a kept package
  pub contents : List Contents

-- a kept package, whose files are not read
abbrev pub kept_member_found : Plain → MemberFound
kept_member_found pkg = record { member = member_of_kept pkg; file = None; contents = [] }

-- an added package, with its file and the contents of its files
abbrev pub added_member_found : AddedPackage → MemberFound
added_member_found pkg = record {
  member = member_of_added pkg.value pkg.id;
  file = Some pkg.file;
  contents = pkg.contents;
}

-- the package of an added candidate, by what the read with number `n` finds under the path of its file; a candidate
-- without a path is refused as missing
abbrev pub added_package_by_path :
    Reads → ℕ → Candidate → Option (List ℕ) → Result AddedPackage Refusal
added_package_by_path read n c None = added_package_or_refusal c None
added_package_by_path read n c (Some path) = added_package_or_refusal c (read n path)

-- the member of the added candidate `c`, whose file the read with number `n` finds, or the refusal: of its file, or of
-- a script that the change would have to run
abbrev pub added_member_unless_script_needed :
    Reads → List Repository → Bool → ℕ → List ℕ → Change → Candidate
    → Result (Option MemberFound) Refusal
added_member_unless_script_needed read repositories no_scripts n name change c =
    and_then (added_package_by_path read n c (package_file_path_of_candidate repositories c)) (λ pkg.
    unless_script_needed no_scripts name pkg.value (scripts_of_change change)
    (Some (added_member_found pkg)))

-- None, since a removed package is no member any more; or the refusal, if one of its scripts would have to run
abbrev pub no_member_unless_removal_needs_script :
    Bool → List ℕ → Change → Option Plain → Result (Option MemberFound) Refusal
no_member_unless_removal_needs_script no_scripts name change None = Ok None
no_member_unless_removal_needs_script no_scripts name change (Some pkg) =
    unless_script_needed no_scripts name pkg (scripts_of_change change) None

-- the result for a name that changes: with a selected candidate its package is added, otherwise removed
abbrev pub member_of_name_by_selected :
    Reads → List Repository → Bool → ℕ → List ℕ → Change → Option Plain → Option Candidate
    → Result (Option MemberFound) Refusal
member_of_name_by_selected read repositories no_scripts n name change before None =
    no_member_unless_removal_needs_script no_scripts name change before
member_of_name_by_selected read repositories no_scripts n name change before (Some c) =
    added_member_unless_script_needed read repositories no_scripts n name change c

-- the result for a name, a member or None, given the change of its package, the package `before` and the `selected`
-- candidate with this name; without a change the package is kept
abbrev pub member_of_name_by_change :
    Reads → List Repository → Bool → ℕ → List ℕ → Option Change → Option Plain
    → Option Candidate → Result (Option MemberFound) Refusal
member_of_name_by_change read repositories no_scripts n name None before selected =
    Ok (option_map kept_member_found before)
member_of_name_by_change read repositories no_scripts n name (Some change) before selected =
    member_of_name_by_selected read repositories no_scripts n name change before selected

-- the member with this name after a change, or None: an added package is as its file has it, a kept one as before
abbrev pub member_of_name_after :
    Replacement → Reads → List Repository → Bool → ℕ → List ℕ
    → Result (Option MemberFound) Refusal
member_of_name_after r read repositories no_scripts n name =
    member_of_name_by_change read repositories no_scripts n name (change_of_name r name)
    (find (is_package_named name) r.before) (find (is_candidate_named name) r.selected)

-- the members of names in byte order, or the first refusal; each name has a read of its own, and `n` is
-- the number of the read of the first name
abbrev pub members_of_names_after :
    Replacement → Reads → List Repository → Bool → ℕ → List (List ℕ)
    → Result (List MemberFound) Refusal
members_of_names_after r read repositories no_scripts n [] = Ok []
members_of_names_after r read repositories no_scripts n (name ∷ names) =
    and_then (member_of_name_after r read repositories no_scripts n name) (λ first.
    and_then (members_of_names_after r read repositories no_scripts (suc n) names) (λ others.
    Ok (cons_option first others)))

-- the packages after a change, in byte order of names, or the first refusal of one
unfoldable pub members_after :
    Replacement → Reads → List Repository → Bool → Result (List MemberFound) Refusal
members_after r read repositories no_scripts =
    members_of_names_after r read repositories no_scripts (first_index_read_number + length repositories)
    (names_before_and_selected r)

-- the members alone of the packages that are found
abbrev pub found_members : List MemberFound → List Member
found_members found = map (λ m. m.member) found

-- the contents of the files of the package at this place (index) among the found packages
abbrev pub found_package_contents : List MemberFound → ℕ → List Contents
found_package_contents found place = option_map_or (λ m. m.contents) (slice_get found place) []
