-- Which packages are installed after a change. The rules are in `docs/commands.md`, "`add` and `del`", and in
-- `docs/formats.md`, "The database after a change", on the kept and the added ones. In all definitions, `r` has the
-- packages before the change and the selected candidates.
use Rattle.std.specs.Prelude.{◌≡◌, ◌⊎◌, ℕ, true, List, Some, None}
use Rattle.std.specs.List.{find}
use Rattle.outcome.specs.adb_fields.FirstPair.{IsIn}
use Rattle.adb_view.specs.Plain.{Plain}
use Rattle.outcome.specs.change_inputs.Inputs.{Inputs}
use Rattle.outcome.specs.change_outcome.MembersAfter.{MemberFound, added_member_found, found_members, kept_member_found}
use Rattle.outcome.specs.change_outcome.PackageFiles.{AddedPackage}
use Rattle.outcome.specs.db_core.Members.{AreMembersInNameOrder, member_name}
use Rattle.outcome.specs.db_core.Packages.{is_package_named}
use Rattle.outcome.specs.make_info.Reads.{Reads}
use Rattle.outcome.specs.package_changes.Changes.{Replacement, change_of_name, is_candidate_this_package}
use Rattle.outcome.specs.candidate_core.Candidates.{Candidate}
use Rattle.refusal_laws.specs.AddedPackages.{IsAddedAsSelected, selected_candidate_of_name}

-- the member `f` is the package of this name as it was before the change. The selected candidate `c` is this package,
-- and the change keeps it
pub record IsUnchangedMember (r : Replacement) (name : List ℕ) (c : Candidate) (f : MemberFound) :
    Type 0 where
  -- the package of this name before the change
  pub pkg : Plain
  pub before : find (is_package_named name) r.before ≡ Some pkg
  -- the selected candidate is this package
  pub same : is_candidate_this_package pkg c ≡ true
  -- the change does not change the package of this name
  pub becomes : change_of_name r name ≡ None
  -- the member is the package as it was before
  pub is : f ≡ kept_member_found pkg

-- the change adds the member `f`: it is the package in the file of the selected candidate of this name
pub record IsAddedMember (inputs : Inputs) (r : Replacement) (read : Reads) (name : List ℕ)
    (f : MemberFound) : Type 0 where
  -- the package in the file of the candidate
  pub pkg : AddedPackage
  -- the change adds this package, as the selected candidate says
  pub brought : IsAddedAsSelected inputs r read name pkg
  -- the member is this package, with the contents of the files in it
  pub is : f ≡ added_member_found pkg

-- the name of the member `f` has a selected candidate, and the member is the unchanged or the added package of this
-- name
pub record IsSelectedMember (inputs : Inputs) (r : Replacement) (read : Reads) (f : MemberFound) :
    Type 0 where
  -- the selected candidate of the member's name
  pub candidate : Candidate
  pub selected : selected_candidate_of_name r (member_name f.member) ≡ Some candidate
  -- the member is the package as it was before, or the change adds it
  pub is : IsUnchangedMember r (member_name f.member) candidate f
      ⊎ IsAddedMember inputs r read (member_name f.member) f

-- The packages after a change are the selected ones: in byte order of names, each once, and one for
-- each selected candidate.
pub record AreSelectedMembers (inputs : Inputs) (r : Replacement) (read : Reads)
    (found : List MemberFound) : Type 0 where
  -- the packages are in byte order of names, each name once
  pub in_order : AreMembersInNameOrder (found_members found)
  -- each package is that of a selected candidate
  pub each : (f : MemberFound) → IsIn f found → IsSelectedMember inputs r read f
  -- for each selected candidate there is a package with its name
  pub all : (c : Candidate) → IsIn c r.selected
      → (f : MemberFound) × IsIn f found × (member_name f.member ≡ c.name)
