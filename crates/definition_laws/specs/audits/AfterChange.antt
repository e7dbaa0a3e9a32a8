-- The files that differ from their records after a change. The rules are in `docs/commands.md`,
-- "`audit`" and "What a change does with files". Serves the law of `src/laws.rt`.
use Rattle.std.specs.Prelude.{◌≡◌, ◌⊎◌, ℕ, Bool, true, false, List, [], Option, Some}
use Rattle.make_core.specs.adb_schema.Texts.{is_file_with_contents}
use Rattle.adb_view.specs.Plain.{Plain}
use Rattle.audit_core.specs.Audit.{FileDifference}
use Rattle.audit_core.specs.Differences.{DiffersFromEntry}
use Rattle.audit_core.specs.declared.comparing.Difference.TheVariants.{Changed}
use Rattle.base_core.specs.Files.{Files}
use Rattle.engine_core.specs.own_core.FileChange.{FileChange, owner_listing}
use Rattle.engine_core.specs.own_core.FilesAfter.{listing_bytes}
use Rattle.engine_core.specs.own_core.Touched.{IsModifiedConfigFile}
use Rattle.engine_core.specs.change_outcome.ChangeOutcome.{ChangeDone, packages_before_and_after_with_purge}
use Rattle.engine_core.specs.change_outcome.MembersAfter.{found_package_contents, found_members}
use Rattle.command_core.specs.Command.{CommandLine}
use Rattle.audit_core.specs.db_core.Members.{Listing, is_added}
use Rattle.engine_core.specs.Wishes.{wishes_of}
use Rattle.audit_core.specs.file_guard.AsListed.{has_target, is_as_listed}
use Rattle.make_core.specs.make_info.Reads.{Reads}
use Rattle.make_core.specs.pkg_core.Contents.{Contents}
use Rattle.definition_laws.specs.roots.RootLeft.{LaterCommandsFindMembersAndNewWorld, database_of_members}

-- ---- why a file differs after a change

-- the entry is that of an empty file, and has the digest of other bytes, which no test of a package compares
pub record IsEmptyFileWithOtherDigest (entry : Plain) : Type 0 where
  -- the entry is that of an empty file
  pub no_contents : is_file_with_contents entry ≡ false
  -- the entry has no link target
  pub no_link : has_target entry ≡ false
  -- an empty file does not agree with the digest of the entry
  pub unlike : is_as_listed entry [] ≡ false

-- the path has a configuration file that the user changed
abbrev pub HasModifiedConfigFile : FileChange → Files → List ℕ → Type 0
HasModifiedConfigFile change files path = (bytes : List ℕ) × IsModifiedConfigFile change files path bytes

-- Why the file of the listing `l` differs after a change; `files` are those before it. The flag says whether the
-- listing's member is added. The file of a kept package differs as it did before. The file of an added package has
-- other bytes than listed: those that the user gave it, or those of the package, which differ from its own entry.
abbrev pub ExplainsDifference :
    (ℕ → List Contents) → FileChange → Files → FileDifference → Listing → Bool → Type 0
ExplainsDifference contents change files d l false = DiffersFromEntry d.difference l.entry (files d.path)
ExplainsDifference contents change files d l true =
    (d.difference ≡ Changed)
    × (HasModifiedConfigFile change files d.path
    ⊎ (is_as_listed l.entry (listing_bytes contents l) ≡ false))

-- the difference `d` is one that the change leaves, and there is a reason for it. `contents` has the contents of the
-- files of each added package, and `files` are the files before the change.
pub record IsDifferenceExplainedByFilesBeforeChange (contents : ℕ → List Contents) (change : FileChange)
    (files : Files)
    (d : FileDifference) : Type 0 where
  -- the listing of the file in the package that owns its path
  pub listing : Listing
  -- the owner of the path has this listing
  pub owner : owner_listing change d.path ≡ Some listing
  -- the reason for which a change leaves such a difference
  pub left : ExplainsDifference contents change files d listing (is_added listing.member)

-- ---- the change of a command, given the root that it leaves

-- the packages after a command's change, as the next command reads them from the database
abbrev pub packages_left :
    {command : CommandLine} → {read : Reads} → {chosen : Option (List ℕ)} → {done : ChangeDone}
    → LaterCommandsFindMembersAndNewWorld command read chosen done → List Plain
packages_left left = (database_of_members (found_members left.found) left.bytes).packages

-- the change of files that a command has made
abbrev pub old_and_new_packages_of_change_left :
    {command : CommandLine} → {read : Reads} → {chosen : Option (List ℕ)} → {done : ChangeDone}
    → LaterCommandsFindMembersAndNewWorld command read chosen done → FileChange
old_and_new_packages_of_change_left {command} left =
    packages_before_and_after_with_purge left.selected.inputs (wishes_of command) left.found

-- for the index of each added package, the contents of its files
abbrev pub contents_of_added_packages_left :
    {command : CommandLine} → {read : Reads} → {chosen : Option (List ℕ)} → {done : ChangeDone}
    → LaterCommandsFindMembersAndNewWorld command read chosen done → ℕ → List Contents
contents_of_added_packages_left left = found_package_contents left.found
