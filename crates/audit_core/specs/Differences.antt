-- Which installed files differ from their records. Serves the laws of `src/laws.rt`; the rules are in
-- `docs/commands.md`, "`audit`".
use Rattle.std.specs.Prelude.{◌≡◌, ℕ, true, false, List, Option, None, IsSomeAnd}
use Rattle.std.specs.List.{flat_map}
use Rattle.path_clashes.specs.adb_fields.FirstPair.{IsIn}
use Rattle.adb_view.specs.Plain.{Plain}
use Rattle.audit_core.specs.Audit.{FileDifference, path_difference_if_any, difference_from_entry}
use Rattle.audit_core.specs.Records.{PathAndEntry, package_records, records_by_path}
use Rattle.audit_core.specs.declared.comparing.Difference.{Difference}
use Rattle.audit_core.specs.declared.comparing.Difference.TheVariants.{Changed, Missing}
use Rattle.base_core.specs.Files.{Files}
use Rattle.file_guard.specs.AsListed.{is_as_listed}

-- the files that differ from the records of some packages, in byte order of their paths
unfoldable pub file_differences : Files → List Plain → List FileDifference
file_differences files packages =
    flat_map (λ r. path_difference_if_any r.path (difference_from_entry r.entry (files r.path)))
    (records_by_path packages)

-- r is the record of a file that one of the packages lists
pub record IsRecordOfPackages (packages : List Plain) (r : PathAndEntry) : Type 0 where
  -- the package that lists the file
  pub pkg : Plain
  -- it is one of the packages
  pub installed : IsIn pkg packages
  -- r is one of the records of this package
  pub listed : IsIn r (package_records pkg)

-- a file differs from its entry in this way, given what is found under its path: no file, or bytes that are not as the
-- entry lists them
abbrev pub DiffersFromEntry : Difference → Plain → Option (List ℕ) → Type 0
DiffersFromEntry Missing entry found = found ≡ None
DiffersFromEntry Changed entry found = IsSomeAnd found (λ bytes. is_as_listed entry bytes ≡ false)

-- d is a difference: one of the packages lists a file under the path of d, and among `files` this file differs from its
-- entry as d says
pub record IsDifferenceIn (packages : List Plain) (files : Files) (d : FileDifference) : Type 0 where
  -- the entry of the file in its package
  pub entry : Plain
  -- a package lists the path with this entry
  pub recorded : IsRecordOfPackages packages (record { path = d.path; entry = entry })
  -- the file under the path differs from the entry in this way
  pub differs : DiffersFromEntry d.difference entry (files d.path)

-- each file that a package lists is there, with bytes as its entry lists them
abbrev pub AreAsRecorded : List Plain → Files → Type 0
AreAsRecorded packages files =
    (r : PathAndEntry) → IsRecordOfPackages packages r
    → IsSomeAnd (files r.path) (λ bytes. is_as_listed r.entry bytes ≡ true)
