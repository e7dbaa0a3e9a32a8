-- What `audit` reports: the installed files that differ from their records. The rules are in
-- `docs/commands.md`, "`audit`"; when bytes are as listed, in "What a change does with files".
use Rattle.std.specs.Prelude.{ℕ, suc, List, [], ◌∷◌, ◌++◌, Option, Some, None, if◌then◌else◌}
use Rattle.std.specs.List.{flat_map}
use Rattle.adb_view.specs.Plain.{Plain}
use Rattle.audit_core.specs.Records.{PathAndEntry, records_by_path}
use Rattle.audit_core.specs.declared.comparing.Difference.{Difference}
use Rattle.audit_core.specs.declared.comparing.Difference.TheVariants.{Changed, Missing}
use Rattle.file_guard.specs.AsListed.{is_as_listed}
use Rattle.package_files.specs.make_info.Reads.{Reads}
use Rattle.report_core.specs.AuditReports.{modified_file_text, missing_file_text}
use Rattle.report_core.specs.Reports.{report_line}

-- a file that differs from its record: its path, and how it differs
pub record FileDifference : Type 0 where
  -- the path of the file
  pub path : List ℕ
  -- how the file differs from its record
  pub difference : Difference

-- how a file differs from its entry, given what is found under its path: Missing if there is no file (None), Changed if
-- its bytes are not as the entry lists them; None if it does not differ
abbrev pub difference_from_entry : Plain → Option (List ℕ) → Option Difference
difference_from_entry entry None = Some Missing
difference_from_entry entry (Some bytes) = if is_as_listed entry bytes then None else Some Changed

-- the list of this path with the difference, if there is one, otherwise the empty list
abbrev pub path_difference_if_any : List ℕ → Option Difference → List FileDifference
path_difference_if_any path None = []
path_difference_if_any path (Some difference) = record { path = path; difference = difference } ∷ []

-- the files that differ from some records, in the order of the records. `read` gives the result of each read, and the
-- read of the first record's file has the number n
abbrev pub differences_from : Reads → ℕ → List PathAndEntry → List FileDifference
differences_from read n [] = []
differences_from read n (r ∷ rs) =
    path_difference_if_any r.path (difference_from_entry r.entry (read n r.path))
    ++ differences_from read (suc n) rs

-- the text that is reported for the file with this path, which differs so
abbrev pub difference_text : Difference → List ℕ → List ℕ
difference_text Missing path = missing_file_text path
difference_text Changed path = modified_file_text path

-- the line that is reported for a file that differs
abbrev pub difference_line : FileDifference → List ℕ
difference_line d = report_line (difference_text d.difference d.path)

-- the report of an audit of some packages: a line for each file that differs from its record, in byte order of the
-- paths. `read` gives the result of each read, and the read of the first file has the number `first`
unfoldable pub audit_report : Reads → ℕ → List Plain → List ℕ
audit_report read first packages =
    flat_map difference_line (differences_from read first (records_by_path packages))
