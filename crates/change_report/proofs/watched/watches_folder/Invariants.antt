-- No pattern so far matches: the rest decides.
use Rattle.std.proofs.Common.{◌≡◌, drop}
use Rattle.std.specs.List.{list_any}
use Rattle.change_outcome.specs.adb_fields.ListValue.{list_value}
use Rattle.change_outcome.specs.adb_fields.Repeated.{list_of}
use Rattle.adb_view.specs.Values.{entries_in, text_in}
use Rattle.change_outcome.specs.Triggers.{is_folder_matched_by_pattern}
use Rattle.change_report.proofs.watched.watches_folder.Given as goal

abbrev pub invariant-loop-i : goal.invariant-loop-i
invariant-loop-i l =
    list_any (λ v. is_folder_matched_by_pattern l.folder (text_in v)) (drop l.i (list_of (entries_in (list_value l.patterns))))
    ≡ list_any (λ v. is_folder_matched_by_pattern l.folder (text_in v)) (list_of (entries_in (list_value l.patterns)))
