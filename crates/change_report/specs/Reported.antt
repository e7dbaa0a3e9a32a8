-- The change that a report describes. The contract is that of `change_report`, as the README of this
-- crate says.
use Rattle.std.specs.Prelude.{◌≡◌, ℕ, List, map}
use Rattle.base_core.specs.Files.{Files}
use Rattle.own_core.specs.FileChange.{FileChange}
use Rattle.change_outcome.specs.ChangeOutcome.{ChangeWishes}
use Rattle.change_outcome.specs.db_core.Seen.{members_of}
use Rattle.own_core.specs.Planned.{ArePlanLists}
use Rattle.change_outcome.specs.package_changes.Changes.{Replacement, changes_of}
use Rattle.change_outcome.specs.package_changes.Placed.{PlacedChange, replacement_of}
use Rattle.change_outcome.specs.package_changes.Seen.{changes_seen, placed_replacement_from_parts}
use Rattle.change_report.specs.declared.reporting.ReportedChange.{ReportedChange}

-- the replacement that a report describes: the selection replaces the packages before, and these names
-- are to be installed again
abbrev pub replacement_reported : ReportedChange → List (List ℕ) → Replacement
replacement_reported c again =
    replacement_of (placed_replacement_from_parts c.db.now c.pool.now c.trace.now again)

-- the parts `c` are those of this change: its changes are those of the replacement, with these names to be installed
-- again, and its plan is that of the change over these files
pub record IsReportedOf (c : ReportedChange) (again : List (List ℕ)) (wishes : ChangeWishes)
    (change : FileChange) (files : Files) : Type 0 where
  -- the changes of packages are those of the replacement
  pub changes : map (λ (p : PlacedChange). p.change) (changes_seen c.changes.now)
      ≡ changes_of (replacement_reported c again)
  -- the names to be removed are those of the wishes
  pub to_remove : wishes.to_remove ≡ c.to_remove.now
  -- the packages after the change are the members of the report
  pub members : change.members ≡ members_of c.members.now
  -- the plan lists the files of the change
  pub plan : ArePlanLists change files c.plan.now
