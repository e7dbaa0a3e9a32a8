use Rattle.std.proofs.Common.{◌≡◌, drop}
use Rattle.adb_values.specs.Drafts.{draft_with_all}
use Rattle.adb_copy.specs.Fields.{ints_or_nulls}
use Rattle.adb_copy.proofs.copy.write_ints.Given as goal

-- with those that are left it has all
abbrev pub invariant-loop-n : goal.invariant-loop-n
invariant-loop-n l = draft_with_all (ints_or_nulls (drop l.n-index l.ints)) l.draft ≡ draft_with_all (ints_or_nulls l.ints) l.initial.draft
