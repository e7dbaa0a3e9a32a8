use Rattle.std.proofs.Common.{◌≡◌, length, drop}
use Rattle.dep_core.specs.World.{lines_of}
use Rattle.v2_core.specs.Reading.{records_from_unfinished_record, records_of}
use Rattle.v2_core.specs.Writing.{draft_with_records}
use Rattle.v2_core.proofs.read.write_packages.Given as goal

-- with what is left to be read it has all
abbrev pub invariant-loop-line : goal.invariant-loop-line
invariant-loop-line l =
    (l.number ≡ length l.yielded)
    × (draft_with_records (records_from_unfinished_record l.number l.record (drop (length l.yielded) (lines_of l.bytes))) l.draft ≡ draft_with_records (records_of l.bytes) l.initial.draft)
