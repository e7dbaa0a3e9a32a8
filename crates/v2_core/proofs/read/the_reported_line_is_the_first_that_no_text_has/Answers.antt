use Rattle.std.proofs.Common.{arith}
use Rattle.dep_core.specs.World.{lines_of}
use Rattle.v2_core.specs.Reading.{records_of}
use Rattle.v2_core.specs.Records.{empty_record}
use Rattle.v2_core.proofs.Completed.{begins_text}
use Rattle.v2_core.proofs.FirstBad.{told_from}
use Rattle.v2_core.proofs.read.the_reported_line_is_the_first_that_no_text_has.Goals as goal

pub returns : goal.returns
unfolding records_of
returns c text number h =
    let t = told_from 0 empty_record (lines_of text) number h in
    record {
      front = t.front;
      rest = t.rest;
      located = t.located;
      up_to = omega (arith, t.up_to);
      bad = t.bad;
      earlier = λ k l.
          let b = begins_text 0 empty_record (lines_of text) number k h (omega (arith, l)) in
          record { more = b.more; records = b.records; is_read = b.is_read };
    }
