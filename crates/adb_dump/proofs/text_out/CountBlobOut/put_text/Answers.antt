use Rattle.std.proofs.Common.{ap}
use Rattle.adb_view.specs.Adb.{payload_of}
use Rattle.adb_dump.proofs.Lengths.{counts_more, lengths_stay}
use Rattle.adb_dump.specs.declared.text_out.Length.{Length}
use Rattle.adb_dump.proofs.text_out.CountBlobOut.put_text.Goals as goal

pub returns-then-text-le-SHORT : goal.returns-then-text-le-SHORT
returns-then-text-le-SHORT c = c.in_ok-write_text.ensures (payload_of c.args._adb)

pub returns : goal.returns
returns c before was =
    let p = payload_of c.args._adb in (
      counts_more _ _ _ _ before _ (ap (λ (l : Length). l.bytes) c.line_len.ensures.put) c.in_ok-add.ensures.len (c.in_ok-len.ensures.len p c.requires was.1) was.0,
      lengths_stay p _ _ c.in_ok-add.ensures.lens (c.line_len.ensures.kept p c.requires was.1),
    )
