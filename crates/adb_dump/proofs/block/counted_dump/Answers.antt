use Rattle.std.proofs.Common.{◌≡◌, [], length, sym, ap, ◌∙◌, arith}
use Rattle.adb_dump.proofs.block.counted_dump.Goals as goal

pub prove-unreachable-requires : goal.prove-unreachable-requires
prove-unreachable-requires c =
    let all : length c.write_dump.new.out.items ≡ c.in_ok-len.len = ap length (c.in_ok-write_dump.ensures [] c.in_ok-out.ensures.items) ∙ sym c.in_ok-len.ensures in
    c.if-prove.true (omega (arith, c.len.ensures, all))

pub returns : goal.returns
returns c = c.from_vec.ensures ∙ c.in_ok-write_dump.ensures [] c.in_ok-out.ensures.items
