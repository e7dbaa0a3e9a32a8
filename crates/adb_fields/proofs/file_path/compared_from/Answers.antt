-- Each turn by the two bytes that it compares.
use Rattle.std.proofs.Common.{Some, None, arith, ◌∙◌}
use Rattle.adb_fields.specs.JoinedPath.{joined_path}
use Rattle.adb_fields.proofs.Compared.{decided, same_byte, other_byte, place_below}
use Rattle.adb_fields.proofs.file_path.compared_from.Goals as goal

pub returns-in-None-None : goal.returns-in-None-None
returns-in-None-None c = decided (joined_path c.args.one.now) (joined_path c.args.other.now) c.loop-byte.i None None _ (cc) (cc) c.loop-byte.invariant

pub returns-in-None-Some : goal.returns-in-None-Some
returns-in-None-Some c = decided (joined_path c.args.one.now) (joined_path c.args.other.now) c.loop-byte.i None (Some c.in-None-Some.field-0-1) _ (cc) (cc) c.loop-byte.invariant

pub returns-in-Some-None : goal.returns-in-Some-None
returns-in-Some-None c = decided (joined_path c.args.one.now) (joined_path c.args.other.now) c.loop-byte.i (Some c.in-Some-None.field-0-0) None _ (cc) (cc) c.loop-byte.invariant

pub returns-then-byte-another : goal.returns-then-byte-another
returns-then-byte-another c = c.cmp.ensures ∙ other_byte (joined_path c.args.one.now) (joined_path c.args.other.now) c.loop-byte.i c.in-Some-Some.byte c.in-Some-Some.another _ (cc) (cc) c.if-byte-another.true c.loop-byte.invariant

pub loop-byte-smaller : goal.loop-byte-smaller
loop-byte-smaller c = let l = place_below (joined_path c.args.one.now) c.loop-byte.i c.in-Some-Some.byte (cc) in omega arith

pub loop-byte-preserved : goal.loop-byte-preserved
loop-byte-preserved c = same_byte (joined_path c.args.one.now) (joined_path c.args.other.now) c.loop-byte.i c.in-Some-Some.byte c.in-Some-Some.another _ (cc) (cc) c.if-byte-another.false c.loop-byte.invariant
