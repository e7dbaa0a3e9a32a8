use Rattle.hex.specs.Hex.{encode_lower}
use Rattle.gen_core.proofs.Escapes.{empty_line, hash_form, hash_more, hash_of_none, no_digits, none_read, some_line}
use Rattle.gen_core.proofs.value.read_hash.Goals as goal

pub returns-then-is_empty : goal.returns-then-is_empty
returns-then-is_empty c = hash_of_none c.args.bytes.now.items c.args.line.now (empty_line c.args.line.now c.if-is_empty.ensures)

pub loop-byte-init : goal.loop-byte-init
loop-byte-init c = none_read encode_lower c.clear.new.self.items c.args.line.now no_digits c.clear.ensures.items

pub loop-byte-preserved : goal.loop-byte-preserved
loop-byte-preserved c = hash_more c.loop-byte.bytes.items c.loop-byte.rest.now c.args.line.now c.in-Some.further.now c.push.new.self.items c.in-Some.byte c.loop-byte.invariant c.in-Some.ensures c.in_ok-push.ensures.items

pub returns : goal.returns
returns c = hash_form c.loop-byte.bytes.items c.loop-byte.rest.now c.args.line.now c.is_empty-2.result c.loop-byte.invariant (some_line c.args.line.now c.if-is_empty.ensures) c.in_default.ensures c.is_empty-2.ensures
