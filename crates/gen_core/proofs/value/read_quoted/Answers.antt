use Rattle.std.proofs.Common.{refl, ap, ◌∙◌}
use Rattle.std.specs.List.{flat_map}
use Rattle.adb_dump.specs.Dump.{quoted_form_of_byte, needs_no_quotes}
use Rattle.gen_core.proofs.Escapes.{none_read, quoted_all, quoted_more, quoted_not_read, quoted_of_none}
use Rattle.gen_core.proofs.value.read_quoted.Goals as goal

pub returns-then-is_quote : goal.returns-then-is_quote
returns-then-is_quote c = quoted_of_none c.args.bytes.now.items c.args.quoted.now (c.is_quote.ensures.0 c.if-is_quote.true)

pub loop-byte-init : goal.loop-byte-init
loop-byte-init c = none_read (flat_map quoted_form_of_byte) c.clear.new.self.items c.args.quoted.now refl c.clear.ensures.items

pub loop-byte-preserved : goal.loop-byte-preserved
loop-byte-preserved c = quoted_more c.loop-byte.bytes.items c.loop-byte.rest.now c.args.quoted.now c.in-Some.further.now c.push.new.self.items c.in-Some.byte c.loop-byte.invariant c.in-Some.ensures c.in_ok-push.ensures.items

pub returns-then-not-is_quote : goal.returns-then-not-is_quote
returns-then-not-is_quote c =
    quoted_not_read c.loop-byte.bytes.items c.loop-byte.rest.now c.args.quoted.now c.loop-byte.invariant c.in_default.ensures
    (λ is. let t = c.if-not-is_quote.ensures.1 is in absurd cc)

pub returns : goal.returns
returns c =
    quoted_all c.loop-byte.bytes.items c.loop-byte.rest.now c.args.quoted.now c.needs_no_quotes.result c.loop-byte.invariant
    (λ is. let t = c.if-is_quote.ensures.1 is in absurd cc) (c.is_quote-2.ensures.0 c.if-not-is_quote.false)
    (c.needs_no_quotes.ensures ∙ ap needs_no_quotes c.deref.ensures.value)
