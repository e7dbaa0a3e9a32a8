use Rattle.std.proofs.Common.{arith, sym, ◌∙◌}
use Rattle.version_core.proofs.Places.{is_after_members, none_follows}
use Rattle.version_core.proofs.overlapping.place_after_token.Goals as goal

pub returns-then-is_end_or_stray_class-clause-none : goal.returns-then-is_end_or_stray_class-clause-none
returns-then-is_end_or_stray_class-clause-none c = none_follows c.args.bytes.now c.args.place c.args.end c.first_token-class.result.0 c.requires.order c.requires.within c.requires.none c.first_token-class.ensures.class (sym c.is_end_or_stray_class.ensures ∙ c.if-is_end_or_stray_class.true)

pub overflow_add-result : goal.overflow_add-result
overflow_add-result c =
    let there = is_after_members c.args.bytes.now c.args.place c.args.end c.first_token-class.result.1 c.first_token-class.result.0 c.requires.order c.requires.within c.requires.none c.first_token-class.ensures.class c.first_token-class.ensures.len (sym c.is_end_or_stray_class.ensures ∙ c.if-is_end_or_stray_class.false) in
    let within = there.within in
    omega arith

pub returns-clause-some : goal.returns-clause-some
returns-clause-some c = is_after_members c.args.bytes.now c.args.place c.args.end c.first_token-class.result.1 c.first_token-class.result.0 c.requires.order c.requires.within c.requires.none c.first_token-class.ensures.class c.first_token-class.ensures.len (sym c.is_end_or_stray_class.ensures ∙ c.if-is_end_or_stray_class.false)
