use Rattle.std.proofs.Common.{arith, sym, ◌∙◌}
use Rattle.version_core.proofs.Places.{first_passed, first_version, no_version}
use Rattle.version_core.proofs.overlapping.first_place.Goals as goal

pub returns-then-is_end_or_stray_class-clause-none : goal.returns-then-is_end_or_stray_class-clause-none
returns-then-is_end_or_stray_class-clause-none c = no_version c.args.bytes.now c.args.from c.args.end c.first_token-class.result.0 c.first_token-class.ensures.class (sym c.is_end_or_stray_class.ensures ∙ c.if-is_end_or_stray_class.true)

pub overflow_add-result : goal.overflow_add-result
overflow_add-result c = let h = first_passed c.args.bytes.now c.args.from c.args.end c.first_token-class.result.1 c.requires.order c.requires.within c.first_token-class.ensures.len in omega arith

pub returns-clause-some : goal.returns-clause-some
returns-clause-some c = (
  first_passed c.args.bytes.now c.args.from c.args.end c.first_token-class.result.1 c.requires.order c.requires.within c.first_token-class.ensures.len,
  first_version c.args.bytes.now c.args.from c.args.end c.first_token-class.result.1 c.first_token-class.result.0 c.requires.order c.requires.within c.first_token-class.ensures.class c.first_token-class.ensures.len (sym c.is_end_or_stray_class.ensures ∙ c.if-is_end_or_stray_class.false),
)
