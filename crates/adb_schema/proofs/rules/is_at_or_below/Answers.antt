use Rattle.std.proofs.Common.{None, Some, sym, ◌∙◌}
use Rattle.std.proofs.lemmas.Bool.Decides.{Decides-eqb}
use Rattle.std.proofs.lemmas.Slice.Eq.{strip_prefix_is}
use Rattle.adb_schema.proofs.Below.{goes_below-rest, goes_below-first, not_below}
use Rattle.adb_schema.proofs.rules.is_at_or_below.Goals as goal

pub returns-else-is_empty : goal.returns-else-is_empty
returns-else-is_empty c =
    let split = strip_prefix_is Decides-eqb c.args.path.now c.args.top.now (Some c.in-Some.rest) c.in-Some.ensures.cases in
    sym (goes_below-rest c.args.top.now c.args.path.now c.in-Some.rest.now split ∙ goes_below-first c.in-Some.rest.now c.if-is_empty.ensures)

pub returns-in-None : goal.returns-in-None
returns-in-None c = sym (not_below c.args.top.now c.args.path.now (strip_prefix_is Decides-eqb c.args.path.now c.args.top.now None c.in-None.ensures.cases))
