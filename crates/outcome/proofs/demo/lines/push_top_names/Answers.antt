use Rattle.std.proofs.Common.{rules}
use Rattle.outcome.proofs.DemoLengths.{few_names}
use Rattle.outcome.proofs.demo.lines.push_top_names.Goals as goal

pub push_if_top-requires : goal.push_if_top-requires
push_if_top-requires c = few_names c.loop-i.words c.args.words.now c.args.n c.loop-i.i c.args.n c.loop-i.invariant c.requires (search rules) c.ranges.n.fits
