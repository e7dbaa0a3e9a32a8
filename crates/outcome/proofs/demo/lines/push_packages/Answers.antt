use Rattle.std.proofs.Common.{rules}
use Rattle.outcome.proofs.DemoLengths.{few_packages, more_packages}
use Rattle.outcome.proofs.demo.lines.push_packages.Goals as goal

pub push_package-requires : goal.push_package-requires
push_package-requires c = few_packages c.loop-i.words c.args.words.now c.loop-i.i c.args.n c.loop-i.invariant c.requires (search rules) c.ranges.n.fits

pub loop-i-preserved : goal.loop-i-preserved
loop-i-preserved c = more_packages c.loop-i.words c.args.words.now c.push_package.new.words c.loop-i.i c.loop-i.invariant c.in_ok-push_package.ensures
