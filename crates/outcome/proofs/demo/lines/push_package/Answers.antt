use Rattle.std.proofs.Common.{◌∙◌}
use Rattle.outcome.proofs.DemoLengths.{pushed}
use Rattle.outcome.proofs.demo.lines.push_package.Goals as goal

pub returns : goal.returns
returns c = pushed c.push.new.self c.args.words.now _ _ c.in_ok-push.ensures.ok (c.deref.ensures.value ∙ c.in_ok-name.ensures)
