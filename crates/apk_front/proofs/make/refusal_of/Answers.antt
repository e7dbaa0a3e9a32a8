use Rattle.make_core.specs.make_info.Output.{output_name}
use Rattle.apk_front.proofs.Containers.{large_is}
use Rattle.apk_front.proofs.make.refusal_of.Goals as goal

pub returns-in_ok-refusal-in-TooLarge-clause-reported : goal.returns-in_ok-refusal-in-TooLarge-clause-reported
returns-in_ok-refusal-in-TooLarge-clause-reported c = large_is (output_name c.args.command.now) c.args.fault _ _ _ c.in-TooLarge.is c.in_ok-refusal-in-TooLarge.ensures
