use Rattle.apk_front.proofs.Containers.{refused_some, refusal_reports}
use Rattle.make_core.specs.make_info.Output.{output_name}
use Rattle.apk_front.proofs.make.refuse.Goals as goal

pub returns-clause-reported : goal.returns-clause-reported
returns-clause-reported c = refusal_reports c.refused.result _ (output_name c.args.command.now) c.args.fault c.refused.ensures c.in_ok-refusal.ensures.reported

pub returns-clause-refused : goal.returns-clause-refused
returns-clause-refused c = refused_some c.refused.result _ c.refused.ensures
