use Rattle.tell_core.proofs.Others.{nothing_told}
use Rattle.tell_core.proofs.telling.tell.Goals as goal

pub returns-in_default-clause-told : goal.returns-in_default-clause-told
returns-in_default-clause-told g c = nothing_told _ c.args.command.now c.applet.result c.no_report.result c.applet.ensures.value (c.in_default.not-Info, c.in_default.not-Audit, c.in_default.not-Manifest, c.in_default.not-List, c.in_default.not-Search, c.in_default.not-Policy) c.no_report.ensures
