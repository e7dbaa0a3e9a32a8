use Rattle.apk_front.proofs.Effects.{access_by, access_usage}
use Rattle.apk_front.proofs.judge.access_for.Goals as goal

pub returns-in-Ok : goal.returns-in-Ok
returns-in-Ok c = access_by c.args.words.now _ c.applet.result _ c.in-Ok.ensures.ok c.applet.ensures.value c.applet_access.ensures

pub returns-in-Err-Usage : goal.returns-in-Err-Usage
returns-in-Err-Usage c = access_usage c.args.words.now _ _ c.in-Err-Usage.field-0-is c.in-Err-Usage.ensures.usage
