use Rattle.apk_front.proofs.Effects.{reads_one, writes_one}
use Rattle.apk_front.proofs.judge.applet_access.Goals as goal

pub returns-in-Verify : goal.returns-in-Verify
returns-in-Verify c = reads_one c.args.applet c.in-Verify.is

pub returns-in-Info : goal.returns-in-Info
returns-in-Info c = writes_one c.args.applet c.in-Info.is
