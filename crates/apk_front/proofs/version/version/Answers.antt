use Rattle.apk_front.proofs.version.version.Goals as goal

pub returns-else-flags : goal.returns-else-flags
returns-else-flags c = rw c.if-flags.false c.check.ensures
