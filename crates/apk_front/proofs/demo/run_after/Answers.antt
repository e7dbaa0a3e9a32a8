use Rattle.std.proofs.Common.{sym}
use Rattle.apk_front.proofs.Demos.{after_refused}
use Rattle.apk_front.proofs.demo.run_after.Goals as goal

pub returns-then-is_some : goal.returns-then-is_some
returns-then-is_some c = after_refused c.args.words.now (λ files. files) c.args.last c.args.tree.now (sym c.if-is_some.ensures)
