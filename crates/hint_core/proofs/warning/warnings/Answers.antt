use Rattle.std.proofs.Common.{ℕ, Result, sym, subst}
use Rattle.std.specs.Prelude.{IfOk, Vec}
use Rattle.std.specs.declared.alloc.Global.{Global}
use Rattle.command_core.specs.Command.{CommandLine}
use Rattle.hint_core.specs.Warnings.{Warns}
use Rattle.hint_core.proofs.warning.warnings.Goals as goal

pub returns-in-Ok-clause-lines : goal.returns-in-Ok-clause-lines
returns-in-Ok-clause-lines g c =
    subst (λ (r : Result CommandLine ℕ). IfOk c.warnings_of.result (λ (lines : Vec ℕ Global). Warns r (g.T.Tree.history c.args.tree.now) lines.items)) (sym c.in-Ok.ensures.ok) c.warnings_of.ensures.lines
