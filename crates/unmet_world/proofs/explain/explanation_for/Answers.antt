use Rattle.std.proofs.Common.{ℕ, Result, sym, subst}
use Rattle.std.specs.Prelude.{IfOk, Vec}
use Rattle.std.specs.declared.alloc.Global.{Global}
use Rattle.command_core.specs.Command.{CommandLine}
use Rattle.unmet_world.specs.Explained.{ExplainsCommandLine}
use Rattle.unmet_world.proofs.explain.explanation_for.Goals as goal

pub returns-in-Ok-clause-text : goal.returns-in-Ok-clause-text
returns-in-Ok-clause-text g c =
    subst (λ (r : Result CommandLine ℕ). IfOk c.explanation_of_command.result (λ (text : Vec ℕ Global). ExplainsCommandLine r (g.T.Tree.history c.args.tree.now) text.items)) (sym c.in-Ok.ensures.ok) c.explanation_of_command.ensures.text
