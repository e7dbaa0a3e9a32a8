use Rattle.std.proofs.Common.{ℕ, List, Result, sym, subst}
use Rattle.std.specs.Prelude.{IfOk, Vec}
use Rattle.std.specs.declared.alloc.Global.{Global}
use Rattle.dep_core.specs.Repositories.{Repository}
use Rattle.hint_core.specs.PackageFile.{ExplainsByText}
use Rattle.hint_core.proofs.package_file.lines_by_text.Goals as goal

pub returns-in-Ok-clause-lines : goal.returns-in-Ok-clause-lines
returns-in-Ok-clause-lines g c =
    subst (λ (r : Result (List Repository) ℕ). IfOk c.lines_of_repositories.result (λ (lines : Vec ℕ Global). ExplainsByText c.args.name.now c.args.version.now c.args.refusal.now r (g.T.Tree.history c.args.tree.now) lines.items)) (sym c.in-Ok.ensures.ok) c.lines_of_repositories.ensures.lines
