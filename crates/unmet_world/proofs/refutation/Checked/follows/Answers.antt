use Rattle.std.proofs.Common.{◌∷◌, ℕ, subst}
use Rattle.unmet_world.specs.Refutation.{IsMetOnlyBy}
use Rattle.unmet_world.proofs.Steps.{if_true}
use Rattle.unmet_world.proofs.refutation.Checked.follows.Goals as goal

pub returns-else-not-is_sure : goal.returns-else-not-is_sure
returns-else-not-is_sure c =
    rw c.in-Sure.is (if_true c.is_met_only_by-in-Sure.result (λ only. (c.is_sure.ensures c.if-not-is_sure.false, subst (λ (k : ℕ). IsMetOnlyBy c.args.pool.now c.in-Sure.want (k ∷ c.args.self.now.out)) c.candidate-in-Sure.ensures only)) c.is_met_only_by-in-Sure.ensures)
