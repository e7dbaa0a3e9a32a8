-- Each claim of another member must be beaten.
use Rattle.std.proofs.Common.{sym, ◌∙◌, arith}
use Rattle.path_claims.proofs.Contests.{beaten_next, unbeaten_here}
use Rattle.path_claims.proofs.contest.is_winner.Goals as goal

pub returns-then-not-is_same_or_beaten : goal.returns-then-not-is_same_or_beaten
returns-then-not-is_same_or_beaten g c =
    sym (sym c.loop-claim.invariant ∙ unbeaten_here (g.C.Contest.beats c.args.contest.now) (λ c. c.member) _ c.args.claims.now c.loop-claim.claim-index _ (omega arith) (sym c.is_same_or_beaten.ensures ∙ c.if-not-is_same_or_beaten.true))

pub loop-claim-preserved : goal.loop-claim-preserved
loop-claim-preserved g c =
    beaten_next (g.C.Contest.beats c.args.contest.now) (λ c. c.member) _ c.args.claims.now c.loop-claim.claim-index _ (omega arith) (sym c.is_same_or_beaten.ensures ∙ c.if-not-is_same_or_beaten.false)
    ∙ c.loop-claim.invariant
