use Rattle.std.proofs.Common.{Some, None, ap, sym, ◌∙◌, arith}
use Rattle.std.specs.Prelude.{not}
use Rattle.path_claims.proofs.Contests.{find_here, find_past, no_rivals, test, two_rivals}
use Rattle.path_claims.proofs.contest.first_with_unbeaten_rival.Goals as goal

pub returns-then-is_empty : goal.returns-then-is_empty
returns-then-is_empty g c = no_rivals (g.C.Contest.beats c.args.contest.now) (λ c. c.member) c.args.claims.now (sym c.is_empty.ensures ∙ c.if-is_empty.true)

pub returns-then-not-is_same_or_beaten : goal.returns-then-not-is_same_or_beaten
returns-then-not-is_same_or_beaten g c =
    two_rivals (g.C.Contest.beats c.args.contest.now) (λ c. c.member) c.args.claims.now _ (Some _) (sym c.is_empty.ensures ∙ c.if-is_empty.false)
    (sym c.loop-claim.invariant ∙ find_here (λ c. c.member) (test (g.C.Contest.beats c.args.contest.now) _) c.args.claims.now c.loop-claim.claim-index _ (omega arith) (ap not (sym c.is_same_or_beaten.ensures ∙ c.if-not-is_same_or_beaten.true)))

pub returns : goal.returns
returns g c =
    two_rivals (g.C.Contest.beats c.args.contest.now) (λ c. c.member) c.args.claims.now _ None (sym c.is_empty.ensures ∙ c.if-is_empty.false)
    (sym c.loop-claim.invariant ∙ find_past (λ c. c.member) (test (g.C.Contest.beats c.args.contest.now) _) c.args.claims.now c.loop-claim.claim-index (omega arith))
