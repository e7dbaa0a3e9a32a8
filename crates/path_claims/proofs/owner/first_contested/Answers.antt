use Rattle.std.proofs.Common.{◌≤◌, length, map, subst, sym, arith}
use Rattle.path_claims.specs.Claims.{path_with_rivals_of_first_claimant, owner_among}
use Rattle.path_claims.specs.Seen.{claim_seen}
use Rattle.path_claims.proofs.FirstContested.{contested_here, first_of_path, none_by, not_contested, one_passed, within}
use Rattle.path_claims.proofs.Places.{map_len}
use Rattle.path_claims.proofs.owner.first_contested.Goals as goal

pub contested_from-requires-clause-first : goal.contested_from-requires-clause-first
contested_from-requires-clause-first g c =
    first_of_path (owner_among (g.C.Contest.beats c.args.contest.now) (map claim_seen c.args.claims.now)) (map claim_seen c.args.claims.now) c.args.owners.now c.loop-i.i _ c.is_none.result (within c.args.claims.now c.loop-i.i c.loop-i-test.true)
    c.requires.owners (none_by _ c.is_none.result c.is_none.ensures) c.if-is_none.true c.loop-i.invariant

pub returns-then-is_none : goal.returns-then-is_none
returns-then-is_none g c =
    contested_here (owner_among (g.C.Contest.beats c.args.contest.now) (map claim_seen c.args.claims.now)) (path_with_rivals_of_first_claimant (g.C.Contest.beats c.args.contest.now) (map claim_seen c.args.claims.now)) (map claim_seen c.args.claims.now) c.args.owners.now c.loop-i.i _ c.is_none.result _ (within c.args.claims.now c.loop-i.i c.loop-i-test.true)
    c.requires.owners (none_by _ c.is_none.result c.is_none.ensures) c.if-is_none.true c.loop-i.invariant c.contested_from.ensures

pub loop-i-preserved : goal.loop-i-preserved
loop-i-preserved g c =
    one_passed (owner_among (g.C.Contest.beats c.args.contest.now) (map claim_seen c.args.claims.now)) c.args.claims.now c.args.owners.now c.loop-i.i _ c.is_none.result
    c.requires.owners (none_by _ c.is_none.result c.is_none.ensures) c.if-is_none.false c.loop-i.invariant

pub returns : goal.returns
returns g c =
    let l : length c.args.claims.now ≤ c.loop-i.i = omega (arith, c.loop-i-test.false) in
    not_contested (owner_among (g.C.Contest.beats c.args.contest.now) (map claim_seen c.args.claims.now)) (path_with_rivals_of_first_claimant (g.C.Contest.beats c.args.contest.now) (map claim_seen c.args.claims.now)) c.args.claims.now c.loop-i.i
    (subst (λ n. n ≤ c.loop-i.i) (sym (map_len claim_seen c.args.claims.now)) l) c.loop-i.invariant
