use Rattle.std.proofs.Common.{◌≡◌, ap, ◌∙◌, map, length, arith}
use Rattle.std.specs.Ordering.{is_eq}
use Rattle.path_claims.specs.adb_fields.JoinedPath.{joined_path}
use Rattle.path_claims.specs.Seen.{claim_seen}
use Rattle.path_claims.proofs.Places.{map_len, seen_at}
use Rattle.path_claim_lists.proofs.PathOrder.{eq_here, found_there, none_past, none_there}
use Rattle.path_claim_lists.proofs.claims.claim_at.Goals as goal

pub returns-then-at-claims-clause-found : goal.returns-then-at-claims-clause-found
returns-then-at-claims-clause-found c =
    let n : length (map claim_seen c.args.claims.now) ≡ length c.args.claims.now = map_len claim_seen c.args.claims.now in
    none_past (map claim_seen c.args.claims.now) (joined_path c.args.path.now) c.args.at c.requires.place (omega (arith, n, c.requires.bound)) (omega (arith, n))

pub returns-then-is_eq-clause-found : goal.returns-then-is_eq-clause-found
returns-then-is_eq-clause-found c =
    let n : length (map claim_seen c.args.claims.now) ≡ length c.args.claims.now = map_len claim_seen c.args.claims.now in
    let g = seen_at claim_seen c.args.claims.now c.args.at _ (omega arith) in
    g ∙ found_there (map claim_seen c.args.claims.now) (joined_path c.args.path.now) c.args.at _ c.requires.place (omega (arith, n, c.requires.bound)) g
    (eq_here c.args.claims.now c.args.at _ (joined_path c.args.path.now) c.is_eq.result (c.is_eq.ensures ∙ ap is_eq c.compare.ensures) ∙ c.if-is_eq.true)

pub returns-else-is_eq-clause-found : goal.returns-else-is_eq-clause-found
returns-else-is_eq-clause-found c =
    let n : length (map claim_seen c.args.claims.now) ≡ length c.args.claims.now = map_len claim_seen c.args.claims.now in
    none_there (map claim_seen c.args.claims.now) (joined_path c.args.path.now) c.args.at _ c.requires.sorted c.requires.place (omega (arith, n, c.requires.bound))
    (seen_at claim_seen c.args.claims.now c.args.at _ (omega arith))
    (eq_here c.args.claims.now c.args.at _ (joined_path c.args.path.now) c.is_eq.result (c.is_eq.ensures ∙ ap is_eq c.compare.ensures) ∙ c.if-is_eq.false)
