-- What is kept are the claims so far that are left.
use Rattle.std.proofs.Common.{◌≡◌, map, take}
use Rattle.std.specs.List.{filter}
use Rattle.path_claim_lists.specs.path_claims.Seen.{claim_seen}
use Rattle.own_core.specs.Going.{is_path_left_over}
use Rattle.own_core.specs.Sides.{file_change_of}
use Rattle.own_core.proofs.parts.left_over_claims.Given as goal

abbrev pub invariant-loop-i : goal.invariant-loop-i
invariant-loop-i l = map claim_seen l.left.items ≡ filter (λ c. is_path_left_over (file_change_of l.change) (map claim_seen l.asides) c.path) (take l.i (map claim_seen l.change.before.now))
