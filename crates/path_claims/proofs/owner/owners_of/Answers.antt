use Rattle.std.proofs.Common.{ap, length, map, sym, ◌∙◌}
use Rattle.path_claims.specs.Claims.{owner_among}
use Rattle.path_claims.specs.Seen.{claim_seen}
use Rattle.path_claims.proofs.Places.{map_len}
use Rattle.path_claims.proofs.Whole.{alike, contested_is, flags_are, is_sorted, numbers_below, same_owners}
use Rattle.path_claims.proofs.owner.owners_of.Goals as goal

pub owners_in_order-requires-clause-sorted : goal.owners_in_order-requires-clause-sorted
owners_in_order-requires-clause-sorted g c = is_sorted (map claim_seen c.args.claims.items) _ (ap (map claim_seen) c.deref.ensures.value ∙ c.in_ok-sort_claims.ensures)

pub owned_flags-requires-clause-numbers : goal.owned_flags-requires-clause-numbers
owned_flags-requires-clause-numbers g c =
    numbers_below _ _ c.requires.numbered (ap (map claim_seen) c.deref-2.ensures.value ∙ c.in_ok-sort_claims.ensures) _ (map_len claim_seen c.deref-2.result.now)

pub owned_flags-requires-clause-same : goal.owned_flags-requires-clause-same
owned_flags-requires-clause-same g c =
    alike (λ d. owner_among (g.C.Contest.beats c.args.contest.now) (map claim_seen c.deref.result.now) d.path) _ _ _ c.requires.numbered
    (ap (map claim_seen) c.deref-2.ensures.value ∙ c.in_ok-sort_claims.ensures)
    (c.deref-3.ensures.value ∙ (c.in_ok-owners.ensures ∙ ap (map (λ d. owner_among (g.C.Contest.beats c.args.contest.now) (map claim_seen c.deref.result.now) d.path)) (ap (map claim_seen) (c.deref.ensures.value ∙ sym c.deref-2.ensures.value))))

pub first_contested-contested-requires-clause-sorted : goal.first_contested-contested-requires-clause-sorted
first_contested-contested-requires-clause-sorted g c = is_sorted (map claim_seen c.args.claims.items) _ (ap (map claim_seen) c.deref-4.ensures.value ∙ c.in_ok-sort_claims.ensures)

pub returns-clause-owners : goal.returns-clause-owners
returns-clause-owners g c =
    same_owners (g.C.Contest.beats c.args.contest.now) (map claim_seen c.args.claims.items) (map claim_seen c.sort_claims.new.claims.items) c.in_ok-sort_claims.ensures c.in_ok-owners.owners.items
    (c.in_ok-owners.ensures ∙ (λ j. map (λ d. owner_among (g.C.Contest.beats c.args.contest.now) (map claim_seen (c.deref.ensures.value j)) d.path) (map claim_seen (c.deref.ensures.value j))))

pub returns-clause-owned : goal.returns-clause-owned
returns-clause-owned g c =
    flags_are (g.C.Contest.beats c.args.contest.now) (map claim_seen c.args.claims.items) (map claim_seen c.deref-2.result.now) c.deref-3.result.now c.in_ok-owned.owned.items c.requires.numbered
    (ap (map claim_seen) c.deref-2.ensures.value ∙ c.in_ok-sort_claims.ensures)
    (c.deref-3.ensures.value ∙ (c.in_ok-owners.ensures ∙ (λ j. map (λ d. owner_among (g.C.Contest.beats c.args.contest.now) (map claim_seen ((c.deref.ensures.value ∙ sym c.deref-2.ensures.value) j)) d.path) (map claim_seen ((c.deref.ensures.value ∙ sym c.deref-2.ensures.value) j)))))
    (length c.deref-2.result.now) c.in_ok-owned.ensures.len (map_len claim_seen c.deref-2.result.now) c.in_ok-owned.ensures.marked

pub returns-clause-contested : goal.returns-clause-contested
returns-clause-contested g c =
    contested_is (g.C.Contest.beats c.args.contest.now) (map claim_seen c.args.claims.items) (map claim_seen c.deref-4.result.now) _
    (ap (map claim_seen) c.deref-4.ensures.value ∙ c.in_ok-sort_claims.ensures) c.first_contested-contested.ensures
