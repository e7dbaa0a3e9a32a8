use Rattle.std.proofs.Common.{◌-◌, ◌≡◌, ◌<◌, ◌≤◌}
use Rattle.version_core.specs.Overlapping.{IsSafeSkip, can_rest_follow_place}
use Rattle.version_core.proofs.overlapping.OverlappingVersions.is_passed.Given as goal

abbrev pub invariant-loop-place : goal.invariant-loop-place
invariant-loop-place l = record {
  bytes : l.self ≡ l.fn.self;
  within : l.place.at ≤ l.end;
  same : can_rest_follow_place l.fn.self l.fn.first l.end ≡ can_rest_follow_place l.fn.self l.place l.end;
  leads : l.place.at < l.end → IsSafeSkip l.fn.self l.begun l.place;
}

abbrev pub decreases-loop-place : goal.decreases-loop-place
decreases-loop-place l = l.end - l.place.at
