use Rattle.std.proofs.Common.{◌≡◌, drop, map}
use Rattle.dep_core.specs.Meets.{dependency}
use Rattle.make_info.specs.Fields.{need}
use Rattle.make_info.specs.Information.{plain_value}
use Rattle.make_info.proofs.Mapped.{with_list}
use Rattle.v2_core.proofs.writing.write_needs.Given as goal

-- with those that are left it has all
abbrev pub invariant-loop-need : goal.invariant-loop-need
invariant-loop-need l =
    with_list (map (λ d. plain_value (need (dependency d))) (drop l.need-index l.needs)) l.draft ≡ with_list (map (λ d. plain_value (need (dependency d))) l.needs) l.initial.draft
