use Rattle.std.proofs.Common.{◌∙◌, ap, sym}
use Rattle.std.specs.Prelude.{◌&&◌}
use Rattle.dep_core.specs.Meets.{dependency}
use Rattle.option_ranks.specs.candidate_core.Candidates.{meets_dependency}
use Rattle.option_ranks.proofs.candidate_core.WantedVersions.{if_ok_map}
use Rattle.pool_core.proofs.marks.bars.Goals as goal

pub returns-then-not-entry-clause-bars : goal.returns-then-not-entry-clause-bars
returns-then-not-entry-clause-bars c = sym (ap (λ t. t && meets_dependency (dependency c.args.entry.now) c.args.one.now) c.if-not-entry.true)

pub returns-then-not-is_long-clause-bars : goal.returns-then-not-is_long-clause-bars
returns-then-not-is_long-clause-bars c = c.meets.ensures ∙ sym (ap (λ t. t && meets_dependency (dependency c.args.entry.now) c.args.one.now) c.if-not-entry.false)

pub returns-clause-bars : goal.returns-clause-bars
returns-clause-bars c =
    if_ok_map _ _ (λ answer h. h c.args.one.now c.requires.here ∙ sym (ap (λ t. t && meets_dependency (dependency c.args.entry.now) c.args.one.now) c.if-not-entry.false))
    c.meets_dependency_or_has_package_name.result c.meets_dependency_or_has_package_name.ensures.meets
