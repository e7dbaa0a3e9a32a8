use Rattle.std.proofs.Common.{sym}
use Rattle.candidate_core.proofs.NamedVersions.{matches_removed}
use Rattle.candidate_core.proofs.package_matches.take_known.Goals as goal

pub returns-in-Some-clause-taken : goal.returns-in-Some-clause-taken
returns-in-Some-clause-taken c = λ text d right version bits.
    right c.args.key.0 c.args.key.1 c.args.key.2 c.in-Some.known d (sym c.in-Some.ensures.value) version bits

pub returns-in-Some-clause-others : goal.returns-in-Some-clause-others
returns-in-Some-clause-others c = λ text right. matches_removed text c.args.by_version.now c.remove.new.self c.args.key right c.in-Some.ensures.updates.0

pub returns-in-None-clause-others : goal.returns-in-None-clause-others
returns-in-None-clause-others c = λ text right. matches_removed text c.args.by_version.now c.remove.new.self c.args.key right c.in-None.ensures.updates.0
