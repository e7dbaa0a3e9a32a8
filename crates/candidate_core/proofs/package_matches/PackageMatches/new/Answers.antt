use Rattle.std.proofs.Common.{refl}
use Rattle.candidate_core.specs.VersionTexts.{source_text}
use Rattle.candidate_core.proofs.NamedVersions.{matches_of_nothing}
use Rattle.candidate_core.proofs.package_matches.PackageMatches.new.Goals as goal

pub returns : goal.returns
returns c = (refl, matches_of_nothing (source_text c.args.packages.now.sources.items) c.new.result c.new.ensures.empty)
