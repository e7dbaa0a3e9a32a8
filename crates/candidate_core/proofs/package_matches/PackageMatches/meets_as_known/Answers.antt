use Rattle.std.proofs.Common.{ℕ, List, sym}
use Rattle.dep_core.specs.Dependency.{Dependency}
use Rattle.dep_core.specs.Meets.{dependency}
use Rattle.candidate_core.specs.VersionTexts.{source_text}
use Rattle.candidate_core.proofs.NamedVersions.{matches_inserted}
use Rattle.candidate_core.proofs.package_matches.PackageMatches.meets_as_known.Goals as goal

pub meets_dependency_or_has_package_name-requires-clause-known : goal.meets_dependency_or_has_package_name-requires-clause-known
meets_dependency_or_has_package_name-requires-clause-known c =
    c.take_known-known.ensures.taken (source_text c.args.self.now.packages.now.sources.items) (dependency c.args.dep.now) c.requires.matches c.requires.named (sym c.bits.ensures.bits)

pub returns-clause-matches : goal.returns-clause-matches
returns-clause-matches c =
    let text : ℕ → ℕ → List ℕ = source_text c.args.self.now.packages.now.sources.items in
    let d : Dependency = dependency c.args.dep.now in
    matches_inserted text c.take_known-known.new.by_version c.insert.new.self (c.args.version.source, c.args.version.word, c.bits.result) (c.take_known-known.ensures.others text c.requires.matches)
    c.meets_dependency_or_has_package_name.new.known d c.in_ok-insert.ensures.updates.0 c.requires.named (sym c.bits.ensures.bits) c.in_ok-meets.ensures.known

pub meets_dependency_or_has_package_name-requires-clause-within : goal.meets_dependency_or_has_package_name-requires-clause-within
meets_dependency_or_has_package_name-requires-clause-within c = c.requires.within

pub returns-clause-meets : goal.returns-clause-meets
returns-clause-meets c = c.in_ok-meets.ensures.meets
