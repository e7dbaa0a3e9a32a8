use Rattle.std.proofs.Common.{◌∙◌, ℕ, List, ap, sym}
use Rattle.std.specs.Prelude.{slice_get}
use Rattle.dep_core.specs.Meets.{dependency}
use Rattle.candidate_core.specs.Candidates.{meets_dependency}
use Rattle.candidate_core.specs.PackageMatches.{AreMatchesAmong, AreMatchesByVersion}
use Rattle.candidate_core.specs.Packages.{candidates_of_packages}
use Rattle.candidate_core.specs.VersionTexts.{source_text}
use Rattle.candidate_core.proofs.NamedVersions.{matches_after}
use Rattle.candidate_core.proofs.Steps.{on_ok}
use Rattle.candidate_core.proofs.StoredPackages.{one_value}
use Rattle.candidate_core.proofs.WantedVersions.{some_text}
use Rattle.candidate_core.proofs.package_matches.PackageMatches.meets.Goals as goal

pub returns-then-not-is_long-clause-meets : goal.returns-then-not-is_long-clause-meets
returns-then-not-is_long-clause-meets c = λ one at.
    let place = slice_get (candidates_of_packages c.args.self.now.packages.now) c.args.place in
    c.meets.ensures ∙ ap (meets_dependency (dependency c.args.held.now.dep.now)) (one_value place c.get.result one c.get.ensures at)

pub returns-in-None-clause-meets : goal.returns-in-None-clause-meets
returns-in-None-clause-meets c = λ one at.
    let place = slice_get (candidates_of_packages c.args.self.now.packages.now) c.args.place in
    c.meets-in-None.ensures ∙ ap (meets_dependency (dependency c.args.held.now.dep.now)) (one_value place c.get-in-None.result one c.get-in-None.ensures at)

pub meets_as_known-requires-clause-matches : goal.meets_as_known-requires-clause-matches
meets_as_known-requires-clause-matches c = c.requires.matches.1

pub returns-in-Some-clause-matches : goal.returns-in-Some-clause-matches
returns-in-Some-clause-matches c =
    on_ok c.meets_as_known.result (AreMatchesByVersion (source_text c.args.self.now.packages.now.sources.items) c.meets_as_known.new.self.by_version)
    (AreMatchesAmong (candidates_of_packages c.args.self.now.packages.now) c.meets_as_known.new.self)
    (matches_after c.args.self.now c.meets_as_known.new.self c.meets_as_known.ensures.packages) c.meets_as_known.ensures.matches

pub meets_as_known-requires-clause-named : goal.meets_as_known-requires-clause-named
meets_as_known-requires-clause-named c =
    let text : ℕ → ℕ → List ℕ = source_text c.args.self.now.packages.now.sources.items in
    sym (some_text (dependency c.args.held.now.dep.now).version (text c.in-Some.version.source c.in-Some.version.word) (c.is_long.ensures c.if-not-is_long.false) c.in-Some.ensures)

pub get-requires : goal.get-requires
get-requires c = c.requires.within

pub get-requires-in-None : goal.get-requires-in-None
get-requires-in-None c = c.requires.within

pub version_place-requires : goal.version_place-requires
version_place-requires c = c.requires.held

pub meets_as_known-requires-clause-within : goal.meets_as_known-requires-clause-within
meets_as_known-requires-clause-within c = c.requires.within

pub returns-in-Some-clause-meets : goal.returns-in-Some-clause-meets
returns-in-Some-clause-meets c = c.meets_as_known.ensures.meets
