use Rattle.std.proofs.Common.{◌≡◌, ◌∙◌, ℕ, List, true, false, ap, sym}
use Rattle.std.specs.Prelude.{◌&&◌, bytes_eq, not}
use Rattle.dep_core.specs.Dependency.{Dependency}
use Rattle.dep_core.specs.Meets.{dependency, meets}
use Rattle.candidate_core.specs.Matches.{dependency_accepts}
use Rattle.candidate_core.proofs.WantedVersions.{read_by}
use Rattle.candidate_core.proofs.versions.is_met_as_known.Goals as goal

pub returns : goal.returns
returns c =
    let d : Dependency = dependency c.args.dep.now in
    let p : Dependency = dependency c.args.found.now in
    let provides : p.conflict ≡ false = c.if-found.false in
    let same : bytes_eq d.name p.name ≡ true = sym c.is_named_as.ensures ∙ c.if-not-is_named_as.false in
    let text : ℕ → ℕ → List ℕ = c.requires.known.0 in
    let read = read_by text c.version_of_entry.result c.args.source.now c.args.place c.requires.known.1 c.version_of_entry.ensures.source c.version_of_entry.ensures.text in
    c.is_wanted_as_known.ensures text read c.requires.known.2
    ∙ (ap (dependency_accepts d) c.version_of_entry.ensures.version ∙ sym (ap (λ t. not t && meets d p.name p.version) provides ∙ ap (λ t. t && dependency_accepts d p.version) same))
