use Rattle.std.proofs.Common.{◌≡◌, ◌∙◌, true, false, ap, sym}
use Rattle.std.specs.Prelude.{◌&&◌, bytes_eq, not}
use Rattle.dep_core.specs.Dependency.{Dependency}
use Rattle.dep_core.specs.Meets.{dependency, meets}
use Rattle.candidate_core.specs.Matches.{dependency_accepts}
use Rattle.candidate_core.proofs.WantedVersions.{if_ok_map, read_by}
use Rattle.candidate_core.proofs.versions.found_entry_meets.Goals as goal

pub returns : goal.returns
returns c =
    let d : Dependency = dependency c.args.dep.now in
    let p : Dependency = dependency c.args.found in
    let provides : p.conflict ≡ false = c.if-found.false in
    let same : bytes_eq d.name p.name ≡ true = sym c.is_named_as.ensures ∙ c.if-not-is_named_as.false in
    if_ok_map _ _ (λ answer h text of known.
    let w = h text (read_by text c.version_of_entry.result c.args.source.now c.args.place of c.version_of_entry.ensures.source c.version_of_entry.ensures.text) known in
    (w.0 ∙ (ap (dependency_accepts d) c.version_of_entry.ensures.version ∙ sym (ap (λ t. not t && meets d p.name p.version) provides ∙ ap (λ t. t && dependency_accepts d p.version) same)), w.1))
    c.constraint_accepts.result c.constraint_accepts.ensures
