use Rattle.std.proofs.Common.{◌≡◌, ◌∙◌, ℕ, List, true, false, ap, sym}
use Rattle.std.specs.Prelude.{◌&&◌, bytes_eq, option_copied}
use Rattle.dep_core.specs.Dependency.{Dependency}
use Rattle.dep_core.specs.Meets.{dependency}
use Rattle.candidate_core.specs.Candidates.{Candidate, candidate_of}
use Rattle.candidate_core.specs.Matches.{dependency_accepts}
use Rattle.candidate_core.specs.PackageWords.{info_in_source}
use Rattle.candidate_core.proofs.WantedVersions.{if_ok_map, read_by}
use Rattle.candidate_core.proofs.versions.own_version_meets.Goals as goal

pub returns-then-not-is_named_as : goal.returns-then-not-is_named_as
returns-then-not-is_named_as c = λ text of known.
    let d : Dependency = dependency c.args.dep.now in
    let own : Candidate = candidate_of (info_in_source c.args.source.now c.args.kept.word) c.args.source.now.repo (option_copied c.args.source.now.tag) c.args.kept.installed in
    let named : ℕ → List ℕ = λ word. (candidate_of (info_in_source c.args.source.now word) c.args.source.now.repo (option_copied c.args.source.now.tag) c.args.kept.installed).name in
    let other : bytes_eq d.name own.name ≡ false =
    ap (bytes_eq d.name) (sym (c.name.ensures ∙ (ap (λ (x : Candidate). x.name) c.of-details.ensures ∙ ap named c.of.ensures))) ∙ (sym c.is_named_as.ensures ∙ c.if-not-is_named_as.true) in
    (sym (ap (λ t. t && dependency_accepts d own.version) other), known)

pub returns : goal.returns
returns c =
    let d : Dependency = dependency c.args.dep.now in
    let own : Candidate = candidate_of (info_in_source c.args.source.now c.args.kept.word) c.args.source.now.repo (option_copied c.args.source.now.tag) c.args.kept.installed in
    let named : ℕ → List ℕ = λ word. (candidate_of (info_in_source c.args.source.now word) c.args.source.now.repo (option_copied c.args.source.now.tag) c.args.kept.installed).name in
    let same : bytes_eq d.name own.name ≡ true =
    ap (bytes_eq d.name) (sym (c.name.ensures ∙ (ap (λ (x : Candidate). x.name) c.of-details.ensures ∙ ap named c.of.ensures))) ∙ (sym c.is_named_as.ensures ∙ c.if-not-is_named_as.false) in
    if_ok_map _ _ (λ answer h text of known.
    let w = h text (read_by text c.own_version.result c.args.source.now c.args.kept.source of c.own_version.ensures.source c.own_version.ensures.text) known in
    (w.0 ∙ (ap (dependency_accepts d) c.own_version.ensures.version ∙ sym (ap (λ t. t && dependency_accepts d own.version) same)), w.1))
    c.constraint_accepts.result c.constraint_accepts.ensures
