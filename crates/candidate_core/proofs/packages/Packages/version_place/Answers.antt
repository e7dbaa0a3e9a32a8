use Rattle.std.proofs.Common.{◌<◌, ℕ, subst}
use Rattle.std.specs.Prelude.{Some}
use Rattle.dep_core.specs.Meets.{dependency}
use Rattle.candidate_core.specs.Packages.{candidate_in_source}
use Rattle.candidate_core.specs.VersionTexts.{source_text}
use Rattle.candidate_core.specs.declared.packages.PackageWord.{PackageWord}
use Rattle.candidate_core.specs.declared.packages.Source.{Source}
use Rattle.candidate_core.proofs.StoredPackages.{candidate_there, source_within, texts_of_source, word_of_source}
use Rattle.candidate_core.proofs.packages.Packages.version_place.Goals as goal

pub index-package-requires : goal.index-package-requires
index-package-requires c = subst (λ (n : ℕ). c.args.held.now.package < n) c.len.ensures c.if-held-len.false

pub index-requires : goal.index-requires
index-requires c =
    let k : ℕ = c.args.held.now.package in
    source_within c.args.self.now k c.index-package.result.now (subst (λ (n : ℕ). k < n) c.len.ensures c.if-held-len.false) c.index-package.ensures

pub depends_version_place-requires : goal.depends_version_place-requires
depends_version_place-requires c =
    let k : ℕ = c.args.held.now.package in
    word_of_source c.args.self.now k c.index-package.result.now (subst (λ (n : ℕ). k < n) c.len.ensures c.if-held-len.false) c.index-package.ensures c.index.result.now c.index.ensures

pub returns : goal.returns
returns c =
    let own = c.args.self.now in
    let k : ℕ = c.args.held.now.package in
    let kept : PackageWord = c.index-package.result.now in
    let source : Source = c.index.result.now in
    let within = subst (λ (n : ℕ). k < n) c.len.ensures c.if-held-len.false in
    c.depends_version_place.ensures (source_text own.sources.items) (dependency c.args.held.now.dep.now)
    (texts_of_source own k kept within c.index-package.ensures source c.index.ensures)
    (c.requires (candidate_in_source (Some source) kept.word kept.installed) (candidate_there own k kept within c.index-package.ensures source c.index.ensures))
