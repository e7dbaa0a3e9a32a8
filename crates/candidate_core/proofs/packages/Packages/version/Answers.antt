use Rattle.std.proofs.Common.{◌∙◌, ap}
use Rattle.candidate_core.specs.Candidates.{Candidate}
use Rattle.candidate_core.specs.VersionTexts.{source_text}
use Rattle.candidate_core.proofs.StoredPackages.{is_candidate, source_within, stored_for, texts_of_source, word_of_source}
use Rattle.candidate_core.proofs.WantedVersions.{read_by}
use Rattle.candidate_core.proofs.packages.Packages.version.Goals as goal

pub index-package-requires : goal.index-package-requires
index-package-requires c = stored_for c.args.self.now c.args.place c.requires

pub index-requires : goal.index-requires
index-requires c = source_within c.args.self.now c.args.place c.index-package.result.now (stored_for c.args.self.now c.args.place c.requires) c.index-package.ensures

pub own_version-requires : goal.own_version-requires
own_version-requires c = word_of_source c.args.self.now c.args.place c.index-package.result.now (stored_for c.args.self.now c.args.place c.requires) c.index-package.ensures c.index.result.now c.index.ensures

pub returns-clause-version : goal.returns-clause-version
returns-clause-version c = λ own at.
    c.own_version.ensures.version
    ∙ ap (λ (d : Candidate). d.version) (is_candidate c.args.self.now c.args.place c.index-package.result.now (stored_for c.args.self.now c.args.place c.requires) c.index-package.ensures c.index.result.now c.index.ensures own at)

pub returns-clause-text : goal.returns-clause-text
returns-clause-text c =
    read_by (source_text c.args.self.now.sources.items) c.own_version.result c.index.result.now c.index-package.result.now.source
    (texts_of_source c.args.self.now c.args.place c.index-package.result.now (stored_for c.args.self.now c.args.place c.requires) c.index-package.ensures c.index.result.now c.index.ensures)
    c.own_version.ensures.source c.own_version.ensures.text
