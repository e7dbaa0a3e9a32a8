use Rattle.std.proofs.Common.{◌∙◌, ap}
use Rattle.candidate_core.specs.Candidates.{version_meeting_need}
use Rattle.candidate_core.specs.Values.{need_of_ref}
use Rattle.candidate_core.specs.VersionTexts.{source_text}
use Rattle.candidate_core.proofs.StoredPackages.{is_candidate, source_within, stored_for, texts_of_source, word_of_source}
use Rattle.candidate_core.proofs.WantedVersions.{read_by}
use Rattle.candidate_core.proofs.packages.Packages.version_meeting_need.Goals as goal

pub index-package-requires : goal.index-package-requires
index-package-requires c = stored_for c.args.self.now c.args.place c.requires.within

pub index-requires : goal.index-requires
index-requires c = source_within c.args.self.now c.args.place c.index-package.result.now (stored_for c.args.self.now c.args.place c.requires.within) c.index-package.ensures

pub version_meeting_need-requires-clause-package : goal.version_meeting_need-requires-clause-package
version_meeting_need-requires-clause-package c = word_of_source c.args.self.now c.args.place c.index-package.result.now (stored_for c.args.self.now c.args.place c.requires.within) c.index-package.ensures c.index.result.now c.index.ensures

pub version_meeting_need-requires-clause-known : goal.version_meeting_need-requires-clause-known
version_meeting_need-requires-clause-known c = (
  source_text c.args.self.now.sources.items,
  texts_of_source c.args.self.now c.args.place c.index-package.result.now (stored_for c.args.self.now c.args.place c.requires.within) c.index-package.ensures c.index.result.now c.index.ensures,
  c.requires.known,
)

pub returns-clause-version : goal.returns-clause-version
returns-clause-version c = λ own at.
    c.version_meeting_need.ensures.version
    ∙ ap (version_meeting_need (need_of_ref c.args.need.now)) (is_candidate c.args.self.now c.args.place c.index-package.result.now (stored_for c.args.self.now c.args.place c.requires.within) c.index-package.ensures c.index.result.now c.index.ensures own at)

pub returns-clause-text : goal.returns-clause-text
returns-clause-text c =
    read_by (source_text c.args.self.now.sources.items) c.version_meeting_need.result c.index.result.now c.index-package.result.now.source
    (texts_of_source c.args.self.now c.args.place c.index-package.result.now (stored_for c.args.self.now c.args.place c.requires.within) c.index-package.ensures c.index.result.now c.index.ensures)
    c.version_meeting_need.ensures.source c.version_meeting_need.ensures.text
