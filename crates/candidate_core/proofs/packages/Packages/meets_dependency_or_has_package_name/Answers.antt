use Rattle.std.proofs.Common.{◌∙◌, ap}
use Rattle.candidate_core.specs.Candidates.{meets_dependency_or_has_package_name}
use Rattle.candidate_core.specs.Values.{need_of_ref}
use Rattle.candidate_core.specs.VersionTexts.{source_text}
use Rattle.candidate_core.proofs.StoredPackages.{is_candidate, source_within, stored_for, texts_of_source, word_of_source}
use Rattle.candidate_core.proofs.WantedVersions.{if_ok_map}
use Rattle.candidate_core.proofs.packages.Packages.meets_dependency_or_has_package_name.Goals as goal

pub index-package-requires : goal.index-package-requires
index-package-requires c = stored_for c.args.self.now c.args.place c.requires.within

pub index-requires : goal.index-requires
index-requires c = source_within c.args.self.now c.args.place c.index-package.result.now (stored_for c.args.self.now c.args.place c.requires.within) c.index-package.ensures

pub meets_dependency_or_has_package_name-requires : goal.meets_dependency_or_has_package_name-requires
meets_dependency_or_has_package_name-requires c = word_of_source c.args.self.now c.args.place c.index-package.result.now (stored_for c.args.self.now c.args.place c.requires.within) c.index-package.ensures c.index.result.now c.index.ensures

pub returns-clause-meets : goal.returns-clause-meets
returns-clause-meets c =
    let texts = texts_of_source c.args.self.now c.args.place c.index-package.result.now (stored_for c.args.self.now c.args.place c.requires.within) c.index-package.ensures c.index.result.now c.index.ensures in
    if_ok_map _ _ (λ meets h own at.
    (h (source_text c.args.self.now.sources.items) texts c.requires.known).0
    ∙ ap (meets_dependency_or_has_package_name (need_of_ref c.args.need.now)) (is_candidate c.args.self.now c.args.place c.index-package.result.now (stored_for c.args.self.now c.args.place c.requires.within) c.index-package.ensures c.index.result.now c.index.ensures own at))
    c.meets_dependency_or_has_package_name.result c.meets_dependency_or_has_package_name.ensures

pub returns-clause-known : goal.returns-clause-known
returns-clause-known c =
    let texts = texts_of_source c.args.self.now c.args.place c.index-package.result.now (stored_for c.args.self.now c.args.place c.requires.within) c.index-package.ensures c.index.result.now c.index.ensures in
    if_ok_map _ _ (λ meets h. (h (source_text c.args.self.now.sources.items) texts c.requires.known).1)
    c.meets_dependency_or_has_package_name.result c.meets_dependency_or_has_package_name.ensures
