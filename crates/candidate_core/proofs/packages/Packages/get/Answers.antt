use Rattle.std.proofs.Common.{◌∙◌, ℕ, ap, subst, sym}
use Rattle.std.specs.Prelude.{Some}
use Rattle.candidate_core.specs.PackageWords.{IsPackageWordOf}
use Rattle.candidate_core.specs.Packages.{candidate_in_source}
use Rattle.candidate_core.proofs.StoredPackages.{candidate_there, source_within, stored_for, word_of_source}
use Rattle.candidate_core.proofs.packages.Packages.get.Goals as goal

pub index-package-requires : goal.index-package-requires
index-package-requires c = stored_for c.args.self.now c.args.place c.requires

pub index-requires : goal.index-requires
index-requires c = source_within c.args.self.now c.args.place c.index-package.result.now (stored_for c.args.self.now c.args.place c.requires) c.index-package.ensures

pub of-requires-2 : goal.of-requires-2
of-requires-2 c =
    subst (IsPackageWordOf c.index.result.now) (sym c.of.ensures)
    (word_of_source c.args.self.now c.args.place c.index-package.result.now (stored_for c.args.self.now c.args.place c.requires) c.index-package.ensures c.index.result.now c.index.ensures)

pub returns : goal.returns
returns c =
    candidate_there c.args.self.now c.args.place c.index-package.result.now (stored_for c.args.self.now c.args.place c.requires) c.index-package.ensures c.index.result.now c.index.ensures
    ∙ (ap (λ (word : ℕ). Some (candidate_in_source (Some c.index.result.now) word c.index-package.result.now.installed)) (sym c.of.ensures) ∙ ap Some (sym c.of-2.ensures))
