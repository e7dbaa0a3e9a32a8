use Rattle.std.proofs.lemmas.List.Elements.{All-set}
use Rattle.candidate_core.specs.PackageWords.{IsPackageWordAmong}
use Rattle.candidate_core.proofs.PackageLists.{marked_word, set_mark}
use Rattle.candidate_core.proofs.StoredPackages.{listed_for, stored_for, word_there}
use Rattle.candidate_core.proofs.packages.Packages.mark_installed.Goals as goal

pub index_mut-requires : goal.index_mut-requires
index_mut-requires c = stored_for c.args.self.now c.args.place c.requires

pub invariant_of-self : goal.invariant_of-self
invariant_of-self c =
    let own = c.args.self.now in
    record {
      sound = All-set (IsPackageWordAmong own.sources.items) own.words.items c.args.place (set_mark c.index_mut.result.now)
          (word_there own c.args.place c.index_mut.result.now (stored_for own c.args.place c.requires) c.index_mut.ensures.value) own.sound;
    }

pub returns : goal.returns
returns c =
    let own = c.args.self.now in
    marked_word own.sources.items own.words.items c.args.place c.index_mut.result.now (listed_for own c.args.place c.requires) c.index_mut.ensures.value
