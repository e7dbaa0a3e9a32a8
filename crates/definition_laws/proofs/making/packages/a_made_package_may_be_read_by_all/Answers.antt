use Rattle.std.proofs.Common.{sym, subst}
use Rattle.std.specs.Prelude.{All}
use Rattle.definition_laws.proofs.making.Access.{folders_enterable}
use Rattle.definition_laws.proofs.making.MadeFrom.{folders_are, made_from}
use Rattle.definition_laws.specs.making.MadePackages.{IsEnterableWithReadableFiles, package_in_container}
use Rattle.definition_laws.proofs.making.packages.a_made_package_may_be_read_by_all.Goals as goal

pub returns : goal.returns
returns c = λ command names read bytes made.
    let m = made_from c.a_made_package_is_read_back.ensures command names read bytes made in
    subst (All IsEnterableWithReadableFiles) (sym (folders_are command names read (package_in_container bytes) m)) (folders_enterable m.sources)
