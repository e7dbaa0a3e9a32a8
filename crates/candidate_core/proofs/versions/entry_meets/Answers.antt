use Rattle.dep_core.specs.Dependency.{Dependency}
use Rattle.dep_core.specs.Meets.{dependency}
use Rattle.std.proofs.Common.{Bool}
use Rattle.candidate_core.specs.Candidates.{dependency_in, is_met_by_provides_entry}
use Rattle.adb_view.specs.Values.{value_at}
use Rattle.adb_view.specs.declared.tables.Kind.TheVariants as Kinds
use Rattle.adb_view.specs.declared.tables.Which.TheVariants as Tables
use Rattle.adb_view.specs.Adb.{payload_of}
use Rattle.candidate_core.proofs.WantedVersions.{if_ok_map, no_entry, one_entry}
use Rattle.candidate_core.proofs.versions.entry_meets.Goals as goal

pub returns-in-Some : goal.returns-in-Some
returns-in-Some c =
    let meets : Dependency → Bool = is_met_by_provides_entry (dependency c.args.dep.now) in
    if_ok_map _ _ (λ answer h text of known.
    let one = h text of known in
    (one_entry meets (dependency c.in-Some.found) (dependency_in (value_at (payload_of c.args.source.now.adb) (Kinds.Obj Tables.Dep) c.args.word)) answer c.in-Some.ensures one.0, one.1))
    c.found_entry_meets.result c.found_entry_meets.ensures

pub returns-in-None : goal.returns-in-None
returns-in-None c = λ text of known.
    (no_entry (is_met_by_provides_entry (dependency c.args.dep.now)) (dependency_in (value_at (payload_of c.args.source.now.adb) (Kinds.Obj Tables.Dep) c.args.word)) c.in-None.ensures, known)
