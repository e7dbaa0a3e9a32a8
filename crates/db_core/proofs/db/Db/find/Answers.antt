use Rattle.std.proofs.Common.{◌∙◌, ap, map}
use Rattle.db_core.specs.NamePlaces.{place_under_name}
use Rattle.db_core.specs.NameSeen.{name_seen}
use Rattle.db_core.specs.Packages.{is_package_named}
use Rattle.db_core.specs.Seen.{packages_of}
use Rattle.db_core.proofs.NamePlaces.{found_within, names_sorted, place_in_order}
use Rattle.db_core.proofs.db.Db.find.Goals as goal

pub place_of-requires : goal.place_of-requires
place_of-requires c = names_sorted (packages_of c.args.self.now) _ (ap (map name_seen) c.deref.ensures.value ∙ c.args.self.now.by_name)

pub returns-clause-found : goal.returns-clause-found
returns-clause-found c =
    c.place_of.ensures
    ∙ (ap (place_under_name c.args.name.now) (ap (map name_seen) c.deref.ensures.value ∙ c.args.self.now.by_name)
    ∙ place_in_order c.args.name.now (packages_of c.args.self.now))

pub returns-clause-within : goal.returns-clause-within
returns-clause-within c =
    found_within (is_package_named c.args.name.now) (packages_of c.args.self.now) c.place_of.result
    (c.place_of.ensures
    ∙ (ap (place_under_name c.args.name.now) (ap (map name_seen) c.deref.ensures.value ∙ c.args.self.now.by_name)
    ∙ place_in_order c.args.name.now (packages_of c.args.self.now)))
