-- What a name with its place denotes.
-- No document has a rule for this: it serves the contracts of `src/name_places.rt`.
use Rattle.db_core.specs.NamePlaces.{NameWithPlace}
use Rattle.db_core.specs.declared.name_places.NamePlace.{NamePlace}

-- the name and the place of a `NamePlace`; its name is a slice, here a list
abbrev pub name_seen : NamePlace → NameWithPlace
name_seen n = record { name = n.name.now; place = n.place }
