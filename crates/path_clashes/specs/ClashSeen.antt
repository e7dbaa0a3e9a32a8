-- A clash of the program as contracts see it.
-- No document has a rule for this: it serves the contracts of `src/clash.rt`.
use Rattle.path_clashes.specs.Clash.{NamePair}
use Rattle.path_clashes.specs.declared.clash.Clash.{Clash}

-- the two names of a `Clash` of the program, as a pair
abbrev pub clash_seen : Clash → NamePair
clash_seen clash = record { path = clash.path; other = clash.other }
