-- The values of definitions that the changes of the program denote. No document has a rule for this: it serves the
-- contracts of `src/`, whose texts are slices.
use Rattle.std.specs.Prelude.{ℕ, List, map, option_map}
use Rattle.own_core.specs.db_core.Seen.{packages_of}
use Rattle.own_core.specs.db_core.declared.db.Db.{Db}
use Rattle.solve_core.specs.candidate_core.Rank.{SelectionProblem}
use Rattle.report_core.specs.Reports as Texts
use Rattle.package_changes.specs.Placed.{PlacedChange, PlacedName, ReplacementWithSelectionAsPlaces}
use Rattle.package_changes.specs.declared.change.Change.{Change}
use Rattle.package_changes.specs.declared.change.Change.TheVariants.{Downgrade, Install, Purge, Reinstall, Replace, Upgrade}
use Rattle.package_changes.specs.declared.change.PlacedChange.{PlacedChange as Placed}
use Rattle.package_changes.specs.declared.changes.Changes.{Changes}
use Rattle.package_changes.specs.declared.placed.PlacedName.{PlacedName as NameOfCode}
use Rattle.package_changes.specs.declared.placed.PlacedNames.{PlacedNames}

-- the change of a package, as contracts see it: with texts in place of slices
abbrev pub change_seen : Change → Texts.Change
change_seen (Install name version) = Texts.Install name.now version.now
change_seen (Reinstall name version) = Texts.Reinstall name.now version.now
change_seen (Purge name version) = Texts.Purge name.now version.now
change_seen (Upgrade name old new) = Texts.Upgrade name.now old.now new.now
change_seen (Downgrade name old new) = Texts.Downgrade name.now old.now new.now
change_seen (Replace name old new) = Texts.Replace name.now old.now new.now

-- a change with its two places (in the database, and among the candidates), as contracts see it
abbrev pub placed_change_seen : Placed → PlacedChange
placed_change_seen p = record { change = change_seen p.change; old = p.old; new = p.new }

-- the changes, in their order, as contracts see them
abbrev pub changes_seen : Changes → List PlacedChange
changes_seen changes = map placed_change_seen changes.list.items

-- a name with its package's change, as contracts see it, even if the package is kept
abbrev pub placed_name_seen : NameOfCode → PlacedName
placed_name_seen n = record {
  name = n.name.now;
  change = option_map change_seen n.change;
  old = n.old;
  new = n.new;
}

-- the names, in their order, as contracts see them
abbrev pub placed_names_seen : PlacedNames → List PlacedName
placed_names_seen names = map placed_name_seen names.list.items

-- the replacement of the packages of a database by the candidates at the places `trace` of a pool, with the names that
-- are to be installed again
abbrev pub placed_replacement_from_parts : Db → SelectionProblem → List ℕ → List (List ℕ)
    → ReplacementWithSelectionAsPlaces
placed_replacement_from_parts db pool trace again =
    record { before = packages_of db; pool = pool; trace = trace; again = again }
