-- A name that is provided is found just if an entry that provides it is.
use Rattle.std.proofs.Common.{◌≡◌, List, [], ◌∷◌, Bool, true, false, refl, ap}
use Rattle.std.specs.Prelude.{◌||◌}
use Rattle.std.specs.List.{list_any}
use Rattle.command_core.specs.declared.operands.Operand.{Operand}
use Rattle.dep_core.specs.Dependency.{Dependency}
use Rattle.query_core.specs.EntryFound.{is_provides_entry_found}
use Rattle.query_core.specs.Search.{is_part_of_name_matched_by_some_pattern, provided_names}

found_next : (patterns : List Operand) (p : Dependency) (ps : List Dependency) (b : Bool) → p.conflict ≡ b → list_any (is_part_of_name_matched_by_some_pattern patterns) (provided_names ps) ≡ list_any (is_provides_entry_found patterns) ps → list_any (is_part_of_name_matched_by_some_pattern patterns) (provided_names (p ∷ ps)) ≡ list_any (is_provides_entry_found patterns) (p ∷ ps)
found_next patterns p ps true e h = rw e h
found_next patterns p ps false e h = rw e (ap (λ (b : Bool). is_part_of_name_matched_by_some_pattern patterns p.name || b) h)

pub provided_found : (patterns : List Operand) (ps : List Dependency) → list_any (is_part_of_name_matched_by_some_pattern patterns) (provided_names ps) ≡ list_any (is_provides_entry_found patterns) ps
provided_found patterns [] = refl
provided_found patterns (p ∷ ps) = found_next patterns p ps p.conflict refl (provided_found patterns ps)
