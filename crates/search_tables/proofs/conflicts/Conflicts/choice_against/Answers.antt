use Rattle.std.proofs.Common.{◌≡◌, ◌≤◌, ◌<◌, ◌∙◌, ℕ, Bool, true, List, length, map, sym, subst, ap, arith}
use Rattle.std.specs.Prelude.{Some, find, slice_get}
use Rattle.std.specs.Option.{option_map}
use Rattle.dep_core.specs.Dependency.{Dependency}
use Rattle.pool_core.specs.candidate_core.Candidates.{Candidate, meets_dependency}
use Rattle.pool_core.specs.candidate_core.Options.{IsIn}
use Rattle.pool_core.specs.candidate_core.Packages.{candidates_of_packages}
use Rattle.pool_core.proofs.candidate_core.NamedVersions.{matches_among, own_matches}
use Rattle.pool_core.proofs.candidate_core.Steps.{get_at}
use Rattle.search_tables.specs.Conflicts.{IsConflictOf, ListedConflictValue, conflict_without_index}
use Rattle.search_tables.proofs.ConflictTables.{first_at, none_more, none_of_all, none_yet}
use Rattle.search_tables.proofs.Places.{there_is}
use Rattle.search_tables.proofs.conflicts.Conflicts.choice_against.Goals as goal

abbrev is_met_by : Candidate → ℕ × Dependency → Bool
is_met_by details c = meets_dependency c.1 details

pub loop-listed-init : goal.loop-listed-init
loop-listed-init c = record {
  matches = c.requires.matches;
  none = λ details at. none_yet (is_met_by details) conflict_without_index c.get-listed-items.result.now;
}

pub is_met_by-requires-clause-within : goal.is_met_by-requires-clause-within
is_met_by-requires-clause-within c = subst (λ (cs : List Candidate). c.args.id < length cs) (sym c.loop-listed.invariant.matches.0) c.requires.within

pub is_met_by-requires-clause-listed : goal.is_met_by-requires-clause-listed
is_met_by-requires-clause-listed c =
    let items : List ListedConflictValue = c.get-listed-items.result.now in
    let item : ListedConflictValue = c.listed-item.result in
    let at : slice_get items c.loop-listed.listed-index ≡ Some item = get_at items c.loop-listed.listed-index item (omega arith) ∙ ap Some (sym c.listed-item.is) in
    let there = subst (λ (z : List ListedConflictValue). IsIn item z) c.get-listed-items.ensures (there_is items c.loop-listed.listed-index item at).1 in
    subst (λ (cs : List Candidate). IsConflictOf cs item) (sym c.loop-listed.invariant.matches.0) (c.requires.listed c.args.name.now item there)

pub is_met_by-requires-clause-matches : goal.is_met_by-requires-clause-matches
is_met_by-requires-clause-matches c = own_matches (candidates_of_packages c.args.matches.now.packages.now) c.loop-listed.matches c.loop-listed.invariant.matches

pub returns-then-is_met-clause-found : goal.returns-then-is_met-clause-found
returns-then-is_met-clause-found c = λ details at.
    let items : List ListedConflictValue = c.get-listed-items.result.now in
    let item : ListedConflictValue = c.listed-item.result in
    let i : ℕ = c.loop-listed.listed-index in
    let here : slice_get items i ≡ Some item = get_at items i item (omega arith) ∙ ap Some (sym c.listed-item.is) in
    let at_now = subst (λ (cs : List Candidate). slice_get cs c.args.id ≡ Some details) (sym c.loop-listed.invariant.matches.0) at in
    let passes : meets_dependency item.1 details ≡ true = sym (c.in_ok-is_met.ensures.meets details at_now) ∙ c.if-is_met.true in
    let first = first_at (is_met_by details) conflict_without_index items i item here (c.loop-listed.invariant.none details at) passes in
    sym (ap (λ (z : List ListedConflictValue). option_map (λ (k : ℕ × Dependency). k.0) (find (is_met_by details) (map conflict_without_index z))) (sym c.get-listed-items.ensures)
    ∙ (ap (option_map (λ (k : ℕ × Dependency). k.0)) first ∙ ap Some (sym c.by.ensures)))

pub returns-then-is_met-clause-matches : goal.returns-then-is_met-clause-matches
returns-then-is_met-clause-matches c =
    matches_among (candidates_of_packages c.args.matches.now.packages.now) c.loop-listed.matches c.is_met_by.new.matches c.loop-listed.invariant.matches c.in_ok-is_met.ensures.matches

pub loop-listed-preserved : goal.loop-listed-preserved
loop-listed-preserved c =
    let items : List ListedConflictValue = c.get-listed-items.result.now in
    let item : ListedConflictValue = c.listed-item.result in
    let i : ℕ = c.loop-listed.listed-index in
    let here : slice_get items i ≡ Some item = get_at items i item (omega arith) ∙ ap Some (sym c.listed-item.is) in
    record {
      matches = matches_among (candidates_of_packages c.args.matches.now.packages.now) c.loop-listed.matches c.is_met_by.new.matches c.loop-listed.invariant.matches c.in_ok-is_met.ensures.matches;
      none = λ details at.
          let at_now = subst (λ (cs : List Candidate). slice_get cs c.args.id ≡ Some details) (sym c.loop-listed.invariant.matches.0) at in
          none_more (is_met_by details) conflict_without_index items i item here (c.loop-listed.invariant.none details at) (sym (c.in_ok-is_met.ensures.meets details at_now) ∙ c.if-is_met.false);
    }

pub returns-clause-found : goal.returns-clause-found
returns-clause-found c = λ details at.
    let items : List ListedConflictValue = c.get-listed-items.result.now in
    let past : length items ≤ c.loop-listed.listed-index = omega arith in
    let none = none_of_all (is_met_by details) conflict_without_index items c.loop-listed.listed-index past (c.loop-listed.invariant.none details at) in
    sym (ap (λ (z : List ListedConflictValue). option_map (λ (k : ℕ × Dependency). k.0) (find (is_met_by details) (map conflict_without_index z))) (sym c.get-listed-items.ensures)
    ∙ ap (option_map (λ (k : ℕ × Dependency). k.0)) none)
