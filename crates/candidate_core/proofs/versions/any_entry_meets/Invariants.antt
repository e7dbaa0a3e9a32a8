-- No entry so far meets the dependency, and what is kept is right.
use Rattle.std.proofs.Common.{◌≡◌, ℕ, List, false}
use Rattle.std.specs.List.{list_any}
use Rattle.adb_view.specs.Values.{entries_in, entry_at_index}
use Rattle.dep_core.specs.Meets.{dependency}
use Rattle.candidate_core.specs.Candidates.{is_met_by_provides_entry}
use Rattle.candidate_core.specs.Matches.{AreRememberedMatchesOf, GivesTextsOfSource}
use Rattle.candidate_core.specs.PackageWords.{info_in_source}
use Rattle.candidate_core.proofs.DependencyLists.{dependencies_to}
use Rattle.candidate_core.proofs.versions.any_entry_meets.Given as goal

abbrev pub invariant-loop-i : goal.invariant-loop-i
invariant-loop-i l =
    (text : ℕ → ℕ → List ℕ) → GivesTextsOfSource l.source l.kept.source text → AreRememberedMatchesOf text (dependency l.dep) l.initial.known
    → (list_any (is_met_by_provides_entry (dependency l.dep)) (dependencies_to l.i (entries_in (entry_at_index (info_in_source l.source l.kept.word) 15))) ≡ false)
    × AreRememberedMatchesOf text (dependency l.dep) l.known
