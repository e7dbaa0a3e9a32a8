-- What the calls that look for an excluding choice require and ensure. No rule of a document: serves the
-- contracts of `src/choices/excluders.rt`. `Excluders` of `search_tables` has what excludes a candidate.
use Rattle.std.specs.Prelude.{◌≡◌, ℕ, Option, Some, Result, IfOk, MatchOption, OnOk}
use Rattle.std.specs.declared.alloc.AllocError.{AllocError}
use Rattle.search_needs.specs.candidate_core.Candidates.{Candidate}
use Rattle.search_needs.specs.candidate_core.Options.{IsIn}
use Rattle.search_needs.specs.candidate_core.PackageMatches.{AreMatchesAmong}
use Rattle.search_needs.specs.candidate_core.Rank.{candidate_at}
use Rattle.search_needs.specs.candidate_core.declared.package_matches.PackageMatches.{PackageMatches}
use Rattle.search_needs.specs.search_tables.Conflicts.{AreConflictsOf}
use Rattle.search_needs.specs.search_tables.Excluders.{IsConflictTable, IsExcluderAmongChoices}
use Rattle.search_choices.specs.Choices.{choices_of, pool_of}
use Rattle.search_choices.specs.declared.choices.Choices.{Choices}

-- the table of conflicts has for each name exactly those of the choices, each at its index
pub record HasConflictsOfChoices (chosen : Choices) : Type 0 where
  -- the table has the conflicts of the choices
  pub listed : IsConflictTable (pool_of chosen) (choices_of chosen) chosen.conflicts
  -- each entry of the table is a conflict of a candidate of the pool
  pub conflicts : AreConflictsOf (pool_of chosen).candidates chosen.conflicts.by_name

-- the pool has the candidate `details` at the place `id`, and this place is that of no choice
pub record IsUnchosenCandidate (chosen : Choices) (id : ℕ) (details : Candidate) : Type 0 where
  -- the pool has this candidate at the place
  pub here : candidate_at (pool_of chosen) id ≡ Some details
  -- the place is that of no choice
  pub once : IsIn id (choices_of chosen) → ⊥

-- Unless memory runs out, the call finds a choice that excludes the candidate at the place `id`, or it finds none and
-- *IfNone* holds. The results `remembered` after the call are right.
pub record FindsExcluder (chosen : Choices) (id : ℕ) (IfNone : Type 0) (remembered : PackageMatches)
    (result : Result (Option ℕ) AllocError) : Type 0 where
  -- the call finds a choice that excludes the candidate, or it finds none and `IfNone` holds
  pub found : IfOk result (λ found. MatchOption found IfNone
      (λ k. IsExcluderAmongChoices (pool_of chosen) (choices_of chosen) id k))
  -- the results that are remembered after the call are right
  pub matches : OnOk result (AreMatchesAmong (pool_of chosen).candidates remembered)
