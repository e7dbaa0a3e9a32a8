-- The invariants of a search: of its choices, of the queue and the cursors, and of its turns. No rule
-- of a document: serves the contracts of `src/choices.rt` and `src/search.rt` of `solve_core`. The
-- search is described in `docs/selection.md`, "How the search works".
use Rattle.std.specs.Prelude.{◌≡◌, ◌<◌, length, ℕ, List, [], ◌∷◌, ◌++◌}
use Rattle.search_needs.specs.candidate_core.Rank.{SelectionProblem}
use Rattle.search_needs.specs.candidate_core.Options.{IsIn}
use Rattle.search_needs.specs.search_tables.Conflicts.{AreConflictsOf}
use Rattle.search_needs.specs.search_tables.Excluders.{IsConflictTable}
use Rattle.search_needs.specs.TriggeredInstallIf.{AreNoneTriggeredBelow}
use Rattle.search_needs.specs.search_tables.InstallIf.{AreUsableInstallIfsByName}
use Rattle.search_needs.specs.search_tables.Queue.{AreFirstDepsMet, queue_of}
use Rattle.search_needs.specs.search_tables.declared.queue.Checkpoint.{Checkpoint}
use Rattle.search_needs.specs.search_tables.Reasons.{FrameValue, AreCompatible, AreTurnsFrom, choices_of_turns}
use Rattle.search_choices.specs.declared.choices.Choices.{Choices}

-- the pool of whose candidates some choices are made
abbrev pub pool_of : Choices → SelectionProblem
pool_of chosen = chosen.pool.now

-- the choices, in the order chosen
abbrev pub choices_of : Choices → List ℕ
choices_of chosen = chosen.choices

-- the candidates of the pool whose install-if can apply, in byte order of their names
abbrev pub install_ifs_of : Choices → List ℕ
install_ifs_of chosen = chosen.install_ifs.by_name.items

-- further choices `cs` were made after the choices `u`. For each of them, in order, the list has a checkpoint: the
-- length of the queue, and the two cursors, before that choice
abbrev pub AreCheckpointsOfLaterChoices : SelectionProblem → List ℕ → List ℕ → List ℕ → List Checkpoint
    → Type 0
AreCheckpointsOfLaterChoices pool install_ifs u [] [] = Unit {0}
AreCheckpointsOfLaterChoices pool install_ifs u [] (b ∷ bs) = ⊥
AreCheckpointsOfLaterChoices pool install_ifs u (c ∷ cs) [] = ⊥
AreCheckpointsOfLaterChoices pool install_ifs u (c ∷ cs) (b ∷ bs) =
    (b.queue_len ≡ length (queue_of pool u)) × AreFirstDepsMet pool u b.cursor
    × AreNoneTriggeredBelow pool u install_ifs b.asking_cursor
    × AreCheckpointsOfLaterChoices pool install_ifs (u ++ c ∷ []) cs bs

-- the queue is that of the choices. Every dependency before its cursor is met, and no candidate before the cursor of
-- the install-ifs is triggered. The table has the conflicts of the choices, each with its index. For each choice
-- there is a checkpoint, to which `pop` can return
pub record IsConsistent (chosen : Choices) : Type 0 where
  -- each choice is a place in the pool's list of candidates
  pub within : (c : ℕ) → IsIn c (choices_of chosen) → c < length (pool_of chosen).candidates
  -- the queue has the dependencies that world and the choices raise, in order
  pub queue : chosen.queue.items ≡ queue_of (pool_of chosen) (choices_of chosen)
  -- the dependencies before the cursor of the queue are met
  pub met : AreFirstDepsMet (pool_of chosen) (choices_of chosen) chosen.cursor
  -- the list of install-ifs has those that can apply, in byte order of names
  pub install_ifs :
      AreUsableInstallIfsByName (pool_of chosen) (install_ifs_of chosen) chosen.install_ifs.waiting
  -- no install-if before its cursor triggers its candidate
  pub unasked :
      AreNoneTriggeredBelow (pool_of chosen) (choices_of chosen)
      (install_ifs_of chosen) chosen.asking_cursor
  -- the table has the conflicts of the choices
  pub listed : IsConflictTable (pool_of chosen) (choices_of chosen) chosen.conflicts
  -- each entry of the table is a conflict of a candidate of the pool
  pub conflicts : AreConflictsOf (pool_of chosen).candidates chosen.conflicts.by_name
  -- each choice has a checkpoint with the state before this choice
  pub checkpoints :
      AreCheckpointsOfLaterChoices (pool_of chosen) (install_ifs_of chosen) [] (choices_of chosen)
      chosen.checkpoints.items

-- the choices are compatible, and each was made at one of the turns: it was taken from the frame of the need that was
-- next
pub record IsSearch (chosen : Choices) (turns : List (FrameValue × ℕ)) : Type 0 where
  -- the queue, the cursors and the tables are those of the choices
  pub consistent : IsConsistent chosen
  -- each choice belongs to one turn, in the same order
  pub choices : choices_of chosen ≡ choices_of_turns turns
  -- the choices may be selected together
  pub clean : AreCompatible (pool_of chosen) (choices_of chosen)
  -- each choice was taken from the frame of the need that was next
  pub taken : AreTurnsFrom (pool_of chosen) [] turns
