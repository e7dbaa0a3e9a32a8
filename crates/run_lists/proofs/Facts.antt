-- The laws of the crates below that the proofs take.
use Rattle.std.specs.Prelude.{◌≡◌, ℕ, Bool, true, List, is_some, not}
use Rattle.apk_front.specs.Moments.{AreStatesOldOrLeadToOutcome}
use Rattle.base_core.specs.Crash.{Since}
use Rattle.base_core.specs.Files.{Files}
use Rattle.base_core.specs.Undone.{IsAfterCrash, IsDurable, IsCrashImage}
use Rattle.base_core.specs.Tree.{TreeState, files_of}
use Rattle.apk_front.specs.journal_core.Recovery.{EachCrashLeavesStateOf, StateDependsOn}
use Rattle.apk_front.specs.journal_core.Replacing.{IsMomentOfReplacing}
use Rattle.apk_front.specs.outcome.Effect.{Makes, effect_of_arguments, output}
use Rattle.apk_front.specs.outcome.Outcome.{Outcome}
use Rattle.apk_front.specs.outcome.Words.{IsOutcome}
use Rattle.apk_front.specs.words_core.Grammar.{command_of}

abbrev pub Ignored : Type 0
Ignored = List ℕ → Bool

abbrev pub AreMore : Ignored → Ignored → Type 0
AreMore few many = (q : List ℕ) → few q ≡ true → many q ≡ true

pub record Facts : Type 0 where
  pub crash_durable : (ignored : Ignored) (v w : TreeState) → IsAfterCrash v w → IsDurable (StateDependsOn ignored) w
  pub crash_settled : (ignored : Ignored) (v w : TreeState) → IsAfterCrash v w → EachCrashLeavesStateOf ignored (files_of w) w
  pub read_left : (v : TreeState) → IsCrashImage v (files_of v)
  pub more_order : (few many : Ignored) (v : TreeState) → AreMore few many → IsDurable (StateDependsOn few) v → IsDurable (StateDependsOn many) v
  pub more_settled : (few many : Ignored) (files : Files) (v : TreeState) → AreMore few many → EachCrashLeavesStateOf few files v → EachCrashLeavesStateOf many files v
  pub unique : (words : List (List ℕ)) (files : Files) (a b : Outcome) → IsOutcome (command_of words) files a → IsOutcome (command_of words) files b → a ≡ b
  pub making : (words : List (List ℕ)) (files : Files) (o : Outcome) → effect_of_arguments (command_of words) ≡ Makes → IsOutcome (command_of words) files o → o.commits ≡ not (is_some o.refusal)
  pub safe : (words : List (List ℕ)) (ignored : Ignored) (v : TreeState) (outcome : Outcome) (old now : List TreeState)
      → AreStatesOldOrLeadToOutcome (IsOutcome (command_of words) (files_of v)) (is_some (output words)) ignored v old now
      → IsOutcome (command_of words) (files_of v) outcome → Since (IsMomentOfReplacing ignored outcome.files v) old now
