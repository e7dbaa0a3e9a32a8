-- The same stage, as its parts tell it.
use Rattle.std.proofs.Common.{◌≡◌, ℕ, Bool, List, [], ◌∷◌, None, Option, length, sym, ap, subst, ◌∙◌}
use Rattle.base_core.specs.Files.{Files}
use Rattle.base_core.specs.Tree.{TreeState, files_of}
use Rattle.base_core.specs.Calls.{IfObservable, HoldsNow}
use Rattle.journal_core.specs.Staged.{Staging, IsCarryingOutActions, HasStagedContents}
use Rattle.journal_core.proofs.History.{History, now_map, observable_map}
use Rattle.base_core.specs.Crash.{Since}
use Rattle.base_core.specs.Undone.{IsDurable}
use Rattle.journal_core.specs.Recovery.{Intent, StateDependsOn, files_after_actions}
use Rattle.journal_core.specs.Acting.{stage_with_actions_done, fully_staged_stage}
use Rattle.journal_core.specs.Quiet.{StateIsUnchanged}

pub acting_as : (a b : Staging) (files : Files) (v : TreeState) → a.intent ≡ b.intent → a.acted ≡ b.acted → IsCarryingOutActions a files v → IsCarryingOutActions b files v
acting_as a b files v intent acted acting =
    subst (λ i. IsCarryingOutActions (record { intent = i; staged = b.staged; is_open = b.is_open; published = b.published; acted = b.acted }) files v) intent
    (subst (λ n. IsCarryingOutActions (record { intent = a.intent; staged = b.staged; is_open = b.is_open; published = b.published; acted = n }) files v) acted
    (record { located = acting.located; reads = acting.reads; done = acting.done; last = acting.last }))

pub acting_now : (a b : Staging) (files : Files) (h : History) → a.intent ≡ b.intent → a.acted ≡ b.acted → HoldsNow h (IsCarryingOutActions a files) → HoldsNow h (IsCarryingOutActions b files)
acting_now a b files h intent acted now = now_map h (IsCarryingOutActions a files) (IsCarryingOutActions b files) now (λ v. acting_as a b files v intent acted)

pub told_as : (a b : Staging) (old : History) (B : Files → TreeState → Type 0) → a.intent ≡ b.intent → a.acted ≡ b.acted → IfObservable old (λ v. (files : Files) → IsCarryingOutActions b files v → B files v) → IfObservable old (λ v. (files : Files) → IsCarryingOutActions a files v → B files v)
told_as a b old B intent acted told = by old told
  where
    by : (h : History) → IfObservable h (λ v. (files : Files) → IsCarryingOutActions b files v → B files v) → IfObservable h (λ v. (files : Files) → IsCarryingOutActions a files v → B files v)
    by [] t = tt
    by (v ∷ h) t = λ files acting. t files (acting_as a b files v intent acted acting)

pub moments_as : (a b : Staging) (old new : History) → a.intent ≡ b.intent → a.acted ≡ b.acted
    → IfObservable old (λ v. (ignored : List ℕ → Bool) (files : Files) → IsDurable (StateDependsOn ignored) v → IsCarryingOutActions b files v → Since (StateIsUnchanged ignored v) old new)
    → IfObservable old (λ v. (ignored : List ℕ → Bool) (files : Files) → IsDurable (StateDependsOn ignored) v → IsCarryingOutActions a files v → Since (StateIsUnchanged ignored v) old new)
moments_as a b old new intent acted told = observable_map old _ _ told (λ v t ignored files is_durable acting. t ignored files is_durable (acting_as a b files v intent acted acting))

pub after_as : (a b next now : Staging) (old new : History) → a.intent ≡ b.intent → a.acted ≡ b.acted → next.intent ≡ now.intent → next.acted ≡ now.acted
    → IfObservable old (λ v. (files : Files) → IsCarryingOutActions b files v → HoldsNow new (IsCarryingOutActions next files)) → IfObservable old (λ v. (files : Files) → IsCarryingOutActions a files v → HoldsNow new (IsCarryingOutActions now files))
after_as a b next now old new intent acted same_intent same_acted told =
    observable_map old _ _ told (λ v t files acting. acting_now next now files new same_intent same_acted (t files (acting_as a b files v intent acted acting)))

-- what waits is the same for each stage that has as many files
pub staged_as : (a b : Staging) (contents : List (List ℕ)) (begun : Option (List ℕ)) (base : Files) (v : TreeState) → a.staged ≡ b.staged → HasStagedContents a contents begun base v → HasStagedContents b contents begun base v
staged_as a b contents begun base v same staged = record { count = staged.count ∙ same; absent = staged.absent; reads = staged.reads; synced = staged.synced; alone = staged.alone; gone = staged.gone }

-- and what a full stage does, each stage does that has the same intent and all files
pub publish_as : (P : Intent → Files → TreeState → Type 0) (i : Intent) (stage : Staging) (old : History) → i ≡ stage.intent → stage.staged ≡ length stage.intent.writes
    → IfObservable old (λ v. (contents : List (List ℕ)) (base : Files) → HasStagedContents (fully_staged_stage i) contents None base v → P i base v)
    → IfObservable old (λ v. (contents : List (List ℕ)) (base : Files) → HasStagedContents stage contents None base v → P stage.intent base v)
publish_as P i stage old same all told =
    subst (λ (j : Intent). IfObservable old (λ v. (contents : List (List ℕ)) (base : Files) → HasStagedContents stage contents None base v → P j base v)) same
    (observable_map old _ _ told (λ v t contents base staged. t contents base (staged_as stage (fully_staged_stage i) contents None base v (all ∙ ap (λ (j : Intent). length j.writes) (sym same)) staged)))

pub publish_durable : (P : (List ℕ → Bool) → Intent → TreeState → Type 0) (i : Intent) (stage : Staging) (old : History) → i ≡ stage.intent → stage.staged ≡ length stage.intent.writes
    → IfObservable old (λ v. (ignored : List ℕ → Bool) (contents : List (List ℕ)) (base : Files) → IsDurable (StateDependsOn ignored) v → HasStagedContents (fully_staged_stage i) contents None base v → P ignored i v)
    → IfObservable old (λ v. (ignored : List ℕ → Bool) (contents : List (List ℕ)) (base : Files) → IsDurable (StateDependsOn ignored) v → HasStagedContents stage contents None base v → P ignored stage.intent v)
publish_durable P i stage old same all told =
    subst (λ (j : Intent). IfObservable old (λ v. (ignored : List ℕ → Bool) (contents : List (List ℕ)) (base : Files) → IsDurable (StateDependsOn ignored) v → HasStagedContents stage contents None base v → P ignored j v)) same
    (observable_map old _ _ told (λ v t ignored contents base is_durable staged. t ignored contents base is_durable (staged_as stage (fully_staged_stage i) contents None base v (all ∙ ap (λ (j : Intent). length j.writes) (sym same)) staged)))

-- the actions of the stage as it is behind the publishing
pub acting_published : (stage now : Staging) (old new : History) → now.intent ≡ stage.intent → now.acted ≡ 0
    → IfObservable old (λ v. (contents : List (List ℕ)) (base : Files) → HasStagedContents stage contents None base v → HoldsNow new (IsCarryingOutActions (stage_with_actions_done stage.intent 0) (files_after_actions stage.intent (files_of v))))
    → IfObservable old (λ v. (contents : List (List ℕ)) (base : Files) → HasStagedContents stage contents None base v → HoldsNow new (IsCarryingOutActions now (files_after_actions stage.intent (files_of v))))
acting_published stage now old new same none told =
    observable_map old _ _ told (λ v t contents base staged. acting_now (stage_with_actions_done stage.intent 0) now (files_after_actions stage.intent (files_of v)) new (sym same) (sym none) (t contents base staged))
