-- From a new stage on.
use Rattle.std.proofs.Common.{◌≡◌, List, [], ◌∷◌, ℕ, None, sym, subst}
use Rattle.base_core.specs.Calls.{HoldsNow, IfObservable}
use Rattle.base_core.specs.Tree.{TreeState, files_of}
use Rattle.journal_commit.specs.journal_core.Recovery.{intent_name}
use Rattle.journal_commit.specs.journal_core.Staged.{HasNoStagedNames, Staging, new_stage_of_removals_and_writes}
use Rattle.journal_commit.proofs.journal_core.History.{History}
use Rattle.journal_staging.specs.Sources.{EachDenotes}
use Rattle.journal_staging.specs.declared.writes.StagedWrite.{StagedWrite}
use Rattle.journal_commit.specs.StageRun.{IsRunThatStagedAndBeganFiles}

-- what `a_new_stage_is_staging` says
abbrev pub NewIsStaging : Type 0
NewIsStaging = (removals writes : List (List ℕ)) (now : History) → IfObservable now (λ v. v.names intent_name ≡ None → HasNoStagedNames (files_of v) → IsRunThatStagedAndBeganFiles (new_stage_of_removals_and_writes removals writes) [] None v now now)

-- where nothing waits in front of it, and only reads came
pub carried : NewIsStaging → (h h1 : History) (stage : Staging) (removals names : List (List ℕ)) (writes : List StagedWrite) → stage ≡ new_stage_of_removals_and_writes removals names → h1 ≡ h → (P : TreeState → List (List ℕ) → Type 0)
    → ((v : TreeState) (contents : List (List ℕ)) → IsRunThatStagedAndBeganFiles stage [] None v h h1 → EachDenotes (files_of v) writes contents → P v contents)
    → IfObservable h (λ v. (contents : List (List ℕ)) → v.names intent_name ≡ None → HasNoStagedNames (files_of v) → EachDenotes (files_of v) writes contents → P v contents)
carried law h h1 stage removals names writes new same P make = go h (law removals names h)
  where
    go : (k : History) → IfObservable k (λ v. v.names intent_name ≡ None → HasNoStagedNames (files_of v) → IsRunThatStagedAndBeganFiles (new_stage_of_removals_and_writes removals names) [] None v h h)
        → IfObservable k (λ v. (contents : List (List ℕ)) → v.names intent_name ≡ None → HasNoStagedNames (files_of v) → EachDenotes (files_of v) writes contents → P v contents)
    go [] starts = tt
    go (v ∷ earlier) starts = λ contents unread empty stand.
        make v contents (subst (λ (s : Staging). IsRunThatStagedAndBeganFiles s [] None v h h1) (sym new) (subst (λ (k : History). IsRunThatStagedAndBeganFiles (new_stage_of_removals_and_writes removals names) [] None v h k) (sym same) (starts unread empty))) stand

-- the same, whatever the sources stand for
pub carried_from : NewIsStaging → (h h1 : History) (stage : Staging) (removals names : List (List ℕ)) → stage ≡ new_stage_of_removals_and_writes removals names → h1 ≡ h → (P : TreeState → Type 0)
    → ((v : TreeState) → v.names intent_name ≡ None → HasNoStagedNames (files_of v) → IsRunThatStagedAndBeganFiles stage [] None v h h1 → P v)
    → IfObservable h (λ v. v.names intent_name ≡ None → HasNoStagedNames (files_of v) → P v)
carried_from law h h1 stage removals names new same P make = go h (law removals names h)
  where
    go : (k : History) → IfObservable k (λ v. v.names intent_name ≡ None → HasNoStagedNames (files_of v) → IsRunThatStagedAndBeganFiles (new_stage_of_removals_and_writes removals names) [] None v h h)
        → IfObservable k (λ v. v.names intent_name ≡ None → HasNoStagedNames (files_of v) → P v)
    go [] starts = tt
    go (v ∷ earlier) starts = λ unread empty.
        make v unread empty (subst (λ (s : Staging). IsRunThatStagedAndBeganFiles s [] None v h h1) (sym new) (subst (λ (k : History). IsRunThatStagedAndBeganFiles (new_stage_of_removals_and_writes removals names) [] None v h k) (sym same) (starts unread empty)))

pub carried_on : NewIsStaging → (h h1 : History) (stage : Staging) (removals names : List (List ℕ)) → stage ≡ new_stage_of_removals_and_writes removals names → h1 ≡ h → (P : TreeState → Type 0) → ((v : TreeState) → IsRunThatStagedAndBeganFiles stage [] None v h h1 → P v)
    → IfObservable h (λ v. v.names intent_name ≡ None → HasNoStagedNames (files_of v) → P v)
carried_on law h h1 stage removals names new same P make = carried_from law h h1 stage removals names new same P (λ v unread empty staging. make v staging)

pub of_each : (h : History) (P : TreeState → Type 0) → ((v : TreeState) → P v) → IfObservable h P
of_each [] P all = tt
of_each (v ∷ earlier) P all = all v

pub where_seen : (h : History) (v : TreeState) (A : Type 0) → HoldsNow h (λ w. w ≡ v) → IfObservable h (λ w. A) → A
where_seen [] v A now a = absurd now
where_seen (w ∷ earlier) v A now a = a
