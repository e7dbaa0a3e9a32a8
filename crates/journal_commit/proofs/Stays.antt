-- What a call that makes or fills a waiting file makes of a run that stages.
use Rattle.std.proofs.Common.{◌≡◌, ◌≢◌, ℕ, ◌+◌, Bool, false, List, ◌∷◌, [], Option, None, Some, Result, Ok, Err, OnOk, refl, ap, subst, ◌∙◌, arith}
use Rattle.base_core.specs.Calls.{HoldsNow, IfObservable}
use Rattle.base_core.specs.Crash.{Since}
use Rattle.base_core.specs.Undone.{IsDurable}
use Rattle.base_core.specs.Files.{Files}
use Rattle.base_core.specs.Tree.{TreeState, files_of}
use Rattle.journal_core.specs.Kept.{KeepsFilesExcept, KeepsCrashMapsExcept, NamesOutsideJournalAreDurable}
use Rattle.journal_core.specs.Quiet.{StateIsUnchanged}
use Rattle.journal_core.specs.Recovery.{StateDependsOn, intent_name, is_staged, stage_name}
use Rattle.journal_core.specs.Staged.{AreIntentAndStagedPathsFree, HasEmptyStageAndFreeJournalPaths, IsOnlyNameOfFile, HasStagedContents, Staging}
use Rattle.journal_core.proofs.Acts.{still_on}
use Rattle.journal_core.proofs.Chain.{by_now}
use Rattle.journal_core.proofs.History.{History, observable_map, since_weaker}
use Rattle.journal_core.proofs.Waiting.{still_self}
use Rattle.journal_core.specs.journal_intent.FreeNames.{IsNoneOf}
use Rattle.journal_commit.specs.StageRun.{HasSameFilesExceptStaged, IsRunThatStagedAndBeganFiles, IsStagingRun}
use Rattle.journal_commit.proofs.Joins.{since_more}
use Rattle.journal_commit.proofs.Waits.{none_waiting, shown_files, shown_last}

module _ (stage : Staging) (contents : List (List ℕ)) (begun : Option (List ℕ)) (v : TreeState) (first mid new : History) (s : IsRunThatStagedAndBeganFiles stage contents begun v first mid) where
  abbrev pub Waits : TreeState → Type 0
  Waits = HasStagedContents stage contents begun (files_of v)

  -- what such a call says of the state u before it
  abbrev pub Stills : Type 0
  Stills = IfObservable mid (λ u. (ignored : List ℕ → Bool) → IsDurable (StateDependsOn ignored) u → Waits u → Since (StateIsUnchanged ignored u) mid new)

  abbrev pub Reads : Type 0
  Reads = IfObservable mid (λ u. Waits u → Since (HasSameFilesExceptStaged (files_of u)) mid new)

  abbrev pub Lasts : Type 0
  Lasts = IfObservable mid (λ u. NamesOutsideJournalAreDurable u → Since NamesOutsideJournalAreDurable mid new)

  pub run_more : Stills → Reads → Lasts → IsStagingRun v first new
  run_more stills reads lasts = record {
    moments = λ ignored is_durable.
        since_more (StateIsUnchanged ignored v) Waits v first mid new s.start (still_self ignored v is_durable) (s.run.moments ignored is_durable) s.waiting
        (observable_map mid _ (λ u. StateIsUnchanged ignored v u → Waits u → Since (StateIsUnchanged ignored v) mid new) stills (λ u t is_unchanged waits.
        since_weaker (StateIsUnchanged ignored u) (StateIsUnchanged ignored v) mid new (λ w. still_on ignored v u w is_unchanged) (t ignored is_unchanged.is_durable waits)));
    reads =
        since_more (HasSameFilesExceptStaged (files_of v)) Waits v first mid new s.start (λ q shown. refl) s.run.reads s.waiting
        (observable_map mid _ (λ u. HasSameFilesExceptStaged (files_of v) u → Waits u → Since (HasSameFilesExceptStaged (files_of v)) mid new) reads (λ u t so_far waits.
        since_weaker (HasSameFilesExceptStaged (files_of u)) (HasSameFilesExceptStaged (files_of v)) mid new (λ w more q shown. more q shown ∙ so_far q shown) (t waits)));
    last = λ last.
        since_more NamesOutsideJournalAreDurable Waits v first mid new s.start last (s.run.last last) s.waiting
        (observable_map mid _ (λ u. NamesOutsideJournalAreDurable u → Waits u → Since NamesOutsideJournalAreDurable mid new) lasts (λ u t lasts waits. t lasts));
  }

  pub staging_more : {T E : Type 0} (r : Result T E) (next : Staging) (more : List (List ℕ)) (open_file : Option (List ℕ)) → IsStagingRun v first new
      → IfObservable mid (λ u. Waits u → OnOk r (HoldsNow new (HasStagedContents next more open_file (files_of v)))) → OnOk r (IsRunThatStagedAndBeganFiles next more open_file v first new)
  staging_more {T = T} {E = E} r next more open_file run staged = by r (by_now mid Waits (OnOk r (HoldsNow new (HasStagedContents next more open_file (files_of v)))) s.waiting staged)
    where
      by : (x : Result T E) → OnOk x (HoldsNow new (HasStagedContents next more open_file (files_of v))) → OnOk x (IsRunThatStagedAndBeganFiles next more open_file v first new)
      by (Ok x) now = record { start = s.start; empty = s.empty; run = run; waiting = now }
      by (Err e) now = tt

  -- ---- in the words of the calls of a stage

  abbrev pub Place : List ℕ
  Place = stage_name (stage.staged + 1)

  abbrev pub Moments : Type 0
  Moments = IfObservable mid (λ u. (ignored : List ℕ → Bool) → IsDurable (StateDependsOn ignored) u → HasStagedContents stage contents begun (files_of v) u → Since (StateIsUnchanged ignored u) mid new)

  lasts_by : (these : List (List ℕ)) → ((q : List ℕ) → q ≢ intent_name → is_staged q ≡ false → IsNoneOf q these) → IfObservable mid (λ u. Since (KeepsCrashMapsExcept these u) mid new) → Lasts
  lasts_by these none maps = observable_map mid _ (λ u. NamesOutsideJournalAreDurable u → Since NamesOutsideJournalAreDurable mid new) maps (λ u t last.
      since_weaker (KeepsCrashMapsExcept these u) NamesOutsideJournalAreDurable mid new (λ w keeps. shown_last these none u w keeps last) t)

  pub begun_run : Moments → IfObservable mid (λ u. Since (KeepsFilesExcept (λ q. q ≡ Place) u) mid new) → IfObservable mid (λ u. Since (KeepsCrashMapsExcept (Place ∷ []) u) mid new) → IsStagingRun v first new
  begun_run moments others maps = run_more moments
      (observable_map mid _ (λ u. Waits u → Since (HasSameFilesExceptStaged (files_of u)) mid new) others (λ u t waits.
      since_weaker (KeepsFilesExcept (λ q. q ≡ Place) u) (HasSameFilesExceptStaged (files_of u)) mid new (λ w. shown_files Place refl u w) t))
      (lasts_by (Place ∷ []) (λ q off shown. none_waiting Place q refl shown) maps)

  pub ended_run : Moments → IfObservable mid (λ u. Since (λ w. files_of w ≡ files_of u) mid new) → IfObservable mid (λ u. Since (KeepsCrashMapsExcept [] u) mid new) → IsStagingRun v first new
  ended_run moments others maps = run_more moments
      (observable_map mid _ (λ u. Waits u → Since (HasSameFilesExceptStaged (files_of u)) mid new) others (λ u t waits.
      since_weaker (λ w. files_of w ≡ files_of u) (HasSameFilesExceptStaged (files_of u)) mid new (λ w same q shown. ap (λ (F : Files). F q) same) t))
      (lasts_by [] (λ q off shown. refl) maps)

-- a file that is begun stands alone
module _ (stage : Staging) (contents : List (List ℕ)) (so_far : List ℕ) (v : TreeState) (first mid new : History) (s : IsRunThatStagedAndBeganFiles stage contents (Some so_far) v first mid) where
  alone_at : (u : TreeState) → HasStagedContents stage contents (Some so_far) (files_of v) u → IsOnlyNameOfFile (stage_name (stage.staged + 1)) u
  alone_at u waits = let count = waits.count in subst (λ k. IsOnlyNameOfFile (stage_name k) u) (omega (arith, count)) waits.alone

  pub grown_run : Moments stage contents (Some so_far) v first mid new s
      → IfObservable mid (λ u. IsOnlyNameOfFile (stage_name (stage.staged + 1)) u → Since (KeepsFilesExcept (λ q. q ≡ stage_name (stage.staged + 1)) u) mid new)
      → IfObservable mid (λ u. Since (KeepsCrashMapsExcept [] u) mid new) → IsStagingRun v first new
  grown_run moments others maps = run_more stage contents (Some so_far) v first mid new s moments
      (observable_map mid _ (λ u. HasStagedContents stage contents (Some so_far) (files_of v) u → Since (HasSameFilesExceptStaged (files_of u)) mid new) others (λ u t waits.
      since_weaker (KeepsFilesExcept (λ q. q ≡ stage_name (stage.staged + 1)) u) (HasSameFilesExceptStaged (files_of u)) mid new (λ w. shown_files (stage_name (stage.staged + 1)) refl u w) (t (alone_at u waits))))
      (lasts_by stage contents (Some so_far) v first mid new s [] (λ q off shown. refl) maps)

-- ---- the same for all contents and bases

module _ (stage : Staging) (contents : List (List ℕ)) (v : TreeState) (mid new : History) where
  pub closed_moments : IfObservable mid (λ u. (ignored : List ℕ → Bool) (cs : List (List ℕ)) (base : Files) → IsDurable (StateDependsOn ignored) u → HasStagedContents stage cs None base u → Since (StateIsUnchanged ignored u) mid new)
      → IfObservable mid (λ u. (ignored : List ℕ → Bool) → IsDurable (StateDependsOn ignored) u → HasStagedContents stage contents None (files_of v) u → Since (StateIsUnchanged ignored u) mid new)
  closed_moments told = observable_map mid _ _ told (λ u t ignored is_durable waits. t ignored contents (files_of v) is_durable waits)

  pub closed_staged : {T E : Type 0} (r : Result T E) (more : List (List ℕ) → List (List ℕ)) (open_file : Option (List ℕ)) (next : Staging)
      → IfObservable mid (λ u. (cs : List (List ℕ)) (base : Files) → HasStagedContents stage cs None base u → OnOk r (HoldsNow new (HasStagedContents next (more cs) open_file base)))
      → IfObservable mid (λ u. HasStagedContents stage contents None (files_of v) u → OnOk r (HoldsNow new (HasStagedContents next (more contents) open_file (files_of v))))
  closed_staged r more open_file next told = observable_map mid _ _ told (λ u t waits. t contents (files_of v) waits)

  -- if the paths are free, a call between two files is no misuse
  pub closed_proper : (first : History) (a b : ℕ) → IsRunThatStagedAndBeganFiles stage contents None v first mid → AreIntentAndStagedPathsFree (files_of v)
      → IfObservable mid (λ u. (cs : List (List ℕ)) (base : Files) → HasStagedContents stage cs None base u → HasEmptyStageAndFreeJournalPaths base → b ≡ a) → b ≡ a
  closed_proper first a b s room told =
      by_now mid (HasStagedContents stage contents None (files_of v)) (b ≡ a) s.waiting
      (observable_map mid _ (λ u. HasStagedContents stage contents None (files_of v) u → b ≡ a) told (λ u t waits. t contents (files_of v) waits (record { empty = s.empty; beside = room })))

  module _ (so_far : List ℕ) where
    pub open_moments : IfObservable mid (λ u. (ignored : List ℕ → Bool) (cs : List (List ℕ)) (bytes : List ℕ) (base : Files) → IsDurable (StateDependsOn ignored) u → HasStagedContents stage cs (Some bytes) base u → Since (StateIsUnchanged ignored u) mid new)
        → IfObservable mid (λ u. (ignored : List ℕ → Bool) → IsDurable (StateDependsOn ignored) u → HasStagedContents stage contents (Some so_far) (files_of v) u → Since (StateIsUnchanged ignored u) mid new)
    open_moments told = observable_map mid _ _ told (λ u t ignored is_durable waits. t ignored contents so_far (files_of v) is_durable waits)

    pub open_staged : {T E : Type 0} (r : Result T E) (more : List (List ℕ) → List ℕ → List (List ℕ)) (open_file : List ℕ → Option (List ℕ)) (next : Staging)
        → IfObservable mid (λ u. (cs : List (List ℕ)) (bytes : List ℕ) (base : Files) → HasStagedContents stage cs (Some bytes) base u → OnOk r (HoldsNow new (HasStagedContents next (more cs bytes) (open_file bytes) base)))
        → IfObservable mid (λ u. HasStagedContents stage contents (Some so_far) (files_of v) u → OnOk r (HoldsNow new (HasStagedContents next (more contents so_far) (open_file so_far) (files_of v))))
    open_staged r more open_file next told = observable_map mid _ _ told (λ u t waits. t contents so_far (files_of v) waits)

    pub open_proper : (first : History) (a b : ℕ) → IsRunThatStagedAndBeganFiles stage contents (Some so_far) v first mid
        → IfObservable mid (λ u. (cs : List (List ℕ)) (bytes : List ℕ) (base : Files) → HasStagedContents stage cs (Some bytes) base u → b ≡ a) → b ≡ a
    open_proper first a b s told =
        by_now mid (HasStagedContents stage contents (Some so_far) (files_of v)) (b ≡ a) s.waiting
        (observable_map mid _ (λ u. HasStagedContents stage contents (Some so_far) (files_of v) u → b ≡ a) told (λ u t waits. t contents so_far (files_of v) waits))
