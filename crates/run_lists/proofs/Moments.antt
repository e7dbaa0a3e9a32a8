-- What is read at each moment of a run, and what lasts.
use Rattle.std.proofs.Common.{◌≡◌, ◌⊎◌, inl, inr, ⊎_elim, ℕ, Bool, true, false, ◌||◌, List, [], ◌∷◌, ◌++◌, Option, Some, None, refl, sym, ap, subst, ◌∙◌, arith}
use Rattle.std.specs.Prelude.{IsSome}
use Rattle.std.specs.Str.{bytes_eq}
use Rattle.std.proofs.lemmas.Bool.{false≢true, or_from}
use Rattle.apk_front.specs.Moments.{AreStatesAsRecoveredOrOfCommittingRun, IsStateDuringRecoveryOrNext, HasFilesExceptTemporaryOnes, IsStateDuringRunToNewFilesFromOld, NamesAreDurableExceptOutputIfNoIntent, is_temporary_name, output_names}
use Rattle.base_core.specs.Calls.{HoldsNow}
use Rattle.base_core.specs.Files.{Files, NameMap}
use Rattle.base_core.specs.Tree.{File, TreeState, bytes_of_file_number, files_of}
use Rattle.base_core.specs.Undone.{IsDurable, IsCrashImage, IsCrashMap}
use Rattle.base_core.proofs.NameParts.{other_bytes}
use Rattle.base_core.proofs.Left.{left_as_read as synced_as_read}
use Rattle.apk_front.specs.journal_core.Kept.{IsJournalName}
use Rattle.apk_front.specs.journal_core.Recovery.{StateDependsOn, intent_in_file, intent_name, intent_of, is_staged}
use Rattle.apk_front.specs.journal_core.Replacing.{scratch_name_of}
use Rattle.apk_front.specs.journal_core.Staged.{unstaged_files}
use Rattle.apk_front.proofs.journal_core.Lasting.{some_none}
use Rattle.apk_front.specs.journal_intent.FreeNames.{IsNoneOf}
use Rattle.apk_front.specs.outcome.Effect.{Effect, Computes, OnlyReadsFiles, AsksRoot, Makes, Changes, does_recover, effect_of_arguments, output}
use Rattle.apk_front.specs.outcome.Outcome.{Outcome}
use Rattle.apk_front.specs.outcome.Work.{files_recovered_if_needed}
use Rattle.apk_front.specs.words_core.Grammar.{command_of}
use Rattle.run_lists.specs.Events.{Crashes, Edits, Ends, RootEvent, Reaches, IsMomentOf, IsOutcomeFrom, IsRunFrom, IsTransition, Run, Stops, Touches, ignored_after, ignored_during_run, ignored_with_scratch}
use Rattle.run_lists.specs.Reading.{HasOldRecoveredOrOutcomeBytes, HasOutcomeBytes, ReachesOnlyByRunsWith, HasRecoveredOrOutcomeBytesDurably, IsNoJournalOutputOrIgnoredName, IsNoJournalOrTemporaryName, IsRunWith, HoldsAsReadAndAsRecovered, EachCommitPassesTestAtName}
use Rattle.run_lists.proofs.Along.{seen_durable}
use Rattle.run_lists.proofs.AtMoments.{History, now_map, start_or_made}
use Rattle.run_lists.proofs.Committed.{CommitsNoIntent}
use Rattle.run_lists.proofs.Facts.{Facts, Ignored}
use Rattle.apk_front.proofs.journal_commit.Suffix.{intent_is_no_scratch}
use Rattle.run_lists.proofs.Names.{after_hides}
use Rattle.run_lists.proofs.OneRun.{now_hides, now_durable, durable_at}
use Rattle.run_lists.proofs.Unstaged.{none_found, not_staged, plain_at}

-- ---- drafts

-- the intent is no draft
intent_no_draft : (effect : Effect) (o : Option (List ℕ)) → is_temporary_name effect o intent_name ≡ false
intent_no_draft Computes o = refl
intent_no_draft OnlyReadsFiles o = refl
intent_no_draft AsksRoot o = refl
intent_no_draft Makes None = refl
intent_no_draft Makes (Some name) = other_bytes intent_name (scratch_name_of name) (intent_is_no_scratch name)
intent_no_draft Changes o = refl

-- ---- a moment

module _ (v : TreeState) (run : Run) (m : TreeState) where
  abbrev Act : Effect
  Act = effect_of_arguments (command_of run.words)

  abbrev Work : Files
  Work = files_recovered_if_needed Act (files_of v)

  -- where a moment stands: at the start, in a recovery, at work without a commit, or on the way to
  -- an outcome's files
  abbrev pub Stands : Type 0
  Stands = (m ≡ v) ⊎ (IsStateDuringRecoveryOrNext Act (λ w. files_of w ≡ Work) v m
      ⊎ ((o : Outcome) × IsOutcomeFrom v run o × (o.commits ≡ true) × IsStateDuringRecoveryOrNext Act (IsStateDuringRunToNewFilesFromOld Act (output run.words) o.files Work) v m))

  pub located : IsRunFrom v run → IsMomentOf run m → Stands
  located is_run moment = by is_run.reads
    where
      by : AreStatesAsRecoveredOrOfCommittingRun (IsOutcomeFrom v run) Act (output run.words) v run.old run.now → Stands
      by (inl since) = ⊎_elim inl (λ p. inr (inl p)) (start_or_made (IsStateDuringRecoveryOrNext Act (λ w. files_of w ≡ Work) v) run v m is_run.begins since moment)
      by (inr (o, one, commits, since)) =
          ⊎_elim inl (λ p. inr (inr (o, one, commits, p))) (start_or_made (IsStateDuringRecoveryOrNext Act (IsStateDuringRunToNewFilesFromOld Act (output run.words) o.files Work) v) run v m is_run.begins since moment)

  -- ---- the bytes of a name

  worked : (effect : Effect) (q : List ℕ) → files_of m q ≡ files_recovered_if_needed effect (files_of v) q
      → (files_of m q ≡ files_of v q) ⊎ ((does_recover effect ≡ true) × (files_of m q ≡ unstaged_files (files_of v) q))
  worked Computes q is = inl is
  worked OnlyReadsFiles q is = inl is
  worked AsksRoot q is = inr (refl, is)
  worked Makes q is = inr (refl, is)
  worked Changes q is = inr (refl, is)

  at_work : (q : List ℕ) → files_of m q ≡ Work q → HasOldRecoveredOrOutcomeBytes v run m q
  at_work q is = ⊎_elim inl (λ p. inr (inl p)) (worked Act q is)

  -- recovered ones are there only if the command recovers
  old_or_work : (q : List ℕ) → does_recover Act ≡ true → (files_of m q ≡ files_of v q) ⊎ (files_of m q ≡ unstaged_files (files_of v) q) → HasOldRecoveredOrOutcomeBytes v run m q
  old_or_work q recovers = ⊎_elim inl (λ is. inr (inl (recovers, is)))

  pub bytes : (q : List ℕ) → IsNoJournalOrTemporaryName run q → Stands → HasOldRecoveredOrOutcomeBytes v run m q
  bytes q no_draft (inl is) = inl (ap (λ (u : TreeState). files_of u q) is)
  bytes q no_draft (inr (inl (inl (recovers, r)))) = old_or_work q recovers (r.bytes q no_draft.waits)
  bytes q no_draft (inr (inl (inr is))) = at_work q (ap (λ (f : Files). f q) is)
  bytes q no_draft (inr (inr (o, one, commits, inl (recovers, r)))) = old_or_work q recovers (r.bytes q no_draft.waits)
  bytes q no_draft (inr (inr (o, one, commits, inr (inl drafting)))) = at_work q (drafting q no_draft.drafts)
  bytes q no_draft (inr (inr (o, one, commits, inr (inr (inl p))))) =
      ⊎_elim (at_work q) (λ is. inr (inr (o, one, commits, is))) (p.bytes q no_draft.waits)
  bytes q no_draft (inr (inr (o, one, commits, inr (inr (inr is))))) = inr (inr (o, one, commits, ap (λ (f : Files). f q) is))

-- ---- a test along runs

module _ (no_intent : CommitsNoIntent) (test : Option (List ℕ) → Bool) (q : List ℕ) (stays : IsJournalName q → ⊥) where
  abbrev At : Files → Type 0
  At files = HoldsAsReadAndAsRecovered test q files

  abbrev Passes : Option (List ℕ) → Type 0
  Passes bytes = test bytes ≡ true

  shown : is_staged q ≡ false
  shown = not_staged q stays

  -- files that hold no intent, and have this name from such as pass
  plain : (files : Files) → intent_of files ≡ None → test (files q) ≡ true → At files
  plain files none read = record { read = read; recovered = subst Passes (sym (plain_at files q none shown)) read }

  unstaged_true : (files : Files) → At files → At (unstaged_files files)
  unstaged_true files at = plain (unstaged_files files) (none_found files) at.recovered

  work_true : (effect : Effect) (files : Files) → At files → At (files_recovered_if_needed effect files)
  work_true Computes files at = at
  work_true OnlyReadsFiles files at = at
  work_true AsksRoot files at = unstaged_true files at
  work_true Makes files at = unstaged_true files at
  work_true Changes files at = unstaged_true files at

  drafted : (effect : Effect) (o : Option (List ℕ)) (files : Files) (m : TreeState) → HasFilesExceptTemporaryOnes effect o (unstaged_files files) m → is_temporary_name effect o q ≡ false → At files → At (files_of m)
  drafted effect o files m drafting no_draft at =
      plain (files_of m) (ap intent_in_file (drafting intent_name (intent_no_draft effect o)) ∙ none_found files) (subst Passes (sym (drafting q no_draft)) at.recovered)

  draft_true : (effect : Effect) (o : Option (List ℕ)) (files : Files) (m : TreeState) → HasFilesExceptTemporaryOnes effect o (files_recovered_if_needed effect files) m → is_temporary_name effect o q ≡ false → At files → At (files_of m)
  draft_true Computes o files m drafting no_draft at = subst At (λ i p. sym (drafting p refl) i) at
  draft_true OnlyReadsFiles o files m drafting no_draft at = subst At (λ i p. sym (drafting p refl) i) at
  draft_true AsksRoot o files m drafting no_draft at = drafted AsksRoot o files m drafting no_draft at
  draft_true Makes o files m drafting no_draft at = drafted Makes o files m drafting no_draft at
  draft_true Changes o files m drafting no_draft at = drafted Changes o files m drafting no_draft at

  one_of_two : (a b bytes : Option (List ℕ)) → Passes a → Passes b → (bytes ≡ a) ⊎ (bytes ≡ b) → Passes bytes
  one_of_two a b bytes first second (inl is) = subst Passes (sym is) first
  one_of_two a b bytes first second (inr is) = subst Passes (sym is) second

  module _ (v : TreeState) (run : Run) (m : TreeState) (leaves : EachCommitPassesTestAtName test q v run) (at : At (files_of v)) where
    recovering : (r : unstaged_files (files_of m) ≡ unstaged_files (files_of v)) → (files_of m q ≡ files_of v q) ⊎ (files_of m q ≡ unstaged_files (files_of v) q) → At (files_of m)
    recovering r bytes = record {
      read = one_of_two (files_of v q) (unstaged_files (files_of v) q) (files_of m q) at.read at.recovered bytes;
      recovered = subst Passes (sym (ap (λ (f : Files). f q) r)) at.recovered;
    }

    worked_at : At (files_recovered_if_needed (effect_of_arguments (command_of run.words)) (files_of v))
    worked_at = work_true (effect_of_arguments (command_of run.words)) (files_of v) at

    pub stands_true : Stands v run m → At (files_of m)
    stands_true (inl is) = subst (λ (u : TreeState). At (files_of u)) (sym is) at
    stands_true (inr (inl (inl (recovers, r)))) = recovering r.reads (r.bytes q stays)
    stands_true (inr (inl (inr is))) = subst At (sym is) worked_at
    stands_true (inr (inr (o, one, commits, inl (recovers, r)))) = recovering r.reads (r.bytes q stays)
    stands_true (inr (inr (o, one, commits, inr (inl drafting)))) =
        draft_true (effect_of_arguments (command_of run.words)) (output run.words) (files_of v) m drafting leaves.no_draft.drafts at
    stands_true (inr (inr (o, one, commits, inr (inr (inl p))))) = record {
      read = one_of_two (files_recovered_if_needed (effect_of_arguments (command_of run.words)) (files_of v) q) (o.files q) (files_of m q) worked_at.read (leaves.outcomes o one commits) (p.bytes q stays);
      recovered = subst Passes (sym (ap (λ (f : Files). f q) p.leads)) (leaves.outcomes o one commits);
    }
    stands_true (inr (inr (o, one, commits, inr (inr (inr is))))) = subst At (sym is) (plain o.files (ap intent_in_file (no_intent run.words (files_of v) o one commits)) (leaves.outcomes o one commits))

-- the last state of a run is one of its moments
last_by : (run : Run) (w : TreeState) (added : List TreeState) → run.now ≡ added ++ run.old → HoldsNow run.now (λ u. u ≡ w) → IsMomentOf run w
last_by run w [] is ends = inl (now_map run.old (λ u. u ≡ w) (λ u. w ≡ u) (λ u same. sym same) (subst (λ (h : History). HoldsNow h (λ u. u ≡ w)) is ends))
last_by run w (u ∷ added) is ends = inr (u ∷ added, is, (0, omega arith, subst (λ (h : History). HoldsNow h (λ u. u ≡ w)) is ends))

pub last_moment : (run : Run) (v w : TreeState) → IsRunFrom v run → HoldsNow run.now (λ u. u ≡ w) → IsMomentOf run w
last_moment run v w is_run ends = by is_run.reads
  where
    by : AreStatesAsRecoveredOrOfCommittingRun (IsOutcomeFrom v run) (effect_of_arguments (command_of run.words)) (output run.words) v run.old run.now → IsMomentOf run w
    by (inl since) = last_by run w since.added since.is ends
    by (inr (o, one, commits, since)) = last_by run w since.added since.is ends

led_true : CommitsNoIntent → (test : Option (List ℕ) → Bool) (q : List ℕ) (stays : IsJournalName q → ⊥) (v w : TreeState) (event : RootEvent) → HoldsAsReadAndAsRecovered test q (files_of v) → IsRunWith (EachCommitPassesTestAtName test q) v event w → IsTransition v event w → HoldsAsReadAndAsRecovered test q (files_of w)
led_true no_intent test q stays v w (Ends run) at leaves (is_run, ends) = stands_true no_intent test q stays v run w leaves at (located v run w is_run (last_moment run v w is_run ends))
led_true no_intent test q stays v w (Stops run) at (leaves, moment) (is_run, stop) = stands_true no_intent test q stays v run w leaves at (located v run w is_run moment)
led_true no_intent test q stays v w Crashes at leaves leads = absurd leaves
led_true no_intent test q stays v w Edits at leaves leads = absurd leaves
led_true no_intent test q stays v w (Touches theirs) at leaves leads = absurd leaves

pub seen_true : CommitsNoIntent → (test : Option (List ℕ) → Bool) (q : List ℕ) → (IsJournalName q → ⊥) → (first w : TreeState) (events : List RootEvent) → HoldsAsReadAndAsRecovered test q (files_of first) → ReachesOnlyByRunsWith (EachCommitPassesTestAtName test q) first events w → HoldsAsReadAndAsRecovered test q (files_of w)
seen_true no_intent test q stays first w [] at is = subst (λ (u : TreeState). HoldsAsReadAndAsRecovered test q (files_of u)) (sym is) at
seen_true no_intent test q stays first w (event ∷ earlier) at (v, seen, leaves, leads) =
    led_true no_intent test q stays v w event (seen_true no_intent test q stays first v earlier at seen) leaves leads

-- ---- what an intent said

-- neither the output's name nor its scratch name is one of these
second_of : (a b c : Bool) → (a || (b || c)) ≡ false → b ≡ false
second_of true b c is = absurd (false≢true (sym is))
second_of false true c is = absurd (false≢true (sym is))
second_of false false c is = refl

no_scratch_name : (name q : List ℕ) → IsNoneOf q (output_names (Some name)) → bytes_eq q (scratch_name_of name) ≡ false
no_scratch_name name q none = second_of (bytes_eq q name) (bytes_eq q (scratch_name_of name)) false none

counts_in : (o : Option (List ℕ)) (ignored : Ignored) (q : List ℕ) → IsNoneOf q (output_names o) → ignored q ≡ false → ignored_with_scratch o ignored q ≡ false
counts_in None ignored q none counts = counts
counts_in (Some name) ignored q none counts = or_from (bytes_eq q (scratch_name_of name)) (ignored q) (no_scratch_name name q none) counts

no_draft_by : (effect : Effect) (o : Option (List ℕ)) (q : List ℕ) → IsNoneOf q (output_names o) → is_staged q ≡ false → is_temporary_name effect o q ≡ false
no_draft_by Computes o q none unstaged = refl
no_draft_by OnlyReadsFiles o q none unstaged = refl
no_draft_by AsksRoot o q none unstaged = refl
no_draft_by Makes None q none unstaged = refl
no_draft_by Makes (Some name) q none unstaged = no_scratch_name name q none
no_draft_by Changes o q none unstaged = unstaged

bytes_there : (files : ℕ → File) (o : Option ℕ) → IsSome o → bytes_of_file_number files o ≡ None → ⊥
bytes_there files None some is = cc
bytes_there files (Some n) some is = cc

module _ (v : TreeState) (run : Run) (m : TreeState) (there : IsSome (v.names intent_name)) (unread : m.names intent_name ≡ None) where
  gone : files_of m intent_name ≡ None
  gone = ap (bytes_of_file_number m.files) unread

  none : intent_of (files_of m) ≡ None
  none = ap intent_in_file gone

  stood : files_of m intent_name ≡ files_of v intent_name → ⊥
  stood is = bytes_there v.files (v.names intent_name) there (sym is ∙ gone)

  not_first : m ≡ v → ⊥
  not_first is = some_none (v.names intent_name) (sym (ap (λ (u : TreeState). u.names intent_name) is) ∙ unread) there

  module _ (q : List ℕ) (shown : is_staged q ≡ false) where
    abbrev Done : Type 0
    Done = (files_of m q ≡ unstaged_files (files_of v) q) ⊎ HasOutcomeBytes v run m q

    recovered_here : unstaged_files (files_of m) ≡ unstaged_files (files_of v) → Done
    recovered_here r = inl (sym (plain_at (files_of m) q none shown) ∙ ap (λ (f : Files). f q) r)

    work_here : (effect : Effect) → files_of m intent_name ≡ files_recovered_if_needed effect (files_of v) intent_name → files_of m q ≡ files_recovered_if_needed effect (files_of v) q → Done
    work_here Computes at is = absurd (stood at)
    work_here OnlyReadsFiles at is = absurd (stood at)
    work_here AsksRoot at is = inl is
    work_here Makes at is = inl is
    work_here Changes at is = inl is

    draft_here : (effect : Effect) (o : Option (List ℕ)) → is_temporary_name effect o q ≡ false → HasFilesExceptTemporaryOnes effect o (files_recovered_if_needed effect (files_of v)) m → Done
    draft_here effect o no_draft drafting = work_here effect (drafting intent_name (intent_no_draft effect o)) (drafting q no_draft)

    pub done_here : is_temporary_name (effect_of_arguments (command_of run.words)) (output run.words) q ≡ false → Stands v run m → Done
    done_here no_draft (inl is) = absurd (not_first is)
    done_here no_draft (inr (inl (inl (recovers, r)))) = recovered_here r.reads
    done_here no_draft (inr (inl (inr is))) = work_here (effect_of_arguments (command_of run.words)) (ap (λ (f : Files). f intent_name) is) (ap (λ (f : Files). f q) is)
    done_here no_draft (inr (inr (o, one, commits, inl (recovers, r)))) = recovered_here r.reads
    done_here no_draft (inr (inr (o, one, commits, inr (inl drafting)))) = draft_here (effect_of_arguments (command_of run.words)) (output run.words) no_draft drafting
    done_here no_draft (inr (inr (o, one, commits, inr (inr (inl p))))) = absurd (some_none (m.names intent_name) unread p.intent)
    done_here no_draft (inr (inr (o, one, commits, inr (inr (inr is))))) = inr (o, one, commits, ap (λ (f : Files). f q) is)

  -- ---- behind a list

  names_last : IsRunFrom v run → IsMomentOf run m → (map : NameMap) → IsCrashMap m map → (q : List ℕ) → (IsJournalName q → ⊥) → IsNoneOf q (output_names (output run.words)) → map q ≡ m.names q
  names_last is_run moment map is_map q stays other =
      ⊎_elim (λ is. absurd (not_first is))
      (λ (last : NamesAreDurableExceptOutputIfNoIntent (output run.words) m). last unread map is_map q other (λ is. stays (inl is)) (not_staged q stays))
      (start_or_made (NamesAreDurableExceptOutputIfNoIntent (output run.words)) run v m is_run.begins (is_run.last there) moment)

  module _ (facts : Facts) (ignored : Ignored) (hidden : ignored intent_name ≡ false) (is_durable : IsDurable (StateDependsOn ignored) v) where
    left_as_read : IsRunFrom v run → IsMomentOf run m → (q : List ℕ) → IsNoJournalOutputOrIgnoredName ignored run q → (image : Files) → IsCrashImage m image → image q ≡ files_of m q
    left_as_read is_run moment q name image (map, is_map, left) =
        let here = durable_at facts ignored v run is_run hidden is_durable (is_run.crash (ignored_during_run run ignored) (now_durable facts ignored v run is_run hidden is_durable) (now_hides facts ignored v run is_run hidden is_durable)) m moment in
        let counts = or_from (is_staged q) (ignored_during_run run ignored q) (not_staged q name.waits) (counts_in (output run.words) ignored q name.other name.counts) in
        synced_as_read m.files (map q) (image q) (λ n at. here.each map is_map q n (inr (inl counts)) at) (left q)
        ∙ ap (bytes_of_file_number m.files) (names_last is_run moment map is_map q name.waits name.other)

    pub done_for_good : IsRunFrom v run → IsMomentOf run m → (q : List ℕ) → IsNoJournalOutputOrIgnoredName ignored run q → HasRecoveredOrOutcomeBytesDurably v run m q
    done_for_good is_run moment q name = record {
      done = done_here q (not_staged q name.waits) (no_draft_by (effect_of_arguments (command_of run.words)) (output run.words) q name.other (not_staged q name.waits)) (located v run m is_run moment);
      lasts = left_as_read is_run moment q name;
    }

pub seen_done : Facts → (ignored : Ignored) (first v m : TreeState) (events : List RootEvent) (run : Run) → ignored intent_name ≡ false → IsDurable (StateDependsOn ignored) first → Reaches first events v → IsRunFrom v run
    → IsSome (v.names intent_name) → IsMomentOf run m → m.names intent_name ≡ None → (q : List ℕ) → IsNoJournalOutputOrIgnoredName (ignored_after ignored events) run q → HasRecoveredOrOutcomeBytesDurably v run m q
seen_done facts ignored first v m events run off is_durable seen is_run there moment unread q name =
    done_for_good v run m there unread facts (ignored_after ignored events) (after_hides ignored off events) (seen_durable facts ignored off first v events is_durable seen) is_run moment q name
