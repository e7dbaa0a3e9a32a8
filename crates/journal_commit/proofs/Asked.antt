-- A change gives other bytes only to names that the tree accepts.
use Rattle.std.proofs.Common.{◌≡◌, ◌≢◌, inl, inr, ◌||◌, ℕ, ◌+◌, Bool, true, false, cond, List, ◌∷◌, [], Option, None, Some, refl, sym, ap, subst, ◌∙◌}
use Rattle.std.specs.List.{list_any}
use Rattle.std.specs.Str.{bytes_eq}
use Rattle.base_core.specs.Crash.{Since}
use Rattle.base_core.specs.Files.{Files}
use Rattle.base_core.specs.Tree.{TreeState, bytes_of_file_number, files_of}
use Rattle.base_core.proofs.AtName.{other_name}
use Rattle.journal_core.specs.Recovery.{Intent, files_after_actions, intent_in_file, intent_name, is_staged, recovered_files, files_after_intent, stage_name}
use Rattle.journal_core.specs.Staged.{HasNoStagedNames, unstaged_files, files_with_staged}
use Rattle.journal_core.specs.Targets.{AreAccepted}
use Rattle.journal_core.proofs.Between.{staged_off}
use Rattle.journal_core.proofs.Contents.{untouched_others}
use Rattle.journal_core.proofs.History.{History, none_since, since_weaker}
use Rattle.journal_core.proofs.Acts.{among_index}
use Rattle.journal_core.proofs.journal_intent.StageNames.{stage_name_staged}
use Rattle.journal_core.specs.journal_intent.FreeNames.{AreFreeNames, HasFreeNamesAndUnrepeatedWrites, IsNoneOf}
use Rattle.journal_commit.specs.Asked.{IsAcceptedFromSomeSource, TargetsAreAccepted, RecoveryChangesOnlyAcceptedNames}
use Rattle.journal_commit.specs.StageRun.{HasSameFilesExceptStaged, IsStateDuringChangeToNewFromOld, IsRunOfStagedChange, IsStagingRun}
use Rattle.journal_commit.proofs.Waits.{shown_off}

true_false : true ≡ false → ⊥
true_false e = cc

-- ---- lists of names

intent_not_among : (names : List (List ℕ)) → AreFreeNames names → IsNoneOf intent_name names
intent_not_among [] free = refl
intent_not_among (n ∷ ns) free =
    ap (λ b. b || list_any (bytes_eq intent_name) ns) (other_name intent_name n (λ e. free.0.no_intent (sym e))) ∙ intent_not_among ns free.1

-- ---- what a recovery leaves

unstaged_at : (files : Files) (q : List ℕ) (b : Bool) → is_staged q ≡ b → unstaged_files files q ≡ cond b None (recovered_files files q)
unstaged_at files q b is = ap (λ x. cond x None (recovered_files files q)) is

unread_recovered : (files : Files) (q : List ℕ) → files intent_name ≡ None → recovered_files files q ≡ files q
unread_recovered files q none = ap (λ o. files_after_intent (intent_in_file o) files q) none

module _ (accepts : Option (List ℕ) → List ℕ → Type 0) (v : TreeState) (unread : v.names intent_name ≡ None) (empty : HasNoStagedNames (files_of v)) where
  none_read : files_of v intent_name ≡ None
  none_read = ap (bytes_of_file_number v.files) unread

  same_waiting : (w : TreeState) → HasSameFilesExceptStaged (files_of v) w → (q : List ℕ) (b : Bool) → is_staged q ≡ b → unstaged_files (files_of w) q ≡ files_of v q
  same_waiting w keeps q true is = unstaged_at (files_of w) q true is ∙ sym (empty q is)
  same_waiting w keeps q false is =
      unstaged_at (files_of w) q false is ∙ unread_recovered (files_of w) q (keeps intent_name refl ∙ none_read) ∙ keeps q is

  waiting_promises : (w : TreeState) → HasSameFilesExceptStaged (files_of v) w → RecoveryChangesOnlyAcceptedNames accepts (files_of v) w
  waiting_promises w keeps name differs = absurd (differs (same_waiting w keeps name (is_staged name) refl))

  pub staging_promises : (old now : History) → IsStagingRun v old now → Since (RecoveryChangesOnlyAcceptedNames accepts (files_of v)) old now
  staging_promises old now run = since_weaker (HasSameFilesExceptStaged (files_of v)) (RecoveryChangesOnlyAcceptedNames accepts (files_of v)) old now waiting_promises run.reads

  module _ (intent : Intent) (contents : List (List ℕ)) (free : HasFreeNamesAndUnrepeatedWrites intent) (accepted : AreAccepted accepts intent) where
    abbrev New : Files
    New = files_after_actions intent (files_with_staged 1 contents (files_of v))

    shown_staged : (q : List ℕ) → is_staged q ≡ false → files_with_staged 1 contents (files_of v) q ≡ files_of v q
    shown_staged q shown = staged_off contents 1 (files_of v) q (λ j from. shown_off (stage_name j) q (stage_name_staged j) shown)

    changed_accepted : (q : List ℕ) → is_staged q ≡ false → New q ≢ files_of v q → IsAcceptedFromSomeSource accepts q
    changed_accepted q shown differs = by (list_any (bytes_eq q) intent.removals) (list_any (bytes_eq q) intent.writes) refl refl
      where
        by : (r w : Bool) → list_any (bytes_eq q) intent.removals ≡ r → list_any (bytes_eq q) intent.writes ≡ w → IsAcceptedFromSomeSource accepts q
        by true w removed written = let at = among_index intent.removals q removed in (None, accepted.removals at.0 q at.1)
        by false true removed written = let at = among_index intent.writes q written in (Some (stage_name (at.0 + 1)), accepted.writes at.0 q at.1)
        by false false removed written =
            absurd (differs (untouched_others intent (files_with_staged 1 contents (files_of v)) q shown removed written ∙ shown_staged q shown))

    new_unread : New intent_name ≡ None
    new_unread =
        untouched_others intent (files_with_staged 1 contents (files_of v)) intent_name refl (intent_not_among intent.removals free.removals) (intent_not_among intent.writes free.writes)
        ∙ shown_staged intent_name refl ∙ none_read

    in_change : (w : TreeState) → IsStateDuringChangeToNewFromOld New (files_of v) w → RecoveryChangesOnlyAcceptedNames accepts (files_of v) w
    in_change w (inl keeps) name differs = waiting_promises w keeps name differs
    in_change w (inr (inl leads)) name differs = by (is_staged name) refl
      where
        by : (b : Bool) → is_staged name ≡ b → IsAcceptedFromSomeSource accepts name
        by true is = absurd (differs (unstaged_at (files_of w) name true is ∙ sym (empty name is)))
        by false is = changed_accepted name is (λ same. differs (ap (λ (files : Files). files name) leads.leads ∙ same))
    in_change w (inr (inr read)) name differs = by (is_staged name) refl
      where
        by : (b : Bool) → is_staged name ≡ b → IsAcceptedFromSomeSource accepts name
        by true is = absurd (differs (unstaged_at (files_of w) name true is ∙ sym (empty name is)))
        by false is = changed_accepted name is (λ same.
            differs (ap (λ (files : Files). unstaged_files files name) read ∙ unstaged_at New name false is ∙ unread_recovered New name new_unread ∙ same))

    pub change_promises : (old now : History) → IsRunOfStagedChange New v old now → Since (RecoveryChangesOnlyAcceptedNames accepts (files_of v)) old now
    change_promises old now run = since_weaker (IsStateDuringChangeToNewFromOld New (files_of v)) (RecoveryChangesOnlyAcceptedNames accepts (files_of v)) old now in_change run.reads

-- ---- runs that begin with reads

asked_none : (accepts : Option (List ℕ) → List ℕ → Type 0) (h : History) → TargetsAreAccepted accepts h h
asked_none accepts [] = tt
asked_none accepts (v ∷ earlier) = λ unread empty. none_since (RecoveryChangesOnlyAcceptedNames accepts (files_of v)) (v ∷ earlier)

pub asked_same : (accepts : Option (List ℕ) → List ℕ → Type 0) (old now : History) → now ≡ old → TargetsAreAccepted accepts old now
asked_same accepts old now same = subst (λ (h : History). TargetsAreAccepted accepts old h) (sym same) (asked_none accepts old)

pub asked_later : (accepts : Option (List ℕ) → List ℕ → Type 0) (old mid now : History) → mid ≡ old → TargetsAreAccepted accepts mid now → TargetsAreAccepted accepts old now
asked_later accepts old mid now same run = subst (λ (h : History). TargetsAreAccepted accepts h now) same run
