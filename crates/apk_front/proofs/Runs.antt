-- What a run leaves of a tree, by what was done.
use Rattle.std.proofs.Common.{◌≡◌, ◌≢◌, ◌||◌, inl, inr, ℕ, Bool, true, false, List, [], ◌∷◌, Option, Some, None, IsSome, Result, Ok, Err, refl, sym, ap, subst, ◌∙◌}
use Rattle.std.specs.Prelude.{IfOk, if◌then◌else◌, is_some, OnOk}
use Rattle.std.specs.Str.{bytes_eq}
use Rattle.std.proofs.lemmas.List.Elements.{All-nil, All-weaker}
use Rattle.std.proofs.lemmas.Bool.{false≢true}
use Rattle.std.proofs.lemmas.Slice.Eq.{bytes_eq-Decides}
use Rattle.base_core.specs.Calls.{HoldsNow, IfObservable}
use Rattle.base_core.specs.Crash.{IsCrashImageUnderMap, Since}
use Rattle.base_core.specs.Files.{Files, NameMap, drop_name}
use Rattle.base_core.proofs.Undone.{left_only, read_may_be_left}
use Rattle.base_core.specs.Tree.{File, TreeState, bytes_of_file_number, files_under_map, files_of}
use Rattle.base_core.specs.Undone.{IsDurable, IsCrashMap}
use Rattle.base_core.specs.declared.tree.TreeFault.{TreeFault}
use Rattle.adb_dump.specs.adb_schema.Reserved.{is_reserved}
use Rattle.journal_core.proofs.Images.{crash_laws, image_state}
use Rattle.journal_core.specs.Kept.{IsSyncedAt, KeepsCrashMapsExcept, NamesOutsideJournalAreDurable}
use Rattle.journal_core.specs.Quiet.{StateIsUnchanged}
use Rattle.journal_core.specs.Recovery.{EachCrashLeavesStateOf, StateDependsOn, intent_name, is_staged, state_of}
use Rattle.journal_core.specs.Replacing.{CanAddOutputNames, IgnoresScratchNameButNotIntent, IsMomentOfReplacing, files_after_replacement, scratch_name_of}
use Rattle.journal_core.specs.Reading.{ReadsOldOrReplaced}
use Rattle.outcome.specs.Effect.{Effect, Makes}
use Rattle.outcome.specs.Make.{make_outcome}
use Rattle.outcome.specs.Outcome.{Outcome, commit_report, just_refusal, just_report}
use Rattle.report_core.specs.declared.refusal.Refusal.TheVariants.{Reserved}
use Rattle.apk_front.specs.Moments.{AreStatesOldOrLeadToOutcome, CanAddOutputNamesIfAny, IgnoresOutputScratchNameButNotIntent, IsDurableAndLeavesFiles, IsStateDuringRunToNewFilesFromOld, OutcomeCommitsOrCrashesLeaveFilesAsRead, NamesAreDurableExceptOutputIfNoIntent, ignored_except_output_and_scratch, is_temporary_name, output_names}
use Rattle.apk_front.specs.RunContracts.{IsMakingRun}
use Rattle.apk_front.specs.Runs.{AreFilesReadWithoutRecovery, IsRunAfterRecovery}
use Rattle.apk_front.specs.Verdicts.{Reports, as_outcome}
use Rattle.apk_front.specs.declared.answer.Verdict.{Verdict}

abbrev pub History : Type 0
History = List TreeState

abbrev pub Judged : Type 0
Judged = Result Verdict TreeFault

pub none_is_some : {X : Type 0} (o : Option X) → o ≡ None → IsSome o → ⊥
none_is_some o none some = absurd (false≢true (subst (λ p. IsSome p) none some))

pub on_ok : {P Q : Type 0} (judged : Judged) → (P → Q) → OnOk judged P → OnOk judged Q
on_ok (Ok verdict) f p = f p
on_ok (Err fault) f p = tt

pub ok_always : (P : Type 0) (judged : Judged) → P → OnOk judged P
ok_always P (Ok verdict) p = p
ok_always P (Err e) p = tt

pub err_ok : (P : Type 0) (judged : Judged) (e : TreeFault) → judged ≡ Err e → OnOk judged P
err_ok P judged e is = subst (λ (j : Judged). OnOk j P) (sym is) tt

-- ---- nothing was written

-- the files are as they were, and nothing is committed
abbrev pub Leaves : Files → Outcome → Type 0
Leaves files o = (o.files ≡ files) × (o.commits ≡ false)

-- so an outcome leaves the files, where it was judged
abbrev pub IsEventWithoutCommitOrEdit : (Outcome → Type 0) → Judged → TreeState → Type 0
IsEventWithoutCommitOrEdit IsOne judged v = (o : Outcome) → IsOne o → OnOk judged (Leaves (files_of v) o)

-- what commits nothing is settled where it was so before
pub settled_before : (ignored : List ℕ → Bool) (v : TreeState) (o : Outcome) → o.commits ≡ false → OutcomeCommitsOrCrashesLeaveFilesAsRead ignored v o → EachCrashLeavesStateOf ignored (files_of v) v
settled_before ignored v o none (inl commits) = absurd (false≢true (sym none ∙ commits))
settled_before ignored v o none (inr before) = before

pub run_idle : (IsOne : Outcome → Type 0) (effect : Effect) (output : Option (List ℕ)) (judged : Judged) (v : TreeState) (rest now : History) → now ≡ v ∷ rest → IsEventWithoutCommitOrEdit IsOne judged v → IsRunAfterRecovery IsOne effect output judged v (v ∷ rest) now
run_idle IsOne effect output judged v rest now same idle = record {
  moments = λ ignored is_durable hides. inl (record { added = []; is = same; each = All-nil (StateIsUnchanged ignored v) });
  is_durable = λ ignored is_durable hides. subst (λ (h : History). HoldsNow h (IsDurable (StateDependsOn ignored))) (sym same) is_durable;
  settled = λ ignored o is_durable hides one lasts.
      on_ok judged (λ is. subst (λ (h : History). HoldsNow h (EachCrashLeavesStateOf ignored o.files)) (sym same) (subst (λ (f : Files). EachCrashLeavesStateOf ignored f v) (sym is.0) (settled_before ignored v o is.1 lasts))) (idle o one);
  durable_state = λ ignored o is_durable hides one commits. on_ok judged (λ is. absurd (false≢true (sym is.1 ∙ commits))) (idle o one);
  reads = inl (record { added = []; is = same; each = All-nil (λ w. files_of w ≡ files_of v) });
  last = λ last. record { added = []; is = same; each = All-nil (NamesAreDurableExceptOutputIfNoIntent output) };
  leaves = λ o one. on_ok judged (λ is. subst (λ (h : History). HoldsNow h (λ w. files_of w ≡ o.files)) (sym same) (sym is.0)) (idle o one);
  idle = λ o one no. same;
}

pub idle_at : (IsOne : TreeState → Outcome → Type 0) (effect : Effect) (output : Option (List ℕ)) (judged : Judged) (old now : History) → now ≡ old → ((v : TreeState) → IsEventWithoutCommitOrEdit (IsOne v) judged v) → IfObservable old (λ v. IsRunAfterRecovery (IsOne v) effect output judged v old now)
idle_at IsOne effect output judged [] now same idle = tt
idle_at IsOne effect output judged (v ∷ rest) now same idle = run_idle (IsOne v) effect output judged v rest now same (idle v)

-- it failed
pub failed_at : (IsOne : TreeState → Outcome → Type 0) (effect : Effect) (output : Option (List ℕ)) (judged : Judged) (e : TreeFault) (old now : History) → judged ≡ Err e → now ≡ old → IfObservable old (λ v. IsRunAfterRecovery (IsOne v) effect output judged v old now)
failed_at IsOne effect output judged e old now is same = idle_at IsOne effect output judged old now same (λ v o one. err_ok _ judged e is)

-- each outcome leaves the files
pub left_at : (IsOne : TreeState → Outcome → Type 0) (effect : Effect) (output : Option (List ℕ)) (judged : Judged) (old now : History) → now ≡ old → ((v : TreeState) (o : Outcome) → IsOne v o → Leaves (files_of v) o) → IfObservable old (λ v. IsRunAfterRecovery (IsOne v) effect output judged v old now)
left_at IsOne effect output judged old now same all = idle_at IsOne effect output judged old now same (λ v o one. ok_always (Leaves (files_of v) o) judged (all v o one))

-- a refusal writes nothing
pub idle_refused : (judged : Judged) (old : History) → IfOk judged (λ verdict. IsSome verdict.refusal → old ≡ old)
idle_refused (Ok verdict) old = λ some. refl
idle_refused (Err fault) old = tt

-- nor after calls that left the tree as it was
pub refused_behind : (judged : Judged) (old mid now : History) → mid ≡ old → IfOk judged (λ verdict. IsSome verdict.refusal → now ≡ mid) → IfOk judged (λ verdict. IsSome verdict.refusal → now ≡ old)
refused_behind judged old mid now same refused = subst (λ (h : History). IfOk judged (λ verdict. IsSome verdict.refusal → now ≡ h)) same refused

-- a run that failed before it wrote
pub failed_making : (IsOne : Files → Outcome → Type 0) (output : Option (List ℕ)) (judged : Judged) (e : TreeFault) (old now : History) → judged ≡ Err e → now ≡ old → IsMakingRun IsOne output old now judged
failed_making IsOne output judged e old now is same = record {
  tree = failed_at (λ v. IsOne (files_of v)) Makes output judged e old now is same;
  refused = subst (λ (r : Judged). IfOk r (λ verdict. IsSome verdict.refusal → now ≡ old)) (sym is) tt;
  undone = λ none. same;
}

-- ---- a file was written

-- the outcomes of a container
abbrev pub IsMade : Option (List ℕ) → List ℕ → List ℕ → TreeState → Outcome → Type 0
IsMade output report file v o = o ≡ make_outcome (files_of v) output report (Ok file)

reserved_is : (output : Option (List ℕ)) (report file name : List ℕ) (files : Files) → output ≡ Some name → is_reserved name ≡ true → make_outcome files output report (Ok file) ≡ just_refusal files (Reserved name)
reserved_is output report file name files is reserved =
    ap (λ (out : Option (List ℕ)). make_outcome files out report (Ok file)) is
    ∙ ap (λ b. if b then just_refusal files (Reserved name) else commit_report (files_after_replacement name file files) report) reserved

free_is : (output : Option (List ℕ)) (report file name : List ℕ) (files : Files) → output ≡ Some name → is_reserved name ≡ false → make_outcome files output report (Ok file) ≡ commit_report (files_after_replacement name file files) report
free_is output report file name files is free =
    ap (λ (out : Option (List ℕ)). make_outcome files out report (Ok file)) is
    ∙ ap (λ b. if b then just_refusal files (Reserved name) else commit_report (files_after_replacement name file files) report) free

pub reserved_run : (output : Option (List ℕ)) (report file name : List ℕ) (judged : Judged) (old now : History) → output ≡ Some name → is_reserved name ≡ true → now ≡ old
    → IfObservable old (λ v. IsRunAfterRecovery (IsMade output report file v) Makes output judged v old now)
reserved_run output report file name judged old now is reserved same =
    left_at (IsMade output report file) Makes output judged old now same
    (λ v o one. subst (Leaves (files_of v)) (sym (one ∙ reserved_is output report file name (files_of v) is reserved)) (refl, refl))

pub reserved_reports : (output : Option (List ℕ)) (report file name : List ℕ) (verdict : Verdict) → output ≡ Some name → is_reserved name ≡ true → ((files : Files) → as_outcome files verdict ≡ just_refusal files (Reserved name))
    → (files : Files) → Reports verdict (make_outcome files output report (Ok file))
reserved_reports output report file name verdict is reserved same_outcome files =
    let same = reserved_is output report file name files is reserved in
    subst (λ (o : Outcome). Reports verdict o) (sym same) (same_outcome files)

pub free_reports : (output : Option (List ℕ)) (report file name : List ℕ) (verdict : Verdict) → output ≡ Some name → is_reserved name ≡ false → ((files : Files) → as_outcome files verdict ≡ just_report files report)
    → (files : Files) → Reports verdict (make_outcome files output report (Ok file))
free_reports output report file name verdict is free same_outcome files =
    let same = free_is output report file name files is free in
    subst (λ (o : Outcome). Reports verdict o) (sym same) (ap (λ (o : Outcome). record o { commits = true }) (same_outcome (files_after_replacement name file files)))

-- ---- its name and the scratch name count again

-- what a crash leaves by one map has the state of the files of that map
abbrev pub ImageHasState : Type 0
ImageHasState = (ignored : List ℕ → Bool) (v : TreeState) → IsDurable (StateDependsOn ignored) v → (map : NameMap) → IsCrashMap v map → (image : Files) → IsCrashImageUnderMap v map image → state_of ignored image ≡ state_of ignored (files_under_map v map)

-- each crash image under a map has the state of the files under it
pub image_has_state : ImageHasState
image_has_state ignored v is_durable map among image by = sym (image_state crash_laws ignored v is_durable map among image by)

only_map : (w : TreeState) (map : NameMap) → w.older ≡ [] → IsCrashMap w map → map ≡ w.names
only_map w map one left = left_only w one map left

scratch_gone : (name file : List ℕ) (files : Files) (q : List ℕ) → bytes_eq q name ≡ false → bytes_eq q (scratch_name_of name) ≡ true → files_after_replacement name file files q ≡ None
scratch_gone name file files q other scratch = ap (λ b. if b then Some file else drop_name files (scratch_name_of name) q) other ∙ ap (λ b. if b then None else files q) scratch

none_read : (files : ℕ → File) (o : Option ℕ) (n : ℕ) → o ≡ Some n → bytes_of_file_number files o ≡ None → ⊥
none_read files None n is none = cc
none_read files (Some k) n is none = cc

module _ (ignored : List ℕ → Bool) (name file : List ℕ) (files : Files) (w : TreeState) (is_durable : IsDurable (StateDependsOn ignored) w) (synced : IsSyncedAt name w) (reads : files_of w ≡ files_after_replacement name file files) where
  rests_too : (q : List ℕ) (F : Files) → bytes_eq q name ≡ false → bytes_eq q (scratch_name_of name) ≡ false → StateDependsOn (ignored_except_output_and_scratch (Some name) ignored) F q → StateDependsOn ignored F q
  rests_too q F other another (inl intent) = inl intent
  rests_too q F other another (inr (inl shown)) =
      inr (inl (sym (ap (λ b. is_staged q || (if b || bytes_eq q (scratch_name_of name) then false else ignored q)) other ∙ ap (λ b. is_staged q || (if b then false else ignored q)) another) ∙ shown))
  rests_too q F other another (inr (inr place)) = inr (inr place)

  synced_map : (map : NameMap) → IsCrashMap w map → (q : List ℕ) (n : ℕ) (a b : Bool) → bytes_eq q name ≡ a → bytes_eq q (scratch_name_of name) ≡ b → StateDependsOn (ignored_except_output_and_scratch (Some name) ignored) (files_under_map w map) q → map q ≡ Some n → (w.files n).synced ≡ true
  synced_map map among q n true b is_name is_scratch rests at = synced.file n (ap w.names (sym ((bytes_eq-Decides q name).0 is_name)) ∙ sym (ap (λ (m : NameMap). m q) (only_map w map synced.one_map among)) ∙ at)
  synced_map map among q n false true is_name is_scratch rests at =
      absurd (none_read w.files (w.names q) n (sym (ap (λ (m : NameMap). m q) (only_map w map synced.one_map among)) ∙ at) (ap (λ (f : Files). f q) reads ∙ scratch_gone name file files q is_name is_scratch))
  synced_map map among q n false false is_name is_scratch rests at = is_durable.each map among q n (rests_too q (files_under_map w map) is_name is_scratch rests) at

  counts_again : IsDurable (StateDependsOn (ignored_except_output_and_scratch (Some name) ignored)) w
  counts_again = record { each = λ map among q n rests at. synced_map map among q n (bytes_eq q name) (bytes_eq q (scratch_name_of name)) refl refl rests at }

  rest_at : ImageHasState → IsDurableAndLeavesFiles (ignored_except_output_and_scratch (Some name) ignored) (files_after_replacement name file files) w
  rest_at law = record {
    is_durable = counts_again;
    settled = λ image (map, among, by).
        law (ignored_except_output_and_scratch (Some name) ignored) w counts_again map among image by
        ∙ ap (λ (m : NameMap). state_of (ignored_except_output_and_scratch (Some name) ignored) (files_under_map w m)) (only_map w map synced.one_map among) ∙ ap (state_of (ignored_except_output_and_scratch (Some name) ignored)) reads;
  }

rest_now : ImageHasState → (ignored : List ℕ → Bool) (name file : List ℕ) (files : Files) (judged : Judged) (now : History) → HoldsNow now (IsDurable (StateDependsOn ignored)) → OnOk judged (HoldsNow now (IsSyncedAt name)) → OnOk judged (HoldsNow now (λ w. files_of w ≡ files_after_replacement name file files))
    → OnOk judged (HoldsNow now (IsDurableAndLeavesFiles (ignored_except_output_and_scratch (Some name) ignored) (files_after_replacement name file files)))
rest_now law ignored name file files (Err e) now is_durable synced reads = tt
rest_now law ignored name file files (Ok verdict) [] is_durable synced reads = absurd is_durable
rest_now law ignored name file files (Ok verdict) (w ∷ now) is_durable synced reads = rest_at ignored name file files w is_durable synced reads law

pub since_weaker : (P Q : TreeState → Type 0) (old now : History) → ((w : TreeState) → P w → Q w) → Since P old now → Since Q old now
since_weaker P Q old now f since = record { added = since.added; is = since.is; each = All-weaker P Q f since.added since.each }

-- a name that is no draft name is not the scratch name
off_scratch : (name q : List ℕ) → is_temporary_name Makes (Some name) q ≡ false → q ≢ scratch_name_of name
off_scratch name q off is = false≢true (sym off ∙ (bytes_eq-Decides q (scratch_name_of name)).1 is)

drafting : (name file : List ℕ) (files : Files) (w : TreeState) → ReadsOldOrReplaced name file files w → IsStateDuringRunToNewFilesFromOld Makes (Some name) (files_after_replacement name file files) files w
drafting name file files w (inl others) = inl (λ q off. others q (off_scratch name q off))
drafting name file files w (inr is) = inr (inr is)

names_kept : (output : Option (List ℕ)) (u w : TreeState) → NamesOutsideJournalAreDurable u → KeepsCrashMapsExcept (output_names output) u w → NamesAreDurableExceptOutputIfNoIntent output w
names_kept output u w last keeps none map among q off no_intent unstaged =
    let (was, is_was, same) = keeps map among in
    let (own, is_own, own_same) = keeps w.names (read_may_be_left w) in
    same q off ∙ last was is_was q no_intent unstaged ∙ sym (own_same q off ∙ last own is_own q no_intent unstaged)

-- what `replace` says of the tree
pub record IsReplaced (name file : List ℕ) (judged : Judged) (v : TreeState) (old now : History) : Type 0 where
  pub moments : (ignored : List ℕ → Bool) → IsDurable (StateDependsOn ignored) v → IgnoresScratchNameButNotIntent ignored name → Since (IsMomentOfReplacing ignored (files_after_replacement name file (files_of v)) v) old now
  pub is_durable : (ignored : List ℕ → Bool) → IsDurable (StateDependsOn ignored) v → IgnoresScratchNameButNotIntent ignored name → HoldsNow now (IsDurable (StateDependsOn ignored))
  pub settled : (ignored : List ℕ → Bool) → IsDurable (StateDependsOn ignored) v → IgnoresScratchNameButNotIntent ignored name → OnOk judged (HoldsNow now (EachCrashLeavesStateOf ignored (files_after_replacement name file (files_of v))))
  pub reads : Since (ReadsOldOrReplaced name file (files_of v)) old now
  pub leaves : OnOk judged (HoldsNow now (λ w. files_of w ≡ files_after_replacement name file (files_of v)))
  pub synced : OnOk judged (HoldsNow now (IsSyncedAt name))
  pub others : Since (KeepsCrashMapsExcept (name ∷ scratch_name_of name ∷ []) v) old now

free_run : ImageHasState → (output : Option (List ℕ)) (report file name : List ℕ) (judged : Judged) (v : TreeState) (old now : History) → output ≡ Some name → is_reserved name ≡ false
    → IsReplaced name file judged v old now → IsRunAfterRecovery (IsMade output report file v) Makes output judged v old now
free_run law output report file name judged v old now is free done =
    let same = free_is output report file name (files_of v) is free in
    let hidden : (ignored : List ℕ → Bool) → IgnoresOutputScratchNameButNotIntent output ignored → IgnoresScratchNameButNotIntent ignored name = λ ignored hides. subst (λ (out : Option (List ℕ)). IgnoresOutputScratchNameButNotIntent out ignored) is hides in
    let left : (o : Outcome) → IsMade output report file v o → files_after_replacement name file (files_of v) ≡ o.files = λ o one. sym (ap (λ (x : Outcome). x.files) (one ∙ same)) in
    record {
      moments = λ ignored is_durable hides. subst (λ (out : Option (List ℕ)). AreStatesOldOrLeadToOutcome (IsMade output report file v) (is_some out) ignored v old now) (sym is)
          (inr (commit_report (files_after_replacement name file (files_of v)) report, sym same, refl, done.moments ignored is_durable (hidden ignored hides)));
      is_durable = λ ignored is_durable hides. done.is_durable ignored is_durable (hidden ignored hides);
      settled = λ ignored o is_durable hides one lasts. subst (λ (f : Files). OnOk judged (HoldsNow now (EachCrashLeavesStateOf ignored f))) (left o one) (done.settled ignored is_durable (hidden ignored hides));
      durable_state = λ ignored o is_durable hides one commits.
          subst (λ (f : Files). OnOk judged (HoldsNow now (IsDurableAndLeavesFiles (ignored_except_output_and_scratch output ignored) f))) (left o one)
          (subst (λ (out : Option (List ℕ)). OnOk judged (HoldsNow now (IsDurableAndLeavesFiles (ignored_except_output_and_scratch out ignored) (files_after_replacement name file (files_of v))))) (sym is)
          (rest_now law ignored name file (files_of v) judged now (done.is_durable ignored is_durable (hidden ignored hides)) done.synced done.leaves));
      reads = subst (λ (out : Option (List ℕ)). AreFilesReadWithoutRecovery (IsMade output report file v) Makes out v old now) (sym is)
          (inr (commit_report (files_after_replacement name file (files_of v)) report, sym same, refl, since_weaker (ReadsOldOrReplaced name file (files_of v)) (IsStateDuringRunToNewFilesFromOld Makes (Some name) (files_after_replacement name file (files_of v)) (files_of v)) old now (drafting name file (files_of v)) done.reads));
      last = subst (λ (out : Option (List ℕ)). NamesOutsideJournalAreDurable v → Since (NamesAreDurableExceptOutputIfNoIntent out) old now) (sym is)
          (λ last. since_weaker (KeepsCrashMapsExcept (name ∷ scratch_name_of name ∷ []) v) (NamesAreDurableExceptOutputIfNoIntent (Some name)) old now (λ w. names_kept (Some name) v w last) done.others);
      leaves = λ o one. subst (λ (f : Files). OnOk judged (HoldsNow now (λ w. files_of w ≡ f))) (left o one) done.leaves;
      idle = λ o one no. absurd (false≢true (sym no ∙ ap (λ (x : Outcome). x.commits) (one ∙ same)));
    }

abbrev ChangesHistory : List ℕ → List ℕ → History → History → Type 0
ChangesHistory name file old now = IfObservable old (λ v. (ignored : List ℕ → Bool) → IsDurable (StateDependsOn ignored) v → IgnoresScratchNameButNotIntent ignored name → Since (IsMomentOfReplacing ignored (files_after_replacement name file (files_of v)) v) old now)

abbrev IsReadOnTheWay : List ℕ → List ℕ → History → History → Type 0
IsReadOnTheWay name file old now = IfObservable old (λ v. Since (ReadsOldOrReplaced name file (files_of v)) old now)

abbrev StaysDurable : List ℕ → History → History → Type 0
StaysDurable name old now = IfObservable old (λ v. (ignored : List ℕ → Bool) → IsDurable (StateDependsOn ignored) v → IgnoresScratchNameButNotIntent ignored name → HoldsNow now (IsDurable (StateDependsOn ignored)))

abbrev StaysElsewhere : List ℕ → History → History → Type 0
StaysElsewhere name old now = IfObservable old (λ v. Since (KeepsCrashMapsExcept (name ∷ scratch_name_of name ∷ []) v) old now)

pub written_run : ImageHasState → (output : Option (List ℕ)) (report file name : List ℕ) (verdict : Verdict) (old now : History) → output ≡ Some name → is_reserved name ≡ false
    → ChangesHistory name file old now → StaysDurable name old now → IsReadOnTheWay name file old now
    → IfObservable old (λ v. (ignored : List ℕ → Bool) → IsDurable (StateDependsOn ignored) v → IgnoresScratchNameButNotIntent ignored name → HoldsNow now (EachCrashLeavesStateOf ignored (files_after_replacement name file (files_of v))))
    → IfObservable old (λ v. HoldsNow now (λ w. files_of w ≡ files_after_replacement name file (files_of v))) → IfObservable old (λ v. HoldsNow now (IsSyncedAt name)) → StaysElsewhere name old now
    → IfObservable old (λ v. IsRunAfterRecovery (IsMade output report file v) Makes output (Ok verdict) v old now)
written_run law output report file name verdict [] now is free moves is_durable reads settled leaves synced others = tt
written_run law output report file name verdict (v ∷ rest) now is free moves is_durable reads settled leaves synced others =
    free_run law output report file name (Ok verdict) v (v ∷ rest) now is free (record { moments = moves; is_durable = is_durable; settled = settled; reads = reads; leaves = leaves; synced = synced; others = others })

pub cut_run : ImageHasState → (output : Option (List ℕ)) (report file name : List ℕ) (judged : Judged) (e : TreeFault) (old now : History) → judged ≡ Err e → output ≡ Some name → is_reserved name ≡ false
    → ChangesHistory name file old now → StaysDurable name old now → IsReadOnTheWay name file old now → StaysElsewhere name old now
    → IfObservable old (λ v. IsRunAfterRecovery (IsMade output report file v) Makes output judged v old now)
cut_run law output report file name judged e [] now failed is free moves is_durable reads others = tt
cut_run law output report file name judged e (v ∷ rest) now failed is free moves is_durable reads others =
    free_run law output report file name judged v (v ∷ rest) now is free
    (record {
      moments = moves;
      is_durable = is_durable;
      settled = λ ignored orders hides. err_ok _ judged e failed;
      reads = reads;
      leaves = err_ok _ judged e failed;
      synced = err_ok _ judged e failed;
      others = others;
    })

-- ---- room

abbrev pub HasRoomIf : Option (List ℕ) → List ℕ → List ℕ → TreeState → Type 0
HasRoomIf output report file v = (make_outcome (files_of v) output report (Ok file)).commits ≡ true → CanAddOutputNamesIfAny output (files_of v)

pub room_proper : (output : Option (List ℕ)) (report file name : List ℕ) (old : History) (P : Type 0) → output ≡ Some name → is_reserved name ≡ false
    → IfObservable old (λ v. CanAddOutputNames name (files_of v) → P) → IfObservable old (λ v. HasRoomIf output report file v → P)
room_proper output report file name [] P is free proper = tt
room_proper output report file name (v ∷ rest) P is free proper = λ room.
    proper (subst (λ (out : Option (List ℕ)). CanAddOutputNamesIfAny out (files_of v)) is (room (ap (λ (x : Outcome). x.commits) (free_is output report file name (files_of v) is free))))

pub any_proper : (Room : TreeState → Type 0) (old : History) (P : Type 0) → P → IfObservable old (λ v. Room v → P)
any_proper Room [] P p = tt
any_proper Room (v ∷ rest) P p = λ room. p

pub proper_anyway : (Room : TreeState → Type 0) (old : History) (P : Type 0) → IfObservable old (λ v. P) → IfObservable old (λ v. Room v → P)
proper_anyway Room [] P p = tt
proper_anyway Room (v ∷ rest) P p = λ room. p

-- the intent's name is reserved
pub not_intent : (name : List ℕ) → is_reserved name ≡ false → name ≡ intent_name → ⊥
not_intent name free is = let reserved : is_reserved name ≡ true = ap is_reserved is in false≢true (sym free ∙ reserved)

-- a report is no refusal
pub report_no_refusal : (verdict : Verdict) (report : List ℕ) (P : Type 0) → ((files : Files) → as_outcome files verdict ≡ just_report files report) → IsSome verdict.refusal → P
report_no_refusal verdict report P same_outcome some = absurd (none_is_some verdict.refusal (ap (λ (o : Outcome). o.refusal) (same_outcome (λ q. None))) some)

-- ---- outcomes that are among others

safe_among : (A B : Outcome → Type 0) (makes : Bool) (ignored : List ℕ → Bool) (v : TreeState) (old now : History) → ((o : Outcome) → A o → B o) → AreStatesOldOrLeadToOutcome A makes ignored v old now → AreStatesOldOrLeadToOutcome B makes ignored v old now
safe_among A B makes ignored v old now f (inl is_unchanged) = inl is_unchanged
safe_among A B makes ignored v old now f (inr (o, one, commits, moments)) = inr (o, f o one, commits, moments)

reads_among : (A B : Outcome → Type 0) (effect : Effect) (output : Option (List ℕ)) (v : TreeState) (old now : History) → ((o : Outcome) → A o → B o) → AreFilesReadWithoutRecovery A effect output v old now → AreFilesReadWithoutRecovery B effect output v old now
reads_among A B effect output v old now f (inl same) = inl same
reads_among A B effect output v old now f (inr (o, one, commits, work)) = inr (o, f o one, commits, work)

pub run_among : (A B : Outcome → Type 0) (effect : Effect) (output : Option (List ℕ)) (judged : Judged) (v : TreeState) (old now : History) → ((o : Outcome) → A o → B o) → ((o : Outcome) → B o → A o) → IsRunAfterRecovery A effect output judged v old now → IsRunAfterRecovery B effect output judged v old now
run_among A B effect output judged v old now into from run = record {
  moments = λ ignored is_durable hides. safe_among A B (is_some output) ignored v old now into (run.moments ignored is_durable hides);
  is_durable = run.is_durable;
  settled = λ ignored o is_durable hides one lasts. run.settled ignored o is_durable hides (from o one) lasts;
  durable_state = λ ignored o is_durable hides one commits. run.durable_state ignored o is_durable hides (from o one) commits;
  reads = reads_among A B effect output v old now into run.reads;
  last = run.last;
  leaves = λ o one. run.leaves o (from o one);
  idle = λ o one nothing. run.idle o (from o one) nothing;
}
