-- The parts of a replacement join.
use Rattle.std.proofs.Common.{◌≡◌, inl, ℕ, Bool, List, ◌∷◌, Result, Ok, Err, OnOk, subst}
use Rattle.journal_core.proofs.Images.{old_or_new_from_quiet}
use Rattle.journal_core.proofs.History.{History, observable_at, observable_apply, observable_map, since_weaker, since_on, now_since, now_map, has_now}
use Rattle.journal_commit.proofs.Suffix.{private_of}
use Rattle.base_core.specs.Tree.{TreeState, files_of}
use Rattle.base_core.specs.Calls.{IfObservable, HoldsNow}
use Rattle.base_core.specs.Crash.{Since}
use Rattle.base_core.specs.Undone.{IsDurable}
use Rattle.journal_core.specs.Kept.{IsSyncedAt}
use Rattle.journal_core.specs.Recovery.{StateDependsOn, EachCrashLeavesStateOf}
use Rattle.journal_core.specs.Replacing.{scratch_name_of, files_after_scratch_replaces_name, files_after_replacement, IgnoresScratchNameButNotIntent, IsMomentOfReplacing}
use Rattle.journal_core.specs.Reading.{ReadsOldOrReplaced}
use Rattle.journal_core.specs.Filling.{MayHaveChangedOnly, HasChangedOnlyByNewFile, synced_file, IsNewFileReadyToMove, IsNewFileDurablyMoved}

-- ---- the new file is made, then it is moved

module _ (scratch name bytes : List ℕ) (v : TreeState) (old mid rest : History) (is : old ≡ v ∷ rest) where
  abbrev Moment : TreeState → Type 0
  Moment = IsNewFileReadyToMove scratch name bytes v

  abbrev Full : TreeState → Type 0
  Full = HasChangedOnlyByNewFile scratch (synced_file bytes) v

  untouched_moment : (w : TreeState) → MayHaveChangedOnly scratch v w → Moment w
  untouched_moment w was = record {
    safe = λ ignored is_durable private.
        let is_unchanged = was.is_unchanged ignored is_durable private in
        record {
          is_durable = is_unchanged.is_durable;
          old_or_new = old_or_new_from_quiet ignored v
              (files_after_scratch_replaces_name scratch name bytes (files_of v)) w is_unchanged.quiet;
          made = is_unchanged.made;
        };
    reads = inl was.others;
  }

  abbrev Fills : Type 0
  Fills = IfObservable old (λ w. Since (MayHaveChangedOnly scratch w) old mid)

  filling : Fills → Since (MayHaveChangedOnly scratch v) old mid
  filling fills = observable_at old v rest is (λ w. Since (MayHaveChangedOnly scratch w) old mid) fills

  pub fill_moments : Fills → Since (IsNewFileReadyToMove scratch name bytes v) old mid
  fill_moments fills = since_weaker (MayHaveChangedOnly scratch v) Moment old mid untouched_moment (filling fills)

  abbrev Filled : Type 0
  Filled = IfObservable old (λ w. IfObservable mid (HasChangedOnlyByNewFile scratch (synced_file bytes) w))

  full_now : Filled → IfObservable mid Full
  full_now filled = observable_at old v rest is (λ w. IfObservable mid (HasChangedOnlyByNewFile scratch (synced_file bytes) w)) filled

  module _ (new : History) where
    pub moving_moments : Fills → Filled → IfObservable mid (λ w. (b : List ℕ) (start : TreeState) → HasChangedOnlyByNewFile scratch (synced_file b) start w → Since (IsNewFileReadyToMove scratch name b start) mid new)
        → Since (IsNewFileReadyToMove scratch name bytes v) old new
    moving_moments fills filled moves =
        let behind = observable_apply (MayHaveChangedOnly scratch v) Full (Since Moment mid new) old mid v rest is (filling fills) (full_now filled) (observable_map mid _ (λ w. Full w
        → Since Moment mid new) moves (λ w f. f bytes v)) in
        since_on Moment old mid new (fill_moments fills) behind

    pub moved_now : Fills → Filled → IfObservable mid (λ w. (b : List ℕ) (start : TreeState) → HasChangedOnlyByNewFile scratch (synced_file b) start w → Since (IsNewFileReadyToMove scratch name b start) mid new)
        → IfObservable mid (λ w. (b : List ℕ) (start : TreeState) → HasChangedOnlyByNewFile scratch (synced_file b) start w → IfObservable new (IsNewFileDurablyMoved scratch name b start))
        → HoldsNow new (IsNewFileDurablyMoved scratch name bytes v)
    moved_now fills filled moves lasts =
        let last = observable_apply (MayHaveChangedOnly scratch v) Full (IfObservable new (IsNewFileDurablyMoved scratch name bytes v)) old mid v rest is (filling fills) (full_now filled)
        (observable_map mid _ (λ w. Full w → IfObservable new (IsNewFileDurablyMoved scratch name bytes v)) lasts (λ w f. f bytes v)) in
        has_now Moment (IsNewFileDurablyMoved scratch name bytes v) old new v rest is (moving_moments fills filled moves) last

    pub moved_called : {T E : Type 0} (r : Result T E) → Fills → Filled → IfObservable mid (λ w. (b : List ℕ) (start : TreeState) → HasChangedOnlyByNewFile scratch (synced_file b) start w
        → Since (IsNewFileReadyToMove scratch name b start) mid new)
        → IfObservable mid (λ w. (b : List ℕ) (start : TreeState) → HasChangedOnlyByNewFile scratch (synced_file b) start w → OnOk r (IfObservable new (IsNewFileDurablyMoved scratch name b start)))
        → OnOk r (HoldsNow new (IsNewFileDurablyMoved scratch name bytes v))
    moved_called (Ok x) fills filled moves lasts = moved_now fills filled moves lasts
    moved_called (Err e) fills filled moves lasts = tt

-- ---- what a replacement shows of it

module _ (scratch name bytes : List ℕ) (scratch_is : scratch ≡ scratch_name_of name) (v : TreeState) (old new rest : History) (is : old ≡ v ∷ rest) where
  abbrev Shows : Type 0
  Shows = IfObservable old (λ w. Since (IsNewFileReadyToMove scratch name bytes w) old new)

  moments : Shows → Since (IsNewFileReadyToMove (scratch_name_of name) name bytes v) old new
  moments moves = subst (λ s. Since (IsNewFileReadyToMove s name bytes v) old new) scratch_is (observable_at old v rest is (λ w. Since (IsNewFileReadyToMove scratch name bytes w) old new) moves)

  pub replacing_moments : Shows → (ignored : List ℕ → Bool) → IsDurable (StateDependsOn ignored) v → IgnoresScratchNameButNotIntent ignored name
      → Since (IsMomentOfReplacing ignored (files_after_replacement name bytes (files_of v)) v) old new
  replacing_moments moves ignored is_durable hides =
      since_weaker (IsNewFileReadyToMove (scratch_name_of name) name bytes v) (IsMomentOfReplacing ignored (files_after_replacement name bytes (files_of v)) v) old new
      (λ w m. m.safe ignored is_durable (private_of ignored name hides)) (moments moves)

  pub replacing_durable : Shows → (ignored : List ℕ → Bool) → IsDurable (StateDependsOn ignored) v → IgnoresScratchNameButNotIntent ignored name → HoldsNow new (IsDurable (StateDependsOn ignored))
  replacing_durable moves ignored is_durable hides =
      now_since (IsDurable (StateDependsOn ignored)) old new v rest is is_durable
      (since_weaker (IsNewFileReadyToMove (scratch_name_of name) name bytes v) (IsDurable (StateDependsOn ignored)) old new (λ w m. (m.safe ignored is_durable (private_of ignored name hides)).is_durable)
      (moments moves))

  pub replacing_reads : Shows → Since (ReadsOldOrReplaced name bytes (files_of v)) old new
  replacing_reads moves = since_weaker (IsNewFileReadyToMove (scratch_name_of name) name bytes v) (ReadsOldOrReplaced name bytes (files_of v)) old new (λ w m. m.reads) (moments moves)

-- ---- by what it returns

module _ {T E : Type 0} (name bytes : List ℕ) (old new : History) where
  abbrev LastsOn : Result T E → Type 0
  LastsOn r = IfObservable old (λ v. OnOk r (HoldsNow new (IsNewFileDurablyMoved (scratch_name_of name) name bytes v)))

  pub settled_called : (r : Result T E) → LastsOn r
      → IfObservable old (λ v. (ignored : List ℕ → Bool) → IsDurable (StateDependsOn ignored) v → IgnoresScratchNameButNotIntent ignored name
      → OnOk r (HoldsNow new (EachCrashLeavesStateOf ignored (files_after_replacement name bytes (files_of v)))))
  settled_called (Ok x) lasts = observable_map old _ _ lasts (λ v l ignored is_durable hides.
      now_map new (IsNewFileDurablyMoved (scratch_name_of name) name bytes v) (EachCrashLeavesStateOf ignored (files_after_replacement name bytes (files_of v))) l
      (λ w m. m.settled ignored is_durable (private_of ignored name hides)))
  settled_called (Err e) lasts = observable_map old _ _ lasts (λ v l ignored is_durable hides. tt)

  pub replaced_called : (r : Result T E) → LastsOn r → IfObservable old (λ v. OnOk r (HoldsNow new (λ w. files_of w ≡ files_after_replacement name bytes (files_of v))))
  replaced_called (Ok x) lasts = observable_map old _ _ lasts
      (λ v l. now_map new (IsNewFileDurablyMoved (scratch_name_of name) name bytes v) (λ w. files_of w ≡ files_after_replacement name bytes (files_of v)) l (λ w m. m.reads))
  replaced_called (Err e) lasts = observable_map old _ _ lasts (λ v l. tt)

  pub synced_called : (r : Result T E) → LastsOn r → IfObservable old (λ v. OnOk r (HoldsNow new (IsSyncedAt name)))
  synced_called (Ok x) lasts = observable_map old _ _ lasts (λ v l. now_map new (IsNewFileDurablyMoved (scratch_name_of name) name bytes v) (IsSyncedAt name) l (λ w m. m.synced))
  synced_called (Err e) lasts = observable_map old _ _ lasts (λ v l. tt)
