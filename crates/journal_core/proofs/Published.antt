-- An intent is written, and comes to are under its name.
use Rattle.std.proofs.Common.{◌≡◌, ◌≢◌, ◌⊎◌, inl, inr, ℕ, ◌+◌, ◌<◌, ◌^◌, Bool, false, List, [], ◌∷◌, ◌++◌, length, Option, None, Some, IsSome, Result, Ok, Err, OnOk, refl, sym, ap, subst, ◌∙◌, arith}
use Rattle.std.specs.List.{All}
use Rattle.std.specs.Str.{bytes_eq}
use Rattle.std.proofs.lemmas.List.Elements.{All-head, All-tail}
use Rattle.base_core.specs.Files.{Files, put_name, drop_name}
use Rattle.base_core.specs.Tree.{TreeState, File, bytes_of_file_number, files_of, CanCreate, CanRename}
use Rattle.base_core.specs.Calls.{IfObservable, HoldsNow}
use Rattle.base_core.specs.Crash.{Since}
use Rattle.base_core.specs.Undone.{IsDurable}
use Rattle.base_core.specs.Restart.{EachMoment, SinceGivenEarlierAddedMoments}
use Rattle.base_core.proofs.AtName.{name_cases, off_name}
use Rattle.journal_core.specs.Committing.{HasCommittedIntent, IsCommitting, IsReadyToPublish, HasOnlyAddedFile}
use Rattle.journal_core.specs.Filling.{synced_file}
use Rattle.journal_core.specs.Acting.{stage_with_actions_done}
use Rattle.journal_core.specs.Recovery.{Intent, EachCrashLeavesStateOf, StateDependsOn, files_after_actions, intent_name, read_intent, stage_name}
use Rattle.journal_core.specs.Kept.{RecoversTo}
use Rattle.journal_core.specs.Quiet.{StateIsUnchanged}
use Rattle.journal_intent.specs.FreeNames.{HasFreeNamesAndUnrepeatedWrites}
use Rattle.journal_core.specs.Staged.{Staging, HasMomentOfIntentFileNumberedAtLeastForFiles, HasEmptyStageAndFreeJournalPaths, IsCarryingOutActions, IsPresentOrOfJournal, IsOldUntilCommit, HasStagedContents, IsHistoryThatPublishesIntentForFiles, HasIntentFileNumberedAtLeastForFiles}
use Rattle.journal_core.proofs.Again.{acting_as}
use Rattle.journal_intent.proofs.AtName.{put_name-off, drop_name-off}
use Rattle.journal_core.proofs.Beside.{can_make, held_like, read_held}
use Rattle.journal_core.proofs.Between.{no_intent_read}
use Rattle.journal_core.proofs.Chain.{by_now, now_both}
use Rattle.journal_core.proofs.Compose.{quiet_then}
use Rattle.journal_core.proofs.History.{History, now_map, now_since, since_on, since_weaker, observable_at, observable_map}
use Rattle.journal_core.proofs.Images.{old_or_new_from_quiet, quiet_on}
use Rattle.journal_core.proofs.Lasting.{some_none}
use Rattle.journal_intent.proofs.StageNames.{stage_names_apart, stage_name_no_intent}
use Rattle.journal_core.proofs.Waiting.{still_self}

-- ---- moments with those before them

each_by : (P : List TreeState → TreeState → Type 0) (added : List TreeState) → All (λ w. (earlier : List TreeState) → P earlier w) added → EachMoment P added
each_by P [] all = tt
each_by P (w ∷ added) all = (All-head (λ v. (earlier : List TreeState) → P earlier v) w added all added, each_by P added (All-tail (λ v. (earlier : List TreeState) → P earlier v) w added all))

pub since_by : (P : List TreeState → TreeState → Type 0) (old new : History) → Since (λ w. (earlier : List TreeState) → P earlier w) old new → SinceGivenEarlierAddedMoments P old new
since_by P old new since = record { added = since.added; is = since.is; each = each_by P since.added since.each }

pub still_on_the_way : (ignored : List ℕ → Bool) (G : Files) (v w : TreeState) → StateIsUnchanged ignored v w → (earlier : List TreeState) → IsOldUntilCommit ignored G v earlier w
still_on_the_way ignored G v w is_unchanged earlier = record { is_durable = is_unchanged.is_durable; old_or_new = old_or_new_from_quiet ignored v G w is_unchanged.quiet; unpublished = λ _. is_unchanged.quiet; made = is_unchanged.made }

entering_on_the_way : (ignored : List ℕ → Bool) (G : Files) (v u w : TreeState) → StateIsUnchanged ignored v u → IsCommitting ignored G v.made u w → (earlier : List TreeState) → IsOldUntilCommit ignored G v earlier w
entering_on_the_way ignored G v u w is_unchanged entering earlier = record {
  is_durable = entering.is_durable;
  old_or_new = quiet_then ignored v u w G is_unchanged.quiet entering.old_or_new;
  unpublished = λ unled. quiet_on ignored v u w is_unchanged.quiet (entering.unpublished (λ publishes. unled (inl publishes)));
  made = (let a = is_unchanged.made in let b = entering.made in omega (arith, a, b));
}

-- ---- all waits

absent_read : (files : ℕ → File) (n : Option ℕ) → bytes_of_file_number files n ≡ None → n ≡ None
absent_read files None e = refl
absent_read files (Some n) e = absurd (cc)

same_read : (a b : ℕ → File) (m n : Option ℕ) → m ≡ n → ((k : ℕ) → m ≡ Some k → a k ≡ b k) → bytes_of_file_number a m ≡ bytes_of_file_number b n
same_read a b None None e same = refl
same_read a b None (Some n) e same = absurd (cc)
same_read a b (Some m) None e same = absurd (cc)
same_read a b (Some m) (Some n) e same =
    let equal : m ≡ n = cc in
    ap (λ (f : File). Some f.bytes) (same m refl) ∙ ap (λ (k : ℕ). Some (b k).bytes) equal

module _ (stage : Staging) (contents : List (List ℕ)) (base : Files) (v : TreeState) (staged : HasStagedContents stage contents None base v) (all : stage.staged ≡ length stage.intent.writes) (few : length stage.intent.writes < 2 ^ 63) (free : HasFreeNamesAndUnrepeatedWrites stage.intent)
    (file : List ℕ) (spells : read_intent file ≡ Some stage.intent) (place : List ℕ) (place_is : place ≡ stage_name 0) where
  none_read : files_of v intent_name ≡ None
  none_read = no_intent_read stage contents base v staged

  pub ready_of : (w : TreeState) → HasOnlyAddedFile place (synced_file file) v w → IsReadyToPublish stage.intent (files_of v) v.made w
  ready_of w written = record {
    absent = written.names intent_name (λ e. stage_name_no_intent 0 (sym (e ∙ place_is))) ∙ absent_read v.files (v.names intent_name) none_read;
    no_staged_intent = ap (λ (n : List ℕ). bytes_of_file_number v.files (v.names n)) (sym place_is) ∙ ap (bytes_of_file_number v.files) written.absent;
    reads = λ q ne. same_read w.files v.files (w.names q) (v.names q) (written.names q (λ e. ne (e ∙ place_is))) (λ n at. written.kept q n (λ e. ne (e ∙ place_is)) at);
    bytes = file;
    spells = spells;
    number = written.number;
    later = written.later;
    there = ap w.names (sym place_is) ∙ written.there;
    holds = written.holds;
    synced = λ k n from within at.
        let count = staged.count in
        let apart : stage_name k ≢ place = λ e. absurd (let same = stage_names_apart k 0 (omega (arith, within, few)) (omega arith) (e ∙ place_is) in omega (arith, from, same)) in
        ap (λ (f : File). f.synced) (written.kept (stage_name k) n apart at) ∙ staged.synced k n from (omega (arith, within, count, all)) (sym (written.names (stage_name k) apart) ∙ at);
    few = few;
    free = free;
  }

  -- ---- its clauses
  module _ (old rest mid new : History) (is : old ≡ v ∷ rest) where
    abbrev G : Files
    G = files_after_actions stage.intent (files_of v)

    abbrev Wrote : Type 0
    Wrote = IfObservable old (λ u. (ignored : List ℕ → Bool) → IsDurable (StateDependsOn ignored) u → files_of u intent_name ≡ None → Since (StateIsUnchanged ignored u) old mid)

    abbrev Written : Type 0
    Written = IfObservable old (λ u. files_of u intent_name ≡ None → HoldsNow mid (HasOnlyAddedFile place (synced_file file) u))

    ready_now : Written → HoldsNow mid (IsReadyToPublish stage.intent (files_of v) v.made)
    ready_now written = now_map mid (HasOnlyAddedFile place (synced_file file) v) (IsReadyToPublish stage.intent (files_of v) v.made) (observable_at old v rest is (λ u. files_of u intent_name ≡ None → HoldsNow mid (HasOnlyAddedFile place (synced_file file) u)) written none_read) ready_of

    module _ (ignored : List ℕ → Bool) (is_durable : IsDurable (StateDependsOn ignored) v) (wrote : Wrote) where
      still_since : Since (StateIsUnchanged ignored v) old mid
      still_since = observable_at old v rest is (λ u. (Y : List ℕ → Bool) → IsDurable (StateDependsOn Y) u → files_of u intent_name ≡ None → Since (StateIsUnchanged Y u) old mid) wrote ignored is_durable none_read

      still_way : Since (λ w. (earlier : List TreeState) → IsOldUntilCommit ignored G v earlier w) old mid
      still_way = since_weaker (StateIsUnchanged ignored v) (λ w. (earlier : List TreeState) → IsOldUntilCommit ignored G v earlier w) old mid (still_on_the_way ignored G v) still_since

      pub write_moments : SinceGivenEarlierAddedMoments (IsOldUntilCommit ignored G v) old mid
      write_moments = since_by (IsOldUntilCommit ignored G v) old mid still_way

      abbrev Waits : TreeState → Type 0
      Waits u = StateIsUnchanged ignored v u × IsReadyToPublish stage.intent (files_of v) v.made u

      waits_now : Written → HoldsNow mid Waits
      waits_now written = now_both mid (StateIsUnchanged ignored v) (IsReadyToPublish stage.intent (files_of v) v.made) (now_since (StateIsUnchanged ignored v) old mid v rest is (still_self ignored v is_durable) still_since) (ready_now written)

      abbrev Enters : Type 0
      Enters = IfObservable mid (λ u. (Y : List ℕ → Bool) (intent : Intent) (files : Files) (made : ℕ) → IsDurable (StateDependsOn Y) u → IsReadyToPublish intent files made u → Since (IsCommitting Y (files_after_actions intent files) made u) mid new)

      enter_way : Written → Enters → Since (λ w. (earlier : List TreeState) → IsOldUntilCommit ignored G v earlier w) old new
      enter_way written enters =
          since_on (λ w. (earlier : List TreeState) → IsOldUntilCommit ignored G v earlier w) old mid new still_way
          (by_now mid Waits (Since (λ w. (earlier : List TreeState) → IsOldUntilCommit ignored G v earlier w) mid new) (waits_now written)
          (observable_map mid _ (λ u. Waits u → Since (λ w. (earlier : List TreeState) → IsOldUntilCommit ignored G v earlier w) mid new) enters (λ u t waits.
          since_weaker (IsCommitting ignored G v.made u) (λ w. (earlier : List TreeState) → IsOldUntilCommit ignored G v earlier w) mid new (λ w entering. entering_on_the_way ignored G v u w waits.0 entering) (t ignored stage.intent (files_of v) v.made waits.0.is_durable waits.1))))

      pub enter_moments : Written → Enters → SinceGivenEarlierAddedMoments (IsOldUntilCommit ignored G v) old new
      enter_moments written enters = since_by (IsOldUntilCommit ignored G v) old new (enter_way written enters)

      abbrev Entered : {T E : Type 0} → Result T E → Type 0
      Entered r = IfObservable mid (λ u. (Y : List ℕ → Bool) (intent : Intent) (files : Files) (made : ℕ) → IsDurable (StateDependsOn Y) u → IsReadyToPublish intent files made u → OnOk r (HoldsNow new (HasCommittedIntent Y (files_after_actions intent files) made)))

      entered_now : {T E : Type 0} (r : Result T E) → Written → Entered r → OnOk r (HoldsNow new (HasCommittedIntent ignored G v.made))
      entered_now r written entered =
          by_now mid Waits (OnOk r (HoldsNow new (HasCommittedIntent ignored G v.made))) (waits_now written)
          (observable_map mid _ (λ u. Waits u → OnOk r (HoldsNow new (HasCommittedIntent ignored G v.made))) entered (λ u t waits. t ignored stage.intent (files_of v) v.made waits.0.is_durable waits.1))

      pub enter_settled : {T E : Type 0} (r : Result T E) → Written → Entered r → OnOk r (HoldsNow new (EachCrashLeavesStateOf ignored G))
      enter_settled {T = T} {E = E} r written entered = by r (entered_now r written entered)
        where
          by : (s : Result T E) → OnOk s (HoldsNow new (HasCommittedIntent ignored G v.made)) → OnOk s (HoldsNow new (EachCrashLeavesStateOf ignored G))
          by (Ok x) now = now_map new (HasCommittedIntent ignored G v.made) (EachCrashLeavesStateOf ignored G) now (λ w e. e.settled)
          by (Err e) now = tt

      unled : HasIntentFileNumberedAtLeastForFiles ignored G v.made v → ⊥
      unled (n, at, from, same) = let none = absent_read v.files (v.names intent_name) none_read in absurd (cc (none, at))

      led : (added : History) → HoldsNow (added ++ v ∷ rest) (HasCommittedIntent ignored G v.made) → HasMomentOfIntentFileNumberedAtLeastForFiles ignored G v.made added
      led [] now = absurd (unled now.publishes)
      led (w ∷ added) now = inl now.publishes

      pub enter_published : {T E : Type 0} (r : Result T E) → Written → Enters → Entered r → OnOk r (IsHistoryThatPublishesIntentForFiles ignored G v old new)
      enter_published {T = T} {E = E} r written enters entered = by r (entered_now r written entered)
        where
          by : (s : Result T E) → OnOk s (HoldsNow new (HasCommittedIntent ignored G v.made)) → OnOk s (IsHistoryThatPublishesIntentForFiles ignored G v old new)
          by (Ok x) now =
              let since = enter_moments written enters in
              let here : HoldsNow (since.added ++ v ∷ rest) (HasCommittedIntent ignored G v.made) = subst (λ (l : History). HoldsNow l (HasCommittedIntent ignored G v.made)) (since.is ∙ ap (λ (l : History). since.added ++ l) is) now in
              record { added = since.added; is = since.is; each = since.each; published = led since.added here }
          by (Err e) now = tt

    -- what is read
    pub enter_acting : {T E : Type 0} (now : Staging) (r : Result T E) → now.intent ≡ stage.intent → now.acted ≡ 0 → Written
        → IfObservable mid (λ u. (intent : Intent) (files : Files) (made : ℕ) → IsReadyToPublish intent files made u → OnOk r (HoldsNow new (IsCarryingOutActions (stage_with_actions_done intent 0) (files_after_actions intent files))))
        → OnOk r (HoldsNow new (IsCarryingOutActions now G))
    enter_acting {T = T} {E = E} now r same acted_none written acting =
        by r (by_now mid (IsReadyToPublish stage.intent (files_of v) v.made) (OnOk r (HoldsNow new (IsCarryingOutActions (stage_with_actions_done stage.intent 0) G))) (ready_now written)
        (observable_map mid _ (λ u. IsReadyToPublish stage.intent (files_of v) v.made u → OnOk r (HoldsNow new (IsCarryingOutActions (stage_with_actions_done stage.intent 0) G))) acting (λ u t ready. t stage.intent (files_of v) v.made ready)))
      where
        by : (s : Result T E) → OnOk s (HoldsNow new (IsCarryingOutActions (stage_with_actions_done stage.intent 0) G)) → OnOk s (HoldsNow new (IsCarryingOutActions now G))
        by (Ok x) at = now_map new (IsCarryingOutActions (stage_with_actions_done stage.intent 0) G) (IsCarryingOutActions now G) at (λ w. acting_as (stage_with_actions_done stage.intent 0) now G w (sym same) (sym acted_none))
        by (Err e) at = tt

    -- ---- at each moment at which the intent is read

    abbrev R : TreeState → Type 0
    R w = IsSome (w.names intent_name) → RecoversTo G w

    abbrev Unread : TreeState → Type 0
    Unread w = w.names intent_name ≡ None

    abbrev Unreads : Type 0
    Unreads = IfObservable old (λ u. Unread u → Since Unread old mid)

    pub write_reads : Unreads → Since R old mid
    write_reads unread =
        since_weaker Unread R old mid (λ w none some. absurd (some_none (w.names intent_name) none some))
        (observable_at old v rest is (λ u. Unread u → Since Unread old mid) unread (absent_read v.files (v.names intent_name) none_read))

    pub enter_reads : Unreads → Written
        → IfObservable mid (λ u. (intent : Intent) (files : Files) (made : ℕ) → IsReadyToPublish intent files made u → Since (λ w. IsSome (w.names intent_name) → RecoversTo (files_after_actions intent files) w) mid new)
        → Since R old new
    enter_reads unread written reads =
        since_on R old mid new (write_reads unread)
        (by_now mid (IsReadyToPublish stage.intent (files_of v) v.made) (Since R mid new) (ready_now written)
        (observable_map mid _ (λ u. IsReadyToPublish stage.intent (files_of v) v.made u → Since R mid new) reads (λ u t ready. t stage.intent (files_of v) v.made ready)))

    -- ---- no misuse
    module _ (room : HasEmptyStageAndFreeJournalPaths base) where
      pub write_may : CanCreate place v
      write_may = subst (λ (n : List ℕ). CanCreate n v) (sym place_is)
          (can_make stage contents base v (let count = staged.count in omega (arith, count, all, few)) staged room 0
          (λ j from until e. absurd (let count = staged.count in let same = stage_names_apart 0 j (omega arith) (omega (arith, until, count, all, few)) e in omega (arith, from, same))))

      pub enter_may : (name : List ℕ) → name ≡ intent_name → (w : TreeState) → HasOnlyAddedFile place (synced_file file) v w → CanRename place name w
      enter_may name name_is w written = record {
        present = subst IsSome (sym written.there) refl;
        apart = λ e. stage_name_no_intent 0 (sym place_is ∙ e ∙ name_is);
        folders = held_like base room.beside (put_name (drop_name w.names place) name 0) (λ q has. at q has (name_cases q name));
      }
        where
          at : (q : List ℕ) → IsSome (put_name (drop_name w.names place) name 0 q) → (q ≡ name) ⊎ (bytes_eq q name ≡ false) → IsPresentOrOfJournal base q
          at q has (inl e) = inr (inl (e ∙ name_is))
          at q has (inr off) = behind (name_cases q place) (subst IsSome (put_name-off (drop_name w.names place) name 0 q (off_name q name off)) has)
            where
              behind : (q ≡ place) ⊎ (bytes_eq q place ≡ false) → IsSome (drop_name w.names place q) → IsPresentOrOfJournal base q
              behind (inl e) some = inr (inr (0, e ∙ place_is))
              behind (inr apart) some =
                  let ne = off_name q place apart in
                  read_held stage contents base v (let count = staged.count in omega (arith, count, all, few)) staged q
                  (subst IsSome (written.names q ne) (subst IsSome (drop_name-off w.names place q ne) some))

      pub enter_proper : (from name : List ℕ) → from ≡ stage_name 0 → name ≡ intent_name → (a b : ℕ) → Written → IfObservable mid (λ u. CanRename from name u → b ≡ a) → b ≡ a
      enter_proper from name from_is name_is a b written told =
          by_now mid (HasOnlyAddedFile place (synced_file file) v) (b ≡ a) (observable_at old v rest is (λ u. files_of u intent_name ≡ None → HoldsNow mid (HasOnlyAddedFile place (synced_file file) u)) written none_read)
          (observable_map mid (λ u. CanRename from name u → b ≡ a) (λ u. HasOnlyAddedFile place (synced_file file) v u → b ≡ a) told (λ u t w. t (subst (λ (n : List ℕ). CanRename n name u) (place_is ∙ sym from_is) (enter_may name name_is u w))))

pub few_writes : (removals writes : List (List ℕ)) → length removals + length writes < 2 ^ 63 → length writes < 2 ^ 63
few_writes removals writes few = omega (arith, few)
