-- Behind a recovery nothing waits.
use Rattle.std.proofs.Common.{◌≡◌, ◌||◌, ⊎_elim, ℕ, Bool, true, false, cond, List, [], ◌∷◌, Option, Some, None, IsSome, refl, sym, ap, subst, ◌∙◌}
use Rattle.std.specs.Prelude.{Contains}
use Rattle.std.specs.List.{list_any}
use Rattle.std.specs.Str.{bytes_eq}
use Rattle.std.proofs.lemmas.List.Elements.{All-weaker}
use Rattle.std.proofs.lemmas.Map.Views.{Contains-from_any, list_any-from_Contains}
use Rattle.std.specs.Cmp.{IsEquivalence}
use Rattle.base_core.specs.Files.{Files, IsFolderOf}
use Rattle.base_core.specs.Listed.{AreSortedAndEachBelowFolder, IsSortedListingOfFolder, IsValidNameBelowFolder}
use Rattle.base_core.specs.Tree.{TreeState, File, bytes_of_file_number, files_of}
use Rattle.base_core.specs.Calls.{IfObservable, HoldsNow}
use Rattle.base_core.specs.Crash.{Since}
use Rattle.base_core.specs.Undone.{IsDurable}
use Rattle.base_core.proofs.AtName.{is_name, other_name, same_name, name_cases, off_name}
use Rattle.journal_core.specs.Kept.{RecoversTo}
use Rattle.journal_core.specs.Recovering.{AreStagedNames, HasEmptiedStage, IsIntentReplayed, HasRemovedNames, without_staged_names}
use Rattle.journal_core.specs.Recovery.{Intent, EachCrashLeavesStateOf, StateDependsOn, intent_name, intent_in_file, intent_of, is_staged, recovered_files, files_after_intent, files_after_actions, stage_folder, state_of}
use Rattle.journal_core.specs.Quiet.{StateIsUnchanged}
use Rattle.journal_core.specs.Staged.{HasNoStagedNames, unstaged_files}
use Rattle.journal_core.proofs.Acts.{state_same, still_on}
use Rattle.journal_core.proofs.Below.{begins, is_below}
use Rattle.journal_intent.proofs.AtName.{drop_name-at}
use Rattle.journal_core.proofs.Chain.{by_now, now_both}
use Rattle.journal_core.proofs.Compose.{settled_quiet}
use Rattle.journal_core.proofs.Emptied.{KeepsShown}
use Rattle.journal_core.proofs.History.{History, no_more, none_since, now_map, now_since, on_observable, since_on, since_weaker, observable_at, observable_map}
use Rattle.journal_core.proofs.Waiting.{still_self}

-- ---- a name below the stage

pub all_staged : (folder : List ℕ) (names : List (List ℕ)) → folder ≡ stage_folder → AreSortedAndEachBelowFolder folder names → AreStagedNames names
all_staged folder names is below = All-weaker (IsValidNameBelowFolder folder) (λ name. is_staged name ≡ true) (λ name at. begins stage_folder name (subst (λ (f : List ℕ). IsFolderOf f name) is at.below)) names below.each

-- ---- what is listed is what waits

true_false : true ≡ false → ⊥
true_false e = cc

alike : IsEquivalence bytes_eq
alike = record {
  refl = λ x. same_name x x refl;
  symm = λ x y. ⊎_elim (λ is. same_name x y is ∙ sym (same_name y x (sym is))) (λ off. off ∙ sym (other_name y x (λ e. off_name x y off (sym e)))) (name_cases x y);
  congr = λ x y z e. ap (λ (w : List ℕ). bytes_eq w z) (is_name x y e);
}

any_of : (q : List ℕ) (names : List (List ℕ)) → Contains names q → list_any (bytes_eq q) names ≡ true
any_of q names has = list_any-from_Contains alike q names has

module _ (names : List (List ℕ)) (folder : List ℕ) (folder_is : folder ≡ stage_folder) (v : TreeState) (listed : IsSortedListingOfFolder folder v names) where
  listed_cond : (q : List ℕ) → cond (list_any (bytes_eq q) names) None (v.names q) ≡ without_staged_names v.names q
  listed_cond q = by (list_any (bytes_eq q) names) refl (is_staged q) refl (v.names q) refl
    where
      by : (a : Bool) → list_any (bytes_eq q) names ≡ a → (b : Bool) → is_staged q ≡ b → (o : Option ℕ) → v.names q ≡ o → cond a None o ≡ cond b None o
      by true x true y o z = refl
      by true x false y o z =
          let at = (listed.each q).0 (Contains-from_any is_name q names x) in
          absurd (true_false (sym (begins stage_folder q (subst (λ (f : List ℕ). IsFolderOf f q) folder_is at.1)) ∙ y))
      by false x true y None z = refl
      by false x true y (Some n) z =
          let has = (listed.each q).1 (subst IsSome (sym z) refl, subst (λ (f : List ℕ). IsFolderOf f q) (sym folder_is) (is_below stage_folder q y)) in
          absurd (true_false (sym (any_of q names has) ∙ x))
      by false x false y o z = refl

  pub emptied : (w : TreeState) → HasRemovedNames names v w → HasEmptiedStage v w
  emptied w files_without_names = record { map = λ q. files_without_names.map q ∙ listed_cond q; files = files_without_names.files }

pub none_listed : (names : List (List ℕ)) (folder : List ℕ) → folder ≡ stage_folder → (v : TreeState) → IsSortedListingOfFolder folder v names → HasNoStagedNames v.names → names ≡ []
none_listed [] folder is v listed none = refl
none_listed (n ∷ ns) folder is v listed none =
    let at = (listed.each n).0 (Contains-from_any is_name n (n ∷ ns) (ap (λ b. b || list_any (bytes_eq n) ns) (same_name n n refl))) in
    absurd (let gone = none n (begins stage_folder n (subst (λ (f : List ℕ). IsFolderOf f n) is at.1)) in let some = at.0 in cc (gone, some))

-- ---- the calls of the emptying

module _ (names : List (List ℕ)) (folder : List ℕ) (folder_is : folder ≡ stage_folder) (old mid new : History) (same : mid ≡ old) where
  back : (B : TreeState → Type 0) → IfObservable mid B → IfObservable old B
  back B told = subst (λ (l : History). IfObservable l B) same told

  pub empty_moments : AreSortedAndEachBelowFolder folder names → IfObservable mid (λ v. (ignored : List ℕ → Bool) → IsDurable (StateDependsOn ignored) v → v.names intent_name ≡ None → AreStagedNames names → Since (StateIsUnchanged ignored v) mid new)
      → IfObservable old (λ v. (ignored : List ℕ → Bool) → IsDurable (StateDependsOn ignored) v → v.names intent_name ≡ None → Since (StateIsUnchanged ignored v) old new)
  empty_moments below told = observable_map old _ _ (back _ told) (λ v t ignored is_durable none. subst (λ (l : History). Since (StateIsUnchanged ignored v) l new) same (t ignored is_durable none (all_staged folder names folder_is below)))

  pub empty_shown : AreSortedAndEachBelowFolder folder names → IfObservable mid (λ v. AreStagedNames names → Since (KeepsShown v) mid new) → IfObservable old (λ v. Since (KeepsShown v) old new)
  empty_shown below told = observable_map old _ _ (back _ told) (λ v t. subst (λ (l : History). Since (KeepsShown v) l new) same (t (all_staged folder names folder_is below)))

  both_told : (h : History) (A B C : TreeState → Type 0) → ((v : TreeState) → A v → B v → C v) → IfObservable h A → IfObservable h B → IfObservable h C
  both_told [] A B C f a b = tt
  both_told (v ∷ h) A B C f a b = f v a b

  pub empty_emptied : IfObservable old (λ v. IsSortedListingOfFolder folder v names) → IfObservable mid (λ v. HoldsNow new (HasRemovedNames names v)) → IfObservable old (λ v. HoldsNow new (HasEmptiedStage v))
  empty_emptied listed told = both_told old _ _ _ (λ v l t. now_map new (HasRemovedNames names v) (HasEmptiedStage v) t (λ w. emptied names folder folder_is v l w)) listed (back _ told)

  pub empty_idle : IfObservable old (λ v. IsSortedListingOfFolder folder v names) → (names ≡ [] → new ≡ mid) → IfObservable old (λ v. HasNoStagedNames v.names → new ≡ old)
  empty_idle listed told = observable_map old _ _ listed (λ v l none. told (none_listed names folder folder_is v l none) ∙ same)

-- ---- all of a recovery

intent_gone : (F : Files) (o : Option Intent) → intent_of F ≡ o → intent_of (files_after_intent o F) ≡ None
intent_gone F None none = none
intent_gone F (Some intent) some = ap intent_in_file (drop_name-at (files_after_actions intent F) intent_name intent_name refl)

pub state_recovered : (ignored : List ℕ → Bool) (F : Files) → state_of ignored (recovered_files F) ≡ state_of ignored F
state_recovered ignored F = state_same ignored (recovered_files F) F (ap (λ o. files_after_intent o (recovered_files F)) (intent_gone F (intent_of F) refl))

read_emptied : (F G : ℕ → File) (same : F ≡ G) (b : Bool) (m n : Option ℕ) → m ≡ cond b None n → bytes_of_file_number F m ≡ cond b None (bytes_of_file_number G n)
read_emptied F G same true m n is = ap (bytes_of_file_number F) is
read_emptied F G same false m n is = ap (bytes_of_file_number F) is ∙ ap (λ (f : ℕ → File). bytes_of_file_number f n) same

pub cleaned_of : (v u w : TreeState) → IsIntentReplayed v u → HasEmptiedStage u w → (files_of w ≡ unstaged_files (files_of v)) × (w.names intent_name ≡ None)
cleaned_of v u w replayed emptied = (
  λ i q. (read_emptied w.files u.files emptied.files (is_staged q) (w.names q) (u.names q) (emptied.map q) ∙ ap (λ (F : Files). cond (is_staged q) None (F q)) replayed.reads) i,
  emptied.map intent_name ∙ replayed.absent,
)

module _ (old mid new : History) where
  abbrev Empties : Type 0
  Empties = IfObservable mid (λ u. (ignored : List ℕ → Bool) → IsDurable (StateDependsOn ignored) u → u.names intent_name ≡ None → Since (StateIsUnchanged ignored u) mid new)

  abbrev Replays : Type 0
  Replays = IfObservable old (λ v. (ignored : List ℕ → Bool) → IsDurable (StateDependsOn ignored) v → Since (StateIsUnchanged ignored v) old mid)

  pub all_moments : Replays → IfObservable old (λ v. HoldsNow mid (IsIntentReplayed v)) → Empties → IfObservable old (λ v. (ignored : List ℕ → Bool) → IsDurable (StateDependsOn ignored) v → Since (StateIsUnchanged ignored v) old new)
  all_moments replays replayed empties = on_observable old _ (λ v rest is ignored is_durable.
      let first = observable_at old v rest is (λ u. (Y : List ℕ → Bool) → IsDurable (StateDependsOn Y) u → Since (StateIsUnchanged Y u) old mid) replays ignored is_durable in
      let here = now_both mid (StateIsUnchanged ignored v) (IsIntentReplayed v) (now_since (StateIsUnchanged ignored v) old mid v rest is (still_self ignored v is_durable) first) (observable_at old v rest is (λ u. HoldsNow mid (IsIntentReplayed u)) replayed) in
      since_on (StateIsUnchanged ignored v) old mid new first
      (by_now mid (λ u. StateIsUnchanged ignored v u × IsIntentReplayed v u) (Since (StateIsUnchanged ignored v) mid new) here
      (observable_map mid _ (λ u. StateIsUnchanged ignored v u × IsIntentReplayed v u → Since (StateIsUnchanged ignored v) mid new) empties (λ u t q. since_weaker (StateIsUnchanged ignored u) (StateIsUnchanged ignored v) mid new (λ w. still_on ignored v u w q.0) (t ignored q.0.is_durable q.1.absent)))))

  pub all_files : IfObservable old (λ v. HoldsNow mid (IsIntentReplayed v)) → IfObservable mid (λ u. HoldsNow new (HasEmptiedStage u)) → IfObservable old (λ v. HoldsNow new (λ w. (files_of w ≡ unstaged_files (files_of v)) × (w.names intent_name ≡ None)))
  all_files replayed emptied = observable_map old _ _ replayed (λ v here.
      by_now mid (IsIntentReplayed v) (HoldsNow new (λ w. (files_of w ≡ unstaged_files (files_of v)) × (w.names intent_name ≡ None))) here
      (observable_map mid _ (λ u. IsIntentReplayed v u → HoldsNow new (λ w. (files_of w ≡ unstaged_files (files_of v)) × (w.names intent_name ≡ None))) emptied (λ u now replay. now_map new (HasEmptiedStage u) (λ w. (files_of w ≡ unstaged_files (files_of v)) × (w.names intent_name ≡ None)) now (λ w e. cleaned_of v u w replay e))))

  pub all_settled : Replays → IfObservable old (λ v. HoldsNow mid (IsIntentReplayed v)) → IfObservable old (λ v. (ignored : List ℕ → Bool) → IsDurable (StateDependsOn ignored) v → IsSome (intent_of (files_of v)) → HoldsNow mid (EachCrashLeavesStateOf ignored (recovered_files (files_of v)))) → Empties
      → IfObservable old (λ v. (ignored : List ℕ → Bool) → IsDurable (StateDependsOn ignored) v → IsSome (intent_of (files_of v)) → HoldsNow new (EachCrashLeavesStateOf ignored (files_of v)))
  all_settled replays replayed settled empties = on_observable old _ (λ v rest is ignored is_durable some.
      let first = observable_at old v rest is (λ u. (Y : List ℕ → Bool) → IsDurable (StateDependsOn Y) u → Since (StateIsUnchanged Y u) old mid) replays ignored is_durable in
      let is_unchanged = now_both mid (StateIsUnchanged ignored v) (IsIntentReplayed v) (now_since (StateIsUnchanged ignored v) old mid v rest is (still_self ignored v is_durable) first) (observable_at old v rest is (λ u. HoldsNow mid (IsIntentReplayed u)) replayed) in
      let here = now_both mid (EachCrashLeavesStateOf ignored (recovered_files (files_of v))) (λ u. StateIsUnchanged ignored v u × IsIntentReplayed v u) (observable_at old v rest is (λ u. (Y : List ℕ → Bool) → IsDurable (StateDependsOn Y) u → IsSome (intent_of (files_of u)) → HoldsNow mid (EachCrashLeavesStateOf Y (recovered_files (files_of u)))) settled ignored is_durable some) is_unchanged in
      settled_at mid refl ignored v empties here)
    where
      settled_at : (m : History) → m ≡ mid → (ignored : List ℕ → Bool) (v : TreeState) → IfObservable m (λ u. (Y : List ℕ → Bool) → IsDurable (StateDependsOn Y) u → u.names intent_name ≡ None → Since (StateIsUnchanged Y u) mid new)
          → HoldsNow m (λ u. EachCrashLeavesStateOf ignored (recovered_files (files_of v)) u × (StateIsUnchanged ignored v u × IsIntentReplayed v u)) → HoldsNow new (EachCrashLeavesStateOf ignored (files_of v))
      settled_at [] is ignored v told here = absurd here
      settled_at (u ∷ m) is ignored v told here =
          let since = told ignored here.1.0.is_durable here.1.1.absent in
          now_map new (StateIsUnchanged ignored u) (EachCrashLeavesStateOf ignored (files_of v)) (now_since (StateIsUnchanged ignored u) mid new u m (sym is) (still_self ignored u here.1.0.is_durable) since)
          (λ w is_unchanged image at. settled_quiet ignored (recovered_files (files_of v)) u w here.0 is_unchanged.quiet image at ∙ state_recovered ignored (files_of v))

  pub all_idle : IfObservable old (λ v. v.names intent_name ≡ None → mid ≡ old) → IfObservable mid (λ u. HasNoStagedNames u.names → new ≡ mid) → IfObservable old (λ v. v.names intent_name ≡ None → HasNoStagedNames v.names → new ≡ old)
  all_idle first then = on_observable old _ (λ v rest is none empty.
      let same = observable_at old v rest is (λ u. u.names intent_name ≡ None → mid ≡ old) first none in
      observable_at mid v rest (same ∙ is) (λ u. HasNoStagedNames u.names → new ≡ mid) then empty ∙ same)

  pub all_proper : (a b c : ℕ) (P : TreeState → Type 0) → IfObservable old (λ v. P v → b ≡ a) → IfObservable old (λ v. HoldsNow mid (IsIntentReplayed v)) → IfObservable mid (λ u. c ≡ b) → IfObservable old (λ v. P v → c ≡ a)
  all_proper a b c P first replayed then = on_observable old _ (λ v rest is room.
      by_now mid (IsIntentReplayed v) (c ≡ b) (observable_at old v rest is (λ u. HoldsNow mid (IsIntentReplayed u)) replayed) (observable_map mid _ (λ u. IsIntentReplayed v u → c ≡ b) then (λ u t q. t))
      ∙ observable_at old v rest is (λ u. P u → b ≡ a) first room)

pub empty_shown_none : (old new : History) → new ≡ old → IfObservable old (λ v. Since (KeepsShown v) old new)
empty_shown_none old new same = on_observable old _ (λ v rest is. no_more (KeepsShown v) old old new (none_since (KeepsShown v) old) same)

-- ---- what the files as read stand for

pub none_recovered : (v : TreeState) → v.names intent_name ≡ None → recovered_files (files_of v) ≡ files_of v
none_recovered v none = ap (λ o. files_after_intent o (files_of v)) (ap intent_in_file (ap (bytes_of_file_number v.files) none))

same_unstaged : (F G : Files) → recovered_files F ≡ recovered_files G → unstaged_files F ≡ unstaged_files G
same_unstaged F G same i q = cond (is_staged q) None (same i q)

shown_unstaged : (u w : TreeState) → u.names intent_name ≡ None → KeepsShown u w → unstaged_files (files_of w) ≡ unstaged_files (files_of u)
shown_unstaged u w none keeps i q = by (is_staged q) refl i
  where
    read_none : intent_of (files_of w) ≡ None
    read_none = ap intent_in_file (keeps intent_name (λ e. true_false (sym e)) ∙ ap (bytes_of_file_number u.files) none)

    by : (b : Bool) → is_staged q ≡ b → unstaged_files (files_of w) q ≡ unstaged_files (files_of u) q
    by true is = ap (λ b. cond b None (recovered_files (files_of w) q)) is ∙ sym (ap (λ b. cond b None (recovered_files (files_of u) q)) is)
    by false is =
        ap (λ b. cond b None (recovered_files (files_of w) q)) is
        ∙ (ap (λ o. files_after_intent o (files_of w) q) read_none ∙ keeps q (λ e. true_false (sym e ∙ is)) ∙ sym (ap (λ (F : Files). F q) (none_recovered u none)))
        ∙ sym (ap (λ b. cond b None (recovered_files (files_of u) q)) is)

module _ (old mid new : History) where
  abbrev Unstaged : TreeState → TreeState → Type 0
  Unstaged v w = unstaged_files (files_of w) ≡ unstaged_files (files_of v)

  pub replay_reads : IfObservable old (λ v. Since (RecoversTo (recovered_files (files_of v))) old mid) → IfObservable old (λ v. Since (Unstaged v) old mid)
  replay_reads told = observable_map old _ _ told (λ v t. since_weaker (RecoversTo (recovered_files (files_of v))) (Unstaged v) old mid (λ w. same_unstaged (files_of w) (files_of v)) t)

  pub all_reads : IfObservable old (λ v. Since (RecoversTo (recovered_files (files_of v))) old mid) → IfObservable old (λ v. HoldsNow mid (IsIntentReplayed v)) → IfObservable mid (λ u. Since (KeepsShown u) mid new) → IfObservable old (λ v. Since (Unstaged v) old new)
  all_reads told replayed empties = on_observable old _ (λ v rest is.
      since_on (Unstaged v) old mid new (observable_at old v rest is (λ u. Since (Unstaged u) old mid) (replay_reads told))
      (by_now mid (IsIntentReplayed v) (Since (Unstaged v) mid new) (observable_at old v rest is (λ u. HoldsNow mid (IsIntentReplayed u)) replayed)
      (observable_map mid _ (λ u. IsIntentReplayed v u → Since (Unstaged v) mid new) empties (λ u t r. since_weaker (KeepsShown u) (Unstaged v) mid new
      (λ w k. shown_unstaged u w r.absent k ∙ same_unstaged (files_of u) (files_of v) (none_recovered u r.absent ∙ r.reads)) t))))

pub empty_none : (old new : History) → new ≡ old → IfObservable old (λ v. (ignored : List ℕ → Bool) → IsDurable (StateDependsOn ignored) v → v.names intent_name ≡ None → Since (StateIsUnchanged ignored v) old new)
empty_none old new same = on_observable old _ (λ v rest is ignored is_durable none. no_more (StateIsUnchanged ignored v) old old new (none_since (StateIsUnchanged ignored v) old) same)

pub empty_idle_none : (old new : History) → new ≡ old → IfObservable old (λ v. HasNoStagedNames v.names → new ≡ old)
empty_idle_none old new same = on_observable old _ (λ v rest is none. same)
