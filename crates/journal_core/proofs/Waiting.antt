-- A waiting file is made and filled: no state rests on it.
use Rattle.std.proofs.Common.{◌≡◌, ◌≢◌, inl, inr, ℕ, ◌≤◌, Bool, true, false, ◌||◌, List, None, Some, refl, sym, ap, subst, ◌∙◌, arith}
use Rattle.base_core.specs.Files.{Files, NameMap, put_name}
use Rattle.base_core.specs.Tree.{TreeState, File, IsWellFormed, bytes_of_file_number, files_under_map, files_of, with_file_changed, after_create}
use Rattle.base_core.specs.Undone.{IsDurable, IsCrashMap, with_change_replayed}
use Rattle.journal_core.specs.Recovery.{IsStagedNameOf, StateDependsOn, intent_name, intent_in_file, intent_of, is_staged, state_of}
use Rattle.journal_core.specs.Quiet.{StateIsUnchanged}
use Rattle.journal_core.specs.Kept.{IsAbsentAfterEachCrash}
use Rattle.journal_core.specs.Staged.{IsOnlyNameOfFile}
use Rattle.base_core.proofs.Undone.{read_may_be_left}
use Rattle.journal_core.proofs.Agree.{state_agree}
use Rattle.journal_core.proofs.Changes.{left_off}
use Rattle.journal_intent.proofs.AtName.{put_name-at, put_name-off}
use Rattle.journal_core.proofs.Images.{CrashLaws, quiet_same}
use Rattle.journal_core.proofs.Simulate.{file_at, Simulates, simulated_durable, simulated_quiet}
use Rattle.journal_core.proofs.Steps.{set_file-at, file_at-set_file, bytes_of_file_number-set_file, made_later, create_alone, create_others}

pub still_self : (ignored : List ℕ → Bool) (v : TreeState) → IsDurable (StateDependsOn ignored) v → StateIsUnchanged ignored v v
still_self ignored v is_durable = record { is_durable = is_durable; quiet = quiet_same ignored v; reads = refl; made = omega arith }

pub still_by : CrashLaws → (ignored : List ℕ → Bool) (v w : TreeState) → IsDurable (StateDependsOn ignored) v → Simulates ignored v w → state_of ignored (files_of w) ≡ state_of ignored (files_of v) → v.made ≤ w.made → StateIsUnchanged ignored v w
still_by laws ignored v w was simulates reads made =
    let is_durable = simulated_durable ignored v w was simulates in
    record { is_durable = is_durable; quiet = simulated_quiet laws ignored v w is_durable simulates; reads = reads; made = made }

-- a waiting name, which is no place of these files' intent
pub record IsOff (F : Files) (name : List ℕ) : Type 0 where
  pub waiting : is_staged name ≡ true
  pub no_intent : name ≢ intent_name
  pub no_place : IsStagedNameOf (intent_of F) name → ⊥

true_false : true ≡ false → ⊥
true_false e = cc

shown_off : (a b : Bool) → a ≡ true → (a || b) ≡ false → ⊥
shown_off true b t f = true_false f
shown_off false b t f = absurd (true_false (sym t))

pub off_rests : (ignored : List ℕ → Bool) (F : Files) (name : List ℕ) → IsOff F name → (q : List ℕ) → StateDependsOn ignored F q → q ≢ name
off_rests ignored F name off q (inl intent) is = off.no_intent (sym is ∙ intent)
off_rests ignored F name off q (inr (inl shown)) is = shown_off (is_staged q) (ignored q) (ap is_staged is ∙ off.waiting) shown
off_rests ignored F name off q (inr (inr place)) is = off.no_place (subst (IsStagedNameOf (intent_of F)) is place)

-- files that agree elsewhere have one state
pub off_state : (ignored : List ℕ → Bool) (F G : Files) (name : List ℕ) → IsOff F name → ((q : List ℕ) → q ≢ name → G q ≡ F q) → state_of ignored G ≡ state_of ignored F
off_state ignored F G name off others = sym (state_agree ignored F G (λ q rests. sym (others q (off_rests ignored F name off q rests))))

pub off_same : (F G : Files) (name : List ℕ) → F intent_name ≡ G intent_name → IsOff F name → IsOff G name
off_same F G name same off = record { waiting = off.waiting; no_intent = off.no_intent; no_place = λ place. off.no_place (subst (λ o. IsStagedNameOf o name) (sym (ap intent_in_file same)) place) }

-- a waiting name that is no place of an intent in any map that a crash may leave
abbrev pub IsOffIn : TreeState → List ℕ → Type 0
IsOffIn v name = (m : NameMap) → IsCrashMap v m → IsOff (files_under_map v m) name

-- where no intent is read, each waiting name is off
pub off_none : (F : Files) (name : List ℕ) → is_staged name ≡ true → name ≢ intent_name → F intent_name ≡ None → IsOff F name
off_none F name waiting no_intent none = record { waiting = waiting; no_intent = no_intent; no_place = λ place. subst (λ o. IsStagedNameOf o name) (ap intent_in_file none) place }

-- and so it is where no crash restores one
pub off_gone : (v : TreeState) (name : List ℕ) → is_staged name ≡ true → name ≢ intent_name → IsAbsentAfterEachCrash intent_name v → IsOffIn v name
off_gone v name waiting no_intent gone m left = off_none (files_under_map v m) name waiting no_intent (ap (bytes_of_file_number v.files) (gone m left))

-- ---- it is made

create_simulates : (ignored : List ℕ → Bool) (name : List ℕ) (v : TreeState) → IsOffIn v name → IsWellFormed v → Simulates ignored v (after_create name v)
create_simulates ignored name v off whole m (inl (kept, left, is)) = (
  kept,
  left,
  λ q rests.
      sym (ap (file_at (after_create name v).files) (left_off v.names (put_name v.names name v.made) kept m is q (put_name-off v.names name v.made q (off_rests ignored (files_under_map v kept) name (off kept left) q rests)))
      ∙ file_at-set_file v.files v.made _ (kept q) (made_later v whole kept left q)),
)
create_simulates ignored name v off whole m (inr old) = (m, old, λ q rests. sym (file_at-set_file v.files v.made _ (m q) (made_later v whole m old q)))

pub still_created : CrashLaws → (ignored : List ℕ → Bool) (name : List ℕ) (v : TreeState) → IsOffIn v name → IsWellFormed v → IsDurable (StateDependsOn ignored) v → StateIsUnchanged ignored v (after_create name v)
still_created laws ignored name v off whole is_durable =
    still_by laws ignored v (after_create name v) is_durable (create_simulates ignored name v off whole) (off_state ignored (files_of v) (files_of (after_create name v)) name (off v.names (read_may_be_left v)) (create_others name v whole)) (omega arith)

pub alone_created : (name : List ℕ) (v : TreeState) → IsOffIn v name → IsWellFormed v → IsOnlyNameOfFile name (after_create name v)
alone_created name v off whole = record {
  number = v.made;
  there = put_name-at v.names name v.made name refl;
  alone = create_alone name v whole;
  no_place = no_place;
}
  where
    same_intent : (kept : NameMap) → IsCrashMap v kept → (m : NameMap) → m ≡ with_change_replayed v.names (put_name v.names name v.made) kept → m intent_name ≡ kept intent_name
    same_intent kept left m new = left_off v.names (put_name v.names name v.made) kept m new intent_name (put_name-off v.names name v.made intent_name (λ e. (off kept left).no_intent (sym e)))

    no_place : (m : NameMap) → IsCrashMap (after_create name v) m → m name ≡ Some v.made → IsStagedNameOf (intent_of (files_under_map (after_create name v) m)) name → ⊥
    no_place m (inl (kept, left, new)) is place =
        (off_same (files_under_map v kept) (files_under_map (after_create name v) m) name (sym (ap (bytes_of_file_number (after_create name v).files) (same_intent kept left m new) ∙ bytes_of_file_number-set_file v.files v.made _ (kept intent_name) (made_later v whole kept left intent_name))) (off kept left)).no_place
        place
    no_place m (inr old) is place = absurd (made_later v whole m old name is)

-- ---- it is changed

module _ (laws : CrashLaws) (name : List ℕ) (waiting : is_staged name ≡ true) (no_intent : name ≢ intent_name) (change : File → File) (v : TreeState) (was : IsOnlyNameOfFile name v) where
  abbrev w : TreeState
  w = with_file_changed change v (Some was.number)

  off_in : (m : NameMap) → IsCrashMap v m → m name ≡ Some was.number → IsOff (files_under_map v m) name
  off_in m among is = record { waiting = waiting; no_intent = no_intent; no_place = was.no_place m among is }

  -- the file is not one on which a state rests
  off_number : (ignored : List ℕ → Bool) (m : NameMap) → IsCrashMap v m → (q : List ℕ) → StateDependsOn ignored (files_under_map v m) q → m q ≢ Some was.number
  off_number ignored m among q rests is =
      let same = was.alone m among q is in
      let here : m name ≡ Some was.number = ap m (sym same) ∙ is in
      off_rests ignored (files_under_map v m) name (off_in m among here) q rests same

  change_simulates : (ignored : List ℕ → Bool) → Simulates ignored v w
  change_simulates ignored m among = (m, among, λ q rests. sym (file_at-set_file v.files was.number _ (m q) (off_number ignored m among q rests)))

  changed_others : (q : List ℕ) → q ≢ name → files_of w q ≡ files_of v q
  changed_others q ne = bytes_of_file_number-set_file v.files was.number _ (v.names q) (λ is. ne (was.alone v.names (read_may_be_left v) q is))

  still_changed_at : (ignored : List ℕ → Bool) → IsDurable (StateDependsOn ignored) v → StateIsUnchanged ignored v w
  still_changed_at ignored is_durable = still_by laws ignored v w is_durable (change_simulates ignored) (off_state ignored (files_of v) (files_of w) name (off_in v.names (read_may_be_left v) was.there) changed_others) (omega arith)

  same_intent : (m : NameMap) → IsCrashMap v m → files_under_map w m intent_name ≡ files_under_map v m intent_name
  same_intent m among = bytes_of_file_number-set_file v.files was.number _ (m intent_name) (λ is. no_intent (sym (was.alone m among intent_name is)))

  alone_changed_at : IsOnlyNameOfFile name w
  alone_changed_at = record {
    number = was.number;
    there = was.there;
    alone = was.alone;
    no_place = λ m among is place. was.no_place m among is (subst (λ o. IsStagedNameOf o name) (ap intent_in_file (same_intent m among)) place);
  }

  pub changed_at_is : with_file_changed change v (v.names name) ≡ w
  changed_at_is = ap (with_file_changed change v) was.there

  pub still_changed : (ignored : List ℕ → Bool) → IsDurable (StateDependsOn ignored) v → StateIsUnchanged ignored v (with_file_changed change v (v.names name))
  still_changed ignored is_durable = subst (λ o. StateIsUnchanged ignored v (with_file_changed change v o)) (sym was.there) (still_changed_at ignored is_durable)

  pub alone_changed : IsOnlyNameOfFile name (with_file_changed change v (v.names name))
  alone_changed = subst (λ o. IsOnlyNameOfFile name (with_file_changed change v o)) (sym was.there) alone_changed_at

  pub others_changed : (q : List ℕ) → q ≢ name → files_of (with_file_changed change v (v.names name)) q ≡ files_of v q
  others_changed q ne = subst (λ o. files_of (with_file_changed change v o) q ≡ files_of v q) (sym was.there) (changed_others q ne)

  pub read_changed : files_of (with_file_changed change v (v.names name)) name ≡ Some (change (v.files was.number)).bytes
  read_changed = subst (λ o. files_of (with_file_changed change v o) name ≡ Some (change (v.files was.number)).bytes) (sym was.there)
      (ap (bytes_of_file_number w.files) was.there ∙ ap (λ (f : File). Some f.bytes) (set_file-at v.files was.number (change (v.files was.number)) was.number refl))
