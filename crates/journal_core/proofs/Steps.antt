-- What each call of a replacement keeps.
use Rattle.std.proofs.Common.{◌≡◌, ◌≢◌, inl, inr, ⊎_elim, ℕ, ◌<◌, ◌≤◌, Bool, false, cond, List, [], Option, None, Some, refl, sym, ap, subst, ◌∙◌, arith}
use Rattle.std.proofs.lemmas.Bool.{ne_eqb, eq-eqb}
use Rattle.base_core.specs.Files.{NameMap, drop_name, put_name}
use Rattle.base_core.specs.Tree.{File, TreeState, bytes_of_file_number, files_under_map, files_of, set_file, with_file_changed, after_create, with_name_removed, after_remove, IsWellFormed}
use Rattle.base_core.specs.Undone.{IsCrashMap}
use Rattle.journal_core.specs.Quiet.{StateIsUnchanged}
use Rattle.journal_core.specs.Recovery.{state_of}
use Rattle.journal_core.specs.Filling.{IsOutsideState, MayHaveChangedOnly, HasChangedOnlyByNewFile}
use Rattle.base_core.proofs.Undone.{left_leads, read_may_be_left}
use Rattle.base_core.proofs.AtName.{name_cases}
use Rattle.journal_core.proofs.Agree.{state_agree}
use Rattle.journal_core.proofs.Changes.{left_off}
use Rattle.journal_intent.proofs.AtName.{put_name-at, put_name-off, drop_name-off}
use Rattle.journal_core.proofs.Images.{CrashLaws, quiet_on, quiet_same}
use Rattle.journal_core.proofs.Simulate.{file_at, bytes_of_same, rests_off, Simulates, simulated_durable, simulated_quiet}

pub untouched_start : (name : List ℕ) (v : TreeState) → MayHaveChangedOnly name v v
untouched_start name v = record { is_unchanged = λ ignored is_durable private. record { is_durable = is_durable; quiet = quiet_same ignored v; reads = refl; made = omega arith }; others = λ q ne. refl }

still_on : CrashLaws → (ignored : List ℕ → Bool) (start v w : TreeState) → StateIsUnchanged ignored start v → Simulates ignored v w → v.made ≤ w.made → state_of ignored (files_of w) ≡ state_of ignored (files_of v) → StateIsUnchanged ignored start w
still_on laws ignored start v w was simulates more reads =
    let is_durable = simulated_durable ignored v w was.is_durable simulates in
    record { is_durable = is_durable; quiet = quiet_on ignored start v w was.quiet (simulated_quiet laws ignored v w is_durable simulates); reads = reads ∙ was.reads; made = omega (arith, was.made, more) }

-- a step that simulates and leaves the other files as read
untouched_on : CrashLaws → (name : List ℕ) (start v w : TreeState) → MayHaveChangedOnly name start v → ((ignored : List ℕ → Bool) → IsOutsideState ignored name → Simulates ignored v w) → v.made ≤ w.made → ((q : List ℕ) → q ≢ name → files_of w q ≡ files_of v q) → MayHaveChangedOnly name start w
untouched_on laws name start v w was simulates more others = record {
  is_unchanged = λ ignored is_durable private. still_on laws ignored start v w (was.is_unchanged ignored is_durable private) (simulates ignored private) more
      (sym (state_agree ignored (files_of v) (files_of w) (λ q rests. sym (others q (rests_off ignored name private (files_of v) q rests)))));
  others = λ q ne. others q ne ∙ was.others q ne;
}

-- ---- remove

remove_simulates : (ignored : List ℕ → Bool) (name : List ℕ) → IsOutsideState ignored name → (v : TreeState) (n : Option ℕ) → Simulates ignored v (with_name_removed name v n)
remove_simulates ignored name private v None m among = (m, among, λ q rests. refl)
remove_simulates ignored name private v (Some n) m (inl (kept, left, is)) =
    (kept, left, λ q rests. ap (file_at v.files) (sym (left_off v.names (drop_name v.names name) kept m is q (drop_name-off v.names name q (rests_off ignored name private (files_under_map v kept) q rests)))))
remove_simulates ignored name private v (Some n) m (inr old) = (m, old, λ q rests. refl)

remove_made : (name : List ℕ) (v : TreeState) (n : Option ℕ) → v.made ≤ (with_name_removed name v n).made
remove_made name v None = omega arith
remove_made name v (Some n) = omega arith

pub remove_others : (name : List ℕ) (v : TreeState) (n : Option ℕ) (q : List ℕ) → q ≢ name → files_of (with_name_removed name v n) q ≡ files_of v q
remove_others name v None q ne = refl
remove_others name v (Some n) q ne = ap (bytes_of_file_number v.files) (drop_name-off v.names name q ne)

pub untouched-removed : CrashLaws → (name : List ℕ) (start v : TreeState) → MayHaveChangedOnly name start v → MayHaveChangedOnly name start (after_remove name v)
untouched-removed laws name start v was = untouched_on laws name start v _ was (λ ignored private. remove_simulates ignored name private v (v.names name)) (remove_made name v (v.names name)) (remove_others name v (v.names name))

-- ---- create

set_file-off : (files : ℕ → File) (n : ℕ) (f : File) (k : ℕ) → k ≢ n → set_file files n f k ≡ files k
set_file-off files n f k ne = ap (λ b. cond b f (files k)) (ne_eqb k n ne)

pub set_file-at : (files : ℕ → File) (n : ℕ) (f : File) (k : ℕ) → k ≡ n → set_file files n f k ≡ f
set_file-at files n f k is = ap (λ b. cond b f (files k)) (eq-eqb k n is)

pub file_at-set_file : (files : ℕ → File) (n : ℕ) (f : File) (k : Option ℕ) → k ≢ Some n → file_at (set_file files n f) k ≡ file_at files k
file_at-set_file files n f None ne = refl
file_at-set_file files n f (Some k) ne = ap Some (set_file-off files n f k (λ is. ne (ap Some is)))

pub bytes_of_file_number-set_file : (files : ℕ → File) (n : ℕ) (f : File) (k : Option ℕ) → k ≢ Some n → bytes_of_file_number (set_file files n f) k ≡ bytes_of_file_number files k
bytes_of_file_number-set_file files n f k ne = bytes_of_same _ _ k k (file_at-set_file files n f k ne)

pub made_later : (v : TreeState) → IsWellFormed v → (m : NameMap) → IsCrashMap v m → (q : List ℕ) → m q ≢ Some v.made
made_later v whole m left q is =
    let (one, among, same) = left_leads v m left q in
    let below : v.made < v.made = whole.made one among q v.made (sym same ∙ is) in
    absurd (omega arith)

create_simulates : (ignored : List ℕ → Bool) (name : List ℕ) → IsOutsideState ignored name → (v : TreeState) → IsWellFormed v → Simulates ignored v (after_create name v)
create_simulates ignored name private v whole m (inl (kept, left, is)) = (
  kept,
  left,
  λ q rests.
      sym (ap (file_at (after_create name v).files) (left_off v.names (put_name v.names name v.made) kept m is q (put_name-off v.names name v.made q (rests_off ignored name private (files_under_map v kept) q rests)))
      ∙ file_at-set_file v.files v.made _ (kept q) (made_later v whole kept left q)),
)
create_simulates ignored name private v whole m (inr old) = (m, old, λ q rests. sym (file_at-set_file v.files v.made _ (m q) (made_later v whole m old q)))

pub create_others : (name : List ℕ) (v : TreeState) → IsWellFormed v → (q : List ℕ) → q ≢ name → files_of (after_create name v) q ≡ files_of v q
create_others name v whole q ne = ap (bytes_of_file_number (after_create name v).files) (put_name-off v.names name v.made q ne) ∙ bytes_of_file_number-set_file v.files v.made _ (v.names q) (made_later v whole v.names (read_may_be_left v) q)

pub untouched-created : CrashLaws → (name : List ℕ) (start v : TreeState) → IsWellFormed v → MayHaveChangedOnly name start v → MayHaveChangedOnly name start (after_create name v)
untouched-created laws name start v whole was = untouched_on laws name start v _ was (λ ignored private. create_simulates ignored name private v whole) (omega arith) (create_others name v whole)

pub create_alone : (name : List ℕ) (v : TreeState) → IsWellFormed v → (m : NameMap) → IsCrashMap (after_create name v) m → (q : List ℕ) → m q ≡ Some v.made → q ≡ name
create_alone name v whole m (inl (kept, left, new)) q is = ⊎_elim (λ same. same)
    (λ off. absurd (made_later v whole kept left q (sym (left_off v.names (put_name v.names name v.made) kept m new q (ap (λ b. cond b (Some v.made) (v.names q)) off)) ∙ is)))
    (name_cases q name)
create_alone name v whole m (inr old) q is = absurd (made_later v whole m old q is)

pub filling-created : CrashLaws → (name : List ℕ) (start v : TreeState) → IsWellFormed v → MayHaveChangedOnly name start v → HasChangedOnlyByNewFile name (record { bytes = []; synced = false }) start (after_create name v)
filling-created laws name start v whole was = record {
  untouched = untouched-created laws name start v whole was;
  number = v.made;
  there = put_name-at v.names name v.made name refl;
  holds = set_file-at v.files v.made _ v.made refl;
  alone = create_alone name v whole;
}

-- ---- append and sync

change_simulates : (ignored : List ℕ → Bool) (name : List ℕ) → IsOutsideState ignored name → (change : File → File) (v : TreeState) (n : ℕ) → ((m : NameMap) → IsCrashMap v m → (q : List ℕ) → m q ≡ Some n → q ≡ name) → Simulates ignored v (with_file_changed change v (Some n))
change_simulates ignored name private change v n alone m among =
    (m, among, λ q rests. sym (file_at-set_file v.files n _ (m q) (λ is. rests_off ignored name private (files_under_map v m) q rests (alone m among q is))))

filling_at : CrashLaws → (name : List ℕ) (change : File → File) (file : File) (start v : TreeState) → (was : HasChangedOnlyByNewFile name file start v) → HasChangedOnlyByNewFile name (change file) start (with_file_changed change v (Some was.number))
filling_at laws name change file start v was = record {
  untouched = untouched_on laws name start v _ was.untouched (λ ignored private. change_simulates ignored name private change v was.number was.alone) (omega arith)
      (λ q ne. bytes_of_file_number-set_file v.files was.number _ (v.names q) (λ is. ne (was.alone v.names (read_may_be_left v) q is)));
  number = was.number;
  there = was.there;
  holds = set_file-at v.files was.number _ was.number refl ∙ ap change was.holds;
  alone = was.alone;
}

pub filling_on : CrashLaws → (name : List ℕ) (change : File → File) (file : File) (start v : TreeState) → HasChangedOnlyByNewFile name file start v → HasChangedOnlyByNewFile name (change file) start (with_file_changed change v (v.names name))
filling_on laws name change file start v was =
    subst (λ n. HasChangedOnlyByNewFile name (change file) start (with_file_changed change v n)) (sym was.there) (filling_at laws name change file start v was)
