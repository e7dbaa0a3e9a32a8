-- A replacement makes no misuse where there is room.
use Rattle.std.proofs.Common.{◌≡◌, ◌≢◌, ℕ, Bool, true, false, cond, List, [], ◌∷◌, Option, None, Some, IsSome, refl, sym, subst, ◌∙◌}
use Rattle.std.specs.Str.{bytes_eq}
use Rattle.journal_core.proofs.journal_intent.AtName.{drop_name-at, drop_name-off}
use Rattle.journal_core.proofs.History.{History, observable_at}
use Rattle.journal_commit.proofs.Suffix.{scratch_apart}
use Rattle.base_core.specs.Files.{put_name, drop_name, HasNoFileAsFolder}
use Rattle.base_core.specs.Tree.{TreeState, files_of, with_name_removed, after_remove, CanCreate, CanRename}
use Rattle.base_core.specs.Calls.{IfObservable, HoldsNow}
use Rattle.base_core.proofs.AtName.{off_name}
use Rattle.journal_core.specs.Replacing.{scratch_name_of, CanAddOutputNames}
use Rattle.journal_core.specs.Filling.{HasOneMoreName, CanAddName, CanAddBothNames}
use Rattle.journal_core.proofs.Beside.{as_read}

fewer : {A B : Type 0} (m : List ℕ → Option A) (n : List ℕ → Option B) → ((q : List ℕ) → IsSome (n q) → IsSome (m q)) → HasNoFileAsFolder m → HasNoFileAsFolder n
fewer m n less folders p q folder has_p has_q = folders p q folder (less p has_p) (less q has_q)

-- ---- a new file is made

-- a state after the removal of the name
pub record IsFree (name : List ℕ) (start v : TreeState) : Type 0 where
  pub absent : v.names name ≡ None
  pub others : (q : List ℕ) → q ≢ name → v.names q ≡ start.names q

free_at : (name : List ℕ) (v : TreeState) (o : Option ℕ) → v.names name ≡ o → IsFree name v (with_name_removed name v o)
free_at name v None none = record { absent = none; others = λ q ne. refl }
free_at name v (Some n) some = record { absent = drop_name-at v.names name name refl; others = λ q ne. drop_name-off v.names name q ne }

pub free-removed : (name : List ℕ) (v : TreeState) → IsFree name v (after_remove name v)
free-removed name v = free_at name v (v.names name) refl

some_put : (b : Bool) (m n : ℕ) (o p : Option ℕ) → (b ≡ false → o ≡ p) → IsSome (cond b (Some m) o) → IsSome (cond b (Some n) p)
some_put true m n o p same some = refl
some_put false m n o p same some = subst IsSome (same refl) some

pub can_create : (name : List ℕ) (start v : TreeState) → CanAddName name start → IsFree name start v → CanCreate name v
can_create name start v folders free = record {
  absent = free.absent;
  folders = fewer (put_name start.names name 0) (put_name v.names name v.made) (λ q. some_put (bytes_eq q name) v.made 0 (v.names q) (start.names q) (λ off. free.others q (off_name q name off))) folders;
}

-- ---- and moved

room_fill : (scratch name : List ℕ) (v : TreeState) → CanAddBothNames scratch name v → CanAddName scratch v
room_fill scratch name v room = fewer (put_name (put_name v.names scratch 0) name 0) (put_name v.names scratch 0) (λ q. into (bytes_eq q name) (put_name v.names scratch 0 q)) room.folders
  where
    into : (b : Bool) (o : Option ℕ) → IsSome o → IsSome (cond b (Some 0) o)
    into true o some = refl
    into false o some = some

room_rename : (scratch name : List ℕ) (start v : TreeState) → CanAddBothNames scratch name start → HasOneMoreName scratch start v → CanRename scratch name v
room_rename scratch name start v room more = record {
  present = more.there;
  apart = room.apart;
  folders = fewer (put_name (put_name start.names scratch 0) name 0) (put_name (drop_name v.names scratch) name 0)
      (λ q. into (bytes_eq q name) (bytes_eq q scratch) (v.names q) (start.names q) (λ off. more.others q (off_name q scratch off))) room.folders;
}
  where
    into : (a b : Bool) (o p : Option ℕ) → (b ≡ false → o ≡ p) → IsSome (cond a (Some 0) (cond b None o)) → IsSome (cond a (Some 0) (cond b (Some 0) p))
    into true b o p same some = refl
    into false true o p same some = refl
    into false false o p same some = subst IsSome (same refl) some

module _ (scratch name : List ℕ) (v : TreeState) (old : History) (rest : History) (is : old ≡ v ∷ rest) (room : CanAddBothNames scratch name v) (a b : ℕ) where
  pub fill_proper : IfObservable old (λ w. CanAddName scratch w → b ≡ a) → b ≡ a
  fill_proper proper = observable_at old v rest is (λ w. CanAddName scratch w → b ≡ a) proper (room_fill scratch name v room)

  module _ (mid : History) (c : ℕ) where
    moved_proper : (m : History) → HoldsNow m (HasOneMoreName scratch v) → IfObservable m (λ w. CanRename scratch name w → c ≡ b) → c ≡ b
    moved_proper [] more second = absurd more
    moved_proper (w ∷ h) more second = second (room_rename scratch name v w room more)

    pub settle_proper : IfObservable old (λ w. CanAddName scratch w → b ≡ a) → IfObservable old (λ w. HoldsNow mid (HasOneMoreName scratch w)) → IfObservable mid (λ w. CanRename scratch name w → c ≡ b) → c ≡ a
    settle_proper first more second = moved_proper mid (observable_at old v rest is (λ w. HoldsNow mid (HasOneMoreName scratch w)) more) second ∙ fill_proper first

-- ---- room among the files as read

put_both : {A B : Type 0} (a b : Bool) (x y : A) (z : B) (o : Option A) (p : Option B) → (IsSome o → IsSome p) → IsSome (cond a (Some x) (cond b (Some y) o)) → IsSome (cond a (Some z) (cond b (Some z) p))
put_both true b x y z o p same some = refl
put_both false true x y z o p same some = refl
put_both false false x y z o p same some = same some

pub both_places : (scratch name : List ℕ) → scratch ≡ scratch_name_of name → (v : TreeState) → CanAddOutputNames name (files_of v) → CanAddBothNames scratch name v
both_places scratch name scratch_is v room = record {
  apart = λ is. scratch_apart name (sym scratch_is ∙ is);
  folders = subst (λ s. HasNoFileAsFolder (put_name (put_name v.names s 0) name 0)) (sym scratch_is) (fewer (put_name (put_name (files_of v) (scratch_name_of name) []) name []) (put_name (put_name v.names (scratch_name_of name) 0) name 0)
      (λ q. put_both (bytes_eq q name) (bytes_eq q (scratch_name_of name)) 0 0 [] (v.names q) (files_of v q) (as_read v.files (v.names q))) room.folders);
}

pub room_proper : (scratch name : List ℕ) → scratch ≡ scratch_name_of name → (v : TreeState) (old rest : History) → old ≡ v ∷ rest → CanAddOutputNames name (files_of v) → (a b : ℕ) → IfObservable old (λ w. CanAddBothNames scratch name w → b ≡ a) → b ≡ a
room_proper scratch name scratch_is v old rest is room a b proper = observable_at old v rest is (λ w. CanAddBothNames scratch name w → b ≡ a) proper (both_places scratch name scratch_is v room)
