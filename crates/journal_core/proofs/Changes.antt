-- What one change of names makes of each map that a crash may leave.
use Rattle.std.proofs.Common.{◌≡◌, ◌⊎◌, ◌≢◌, inl, inr, ⊎_elim, ℕ, Bool, false, List, [], Option, None, Some, refl, sym, ap, subst, ◌∙◌}
use Rattle.std.specs.Str.{bytes_eq}
use Rattle.base_core.specs.Files.{NameMap, drop_name, move_name, put_name}
use Rattle.base_core.specs.Tree.{TreeState, after_create, after_sync_names, with_name_removed, with_newer_name_map}
use Rattle.base_core.specs.Undone.{IsCrashMap, with_change_replayed}
use Rattle.base_core.proofs.Undone.{change_here, change_off, change_on, change_whole, left_only, read_may_be_left}
use Rattle.base_core.proofs.AtName.{name_cases, off_name}
use Rattle.journal_core.specs.Kept.{IsAbsentAfterEachCrash}
use Rattle.journal_intent.proofs.AtName.{put_name-at, put_name-off, drop_name-at, drop_name-off}

-- a name that the change leaves alone leads as before it
pub left_off : (old new kept m : NameMap) → m ≡ with_change_replayed old new kept → (q : List ℕ) → new q ≡ old q → m q ≡ kept q
left_off old new kept m is q same = ap (λ (f : NameMap). f q) is ∙ change_off old new kept q (sym same)

-- a name that leads as read leads so after it, too
pub left_here : (old new kept m : NameMap) → m ≡ with_change_replayed old new kept → (q : List ℕ) → kept q ≡ old q → m q ≡ new q
left_here old new kept m is q same = ap (λ (f : NameMap). f q) is ∙ change_here old new kept q same

-- ---- all of the map

some_differs : (a b : Option ℕ) (n : ℕ) → a ≡ Some n → b ≡ None → a ≡ b → ⊥
some_differs a b n some none same = cc

pub change_dropped : (names kept : NameMap) (r : List ℕ) (n : ℕ) → names r ≡ Some n → with_change_replayed names (drop_name names r) kept ≡ drop_name kept r
change_dropped names kept r n there i q = at (name_cases q r) i
  where
    at : (q ≡ r) ⊎ (bytes_eq q r ≡ false) → with_change_replayed names (drop_name names r) kept q ≡ drop_name kept r q
    at (inl is) =
        let gone = drop_name-at names r q is in
        change_on names (drop_name names r) kept q (some_differs (names q) (drop_name names r q) n (ap names is ∙ there) gone) ∙ gone ∙ sym (drop_name-at kept r q is)
    at (inr off) =
        let ne = off_name q r off in
        change_off names (drop_name names r) kept q (sym (drop_name-off names r q ne)) ∙ sym (drop_name-off kept r q ne)

pub change_moved : (names kept : NameMap) (from to : List ℕ) (n : ℕ) → kept from ≡ names from → kept to ≡ names to → with_change_replayed names (move_name names from to n) kept ≡ move_name kept from to n
change_moved names kept from to n same_from same_to i q = at (name_cases q to) i
  where
    new : NameMap
    new = move_name names from to n

    behind : q ≢ to → (q ≡ from) ⊎ (bytes_eq q from ≡ false) → with_change_replayed names new kept q ≡ move_name kept from to n q
    behind ne (inl is) =
        change_here names new kept q (ap kept is ∙ same_from ∙ sym (ap names is)) ∙ put_name-off (drop_name names from) to n q ne ∙ drop_name-at names from q is
        ∙ sym (put_name-off (drop_name kept from) to n q ne ∙ drop_name-at kept from q is)
    behind ne (inr off) =
        let nf = off_name q from off in
        change_off names new kept q (sym (put_name-off (drop_name names from) to n q ne ∙ drop_name-off names from q nf)) ∙ sym (put_name-off (drop_name kept from) to n q ne ∙ drop_name-off kept from q nf)

    at : (q ≡ to) ⊎ (bytes_eq q to ≡ false) → with_change_replayed names new kept q ≡ move_name kept from to n q
    at (inl is) = change_here names new kept q (ap kept is ∙ same_to ∙ sym (ap names is)) ∙ put_name-at (drop_name names from) to n q is ∙ sym (put_name-at (drop_name kept from) to n q is)
    at (inr off) = behind (off_name q to off) (name_cases q from)

-- ---- where the names are synced

pub synced_left : (v : TreeState) (m : NameMap) → IsCrashMap (after_sync_names v) m → IsCrashMap v m
synced_left v m is = subst (IsCrashMap v) (sym is) (read_may_be_left v)

-- behind one change there are two maps
pub one_change : (v : TreeState) (names : NameMap) → v.older ≡ [] → (m : NameMap) → IsCrashMap (with_newer_name_map v names) m → (m ≡ names) ⊎ (m ≡ v.names)
one_change v names none m (inl (kept, left, is)) = inl (is ∙ ap (with_change_replayed v.names names) (left_only v none kept left) ∙ change_whole v.names names)
one_change v names none m (inr left) = inr (left_only v none m left)

-- ---- a name that is in no map

pub gone_synced : (name : List ℕ) (v : TreeState) → v.names name ≡ None → IsAbsentAfterEachCrash name (after_sync_names v)
gone_synced name v none m is = ap (λ (f : NameMap). f name) is ∙ none

pub gone_created : (gone name : List ℕ) (v : TreeState) → gone ≢ name → IsAbsentAfterEachCrash gone v → IsAbsentAfterEachCrash gone (after_create name v)
gone_created gone name v apart away m (inl (kept, left, is)) = left_off v.names (put_name v.names name v.made) kept m is gone (put_name-off v.names name v.made gone apart) ∙ away kept left
gone_created gone name v apart away m (inr left) = away m left

pub gone_removed : (gone name : List ℕ) (v : TreeState) (o : Option ℕ) → IsAbsentAfterEachCrash gone v → IsAbsentAfterEachCrash gone (with_name_removed name v o)
gone_removed gone name v None away m left = away m left
gone_removed gone name v (Some n) away m (inr left) = away m left
gone_removed gone name v (Some n) away m (inl (kept, left, is)) = left_here v.names (drop_name v.names name) kept m is gone (away kept left ∙ sym (away v.names (read_may_be_left v))) ∙ by (name_cases gone name)
  where
    by : (gone ≡ name) ⊎ (bytes_eq gone name ≡ false) → drop_name v.names name gone ≡ None
    by (inl e) = drop_name-at v.names name gone e
    by (inr off) = drop_name-off v.names name gone (off_name gone name off) ∙ away v.names (read_may_be_left v)
