-- What a crash leaves.
use Rattle.std.proofs.Common.{◌≡◌, inl, inr, ℕ, true, List, [], ◌∷◌, Option, None, Some, refl, sym, ap, ◌∙◌}
use Rattle.base_core.specs.Files.{Files, NameMap}
use Rattle.base_core.specs.Lists.{IsIn}
use Rattle.base_core.specs.Tree.{TreeState, File, IsCurrentOrOlderMap, bytes_of_file_number, files_under_map, files_of}
use Rattle.base_core.specs.Crash.{CrashMayLeaveBytesOfFileNumber, IsCrashImageUnderMap, IsCrashImageIfUndoneNewestFirst, IsDurableIfUndoneNewestFirst}
use Rattle.base_core.specs.Restart.{IsAfterCrashIfUndoneNewestFirst}

pub may_leave_as_read : (files : ℕ → File) (n : Option ℕ) → CrashMayLeaveBytesOfFileNumber files n (bytes_of_file_number files n)
may_leave_as_read files None = refl
may_leave_as_read files (Some n) = λ _. refl

pub map_is_left : (v : TreeState) (map : NameMap) → IsCurrentOrOlderMap v map → IsCrashImageIfUndoneNewestFirst v (files_under_map v map)
map_is_left v map among = (map, among, λ q. may_leave_as_read v.files (map q))

pub read_is_left : (v : TreeState) → IsCrashImageIfUndoneNewestFirst v (files_of v)
read_is_left v = map_is_left v v.names (inl refl)

pub left_as_read : (files : ℕ → File) (n : Option ℕ) (bytes : Option (List ℕ)) → ((k : ℕ) → n ≡ Some k → (files k).synced ≡ true) → CrashMayLeaveBytesOfFileNumber files n bytes → bytes ≡ bytes_of_file_number files n
left_as_read files None bytes synced may = may
left_as_read files (Some n) None synced may = absurd may
left_as_read files (Some n) (Some bytes) synced may = ap Some (may (synced n refl))

pub order_lasts : (depends_on : Files → List ℕ → Type 0) (v : TreeState) → IsDurableIfUndoneNewestFirst depends_on v
    → (map : NameMap) → IsCurrentOrOlderMap v map → (image : Files) → IsCrashImageUnderMap v map image
    → (q : List ℕ) → depends_on (files_under_map v map) q → image q ≡ files_under_map v map q
order_lasts depends_on v is_durable map among image by q rests =
    left_as_read v.files (map q) (image q) (λ k is. is_durable.each map among q k rests is) (by q)

no_older : (map : NameMap) (older : List NameMap) → older ≡ [] → IsIn map older → ⊥
no_older map [] e among = among
no_older map (x ∷ older) e among = absurd (cc)

only_map : (v w : TreeState) → IsAfterCrashIfUndoneNewestFirst v w → (map : NameMap) → IsCurrentOrOlderMap w map → map ≡ w.names
only_map v w crash map (inl is) = is
only_map v w crash map (inr old) = absurd (no_older map w.older crash.one_map old)

all_synced : (v w : TreeState) → IsAfterCrashIfUndoneNewestFirst v w → (map : NameMap) → IsCurrentOrOlderMap w map → (q : List ℕ) (n : ℕ) → map q ≡ Some n → (w.files n).synced ≡ true
all_synced v w crash map among q n is = crash.synced q n (sym (ap (λ (m : NameMap). m q) (only_map v w crash map among)) ∙ is)

pub crash_settles : (v w : TreeState) → IsAfterCrashIfUndoneNewestFirst v w → (image : Files) → IsCrashImageIfUndoneNewestFirst w image → (q : List ℕ) → image q ≡ files_of w q
crash_settles v w crash image (map, among, by) q =
    left_as_read w.files (map q) (image q) (λ k is. all_synced v w crash map among q k is) (by q)
    ∙ ap (λ (m : NameMap). bytes_of_file_number w.files (m q)) (only_map v w crash map among)

pub crash_durable : (depends_on : Files → List ℕ → Type 0) (v w : TreeState) → IsAfterCrashIfUndoneNewestFirst v w → IsDurableIfUndoneNewestFirst depends_on w
crash_durable depends_on v w crash = record { each = λ map among q n rests is. all_synced v w crash map among q n is }

pub durable_still : (more fewer : Files → List ℕ → Type 0) (v : TreeState) → ((files : Files) (q : List ℕ) → fewer files q → more files q) → IsDurableIfUndoneNewestFirst more v → IsDurableIfUndoneNewestFirst fewer v
durable_still more fewer v up is_durable = record { each = λ map among q n rests at. is_durable.each map among q n (up (files_under_map v map) q rests) at }
