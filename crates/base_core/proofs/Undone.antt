-- What a crash leaves if it may undo any of the changes of names.
use Rattle.std.proofs.Common.{◌≡◌, ◌⊎◌, inl, inr, ⊎_elim, ℕ, Bool, true, false, cond, List, [], ◌∷◌, Option, None, Some, refl, sym, ap, subst, ◌∙◌}
use Rattle.std.proofs.lemmas.Bool.{eqb-true, eq-eqb}
use Rattle.base_core.specs.Crash.{IsCrashImageIfUndoneNewestFirst, IsCrashImageUnderMap, IsDurableIfUndoneNewestFirst}
use Rattle.base_core.specs.Files.{Files, NameMap}
use Rattle.base_core.specs.Lists.{IsIn}
use Rattle.base_core.specs.Restart.{IsAfterCrashIfUndoneNewestFirst}
use Rattle.base_core.specs.Tree.{TreeState, IsCurrentOrOlderMap, bytes_of_file_number, files_under_map, files_of}
use Rattle.base_core.specs.Undone.{IsAfterCrash, IsDurable, CrashOfMapsMayLeaveMap, IsCrashImage, IsCrashMap, lead_to_same_file, with_change_replayed}
use Rattle.base_core.proofs.Left.{left_as_read, may_leave_as_read}

-- ---- one change

alike_same : (a b : Option ℕ) → lead_to_same_file a b ≡ true → a ≡ b
alike_same None None is = refl
alike_same None (Some n) is = absurd (cc)
alike_same (Some m) None is = absurd (cc)
alike_same (Some m) (Some n) is = ap Some (eqb-true m n is)

same_alike : (a b : Option ℕ) → a ≡ b → lead_to_same_file a b ≡ true
same_alike None None is = refl
same_alike None (Some n) is = absurd (cc)
same_alike (Some m) None is = absurd (cc)
same_alike (Some m) (Some n) is = let same : m ≡ n = cc in eq-eqb m n same

module _ (old new map : NameMap) (q : List ℕ) where
  by_bool : (P : Option ℕ → Type 0) → (lead_to_same_file (old q) (new q) ≡ true → P (map q)) → (lead_to_same_file (old q) (new q) ≡ false → P (new q)) → P (with_change_replayed old new map q)
  by_bool P alike apart = by (lead_to_same_file (old q) (new q)) refl
    where
      by : (b : Bool) → lead_to_same_file (old q) (new q) ≡ b → P (cond b (map q) (new q))
      by true is = alike is
      by false is = apart is

  -- a name at which the two maps agree is as it was
  pub change_off : old q ≡ new q → with_change_replayed old new map q ≡ map q
  change_off same = by_bool (λ o. o ≡ map q) (λ is. refl) (λ is. absurd (cc (is, same_alike (old q) (new q) same)))

  -- a name that leads as before the change leads as after it
  pub change_here : map q ≡ old q → with_change_replayed old new map q ≡ new q
  change_here same = by_bool (λ o. o ≡ new q) (λ is. same ∙ alike_same (old q) (new q) is) (λ is. refl)

  -- a name at which the two maps differ leads as after the change
  pub change_on : (old q ≡ new q → ⊥) → with_change_replayed old new map q ≡ new q
  change_on apart = by_bool (λ o. o ≡ new q) (λ is. absurd (apart (alike_same (old q) (new q) is))) (λ is. refl)

  -- so each name is as it was, where the two agree, or leads as after the change
  pub change_cases : ((old q ≡ new q) × (with_change_replayed old new map q ≡ map q)) ⊎ (with_change_replayed old new map q ≡ new q)
  change_cases = by_bool (λ o. ((old q ≡ new q) × (o ≡ map q)) ⊎ (o ≡ new q)) (λ is. inl (alike_same (old q) (new q) is, refl)) (λ is. inr refl)

-- the change of its own older map is the newer one
pub change_whole : (old new : NameMap) → with_change_replayed old new old ≡ new
change_whole old new i q = change_here old new old q refl i

-- ---- the maps

pub newest_left : (new : NameMap) (older : List NameMap) → CrashOfMapsMayLeaveMap new older new
newest_left new [] = refl
newest_left new (old ∷ older) = inl (old, newest_left old older, sym (change_whole old new))

pub among_left : (new : NameMap) (older : List NameMap) (map : NameMap) → IsIn map (new ∷ older) → CrashOfMapsMayLeaveMap new older map
among_left new [] map (inl is) = is
among_left new [] map (inr none) = absurd none
among_left new (old ∷ older) map (inl is) = inl (old, newest_left old older, is ∙ sym (change_whole old new))
among_left new (old ∷ older) map (inr among) = inr (among_left old older map among)

pub left_one : (new : NameMap) (older : List NameMap) → older ≡ [] → (map : NameMap) → CrashOfMapsMayLeaveMap new older map → map ≡ new
left_one new [] none map is = is
left_one new (old ∷ older) none map is = absurd (cc)

-- a map that a crash may leave leads, at each name, where one of the maps of the list leads
pub left_at : (new : NameMap) (older : List NameMap) (map : NameMap) → CrashOfMapsMayLeaveMap new older map → (q : List ℕ) → (one : NameMap) × IsIn one (new ∷ older) × (map q ≡ one q)
left_at new [] map is q = (new, inl refl, ap (λ (m : NameMap). m q) is)
left_at new (old ∷ older) map (inr left) q = let (one, among, same) = left_at old older map left q in (one, inr among, same)
left_at new (old ∷ older) map (inl (kept, left, is)) q =
    let here : map q ≡ with_change_replayed old new kept q = ap (λ (m : NameMap). m q) is in
    ⊎_elim
    (λ alike. let (one, among, same) = left_at old older kept left q in (one, inr among, here ∙ alike.1 ∙ same))
    (λ changed. (new, inl refl, here ∙ changed))
    (change_cases old new kept q)

pub read_may_be_left : (v : TreeState) → IsCrashMap v v.names
read_may_be_left v = newest_left v.names v.older

pub map_may_be_left : (v : TreeState) (map : NameMap) → IsCurrentOrOlderMap v map → IsCrashMap v map
map_may_be_left v map among = among_left v.names v.older map among

pub left_leads : (v : TreeState) (map : NameMap) → IsCrashMap v map → (q : List ℕ) → (one : NameMap) × IsCurrentOrOlderMap v one × (map q ≡ one q)
left_leads v map left q = left_at v.names v.older map left q

pub left_only : (v : TreeState) → v.older ≡ [] → (map : NameMap) → IsCrashMap v map → map ≡ v.names
left_only v none map left = left_one v.names v.older none map left

-- what holds of a name by each map of the list holds by each map that a crash may leave
pub left_each : (P : Option ℕ → Type 0) (v : TreeState) (q : List ℕ) → ((one : NameMap) → IsCurrentOrOlderMap v one → P (one q)) → (map : NameMap) → IsCrashMap v map → P (map q)
left_each P v q each map left =
    let (one, among, same) = left_leads v map left q in
    subst P (sym same) (each one among)

-- ---- the files

pub files_may_be_left : (v : TreeState) (map : NameMap) → IsCrashMap v map → IsCrashImage v (files_under_map v map)
files_may_be_left v map left = (map, left, λ q. may_leave_as_read v.files (map q))

pub read_files_left : (v : TreeState) → IsCrashImage v (files_of v)
read_files_left v = files_may_be_left v v.names (read_may_be_left v)

pub order_outlasts : (depends_on : Files → List ℕ → Type 0) (v : TreeState) → IsDurable depends_on v
    → (map : NameMap) → IsCrashMap v map → (image : Files) → IsCrashImageUnderMap v map image
    → (q : List ℕ) → depends_on (files_under_map v map) q → image q ≡ files_under_map v map q
order_outlasts depends_on v order map left image by q rests =
    left_as_read v.files (map q) (image q) (λ k is. order.each map left q k rests is) (by q)

pub order_weaker : (more fewer : Files → List ℕ → Type 0) (v : TreeState) → ((files : Files) (q : List ℕ) → fewer files q → more files q) → IsDurable more v → IsDurable fewer v
order_weaker more fewer v up order = record { each = λ map left q n rests at. order.each map left q n (up (files_under_map v map) q rests) at }

-- ---- after a crash

module _ (v w : TreeState) (crash : IsAfterCrash v w) where
  all_synced : (map : NameMap) → IsCrashMap w map → (q : List ℕ) (n : ℕ) → map q ≡ Some n → (w.files n).synced ≡ true
  all_synced map left q n is = crash.synced q n (sym (ap (λ (m : NameMap). m q) (left_only w crash.one_map map left)) ∙ is)

  pub second_crash_same : (image : Files) → IsCrashImage w image → (q : List ℕ) → image q ≡ files_of w q
  second_crash_same image (map, left, by) q =
      left_as_read w.files (map q) (image q) (λ k is. all_synced map left q k is) (by q)
      ∙ ap (λ (m : NameMap). bytes_of_file_number w.files (m q)) (left_only w crash.one_map map left)

  pub crash_in_order : (depends_on : Files → List ℕ → Type 0) → IsDurable depends_on w
  crash_in_order depends_on = record { each = λ map left q n rests is. all_synced map left q n is }

-- ---- a crash that undoes only the last changes is a case

pub image_is_left : (v : TreeState) (image : Files) → IsCrashImageIfUndoneNewestFirst v image → IsCrashImage v image
image_is_left v image (map, among, by) = (map, map_may_be_left v map among, by)

pub crash_is_one : (v w : TreeState) → IsAfterCrashIfUndoneNewestFirst v w → IsAfterCrash v w
crash_is_one v w crash = record { left = image_is_left v (files_of w) crash.left; one_map = crash.one_map; synced = crash.synced }

pub order_is_orderly : (depends_on : Files → List ℕ → Type 0) (v : TreeState) → IsDurable depends_on v → IsDurableIfUndoneNewestFirst depends_on v
order_is_orderly depends_on v order = record { each = λ map among q n rests at. order.each map (map_may_be_left v map among) q n rests at }
