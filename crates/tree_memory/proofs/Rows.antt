-- The definitions on small trees, worked out by hand.
use Rattle.std.specs.Prelude.{◌≡◌, true, false, [], ◌∷◌, Some, None, codes, length, refl}
use Rattle.base_core.specs.Tree.{TreeState, after_create, after_append, after_sync, after_rename, after_remove, after_sync_names}
use Rattle.tree_memory.specs.Changes.{empty_state, after_put}
use Rattle.tree_memory.specs.Images.{crash_bytes, maps_newest_first, picked_crash_map, crash_map_pick_count_of}
use Rattle.tree_memory.specs.Plans.{FailurePlanFromNextCall, is_next_call_to_fail, has_next_or_later_failure, plan_after_one_call}

-- ---- images: an old file, and a new one that is not synced

two_maps : TreeState
two_maps = after_append (codes "new") (codes "23") (after_create (codes "new") (after_put (codes "old") (codes "1") empty_state))

-- the picked maps: that as read, and the one without the new name
row_as_read : picked_crash_map 0 two_maps (codes "new") ≡ Some 1
unfolding two_maps
row_as_read = refl

row_undone : picked_crash_map 1 two_maps (codes "new") ≡ None
unfolding two_maps
row_undone = refl

row_old : picked_crash_map 1 two_maps (codes "old") ≡ Some 0
unfolding two_maps
row_old = refl

-- what the unsynced file holds
row_bytes : crash_bytes 0 (two_maps.files 1) ≡ codes "23"
unfolding two_maps
row_bytes = refl

row_nothing : crash_bytes 1 (two_maps.files 1) ≡ []
unfolding two_maps
row_nothing = refl

row_ones : crash_bytes 2 (two_maps.files 1) ≡ 255 ∷ 255 ∷ []
unfolding two_maps
row_ones = refl

-- a synced file holds its bytes in each of them
row_synced : crash_bytes 2 ((after_sync (codes "new") two_maps).files 1) ≡ codes "23"
unfolding two_maps
row_synced = refl

-- ---- maps

row_moved : length (maps_newest_first (after_rename (codes "new") (codes "old") two_maps)) ≡ 3
unfolding two_maps
row_moved = refl

row_stayed : length (maps_newest_first (after_remove (codes "x") two_maps)) ≡ 2
unfolding two_maps
row_stayed = refl

row_one : length (maps_newest_first (after_sync_names two_maps)) ≡ 1
unfolding two_maps
row_one = refl

-- ---- picks: the newest change has the lowest digit

two_changes : TreeState
two_changes = after_rename (codes "new") (codes "old") two_maps

-- the rename is undone
row_newest_undone : (picked_crash_map 1 two_changes (codes "new") ≡ Some 1) × (picked_crash_map 1 two_changes (codes "old") ≡ Some 0)
unfolding two_maps two_changes
row_newest_undone = (refl, refl)

-- the rename is kept, without the name that it moved
row_oldest_undone : (picked_crash_map 2 two_changes (codes "new") ≡ None) × (picked_crash_map 2 two_changes (codes "old") ≡ Some 1)
unfolding two_maps two_changes
row_oldest_undone = (refl, refl)

row_count : (crash_map_pick_count_of two_changes ≡ 4) × (crash_map_pick_count_of two_maps ≡ 2)
unfolding two_maps two_changes
row_count = (refl, refl)

-- ---- plans

first_and_third : FailurePlanFromNextCall
first_and_third = record { listed = 3 ∷ (1 ∷ []); stop = None }

row_first : is_next_call_to_fail first_and_third ≡ true
unfolding first_and_third
row_first = refl

row_second : is_next_call_to_fail (plan_after_one_call first_and_third) ≡ false
unfolding first_and_third
row_second = refl

row_third : is_next_call_to_fail (plan_after_one_call (plan_after_one_call first_and_third)) ≡ true
unfolding first_and_third
row_third = refl

row_past : has_next_or_later_failure (plan_after_one_call (plan_after_one_call (plan_after_one_call first_and_third))) ≡ false
unfolding first_and_third
row_past = refl

stopped : FailurePlanFromNextCall
stopped = record { listed = []; stop = Some 1 }

row_one_more : is_next_call_to_fail stopped ≡ false
unfolding stopped
row_one_more = refl

row_stops : is_next_call_to_fail (plan_after_one_call stopped) ≡ true
unfolding stopped
row_stops = refl

row_stays : is_next_call_to_fail (plan_after_one_call (plan_after_one_call (plan_after_one_call stopped))) ≡ true
unfolding stopped
row_stays = refl
