-- Rows that are worked by hand: bytes against an entry, and two entries.
use Rattle.std.proofs.Common.{◌≡◌, ℕ, List, [], codes, refl, true, false}
use Rattle.file_guard.specs.AsListed.{are_sizes_hashes_targets_equal, is_as_listed, is_as_listed_by_size_hash_target}
use Rattle.file_guard.proofs.Sample.{link, plain_file}

abbrev name : List ℕ
name = codes "x"

abbrev digest : List ℕ
digest = codes "01234567890123456789"

-- ---- bytes

empty_file : is_as_listed (plain_file name 0 []) [] ≡ true
unfolding is_as_listed_by_size_hash_target
empty_file = refl

empty_no_more : is_as_listed (plain_file name 0 []) (codes "x") ≡ false
unfolding is_as_listed_by_size_hash_target
empty_no_more = refl

-- a size without a digest tells nothing
size_alone : is_as_listed (plain_file name 3 []) (codes "abc") ≡ false
unfolding is_as_listed_by_size_hash_target
size_alone = refl

size_alone_empty : is_as_listed (plain_file name 3 []) [] ≡ false
unfolding is_as_listed_by_size_hash_target
size_alone_empty = refl

link_text : is_as_listed (link name (codes "y")) (codes "!<symlink>y") ≡ true
unfolding is_as_listed_by_size_hash_target
link_text = refl

link_without_mark : is_as_listed (link name (codes "y")) (codes "y") ≡ false
unfolding is_as_listed_by_size_hash_target
link_without_mark = refl

link_to_other : is_as_listed (link name (codes "y")) (codes "!<symlink>z") ≡ false
unfolding is_as_listed_by_size_hash_target
link_to_other = refl

-- ---- two entries

other_name : are_sizes_hashes_targets_equal (plain_file name 3 digest) (plain_file (codes "y") 3 digest) ≡ true
unfolding are_sizes_hashes_targets_equal
other_name = refl

other_size : are_sizes_hashes_targets_equal (plain_file name 3 digest) (plain_file name 4 digest) ≡ false
unfolding are_sizes_hashes_targets_equal
other_size = refl

other_digest : are_sizes_hashes_targets_equal (plain_file name 3 digest) (plain_file name 3 []) ≡ false
unfolding are_sizes_hashes_targets_equal
other_digest = refl

other_target : are_sizes_hashes_targets_equal (link name (codes "y")) (link name (codes "z")) ≡ false
unfolding are_sizes_hashes_targets_equal
other_target = refl

no_target : are_sizes_hashes_targets_equal (link name (codes "y")) (plain_file name 0 []) ≡ false
unfolding are_sizes_hashes_targets_equal
no_target = refl
