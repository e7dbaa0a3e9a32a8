-- What is known of a file's bytes after some of them were read. It serves the contracts of `Watch` in
-- `src/watch.rt`.
use Rattle.std.specs.Prelude.{◌≡◌, Bool, false, ℕ, List, ◌++◌, bytes_eq, is_none}
use Rattle.pkg_core.specs.Contents.{fault_if_digest_is_not_of_bytes}
use Rattle.pkg_core.specs.Hashing.{HasHashedMessage}
use Rattle.file_guard.specs.declared.watch.Watch.{Watch}
use Rattle.file_guard.specs.declared.watch.Watch.TheVariants.{Never, Exactly, Hashed}

-- What a `Watch` says of the test of the whole file, after the bytes `so_far` were read. The test fails
-- whatever follows (`Never`); it passes exactly if these bytes follow (`Exactly`). Or it passes exactly
-- if all bytes together have this digest (`Hashed`).
abbrev pub IsWatchOfTest : Watch → (List ℕ → Bool) → List ℕ → Type 0
IsWatchOfTest Never test so_far = (further : List ℕ) → test (so_far ++ further) ≡ false
IsWatchOfTest (Exactly first second) test so_far =
    (further : List ℕ) → test (so_far ++ further) ≡ bytes_eq further (first.now ++ second.now)
IsWatchOfTest (Hashed hasher hash) test so_far =
    HasHashedMessage hasher hash.now so_far
    × ((bytes : List ℕ) → test bytes ≡ is_none (fault_if_digest_is_not_of_bytes hash.now bytes))
