-- Which bytes are as they are listed, case by case.
use Rattle.std.proofs.Common.{◌≡◌, ℕ, ◌==◌, true, false, List, [], ◌∷◌, ◌++◌, length, drop, refl, ap, ◌∙◌, Some}
use Rattle.std.specs.Prelude.{codes, is_none}
use Rattle.std.specs.Str.{bytes_eq}
use Rattle.pkg_core.specs.Contents.{fault_if_digest_is_not_of_bytes}
use Rattle.adb_view.specs.Plain.{Plain}
use Rattle.file_guard.specs.AsListed.{file_hash, file_size, is_as_listed, is_as_listed_by_size_hash_target}
use Rattle.file_guard.specs.Listed.{DescribesEntry, is_as_described}
use Rattle.file_guard.specs.declared.compare.ListedFile.{ListedFile}
use Rattle.file_guard.proofs.Due.{not_zero}

pub told_link : (size : ℕ) (hash target bytes : List ℕ) → (length target == 0) ≡ false → is_as_listed_by_size_hash_target size hash target bytes ≡ bytes_eq bytes (codes "!<symlink>" ++ drop 2 target)
unfolding is_as_listed_by_size_hash_target
told_link size hash target bytes link = rw link refl

pub told_hash : (size : ℕ) (hash target bytes : List ℕ) → (length target == 0) ≡ true → (length hash == 0) ≡ false → is_as_listed_by_size_hash_target size hash target bytes ≡ is_none (fault_if_digest_is_not_of_bytes hash bytes)
unfolding is_as_listed_by_size_hash_target
told_hash size hash target bytes no_link hashed = rw (no_link, hashed) refl

no_bytes : (bytes : List ℕ) → (length bytes == 0) ≡ bytes_eq bytes []
no_bytes [] = refl
no_bytes (b ∷ bytes) = not_zero (length bytes)

pub told_empty : (size : ℕ) (hash target bytes : List ℕ) → (length target == 0) ≡ true → (length hash == 0) ≡ true → (size == 0) ≡ true → is_as_listed_by_size_hash_target size hash target bytes ≡ bytes_eq bytes []
unfolding is_as_listed_by_size_hash_target
told_empty size hash target bytes no_link no_hash empty = rw (no_link, no_hash, empty) (no_bytes bytes)

pub told_never : (size : ℕ) (hash target bytes : List ℕ) → (length target == 0) ≡ true → (length hash == 0) ≡ true → (size == 0) ≡ false → is_as_listed_by_size_hash_target size hash target bytes ≡ false
unfolding is_as_listed_by_size_hash_target
told_never size hash target bytes no_link no_hash full = rw (no_link, no_hash, full) refl

-- what a `ListedFile` says of bytes its entry says
pub told_as_listed : (listed : ListedFile) (entry : Plain) (bytes : List ℕ) → DescribesEntry listed entry → is_as_described (Some listed) bytes ≡ is_as_listed entry bytes
told_as_listed listed entry bytes is =
    ap (λ (n : ℕ). is_as_listed_by_size_hash_target n listed.hash.now listed.target.now bytes) is.size
    ∙ (ap (λ (xs : List ℕ). is_as_listed_by_size_hash_target (file_size entry) xs listed.target.now bytes) is.hash
    ∙ ap (λ (xs : List ℕ). is_as_listed_by_size_hash_target (file_size entry) (file_hash entry) xs bytes) is.target)
