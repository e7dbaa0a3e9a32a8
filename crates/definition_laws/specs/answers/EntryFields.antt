-- What the entry of a file in a package says of the bytes of the file. The rules are in `docs/commands.md`, "What a
-- change does with files", part "Configuration files"; the fields are in `docs/formats.md`, "Schemas", table 4. Serves
-- the laws of `src/entries.rt`.
use Rattle.std.specs.Prelude.{◌≡◌, ℕ, List, ◌++◌, codes, drop, length}
use Rattle.sha1.specs.Sha1.{sha1}
use Rattle.sha2.specs.Sha256.{sha256}
use Rattle.sha2.specs.Sha512.{sha512}
use Rattle.adb_view.specs.Plain.{Plain}
use Rattle.adb_view.specs.Values.{int_in, text_in}
use Rattle.adb_view.specs.declared.tables.Which.TheVariants.{File}
use Rattle.definition_laws.specs.making.NamedFields.{field_named}

-- the size in the entry of a file; 0 if the entry has none
abbrev pub size_field_of_entry : Plain → ℕ
size_field_of_entry entry = int_in (field_named File (codes "size") entry)

-- the digest in the entry of a file; no bytes if the entry has none
abbrev pub digest_field_of_entry : Plain → List ℕ
digest_field_of_entry entry = text_in (field_named File (codes "hashes") entry)

-- the field `target` in the entry of a file; no bytes if the file is no link
abbrev pub target_field_of_entry : Plain → List ℕ
target_field_of_entry entry = text_in (field_named File (codes "target") entry)

-- two entries give the same size, the same digest and the same target
pub record GiveSameSizeDigestAndTarget (a b : Plain) : Type 0 where
  -- both give the same size, or none
  pub size : size_field_of_entry a ≡ size_field_of_entry b
  -- both give the same digest, or none
  pub digest : digest_field_of_entry a ≡ digest_field_of_entry b
  -- both give the same link target, or none
  pub target : target_field_of_entry a ≡ target_field_of_entry b

-- `bytes` are those of a file that represents a link: `!<symlink>`, followed by the field `target` without its first
-- two bytes, which say that the file is a link
abbrev pub MakesBytesAsTargetAfterSymlinkMark : List ℕ → List ℕ → Type 0
MakesBytesAsTargetAfterSymlinkMark target bytes = bytes ≡ codes "!<symlink>" ++ drop 2 target

-- The bytes have this digest. The length of the digest selects the hash function (FIPS 180-4). A digest of another
-- length than these three is not compared with the bytes.
pub record HasDigestIfLengthIsKnown (digest bytes : List ℕ) : Type 0 where
  -- a digest of 20 bytes is the SHA-1 of the bytes
  pub of_20_bytes : length digest ≡ 20 → digest ≡ sha1 bytes
  -- a digest of 32 bytes is the SHA-256 of the bytes
  pub of_32_bytes : length digest ≡ 32 → digest ≡ sha256 bytes
  -- a digest of 64 bytes is the SHA-512 of the bytes
  pub of_64_bytes : length digest ≡ 64 → digest ≡ sha512 bytes
