-- What the entry of a file says of its bytes.
use Rattle.std.proofs.Common.{◌≡◌, ◌≢◌, ◌↔◌, ◌∙◌, ℕ, Bool, true, false, List, [], ◌∷◌, length, Option, None, refl, sym, true≢false, arith}
use Rattle.std.specs.Prelude.{◌==◌, ◌&&◌, if◌then◌else◌, bytes_eq, is_none}
use Rattle.std.proofs.lemmas.Bool.{and_from, and_parts, eq-eqb, eqb-true, eqb-false, ne_eqb}
use Rattle.std.proofs.lemmas.Slice.Eq.{bytes_eq-Decides}
use Rattle.sha1.specs.Sha1.{sha1}
use Rattle.sha2.specs.Sha256.{sha256}
use Rattle.sha2.specs.Sha512.{sha512}
use Rattle.base_core.specs.declared.cause.Cause.{Cause}
use Rattle.base_core.specs.declared.cause.Digest.{Digest}
use Rattle.base_core.specs.declared.cause.Digest.TheVariants.{Sha1, Sha256, Sha512}
use Rattle.adb_view.specs.Plain.{Plain}
use Rattle.audit_core.specs.file_guard.AsListed.{are_sizes_hashes_targets_equal, file_hash, file_size, file_target, is_as_listed, is_as_listed_by_size_hash_target, link_file_bytes_of_target}
use Rattle.audit_core.specs.file_guard.pkg_core.Contents.{fault_if_wanted_and_found_digests_differ, fault_if_digest_is_not_of_bytes}
use Rattle.definition_laws.specs.answers.EntryFields.{GiveSameSizeDigestAndTarget, HasDigestIfLengthIsKnown, MakesBytesAsTargetAfterSymlinkMark, digest_field_of_entry, size_field_of_entry, target_field_of_entry}

-- ---- two entries

pub entries_agree : (a b : Plain) → (are_sizes_hashes_targets_equal a b ≡ true) ↔ GiveSameSizeDigestAndTarget a b
unfolding are_sizes_hashes_targets_equal
entries_agree a b = (
  λ e.
      let one = and_parts (file_size a == file_size b) (bytes_eq (file_hash a) (file_hash b) && bytes_eq (file_target a) (file_target b)) e in
      let two = and_parts (bytes_eq (file_hash a) (file_hash b)) (bytes_eq (file_target a) (file_target b)) one.1 in
      record {
        size = eqb-true (file_size a) (file_size b) one.0;
        digest = (bytes_eq-Decides (file_hash a) (file_hash b)).0 two.0;
        target = (bytes_eq-Decides (file_target a) (file_target b)).0 two.1;
      },
  λ g.
      and_from (file_size a == file_size b) (bytes_eq (file_hash a) (file_hash b) && bytes_eq (file_target a) (file_target b)) (eq-eqb (file_size a) (file_size b) g.size)
      (and_from (bytes_eq (file_hash a) (file_hash b)) (bytes_eq (file_target a) (file_target b)) ((bytes_eq-Decides (file_hash a) (file_hash b)).1 g.digest)
      ((bytes_eq-Decides (file_target a) (file_target b)).1 g.target)),
)

-- ---- a link

link_by : (size : ℕ) (hash target bytes : List ℕ) → target ≢ [] → (is_as_listed_by_size_hash_target size hash target bytes ≡ true) ↔ MakesBytesAsTargetAfterSymlinkMark target bytes
unfolding is_as_listed_by_size_hash_target
link_by size hash [] bytes some = absurd (some refl)
link_by size hash (x ∷ target) bytes some = rw (ne_eqb (length (x ∷ target)) 0 (λ e. omega arith)) (bytes_eq-Decides bytes (link_file_bytes_of_target (x ∷ target)))

-- ---- a digest

-- the fault of a digest by some function is absent exactly if the digest is the wanted one
no_fault : (as_digest : List ℕ → Digest) (wanted found : List ℕ) → (is_none (fault_if_wanted_and_found_digests_differ as_digest wanted found) ≡ true) ↔ (wanted ≡ found)
no_fault as_digest wanted found = go (bytes_eq wanted found) refl
  where
    go : (b : Bool) → bytes_eq wanted found ≡ b → (is_none (fault_if_wanted_and_found_digests_differ as_digest wanted found) ≡ true) ↔ (wanted ≡ found)
    go true is = (λ e. (bytes_eq-Decides wanted found).0 is, λ same. rw is refl)
    go false is = (λ e. absurd (true≢false (sym (rw is at e))), λ same. absurd (true≢false (sym ((bytes_eq-Decides wanted found).1 same) ∙ is)))

of_20_bytes : (hash bytes : List ℕ) → length hash ≡ 20 → (hash ≡ sha1 bytes) ↔ HasDigestIfLengthIsKnown hash bytes
of_20_bytes hash bytes long = (
  λ is. record { of_20_bytes = λ e. is; of_32_bytes = λ e. absurd (omega arith); of_64_bytes = λ e. absurd (omega arith) },
  λ h. h.of_20_bytes long,
)

of_32_bytes : (hash bytes : List ℕ) → length hash ≡ 32 → (hash ≡ sha256 bytes) ↔ HasDigestIfLengthIsKnown hash bytes
of_32_bytes hash bytes long = (
  λ is. record { of_20_bytes = λ e. absurd (omega arith); of_32_bytes = λ e. is; of_64_bytes = λ e. absurd (omega arith) },
  λ h. h.of_32_bytes long,
)

of_64_bytes : (hash bytes : List ℕ) → length hash ≡ 64 → (hash ≡ sha512 bytes) ↔ HasDigestIfLengthIsKnown hash bytes
of_64_bytes hash bytes long = (
  λ is. record { of_20_bytes = λ e. absurd (omega arith); of_32_bytes = λ e. absurd (omega arith); of_64_bytes = λ e. is },
  λ h. h.of_64_bytes long,
)

both_ways : {P Q R : Type 0} → P ↔ Q → Q ↔ R → P ↔ R
both_ways one two = (λ p. two.0 (one.0 p), λ r. one.1 (two.1 r))

abbrev fault_by : List ℕ → List ℕ → Bool → Bool → Bool → Option Cause
fault_by hash bytes b20 b32 b64 =
    if b20 then fault_if_wanted_and_found_digests_differ Sha1 hash (sha1 bytes)
    else if b32 then fault_if_wanted_and_found_digests_differ Sha256 hash (sha256 bytes)
    else if b64 then fault_if_wanted_and_found_digests_differ Sha512 hash (sha512 bytes)
    else None

digest_by : (hash bytes : List ℕ) → (is_none (fault_if_digest_is_not_of_bytes hash bytes) ≡ true) ↔ HasDigestIfLengthIsKnown hash bytes
unfolding fault_if_digest_is_not_of_bytes
digest_by hash bytes = go (length hash == 20) (length hash == 32) (length hash == 64) refl refl refl
  where
    go : (b20 b32 b64 : Bool) → (length hash == 20) ≡ b20 → (length hash == 32) ≡ b32 → (length hash == 64) ≡ b64 → (is_none (fault_by hash bytes b20 b32 b64) ≡ true) ↔ HasDigestIfLengthIsKnown hash bytes
    go true b32 b64 is is32 is64 = both_ways (no_fault Sha1 hash (sha1 bytes)) (of_20_bytes hash bytes (eqb-true (length hash) 20 is))
    go false true b64 is is32 is64 = both_ways (no_fault Sha256 hash (sha256 bytes)) (of_32_bytes hash bytes (eqb-true (length hash) 32 is32))
    go false false true is is32 is64 = both_ways (no_fault Sha512 hash (sha512 bytes)) (of_64_bytes hash bytes (eqb-true (length hash) 64 is64))
    go false false false is is32 is64 = (
      λ e. record {
        of_20_bytes = λ l. absurd (eqb-false (length hash) 20 is l);
        of_32_bytes = λ l. absurd (eqb-false (length hash) 32 is32 l);
        of_64_bytes = λ l. absurd (eqb-false (length hash) 64 is64 l);
      },
      λ h. refl,
    )

hashed_by : (size : ℕ) (hash target bytes : List ℕ) → target ≡ [] → hash ≢ [] → (is_as_listed_by_size_hash_target size hash target bytes ≡ true) ↔ HasDigestIfLengthIsKnown hash bytes
unfolding is_as_listed_by_size_hash_target
hashed_by size [] target bytes none some = absurd (some refl)
hashed_by size (x ∷ hash) target bytes none some = rw (none, ne_eqb (length (x ∷ hash)) 0 (λ e. omega arith)) (digest_by (x ∷ hash) bytes)

-- ---- neither

no_bytes : (bytes : List ℕ) → ((length bytes == 0) ≡ true) ↔ (bytes ≡ [])
no_bytes [] = (λ e. refl, λ e. refl)
no_bytes (x ∷ bytes) = (λ e. absurd (omega (arith, eqb-true (length (x ∷ bytes)) 0 e)), λ e. absurd (cc))

neither_by : (size : ℕ) (hash target bytes : List ℕ) → target ≡ [] → hash ≡ [] → (is_as_listed_by_size_hash_target size hash target bytes ≡ true) ↔ ((size ≡ 0) × (bytes ≡ []))
unfolding is_as_listed_by_size_hash_target
neither_by size hash target bytes none none_too = rw (none, none_too) (
  λ e.
      let both = and_parts (size == 0) (length bytes == 0) e in
      (eqb-true size 0 both.0, (no_bytes bytes).0 both.1),
  λ (is, are). and_from (size == 0) (length bytes == 0) (eq-eqb size 0 is) ((no_bytes bytes).1 are),
)

-- ---- of an entry

pub link : (entry : Plain) (bytes : List ℕ) → target_field_of_entry entry ≢ [] → (is_as_listed entry bytes ≡ true) ↔ MakesBytesAsTargetAfterSymlinkMark (target_field_of_entry entry) bytes
link entry bytes = link_by (file_size entry) (file_hash entry) (file_target entry) bytes

pub hashed : (entry : Plain) (bytes : List ℕ) → target_field_of_entry entry ≡ [] → digest_field_of_entry entry ≢ [] → (is_as_listed entry bytes ≡ true) ↔ HasDigestIfLengthIsKnown (digest_field_of_entry entry) bytes
hashed entry bytes = hashed_by (file_size entry) (file_hash entry) (file_target entry) bytes

pub neither : (entry : Plain) (bytes : List ℕ) → target_field_of_entry entry ≡ [] → digest_field_of_entry entry ≡ [] → (is_as_listed entry bytes ≡ true) ↔ ((size_field_of_entry entry ≡ 0) × (bytes ≡ []))
neither entry bytes = neither_by (file_size entry) (file_hash entry) (file_target entry) bytes
