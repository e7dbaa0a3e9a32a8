-- Places in bytes that contain versions, and when one place leads to another. Serves the proof of
-- `OverlappingVersions` (its row in the README of this crate); what a version is is defined in
-- `docs/formats.md`, "Versions".
use Rattle.std.specs.Prelude.{◌≡◌, ℕ, ◌<◌, ◌≤◌, Bool, if◌then◌else◌, List, slice_range, Some}
use Rattle.version_core.specs.Order.{has_no_stray_token, tokens_after_class_skipping_bytes}
use Rattle.version_core.specs.Reading.{is_hash, unread_len}
use Rattle.version_core.specs.Token.{Lexeme}
use Rattle.version_core.specs.declared.overlapping.Place.{Place}

-- how many bytes of a token are skipped at first, given its lexeme: all bytes, but of a hash only its mark and one
-- digit
abbrev pub passed_len : Lexeme → ℕ
passed_len found = if is_hash found.token.class then 2 else found.width

-- whether the text `rest` may be what follows this place in a version. The place has the class of the token before it,
-- and may be between the digits of a hash
abbrev pub is_valid_version_rest : Place → List ℕ → Bool
is_valid_version_rest place rest =
    has_no_stray_token (tokens_after_class_skipping_bytes (Some place.class)
    (unread_len (Some place.class) rest) rest)

-- whether the bytes between this place and the offset `end` may be the rest of a version
abbrev pub can_rest_follow_place : List ℕ → Place → ℕ → Bool
can_rest_follow_place bytes place end = is_valid_version_rest place (slice_range bytes place.at end)

-- a reader of a version may skip from the place `from` to the place `to`: for each end at or after `to`, the bytes
-- after `from` may be the rest of a version exactly if the bytes after `to` may be
pub record IsSafeSkip (bytes : List ℕ) (from to : Place) : Type 0 where
  -- the second place is not before the first
  pub forth : from.at ≤ to.at
  -- for each end at or after the second place, the rest is allowed after both places or after neither
  pub same : (end : ℕ) → to.at ≤ end → can_rest_follow_place bytes from end
      ≡ can_rest_follow_place bytes to end

-- a reader of a version that ends at the offset `end` may go on from the place `from` to the place `to`. So may a
-- reader of any version with another end, unless `to` is this end, which may be within a token of the other version
pub record IsNextPlace (bytes : List ℕ) (end : ℕ) (from to : Place) : Type 0 where
  -- the second place is after the first
  pub forth : from.at < to.at
  -- the second place is not after the version's end
  pub within : to.at ≤ end
  -- the rest of a version can follow at the one place exactly if it can at the other
  pub same : can_rest_follow_place bytes from end ≡ can_rest_follow_place bytes to end
  -- unless the second place is the end, a reader may skip to it whatever the end is
  pub leads : to.at < end → IsSafeSkip bytes from to
