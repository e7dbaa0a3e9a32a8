-- The owner of a file or a folder, and its mode: `uid:gid:mode`.
-- The rules are in `docs/formats.md`, "Text database of version 2", the rows M and a and the paragraph
-- after the table.
use Rattle.std.specs.Prelude.{ℕ, ◌^◌, ◌==◌, nat_lt, nat_le, Bool, not, ◌&&◌, if◌then◌else◌, List, length, Option, Some, None, option_map}
use Rattle.std.specs.Char.{is_ascii_digit}
use Rattle.std.specs.List.{after_first, before_first, list_all}
use Rattle.std.specs.Str.Parse.{digits_value}
use Rattle.v2_core.specs.declared.access.Access.{Access as AccessSlices}
use Rattle.v2_core.specs.declared.access.TheConstants.{COLON}

-- an access: the owner of a file or a folder, and its mode; the numbers of the user and of the group
-- are kept as texts
pub record Access : Type 0 where
  -- the number of the user, in decimal digits
  pub user : List ℕ
  -- the number of the group, in decimal digits
  pub group : List ℕ
  -- the mode bits
  pub mode : ℕ

-- an access by its parts
abbrev pub access_from_parts : List ℕ → List ℕ → ℕ → Access
access_from_parts user group mode = record { user = user; group = group; mode = mode }

-- the access that a value of the program represents, with texts in place of slices
abbrev pub access_view : AccessSlices → Access
access_view a = access_from_parts a.user.now a.group.now a.mode

-- the text before the first colon; all if there is none
abbrev pub before_colon : List ℕ → List ℕ
before_colon text = before_first (λ b. b == COLON) text

-- the text after the first colon; nothing if there is none
abbrev pub after_colon : List ℕ → List ℕ
after_colon text = after_first (λ b. b == COLON) text

-- whether a text is the number of a user or a group: one or more decimal digits
abbrev pub is_uid_or_gid : List ℕ → Bool
is_uid_or_gid text = not (length text == 0) && list_all is_ascii_digit text

-- whether a byte is an octal digit: `0` (48) to `7` (55)
abbrev pub is_octal_digit : ℕ → Bool
is_octal_digit b = nat_le 48 b && nat_le b 55

-- whether a text is one or more octal digits
abbrev pub is_octal : List ℕ → Bool
is_octal text = not (length text == 0) && list_all is_octal_digit text

-- the number that octal digits encode; None if there are none, or it has more than 64 bits
abbrev pub octal_number : List ℕ → Option ℕ
octal_number digits =
    if is_octal digits && nat_lt (digits_value 8 digits) (2 ^ 64) then Some (digits_value 8 digits)
    else None

-- the owner and mode in a text `uid:gid:mode`; None if the user or the group is no decimal number,
-- or the mode is no octal number below 2^64. Parts after the third are skipped
abbrev pub access_in : List ℕ → Option Access
access_in text =
    let user = before_colon text in
    let group = before_colon (after_colon text) in
    let mode = before_colon (after_colon (after_colon text)) in
    if is_uid_or_gid user && is_uid_or_gid group
    then option_map (access_from_parts user group) (octal_number mode)
    else None
