-- What the bytes of a file are (apk-package(5)), independent of how they are parsed. The rule is in
-- `docs/commands.md`, "`mkpkg`": "If a file below DIR consists of `!<symlink>` and a UTF-8 text that is
-- not empty, the package has a symbolic link instead of this file". Serves the law
-- `an_entry_describes_the_bytes_of_its_file`.
use Rattle.std.specs.Prelude.{◌≡◌, ◌≢◌, ℕ, true, List, [], ◌++◌, codes}
use Rattle.std.specs.Str.{is_utf8}

-- the bytes of a file are those of a symbolic link: a mark and a text, which is the link's target
pub record IsLinkTo (target bytes : List ℕ) : Type 0 where
  -- the bytes begin with this mark, and the target follows
  pub marked : bytes ≡ codes "!<symlink>" ++ target
  -- the target is not empty
  pub some : target ≢ []
  -- the target is UTF-8 text
  pub utf8 : is_utf8 target ≡ true

-- the bytes of a file are those of no link
abbrev pub AreBytesOfNoLink : List ℕ → Type 0
AreBytesOfNoLink bytes = (target : List ℕ) → IsLinkTo target bytes → ⊥
