-- The contents of files if no test fails. The rules are in `docs/formats.md`, "The other blocks".
-- Serves the laws `good_blocks_give_the_contents_of_each_file` and
-- `a_package_has_the_contents_of_its_files`.
use Rattle.std.specs.Prelude.{◌≡◌, ◌⊎◌, ℕ, true, List, [], ◌∷◌, length, None}
use Rattle.sha1.specs.Sha1.{sha1}
use Rattle.sha2.specs.Sha256.{sha256}
use Rattle.sha2.specs.Sha512.{sha512}
use Rattle.adb_schema.specs.Rules.{is_digest_length}
use Rattle.pkg_core.specs.Contents.{Contents, ExpectedFile, fault_if_digest_is_not_of_bytes}

-- the contents are those of the expected file: they have its positions, its size and its digest
pub record MatchesExpectedSizeAndKnownDigest (e : ExpectedFile) (contents : Contents) : Type 0 where
  -- the position of the file's folder
  pub folder : contents.folder ≡ e.folder
  -- the position of the file in the folder
  pub file : contents.file ≡ e.file
  -- the size of the file
  pub size : length contents.bytes ≡ e.size
  -- the digest of the file: it is equal to the computed one, unless its length is that of none of the
  -- three functions
  pub hash : fault_if_digest_is_not_of_bytes e.hash contents.bytes ≡ None

-- there are contents for each expected file, in order, and no others
abbrev pub MatchEachExpectedSizeAndKnownDigest : List ExpectedFile → List Contents → Type 0
MatchEachExpectedSizeAndKnownDigest [] [] = Unit {0}
MatchEachExpectedSizeAndKnownDigest [] (contents ∷ others) = ⊥
MatchEachExpectedSizeAndKnownDigest (e ∷ es) [] = ⊥
MatchEachExpectedSizeAndKnownDigest (e ∷ es) (contents ∷ others) =
    MatchesExpectedSizeAndKnownDigest e contents × MatchEachExpectedSizeAndKnownDigest es others

-- ---- if the values of the package are good

-- `hash` is the digest of the bytes by SHA-1, SHA-256 or SHA-512
abbrev pub IsDigestOf : List ℕ → List ℕ → Type 0
IsDigestOf hash bytes = (hash ≡ sha1 bytes) ⊎ ((hash ≡ sha256 bytes) ⊎ (hash ≡ sha512 bytes))

-- the contents have the positions and the size of the expected file, and its digest by one of the three
-- functions
pub record MatchesExpected (e : ExpectedFile) (contents : Contents) : Type 0 where
  -- the position of the file's folder
  pub folder : contents.folder ≡ e.folder
  -- the position of the file in the folder
  pub file : contents.file ≡ e.file
  -- the size of the file
  pub size : length contents.bytes ≡ e.size
  -- the digest of the file, by SHA-1, SHA-256 or SHA-512
  pub digest : IsDigestOf e.hash contents.bytes

-- there are contents for each expected file, in order, and no others; each has the positions, the size
-- and the digest of its file
abbrev pub MatchEachExpectedSizeAndDigest : List ExpectedFile → List Contents → Type 0
MatchEachExpectedSizeAndDigest [] [] = Unit {0}
MatchEachExpectedSizeAndDigest [] (contents ∷ others) = ⊥
MatchEachExpectedSizeAndDigest (e ∷ es) [] = ⊥
MatchEachExpectedSizeAndDigest (e ∷ es) (contents ∷ others) =
    MatchesExpected e contents × MatchEachExpectedSizeAndDigest es others

-- the digest of each expected file has the length of one of the three functions
abbrev pub HaveValidDigestLengths : List ExpectedFile → Type 0
HaveValidDigestLengths [] = Unit {0}
HaveValidDigestLengths (e ∷ es) = (is_digest_length (length e.hash) ≡ true) × HaveValidDigestLengths es
