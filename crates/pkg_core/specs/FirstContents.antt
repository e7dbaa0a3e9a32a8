-- Which test of the blocks after a package's values fails first: the blocks of contents one by one,
-- then the framing after them, then that no file is left. The rules are in `docs/formats.md`, "The
-- other blocks". Serves the law `the_first_fault_of_contents_is_reported`.
use Rattle.std.specs.Prelude.{◌≡◌, ℕ, ◌<◌, ◌≤◌, List, [], ◌∷◌, length, drop, slice_get, Option, Some, None}
use Rattle.std.specs.Option.{option_or}
use Rattle.std.specs.Result.{result_err}
use Rattle.base_core.specs.declared.cause.Cause.{Cause}
use Rattle.adb_block.specs.AllBlocks.{blocks_of_stream}
use Rattle.adb_block.specs.Reading.{Reading, done, fault, more}
use Rattle.adb_block.specs.declared.block.BlockKind.{BlockKind}
use Rattle.adb_block.specs.declared.block.BlockKind.TheVariants as Kinds
use Rattle.pkg_core.specs.Contents.{ExpectedFile, contents_block_fault_at_offset, missing_contents_fault}

-- a block's payload and its offset
abbrev pub PlacedPayload : Type 0
PlacedPayload = List ℕ × ℕ

-- some blocks, with this block in front of them if it is a block of contents
abbrev pub with_block_if_contents : BlockKind → PlacedPayload → List PlacedPayload → List PlacedPayload
with_block_if_contents Kinds.Contents block blocks = block ∷ blocks
with_block_if_contents kind block blocks = blocks

-- the blocks of contents among the blocks that are read, in order
abbrev pub blocks_of_contents : Reading → List PlacedPayload
blocks_of_contents done = []
blocks_of_contents (fault c) = []
blocks_of_contents (more b at r) = with_block_if_contents b.kind (b.payload, at) (blocks_of_contents r)

-- the fault of one test. A block is tested against the first of the files that are still expected (`es`).
-- After the last block, the fault of the framing (`framing`) is first, if there is one, and then that a
-- file is left
abbrev pub contents_test_fault : Option Cause → List ExpectedFile → Option PlacedPayload → Option Cause
contents_test_fault framing es (Some block) = contents_block_fault_at_offset block.0 block.1 es
contents_test_fault framing es None = option_or framing (missing_contents_fault es)

-- the test with the number `k`, counted from 0: the block of contents `k` against the expected file `k`
abbrev pub contents_test_fault_at : List ExpectedFile → Reading → ℕ → Option Cause
contents_test_fault_at es r k =
    contents_test_fault (result_err (blocks_of_stream r)) (drop k es) (slice_get (blocks_of_contents r) k)

-- one of the tests of the blocks fails with the fault `c`, and no test before it fails
pub record IsFirstContentsFault (es : List ExpectedFile) (r : Reading) (c : Cause) : Type 0 where
  -- the number of the test that fails, counted from 0
  pub k : ℕ
  -- there is a test for each block, and one more after the last block
  pub reached : k ≤ length (blocks_of_contents r)
  -- this test fails with the fault
  pub fault : contents_test_fault_at es r k ≡ Some c
  -- each earlier test passes
  pub before : (j : ℕ) → j < k → contents_test_fault_at es r j ≡ None
