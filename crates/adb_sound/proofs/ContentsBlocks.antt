-- Blocks that hold the contents of the files that are expected fail no test.
use Rattle.std.proofs.Common.{◌≡◌, ℕ, ◌^◌, ◌<◌, true, false, eqb, ltb, List, [], ◌∷◌, length, Option, Some, None, Result, Ok, Err, refl, ap, sym, subst, ◌∙◌, arith}
use Rattle.std.specs.Prelude.{map}
use Rattle.std.proofs.lemmas.Bool.{le-ltb, eq-eqb, and_from}
use Rattle.std.proofs.lemmas.Nat.{from_le_bytes-to_le_bytes_4}
use Rattle.base_core.specs.declared.cause.Cause.{Cause}
use Rattle.adb_block.specs.BlockWithoutOffset.{BlockWithoutOffset}
use Rattle.adb_block.specs.Reading.{Reading, done, fault, more}
use Rattle.adb_block.specs.AllBlocks.{with_block, blocks_of_stream}
use Rattle.adb_block.specs.Container.{CanBlocksBeWrittenAfter}
use Rattle.adb_block.specs.declared.block.BlockKind.TheVariants as Kinds
use Rattle.pkg_core.specs.adb_schema.Soundness.{folder_and_file_positions_from_payload}
use Rattle.pkg_core.specs.Contents.{ExpectedFile, Contents, contents_from_block_payload, contents_block_fault_at_offset, contents_fault, fault_of_files_read, contents_fault_for_expected_file, files_read_from_blocks, has_positions_of, files_or_fault_alone, with_contents_of_next}
use Rattle.pkg_core.specs.GoodContents.{MatchesExpectedSizeAndKnownDigest, MatchEachExpectedSizeAndKnownDigest}
use Rattle.adb_sound.specs.Container.{contents_payload, block_of_contents}
use Rattle.adb_sound.proofs.LaidSizes.{AreShort}
use Rattle.adb_sound.proofs.Positions.{AreBelow}

-- ---- a reading that gives these blocks

pub record IsFirstOf (r : Reading) (b : BlockWithoutOffset) (bs : List BlockWithoutOffset) : Type 0 where
  pub at : ℕ
  pub later : Reading
  pub is : r ≡ more b at later
  pub others : blocks_of_stream later ≡ Ok bs

in_front_is : (c b : BlockWithoutOffset) (bs : List BlockWithoutOffset) (o : Result (List BlockWithoutOffset) Cause) → with_block c o ≡ Ok (b ∷ bs) → (c ≡ b) × (o ≡ Ok bs)
in_front_is c b bs (Ok cs) e = (cc, cc)
in_front_is c b bs (Err f) e = absurd cc

in_front_some : (c : BlockWithoutOffset) (o : Result (List BlockWithoutOffset) Cause) → with_block c o ≡ Ok [] → ⊥
in_front_some c (Ok cs) e = cc
in_front_some c (Err f) e = cc

pub first_of : (r : Reading) (b : BlockWithoutOffset) (bs : List BlockWithoutOffset) → blocks_of_stream r ≡ Ok (b ∷ bs) → IsFirstOf r b bs
first_of done b bs e = absurd cc
first_of (fault c) b bs e = absurd cc
first_of (more c at r) b bs e =
    let p = in_front_is c b bs (blocks_of_stream r) e in
    record { at = at; later = r; is = ap (λ (d : BlockWithoutOffset). more d at r) p.0; others = p.1 }

pub none_of_blocks : (r : Reading) → blocks_of_stream r ≡ Ok [] → r ≡ done
none_of_blocks done e = refl
none_of_blocks (fault c) e = absurd cc
none_of_blocks (more c at r) e = absurd (in_front_some c (blocks_of_stream r) e)

-- ---- a block of contents

pair_again : (c : Contents) → c.folder < 2 ^ 32 → c.file < 2 ^ 32 → ((folder_and_file_positions_from_payload (contents_payload c)).0 ≡ c.folder) × ((folder_and_file_positions_from_payload (contents_payload c)).1 ≡ c.file)
pair_again c a b = (from_le_bytes-to_le_bytes_4 c.folder a, from_le_bytes-to_le_bytes_4 c.file b)

bytes_again : (c : Contents) → contents_from_block_payload (contents_payload c) ≡ c.bytes
bytes_again c = refl

file_good : (c : Contents) (e : ExpectedFile) → e.folder < 2 ^ 32 → e.file < 2 ^ 32 → MatchesExpectedSizeAndKnownDigest e c → contents_fault_for_expected_file (contents_payload c) e ≡ None
file_good c e a b is =
    let folder = is.folder in
    let file = is.file in
    let size = is.size in
    let pair = pair_again c (omega arith) (omega arith) in
    let one : has_positions_of (contents_payload c) e ≡ true = and_from _ _ (eq-eqb _ _ (pair.0 ∙ folder)) (eq-eqb _ _ (pair.1 ∙ file)) in
    let two : eqb (length (contents_from_block_payload (contents_payload c))) e.size ≡ true = eq-eqb _ _ size in
    rw (one, two) is.hash

pub block_good : (c : Contents) (at : ℕ) (e : ExpectedFile) (es : List ExpectedFile) → e.folder < 2 ^ 32 → e.file < 2 ^ 32 → MatchesExpectedSizeAndKnownDigest e c → contents_block_fault_at_offset (contents_payload c) at (e ∷ es) ≡ None
block_good c at e es a b is =
    let t : ltb (length (contents_payload c)) 8 ≡ false = le-ltb _ _ (omega arith) in
    rw t (file_good c e a b is)

-- ---- all of them

pub blocks_good : (es : List ExpectedFile) (cs : List Contents) (r : Reading) → blocks_of_stream r ≡ Ok (map block_of_contents cs) → AreBelow (2 ^ 32) es → MatchEachExpectedSizeAndKnownDigest es cs → contents_fault es r ≡ None
unfolding files_read_from_blocks
blocks_good [] [] r p small all = subst (λ (q : Reading). contents_fault [] q ≡ None) (sym (none_of_blocks r p)) refl
blocks_good [] (c ∷ cs) r p small all = absurd all
blocks_good (e ∷ es) [] r p small all = absurd all
blocks_good (e ∷ es) (c ∷ cs) r p small all =
    let first = first_of r (block_of_contents c) (map block_of_contents cs) p in
    let good = block_good c first.at e es small.0 small.1 all.0 in
    subst (λ (q : Reading). contents_fault (e ∷ es) q ≡ None) (sym first.is)
    (ap (λ (o : Option Cause). fault_of_files_read (files_or_fault_alone o (with_contents_of_next (contents_payload c) (λ left. files_read_from_blocks left first.later) (e ∷ es)))) good ∙ blocks_good es cs first.later first.others small.2 all.1)

-- and they may follow the value
more_contents : (cs : List Contents) → AreShort cs → CanBlocksBeWrittenAfter (Some Kinds.Contents) (map block_of_contents cs)
more_contents [] short = tt
more_contents (c ∷ cs) short = (record { order = refl; long = omega arith }, omega (arith, short.0), more_contents cs short.1)

pub contents_stand : (cs : List Contents) → AreShort cs → CanBlocksBeWrittenAfter (Some Kinds.Adb) (map block_of_contents cs)
contents_stand [] short = tt
contents_stand (c ∷ cs) short = (record { order = refl; long = omega arith }, omega (arith, short.0), more_contents cs short.1)
