-- A package with other contents of one of its files is refused for their digest.
use Rattle.std.proofs.Common.{◌≡◌, ◌⊎◌, inl, inr, ℕ, ◌+◌, ◌≤◌, ◌==◌, ◌&&◌, nat_lt, Bool, true, false, not, cond, codes, List, [], ◌∷◌, ◌++◌, length, take, Option, Some, None, Result, Ok, Err, refl, ap, sym, subst, ◌∙◌, arith, length-append, length-drop, length-take}
use Rattle.std.specs.Prelude.{if◌then◌else◌}
use Rattle.std.specs.List.{find}
use Rattle.std.proofs.lemmas.Bool.{eq-eqb, eqb-true, le-ltb, ltb-false}
use Rattle.std.proofs.lemmas.List.{drop_at, nil_from_length, take_at}
use Rattle.std.proofs.lemmas.Option.{same_Some}
use Rattle.sha1.specs.Sha1.{sha1}
use Rattle.sha2.specs.Sha256.{sha256}
use Rattle.sha2.specs.Sha512.{sha512}
use Rattle.adb_block.specs.AllBlocks.{blocks_of, blocks_of_stream, blocks_from_position, with_block}
use Rattle.adb_block.specs.Container.{IsHead, IsPadding, IsContainerWithBlocks, SpellsBlocks}
use Rattle.adb_block.specs.Header.{schema_of_header}
use Rattle.adb_block.specs.BlockWithoutOffset.{BlockWithoutOffset, least_payload_len}
use Rattle.adb_block.specs.Reading.{Reading, done, fault, more, block_stream_from}
use Rattle.adb_block.specs.PositionBetweenBlocks.{first_block_position_of_schema_and_file}
use Rattle.adb_block.specs.declared.block.BlockKind.{BlockKind}
use Rattle.adb_block.specs.declared.block.BlockKind.TheVariants as Kinds
use Rattle.adb_block.proofs.WholeFiles.{read_is_spelled, spelled_is_read, whole_from}
use Rattle.file_guard.specs.adb_schema.Soundness.{blocks_fault, file_fault_by_header_schema_or_fault, folder_and_file_positions_from_payload, first_block_payload, payload_by_header_schema_or_fault, payload_fault, payload_in, root_value_of_payload, schema_fault}
use Rattle.std.specs.Option.{option_or}
use Rattle.adb_view.specs.declared.tables.Which.TheVariants.{Package}
use Rattle.base_core.specs.declared.cause.Cause.{Cause}
use Rattle.base_core.specs.declared.cause.Cause.TheVariants.{DataOrder, DataSize, HashDiffers, Truncated}
use Rattle.base_core.specs.declared.cause.Digest.{Digest}
use Rattle.base_core.specs.declared.cause.Digest.TheVariants.{Sha1, Sha256, Sha512}
use Rattle.base_core.proofs.Causes.{both_none}
use Rattle.file_guard.proofs.pkg_core.Opened.{pair_alike}
use Rattle.file_guard.specs.pkg_core.Contents.{ExpectedFile, FilesRead, contents_block_fault_at_offset, contents_from_block_payload, contents_of_expected, contents_fault, fault_if_wanted_and_found_digests_differ, expected_files_of_package, fault_of_files_read, files_from_block_at_offset_if_contents, files_read_from_blocks, given, has_positions_of, fault_if_digest_is_not_of_bytes, next_contents_fault, no_more, files_or_fault_alone}
use Rattle.file_guard.specs.pkg_core.Opened.{expected_file_at, is_expected_at}
use Rattle.file_guard.specs.pkg_core.Whole.{fault_of_contents_blocks_by_root_table, package_fault, container_fault_of_table}
use Rattle.file_guard.proofs.pkg_core.Given.{nothing_expected, size_right}
use Rattle.journal_staging.specs.Spoiled.{IsFileWithOnlyContentsSpoiled}

-- ---- one block gets another payload of the same length

abbrev with_payload : BlockWithoutOffset → List ℕ → BlockWithoutOffset
with_payload b payload = record { kind = b.kind; payload = payload }

record AreSpelledIn (last : Option BlockKind) (bytes : List ℕ) (bs : List BlockWithoutOffset) : Type 0 where
  other : List ℕ
  long : length other ≡ length bytes
  spells : SpellsBlocks last other bs

same_padding : (size : ℕ) (pad rest other : List ℕ) → length other ≡ length rest → IsPadding size pad rest → IsPadding size pad other
same_padding size pad rest other same (inl whole) = inl whole
same_padding size pad rest other same (inr (short, none)) = inr (short, nil_from_length other (same ∙ ap length none))

-- four parts in a row
four_parts : (head payload pad rest : List ℕ) → length (head ++ (payload ++ (pad ++ rest))) ≡ length head + (length payload + (length pad + length rest))
four_parts head payload pad rest =
    let a = length-append head (payload ++ (pad ++ rest)) in
    let b = length-append payload (pad ++ rest) in
    let c = length-append pad rest in
    omega (arith, a, b, c)

replaced : (before behind : List BlockWithoutOffset) (b : BlockWithoutOffset) (payload : List ℕ) → length payload ≡ length b.payload → (last : Option BlockKind) (bytes : List ℕ) → SpellsBlocks last bytes (before ++ b ∷ behind) → AreSpelledIn last bytes (before ++ with_payload b payload ∷ behind)
replaced [] behind b payload same last bytes (rest, may, is, further) =
    let old = ap length is.parts ∙ four_parts is.head b.payload is.pad rest in
    let new = four_parts is.head payload is.pad rest in
    record {
      other = is.head ++ (payload ++ (is.pad ++ rest));
      long = omega (arith, old, new, same);
      spells = (
        rest,
        record { order = may.order; long = subst (λ (n : ℕ). least_payload_len b.kind ≤ n) (sym same) may.long },
        record {
          head = is.head;
          pad = is.pad;
          is_head = subst (λ (n : ℕ). IsHead b.kind n is.head) (sym same) is.is_head;
          parts = refl;
          is_pad = subst (λ (n : ℕ). IsPadding (length is.head + n) is.pad rest) (sym same) is.is_pad;
        },
        further,
      );
    }
replaced (a ∷ before) behind b payload same last bytes (rest, may, is, further) =
    let there = replaced before behind b payload same (Some a.kind) rest further in
    let old = ap length is.parts ∙ four_parts is.head a.payload is.pad rest in
    let new = four_parts is.head a.payload is.pad there.other in
    let long = there.long in
    record {
      other = is.head ++ (a.payload ++ (is.pad ++ there.other));
      long = omega (arith, old, new, long);
      spells = (
        there.other,
        may,
        record {
          head = is.head;
          pad = is.pad;
          is_head = is.is_head;
          parts = refl;
          is_pad = same_padding (length is.head + length a.payload) is.pad rest there.other there.long is.is_pad;
        },
        there.spells,
      );
    }

-- the whole file
record IsSpelledAs (file : List ℕ) (schema : ℕ) (bs : List BlockWithoutOffset) : Type 0 where
  other : List ℕ
  long : length other ≡ length file
  spells : IsContainerWithBlocks other schema bs

replaced_in_file : (file : List ℕ) (schema : ℕ) (before behind : List BlockWithoutOffset) (b : BlockWithoutOffset) (payload : List ℕ) → length payload ≡ length b.payload → IsContainerWithBlocks file schema (before ++ b ∷ behind) → IsSpelledAs file schema (before ++ with_payload b payload ∷ behind)
replaced_in_file file schema before behind b payload same s =
    let there = replaced before behind b payload same None s.body s.blocks in
    let old = ap length s.parts ∙ (length-append (codes "ADB.") (s.word ++ s.body) ∙ ap (λ (n : ℕ). length (codes "ADB.") + n) (length-append s.word s.body)) in
    let new = length-append (codes "ADB.") (s.word ++ there.other) ∙ ap (λ (n : ℕ). length (codes "ADB.") + n) (length-append s.word there.other) in
    record {
      other = codes "ADB." ++ (s.word ++ there.other);
      long = new ∙ (ap (λ (n : ℕ). length (codes "ADB.") + (length s.word + n)) there.long ∙ sym old);
      spells = record {
        word = s.word;
        body = there.other;
        parts = refl;
        four = s.four;
        is_schema = s.is_schema;
        blocks = there.spells;
      };
    }

-- ---- what is read of blocks

record BeginsWith (b : BlockWithoutOffset) (bs : List BlockWithoutOffset) (r : Reading) : Type 0 where
  at : ℕ
  further : Reading
  is : r ≡ more b at further
  behind : blocks_of_stream further ≡ Ok bs

begins_with : (b : BlockWithoutOffset) (bs : List BlockWithoutOffset) (r : Reading) → blocks_of_stream r ≡ Ok (b ∷ bs) → BeginsWith b bs r
begins_with b bs done e = absurd (cc (e))
begins_with b bs (fault c) e = absurd (cc (e))
begins_with b bs (more a at r) e = by (blocks_of_stream r) refl e
  where
    by : (o : Result (List BlockWithoutOffset) Cause) → blocks_of_stream r ≡ o → with_block a o ≡ Ok (b ∷ bs) → BeginsWith b bs (more a at r)
    by (Ok others) is e = record {
      at = at;
      further = r;
      is = (let same : a ≡ b = cc in ap (λ (x : BlockWithoutOffset). more x at r) same);
      behind = is ∙ (let same : others ≡ bs = cc in ap (λ (x : List BlockWithoutOffset). Ok x) same);
    }
    by (Err c) is e = absurd (cc (e))

-- ---- tests that pass

second_passes : (o : Option Cause) (files : FilesRead) → fault_of_files_read (files_or_fault_alone o files) ≡ None → (o ≡ None) × (fault_of_files_read files ≡ None)
second_passes None files h = (refl, h)
second_passes (Some c) files h = absurd (cc (h))

is_enough : (few : Bool) (c : Cause) (o : Option Cause) → (if few then Some c else o) ≡ None → (few ≡ false) × (o ≡ None)
is_enough true c o h = absurd (cc (h))
is_enough false c o h = (refl, h)

-- the first block of contents that is due
record PassesBlock (payload : List ℕ) (e : ExpectedFile) : Type 0 where
  enough : nat_lt (length payload) 8 ≡ false
  positions : has_positions_of payload e ≡ true
  size : length (contents_from_block_payload payload) ≡ e.size
  digest : fault_if_digest_is_not_of_bytes e.hash (contents_from_block_payload payload) ≡ None

passes_block : (payload : List ℕ) (at : ℕ) (e : ExpectedFile) (es : List ExpectedFile) → contents_block_fault_at_offset payload at (e ∷ es) ≡ None → PassesBlock payload e
passes_block payload at e es h =
    let (enough, first) = is_enough (nat_lt (length payload) 8) (Truncated at) _ h in
    let (positions, second) = size_right (has_positions_of payload e) (DataOrder (e.folder, e.file) (folder_and_file_positions_from_payload payload)) _ first in
    let (size, digest) = size_right (length (contents_from_block_payload payload) == e.size) (DataSize e.size (length (contents_from_block_payload payload))) _ second in
    record { enough = enough; positions = positions; size = eqb-true (length (contents_from_block_payload payload)) e.size size; digest = digest }

-- and what such a block comes to, wherever it stands
block_comes_to : (payload : List ℕ) (at : ℕ) (e : ExpectedFile) (es : List ExpectedFile) → nat_lt (length payload) 8 ≡ false → has_positions_of payload e ≡ true → length (contents_from_block_payload payload) ≡ e.size → contents_block_fault_at_offset payload at (e ∷ es) ≡ fault_if_digest_is_not_of_bytes e.hash (contents_from_block_payload payload)
block_comes_to payload at e es enough positions size =
    ap (λ (few : Bool). if few then Some (Truncated at) else next_contents_fault payload (e ∷ es)) enough
    ∙ (ap (λ (b : Bool). if not b then Some (DataOrder (e.folder, e.file) (folder_and_file_positions_from_payload payload)) else if not (length (contents_from_block_payload payload) == e.size) then Some (DataSize e.size (length (contents_from_block_payload payload))) else fault_if_digest_is_not_of_bytes e.hash (contents_from_block_payload payload)) positions
    ∙ ap (λ (b : Bool). if not b then Some (DataSize e.size (length (contents_from_block_payload payload))) else fault_if_digest_is_not_of_bytes e.hash (contents_from_block_payload payload)) (eq-eqb (length (contents_from_block_payload payload)) e.size size))

-- ---- the block with the contents of a file

-- other contents for it are refused for their digest, whatever stands behind
record HasContents (e : ExpectedFile) (es : List ExpectedFile) (r : Reading) : Type 0 where
  before : List BlockWithoutOffset
  block : BlockWithoutOffset
  behind : List BlockWithoutOffset
  are : blocks_of_stream r ≡ Ok (before ++ block ∷ behind)
  long : length block.payload ≡ 8 + e.size
  fails : (bytes : List ℕ) (c : Cause) → length bytes ≡ e.size → fault_if_digest_is_not_of_bytes e.hash bytes ≡ Some c
      → (other : Reading) → blocks_of_stream other ≡ Ok (before ++ with_payload block (take 8 block.payload ++ bytes) ∷ behind) → contents_fault es other ≡ Some c

one_before : (e : ExpectedFile) (es left : List ExpectedFile) (b : BlockWithoutOffset) (at : ℕ) (r : Reading) → ((at : ℕ) (r : Reading) → contents_fault es (more b at r) ≡ contents_fault left r) → HasContents e left r → HasContents e es (more b at r)
one_before e es left b at r same h = record {
  before = b ∷ h.before;
  block = h.block;
  behind = h.behind;
  are = ap (with_block b) h.are;
  long = h.long;
  fails = λ bytes c long bad other is.
      let begins = begins_with b (h.before ++ with_payload h.block (take 8 h.block.payload ++ bytes) ∷ h.behind) other is in
      ap (contents_fault es) begins.is ∙ (same begins.at begins.further ∙ h.fails bytes c long bad begins.further begins.behind);
}

-- of blocks that pass all tests
abbrev HasPieces : Reading → Type 0
HasPieces r = (bs : List BlockWithoutOffset) × (blocks_of_stream r ≡ Ok bs)

pieces_after : (b : BlockWithoutOffset) (at : ℕ) (r : Reading) → HasPieces r → HasPieces (more b at r)
pieces_after b at r (bs, is) = (b ∷ bs, ap (with_block b) is)

pieces_at_kind : (kind : BlockKind) (payload : List ℕ) (at : ℕ) (r : Reading) → ((left : List ExpectedFile) → contents_fault left r ≡ None → HasPieces r) → (es : List ExpectedFile) → fault_of_files_read (files_from_block_at_offset_if_contents kind payload at (λ left. files_read_from_blocks left r) es) ≡ None → HasPieces r
pieces_at_kind Kinds.Adb payload at r ih es h = ih es h
pieces_at_kind Kinds.Signature payload at r ih es h = ih es h
pieces_at_kind Kinds.Contents payload at r ih [] h =
    absurd (let first = (is_enough (nat_lt (length payload) 8) (Truncated at) _ (second_passes (contents_block_fault_at_offset payload at []) no_more h).0).1 in cc (first))
pieces_at_kind Kinds.Contents payload at r ih (e ∷ es) h = ih es (second_passes (contents_block_fault_at_offset payload at (e ∷ es)) (given (contents_of_expected payload e) (files_read_from_blocks es r)) h).1

has_pieces : (es : List ExpectedFile) (r : Reading) → contents_fault es r ≡ None → HasPieces r
unfolding files_read_from_blocks
has_pieces es done h = ([], refl)
has_pieces es (fault c) h = absurd (cc (h))
has_pieces es (more b at r) h = pieces_after b at r (pieces_at_kind b.kind b.payload at r (λ left. has_pieces left r) es h)

-- the block at hand is the one
this_block : (e : ExpectedFile) (es : List ExpectedFile) (payload : List ℕ) (at : ℕ) (r : Reading) → PassesBlock payload e → HasPieces r → HasContents e (e ∷ es) (more (record { kind = Kinds.Contents; payload = payload }) at r)
unfolding files_read_from_blocks
this_block e es payload at r passes (behind, are) =
    let b : BlockWithoutOffset = record { kind = Kinds.Contents; payload = payload } in
    let enough = ltb-false (length payload) 8 passes.enough in
    let size = passes.size in
    let rest = length-drop 8 payload in
    let long : length payload ≡ 8 + e.size = omega (arith, enough, size, rest) in
    record {
      before = [];
      block = b;
      behind = behind;
      are = ap (with_block b) are;
      long = long;
      fails = λ bytes c same bad other is.
          let eight : length (take 8 payload) ≡ 8 = omega (arith, length-take 8 payload, enough) in
          let own : List ℕ = take 8 payload ++ bytes in
          let all = length-append (take 8 payload) bytes in
          let bytes_are : contents_from_block_payload own ≡ bytes = drop_at (take 8 payload) bytes 8 eight in
          let front : take 8 own ≡ take 8 payload = take_at (take 8 payload) bytes 8 eight in
          let begins = begins_with (record { kind = Kinds.Contents; payload = own }) behind other is in
          let positions : has_positions_of own e ≡ true = ap (λ (p : ℕ × ℕ). ((p.0 == e.folder) && (p.1 == e.file))) (pair_alike own (take 8 payload) front ∙ sym (pair_alike payload (take 8 payload) refl)) ∙ passes.positions in
          let told : contents_block_fault_at_offset own begins.at (e ∷ es) ≡ Some c =
          block_comes_to own begins.at e es (le-ltb _ _ (omega (arith, all, eight))) positions (ap length bytes_are ∙ same) ∙ (ap (fault_if_digest_is_not_of_bytes e.hash) bytes_are ∙ bad) in
          ap (contents_fault (e ∷ es)) begins.is
          ∙ ap (λ (o : Option Cause). fault_of_files_read (files_or_fault_alone o (given (contents_of_expected own e) (files_read_from_blocks es begins.further)))) told;
    }

-- a block of contents of another file
passed_block : (x : ExpectedFile) (xs : List ExpectedFile) (payload : List ℕ) → PassesBlock payload x → (at : ℕ) (r : Reading) → contents_fault (x ∷ xs) (more (record { kind = Kinds.Contents; payload = payload }) at r) ≡ contents_fault xs r
unfolding files_read_from_blocks
passed_block x xs payload passes at r =
    ap (λ (o : Option Cause). fault_of_files_read (files_or_fault_alone o (given (contents_of_expected payload x) (files_read_from_blocks xs r)))) (block_comes_to payload at x xs passes.enough passes.positions passes.size ∙ passes.digest)

abbrev Finds : ℕ → ℕ → ExpectedFile → Reading → Type 0
Finds folder file e r = (left : List ExpectedFile) → contents_fault left r ≡ None → expected_file_at folder file left ≡ Some e → HasContents e left r

at_adb : (folder file : ℕ) (e : ExpectedFile) (payload : List ℕ) (at : ℕ) (r : Reading) → Finds folder file e r → Finds folder file e (more (record { kind = Kinds.Adb; payload = payload }) at r)
unfolding files_read_from_blocks
at_adb folder file e payload at r ih es h found = one_before e es es (record { kind = Kinds.Adb; payload = payload }) at r (λ at r. refl) (ih es h found)

at_signature : (folder file : ℕ) (e : ExpectedFile) (payload : List ℕ) (at : ℕ) (r : Reading) → Finds folder file e r → Finds folder file e (more (record { kind = Kinds.Signature; payload = payload }) at r)
unfolding files_read_from_blocks
at_signature folder file e payload at r ih es h found = one_before e es es (record { kind = Kinds.Signature; payload = payload }) at r (λ at r. refl) (ih es h found)

at_contents : (folder file : ℕ) (e : ExpectedFile) (payload : List ℕ) (at : ℕ) (r : Reading) → Finds folder file e r → Finds folder file e (more (record { kind = Kinds.Contents; payload = payload }) at r)
unfolding files_read_from_blocks
at_contents folder file e payload at r ih [] h found = absurd (cc (found))
at_contents folder file e payload at r ih (x ∷ xs) h found =
    let (first, further) = second_passes (contents_block_fault_at_offset payload at (x ∷ xs)) (given (contents_of_expected payload x) (files_read_from_blocks xs r)) h in
    by_test (is_expected_at folder file x) (passes_block payload at x xs first) further found
  where
    by_test : (b : Bool) → PassesBlock payload x → contents_fault xs r ≡ None → cond b (Some x) (find (is_expected_at folder file) xs) ≡ Some e → HasContents e (x ∷ xs) (more (record { kind = Kinds.Contents; payload = payload }) at r)
    by_test true passes further is =
        subst (λ (y : ExpectedFile). HasContents y (x ∷ xs) (more (record { kind = Kinds.Contents; payload = payload }) at r)) (same_Some x e is)
        (this_block x xs payload at r passes (has_pieces xs r further))
    by_test false passes further is = one_before e (x ∷ xs) xs (record { kind = Kinds.Contents; payload = payload }) at r (passed_block x xs payload passes) (ih xs further is)

at_kind : (folder file : ℕ) (e : ExpectedFile) (kind : BlockKind) (payload : List ℕ) (at : ℕ) (r : Reading) → Finds folder file e r → Finds folder file e (more (record { kind = kind; payload = payload }) at r)
at_kind folder file e Kinds.Adb payload at r ih = at_adb folder file e payload at r ih
at_kind folder file e Kinds.Signature payload at r ih = at_signature folder file e payload at r ih
at_kind folder file e Kinds.Contents payload at r ih = at_contents folder file e payload at r ih

at_end : (folder file : ℕ) (e : ExpectedFile) → Finds folder file e done
unfolding files_read_from_blocks
at_end folder file e [] h found = absurd (cc (found))
at_end folder file e (x ∷ xs) h found = absurd (cc (h))

at_fault : (folder file : ℕ) (e : ExpectedFile) (c : Cause) → Finds folder file e (fault c)
unfolding files_read_from_blocks
at_fault folder file e c es h found = absurd (cc (h))

finds : (folder file : ℕ) (e : ExpectedFile) (r : Reading) → Finds folder file e r
finds folder file e done = at_end folder file e
finds folder file e (fault c) = at_fault folder file e c
finds folder file e (more b at r) = at_kind folder file e b.kind b.payload at r (finds folder file e r)

-- ---- only a digest differs

differs_by : (as_digest : List ℕ → Digest) (equal : Bool) (wanted found : List ℕ) (c : Cause) → (if equal then None else Some (HashDiffers (as_digest wanted) (as_digest found))) ≡ Some c → (x : Digest) × (y : Digest) × (c ≡ HashDiffers x y)
differs_by as_digest true wanted found c e = absurd (cc (e))
differs_by as_digest false wanted found c e = (as_digest wanted, as_digest found, sym (same_Some (HashDiffers (as_digest wanted) (as_digest found)) c e))

differs : (hash bytes : List ℕ) (c : Cause) → fault_if_digest_is_not_of_bytes hash bytes ≡ Some c → (x : Digest) × (y : Digest) × (c ≡ HashDiffers x y)
unfolding fault_if_digest_is_not_of_bytes
differs hash bytes c e = by_first (length hash == 20) (length hash == 32) (length hash == 64) e
  where
    by_first : (a b d : Bool) → (if a then fault_if_wanted_and_found_digests_differ Sha1 hash (sha1 bytes) else if b then fault_if_wanted_and_found_digests_differ Sha256 hash (sha256 bytes) else if d then fault_if_wanted_and_found_digests_differ Sha512 hash (sha512 bytes) else None) ≡ Some c → (x : Digest) × (y : Digest) × (c ≡ HashDiffers x y)
    by_first true b d e = differs_by Sha1 _ hash (sha1 bytes) c e
    by_first false true d e = differs_by Sha256 _ hash (sha256 bytes) c e
    by_first false false true e = differs_by Sha512 _ hash (sha512 bytes) c e
    by_first false false false e = absurd (cc (e))

-- ---- the whole package

first_then : (o u : Option Cause) (c : Cause) → o ≡ None → u ≡ Some c → option_or o u ≡ Some c
first_then o u c none is = ap (λ (x : Option Cause). option_or x u) none ∙ is

-- its header, its first block, and the tests behind it
record IsGoodPackage (file : List ℕ) : Type 0 where
  schema : ℕ
  header : schema_of_header file ≡ Ok schema
  wanted : schema_fault Package schema ≡ None
  block : BlockWithoutOffset
  at : ℕ
  further : Reading
  reading : block_stream_from (first_block_position_of_schema_and_file schema file) ≡ more block at further
  values : payload_fault Package block.payload ≡ None
  contents : contents_fault (expected_files_of_package (root_value_of_payload Package block.payload)) further ≡ None

-- or no block, and then nothing is expected
abbrev IsGood : List ℕ → Type 0
IsGood file = IsGoodPackage file ⊎ (expected_files_of_package (root_value_of_payload Package (payload_in file)) ≡ [])

payload_by : (file : List ℕ) (schema : ℕ) (r : Reading) → schema_of_header file ≡ Ok schema → block_stream_from (first_block_position_of_schema_and_file schema file) ≡ r → payload_in file ≡ first_block_payload r
unfolding payload_in
payload_by file schema r header reading = ap (payload_by_header_schema_or_fault file) header ∙ ap first_block_payload reading

good_by_reading : (file : List ℕ) (schema : ℕ) (r : Reading) → schema_of_header file ≡ Ok schema → schema_fault Package schema ≡ None → block_stream_from (first_block_position_of_schema_and_file schema file) ≡ r → blocks_fault (fault_of_contents_blocks_by_root_table Package) Package r ≡ None → IsGood file
good_by_reading file schema done header wanted reading h =
    inr (ap (λ (p : List ℕ). expected_files_of_package (root_value_of_payload Package p)) (payload_by file schema done header reading) ∙ nothing_expected)
good_by_reading file schema (fault c) header wanted reading h = absurd (cc (h))
good_by_reading file schema (more b at r) header wanted reading h =
    let (values, contents) = both_none (payload_fault Package b.payload) _ h in
    inl (record { schema = schema; header = header; wanted = wanted; block = b; at = at; further = r; reading = reading; values = values; contents = contents })

good_by_header : (file : List ℕ) (header : Result ℕ Cause) → schema_of_header file ≡ header → file_fault_by_header_schema_or_fault (fault_of_contents_blocks_by_root_table Package) Package file header ≡ None → IsGood file
good_by_header file (Err c) is h = absurd (cc (h))
good_by_header file (Ok schema) is h =
    let (wanted, blocks) = both_none (schema_fault Package schema) _ h in
    good_by_reading file schema (block_stream_from (first_block_position_of_schema_and_file schema file)) is wanted refl blocks

good : (file : List ℕ) → package_fault file ≡ None → IsGood file
unfolding container_fault_of_table
good file h = good_by_header file (schema_of_header file) refl h

-- a package is refused for its contents where its header and its first block are good
refused_for : (file : List ℕ) (schema : ℕ) (b : BlockWithoutOffset) (at : ℕ) (r : Reading) (c : Cause) → schema_of_header file ≡ Ok schema → schema_fault Package schema ≡ None → block_stream_from (first_block_position_of_schema_and_file schema file) ≡ more b at r → payload_fault Package b.payload ≡ None
    → contents_fault (expected_files_of_package (root_value_of_payload Package b.payload)) r ≡ Some c → package_fault file ≡ Some c
unfolding container_fault_of_table
refused_for file schema b at r c header wanted reading values bad =
    ap (file_fault_by_header_schema_or_fault (fault_of_contents_blocks_by_root_table Package) Package file) header
    ∙ first_then (schema_fault Package schema) _ c wanted
    (ap (blocks_fault (fault_of_contents_blocks_by_root_table Package) Package) reading ∙ first_then (payload_fault Package b.payload) _ c values bad)

pieces_from_start : (file : List ℕ) (schema : ℕ) (bs : List BlockWithoutOffset) → schema_of_header file ≡ Ok schema → blocks_of file ≡ Ok bs → blocks_of_stream (block_stream_from (first_block_position_of_schema_and_file schema file)) ≡ Ok bs
unfolding blocks_from_position
pieces_from_start file schema bs header are = sym (whole_from file schema header) ∙ are

blocks_from_start : (file : List ℕ) (schema : ℕ) (bs : List BlockWithoutOffset) → schema_of_header file ≡ Ok schema → blocks_of_stream (block_stream_from (first_block_position_of_schema_and_file schema file)) ≡ Ok bs → blocks_of file ≡ Ok bs
unfolding blocks_from_position
blocks_from_start file schema bs header are = whole_from file schema header ∙ are

spoiled_by : (tested : List ℕ) (folder file : ℕ) (e : ExpectedFile) (bytes : List ℕ) (c : Cause) → IsGoodPackage tested → expected_file_at folder file (expected_files_of_package (root_value_of_payload Package (payload_in tested))) ≡ Some e → length bytes ≡ e.size → fault_if_digest_is_not_of_bytes e.hash bytes ≡ Some c
    → (other : List ℕ) × IsFileWithOnlyContentsSpoiled tested other c
spoiled_by tested folder file e bytes c g found size bad =
    let es : List ExpectedFile = expected_files_of_package (root_value_of_payload Package g.block.payload) in
    let payload = payload_by tested g.schema (more g.block g.at g.further) g.header g.reading in
    let h = finds folder file e g.further es g.contents (subst (λ (p : List ℕ). expected_file_at folder file (expected_files_of_package (root_value_of_payload Package p)) ≡ Some e) payload found) in
    let own : List ℕ = take 8 h.block.payload ++ bytes in
    let all = length-append (take 8 h.block.payload) bytes in
    let long = h.long in
    let same : length own ≡ length h.block.payload = omega (arith, all, length-take 8 h.block.payload, long, size) in
    let pieces : blocks_of_stream (block_stream_from (first_block_position_of_schema_and_file g.schema tested)) ≡ Ok (g.block ∷ (h.before ++ h.block ∷ h.behind)) = ap blocks_of_stream g.reading ∙ ap (with_block g.block) h.are in
    let spelled = read_is_spelled tested g.schema (g.block ∷ (h.before ++ h.block ∷ h.behind)) g.header (blocks_from_start tested g.schema _ g.header pieces) in
    let there = replaced_in_file tested g.schema (g.block ∷ h.before) h.behind h.block own same spelled in
    let read = spelled_is_read there.other g.schema (g.block ∷ (h.before ++ with_payload h.block own ∷ h.behind)) there.spells in
    let begins = begins_with g.block (h.before ++ with_payload h.block own ∷ h.behind) (block_stream_from (first_block_position_of_schema_and_file g.schema there.other)) (pieces_from_start there.other g.schema _ read.0 read.1) in
    let (wanted, is, digest) = differs e.hash bytes c bad in (
      there.other,
      record {
        long = there.long;
        values = payload_by there.other g.schema (more g.block begins.at begins.further) read.0 begins.is ∙ sym payload;
        wanted = wanted;
        found = is;
        digest = digest;
        fault = refused_for there.other g.schema g.block begins.at begins.further c read.0 g.wanted begins.is g.values (h.fails bytes c size bad begins.further begins.behind);
      },
    )

-- a package that was tested is spoiled where bytes of one of its files have another digest
pub spoiled : (tested : List ℕ) (folder file : ℕ) (e : ExpectedFile) (bytes : List ℕ) (c : Cause) → package_fault tested ≡ None → expected_file_at folder file (expected_files_of_package (root_value_of_payload Package (payload_in tested))) ≡ Some e → length bytes ≡ e.size → fault_if_digest_is_not_of_bytes e.hash bytes ≡ Some c
    → (other : List ℕ) × IsFileWithOnlyContentsSpoiled tested other c
spoiled tested folder file e bytes c sound found size bad = by (good tested sound)
  where
    by : IsGood tested → (other : List ℕ) × IsFileWithOnlyContentsSpoiled tested other c
    by (inl g) = spoiled_by tested folder file e bytes c g found size bad
    by (inr none) = absurd (let found_none : expected_file_at folder file [] ≡ Some e = subst (λ (es : List ExpectedFile). expected_file_at folder file es ≡ Some e) none found in cc (found_none))
