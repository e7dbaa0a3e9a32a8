-- A block of the grammar is what the tests answer.
use Rattle.std.proofs.Common.{◌≡◌, ℕ, ◌+◌, ◌-◌, ◌*◌, ◌/◌, ◌%◌, ◌^◌, ◌<◌, ◌≤◌, true, false, eqb, ltb, List, [], ◌++◌, length, take, drop, Option, Some, None, refl, sym, ap, ◌∙◌, arith, inl, inr, lit<}
use Rattle.std.specs.Int.{w32, w64, from_le_bytes}
use Rattle.std.proofs.lemmas.Bool.{le-ltb, ne_eqb}
use Rattle.std.proofs.lemmas.List.{take_at, drop_at, length-append, length-drop, drop-drop, drop_all, take-append-le, drop-append-le}
use Rattle.adb_block.specs.Container.{IsHead, IsShortHead, IsLongHead, IsPadding, IsBlock, MayFollow, HasBlockBefore}
use Rattle.adb_block.specs.BlockWithoutOffset.{BlockWithoutOffset, kind_number, may_be_next_kind, least_payload_len, padding_of}
use Rattle.adb_block.specs.Header.{word_at, eight_byte_number_at}
use Rattle.adb_block.specs.Framing.{HeadFields, block_head_fields, kind_of_number, ended, block, next_block_result_by_kind_order, next_block_result_at_offset}
use Rattle.adb_block.specs.declared.block.BlockKind.{BlockKind}
use Rattle.adb_block.specs.declared.block.BlockKind.TheVariants.{Adb, Signature, Contents}

kind_again : (k : BlockKind) → kind_of_number (kind_number k) ≡ Some k
kind_again Adb = refl
kind_again Signature = refl
kind_again Contents = refl

number_small : (k : BlockKind) → kind_number k < 3
number_small Adb = lit< tt
number_small Signature = lit< tt
number_small Contents = lit< tt

-- a header of so many bytes, for a block of the type k with so long a payload
abbrev says : BlockKind → ℕ → ℕ → HeadFields
says k h len = record { kind = kind_number k; len = h; raw = h + len }

same_fields : (a b : HeadFields) → a.kind ≡ b.kind → a.len ≡ b.len → a.raw ≡ b.raw → a ≡ b
same_fields a b k l r = λ i. record { kind = k i; len = l i; raw = r i }

short_again : (k : BlockKind) (len : ℕ) (head more : List ℕ) → IsShortHead k len head → block_head_fields (head ++ more) ≡ Some (says k 4 len)
unfolding block_head_fields
short_again k len head more h =
    let size = h.size in
    let small = h.small in
    let total = length-append head more in
    let word : word_at 0 (head ++ more) ≡ kind_number k * 2 ^ 30 + (4 + len) = ap (from_le_bytes w32) (take_at head more 4 size) ∙ h.word in
    let k_small = number_small k in
    let high : (kind_number k * 2 ^ 30 + (4 + len)) / 2 ^ 30 ≡ kind_number k = omega arith in
    let low : (kind_number k * 2 ^ 30 + (4 + len)) % 2 ^ 30 ≡ 4 + len = omega arith in
    let t1 : ltb (length (head ++ more)) 4 ≡ false = le-ltb _ _ (omega arith) in
    let t2 : eqb (kind_number k) 3 ≡ false = ne_eqb _ _ (omega arith) in
    rw (t1, word, high, t2, low) refl

long_again : (k : BlockKind) (len : ℕ) (head more : List ℕ) → IsLongHead k len head → block_head_fields (head ++ more) ≡ Some (says k 16 len)
unfolding block_head_fields
long_again k len head more h =
    let size = h.size in
    let total = length-append head more in
    let word : word_at 0 (head ++ more) ≡ 3 * 2 ^ 30 + kind_number k = ap (from_le_bytes w32) (take-append-le 4 head more (omega arith)) ∙ h.word in
    let back : take 8 (drop 8 (head ++ more)) ≡ drop 8 head = ap (take 8) (drop-append-le 8 head more (omega arith)) ∙ take_at (drop 8 head) more 8 (omega (arith, length-drop 8 head)) in
    let raw : eight_byte_number_at 8 (head ++ more) ≡ 16 + len = ap (from_le_bytes w64) back ∙ h.raw in
    let k_small = number_small k in
    let high : (3 * 2 ^ 30 + kind_number k) / 2 ^ 30 ≡ 3 = omega arith in
    let low : (3 * 2 ^ 30 + kind_number k) % 2 ^ 30 ≡ kind_number k = omega arith in
    let t1 : ltb (length (head ++ more)) 4 ≡ false = le-ltb _ _ (omega arith) in
    let t2 : ltb (length (head ++ more)) 16 ≡ false = le-ltb _ _ (omega arith) in
    rw (t1, word, high, t2, raw, low) refl

-- how long the header is
abbrev header_len : {k : BlockKind} {len : ℕ} {head : List ℕ} → IsHead k len head → ℕ
header_len (inl h) = 4
header_len (inr h) = 16

header_size : (k : BlockKind) (len : ℕ) (head : List ℕ) (is : IsHead k len head) → length head ≡ header_len is
header_size k len head (inl h) = h.size
header_size k len head (inr h) = h.size

head_again : (k : BlockKind) (len : ℕ) (head more : List ℕ) (is : IsHead k len head) → block_head_fields (head ++ more) ≡ Some (says k (header_len is) len)
head_again k len head more (inl h) = short_again k len head more h
head_again k len head more (inr h) = long_again k len head more h

ordered_again : (last : Option BlockKind) (at : ℕ) (bytes : List ℕ) (h len : ℕ) (k : BlockKind) → may_be_next_kind last k ≡ true → least_payload_len k ≤ len → h + len ≤ length bytes
    → next_block_result_by_kind_order last at bytes (says k h len) (kind_of_number (kind_number k)) ≡ block (record { kind = k; payload = take len (drop h bytes) }) (h + len + padding_of (h + len))
ordered_again last at bytes h len k o long fits =
    let len_is : h + len - h ≡ len = omega arith in
    let a : ltb (h + len) h ≡ false = le-ltb _ _ (omega arith) in
    let b : ltb (length bytes) (h + len) ≡ false = le-ltb _ _ fits in
    let c : ltb len (least_payload_len k) ≡ false = le-ltb _ _ long in
    rw (kind_again k, o, a, b, len_is, c) refl

not_empty : (last : Option BlockKind) (at : ℕ) (bytes : List ℕ) (h : HeadFields) → 0 < length bytes → block_head_fields bytes ≡ Some h → next_block_result_at_offset last at bytes ≡ next_block_result_by_kind_order last at bytes h (kind_of_number h.kind)
unfolding next_block_result_at_offset
not_empty last at bytes h some is =
    let t : eqb (length bytes) 0 ≡ false = ne_eqb _ _ (omega arith) in
    rw (t, is) refl

-- after the padding stands what the grammar says
rest_again : (size : ℕ) (pad rest : List ℕ) → IsPadding size pad rest → drop (padding_of size) (pad ++ rest) ≡ rest
rest_again size pad rest (inl full) = drop_at pad rest (padding_of size) full
rest_again size pad rest (inr cut) = drop_all (padding_of size) (pad ++ rest) (omega (arith, length-append pad rest, ap length cut.1)) ∙ sym cut.1

skip_again : (head payload pad rest : List ℕ) (h len : ℕ) → length head ≡ h → length payload ≡ len → IsPadding (h + len) pad rest → drop (h + len + padding_of (h + len)) (head ++ (payload ++ (pad ++ rest))) ≡ rest
skip_again head payload pad rest h len e f p =
    let bytes = head ++ (payload ++ (pad ++ rest)) in
    let one : drop (h + len + padding_of (h + len)) bytes ≡ drop (padding_of (h + len)) (drop len (drop h bytes)) = sym (ap (drop (padding_of (h + len))) (drop-drop len h bytes) ∙ drop-drop (padding_of (h + len)) (h + len) bytes) in
    let two : drop h bytes ≡ payload ++ (pad ++ rest) = drop_at head (payload ++ (pad ++ rest)) h e in
    let three : drop len (payload ++ (pad ++ rest)) ≡ pad ++ rest = drop_at payload (pad ++ rest) len f in
    one ∙ ap (λ (x : List ℕ). drop (padding_of (h + len)) (drop len x)) two ∙ ap (drop (padding_of (h + len))) three ∙ rest_again (h + len) pad rest p

-- so many bytes does a block take with its padding
abbrev pub size_of : (b : BlockWithoutOffset) (bytes rest : List ℕ) → IsBlock b bytes rest → ℕ
size_of b bytes rest is = header_len is.is_head + length b.payload + padding_of (header_len is.is_head + length b.payload)

pub step_again : (last : Option BlockKind) (at : ℕ) (bytes : List ℕ) (b : BlockWithoutOffset) (rest : List ℕ) → MayFollow last b → IsBlock b bytes rest → (size : ℕ) × (next_block_result_at_offset last at bytes ≡ block b size) × (drop size bytes ≡ rest)
step_again last at bytes b rest m is =
    let len = length b.payload in
    let h : ℕ = header_len is.is_head in
    let more : List ℕ = b.payload ++ (is.pad ++ rest) in
    let head_len : length is.head ≡ h = header_size b.kind len is.head is.is_head in
    let total : length (is.head ++ more) ≡ h + (len + length (is.pad ++ rest)) = omega (arith, length-append is.head more, length-append b.payload (is.pad ++ rest)) in
    let head_is : block_head_fields (is.head ++ more) ≡ Some (says b.kind h len) = head_again b.kind len is.head more is.is_head in
    let some : 0 < length (is.head ++ more) = positive b.kind len is.head more is.is_head in
    let stepped = not_empty last at (is.head ++ more) (says b.kind h len) some head_is in
    let passed = ordered_again last at (is.head ++ more) h len b.kind m.order m.long (omega arith) in
    let payload : take len (drop h (is.head ++ more)) ≡ b.payload = ap (take len) (drop_at is.head more h head_len) ∙ take_at b.payload (is.pad ++ rest) len refl in
    let pad : IsPadding (h + len) is.pad rest = rw (← head_len) is.is_pad in
    let skipped = skip_again is.head b.payload is.pad rest h len head_len refl pad in
    let piece_is : record { kind = b.kind; payload = take len (drop h (is.head ++ more)) } ≡ b = ap (λ (x : List ℕ). record { kind = b.kind; payload = x }) payload in (
      h + len + padding_of (h + len),
      ap (next_block_result_at_offset last at) is.parts ∙ stepped ∙ passed ∙ ap (λ (p : BlockWithoutOffset). block p (h + len + padding_of (h + len))) piece_is,
      ap (drop (h + len + padding_of (h + len))) is.parts ∙ skipped,
    )
  where
    positive : (k : BlockKind) (len : ℕ) (head more : List ℕ) → IsHead k len head → 0 < length (head ++ more)
    positive k len head more (inl h) = omega (arith, h.size, length-append head more)
    positive k len head more (inr h) = omega (arith, h.size, length-append head more)

pub next_block_result_at_file_end : (last : Option BlockKind) (at : ℕ) → HasBlockBefore last → next_block_result_at_offset last at [] ≡ ended
unfolding next_block_result_at_offset
next_block_result_at_file_end None at later = absurd later
next_block_result_at_file_end (Some k) at later = refl
