-- A header that was read is the one of all bytes that begin so.
use Rattle.std.proofs.Common.{◌≡◌, ℕ, ◌/◌, ◌^◌, ◌<◌, ◌≤◌, Bool, true, false, eqb, ltb, if◌then◌else◌, List, length, take, drop, Option, Some, None, refl, ap, sym, ◌∙◌, arith, inl, inr}
use Rattle.std.specs.Int.{w32, w64, from_le_bytes}
use Rattle.std.proofs.lemmas.Bool.{cases_lt, le-ltb, lt-ltb, ltb-false, ne_eqb}
use Rattle.std.proofs.lemmas.List.{take-take, drop-take, take_all}
use Rattle.adb_block.specs.Header.{word_at, eight_byte_number_at}
use Rattle.adb_block.specs.Framing.{HeadFields, NextBlockResult, block_head_fields, kind_of_number, fields_of_long_head, next_block_result_at_offset, next_block_result_by_kind_order}
use Rattle.adb_block.specs.declared.block.BlockKind.{BlockKind}
use Rattle.adb_block.specs.Frames.{IsHeadPrefix, head_len}

-- bytes begin with all of themselves
pub begins_whole : (bytes : List ℕ) → take (length bytes) bytes ≡ bytes
begins_whole bytes = take_all (length bytes) bytes (omega arith)

-- ---- bytes that begin with others

same_front : (bytes head : List ℕ) (n : ℕ) → n ≤ length head → take (length head) bytes ≡ head → take n bytes ≡ take n head
same_front bytes head n le begins = sym (take-take n (length head) bytes le) ∙ ap (take n) begins

same_word : (bytes head : List ℕ) → 4 ≤ length head → take (length head) bytes ≡ head → word_at 0 bytes ≡ word_at 0 head
same_word bytes head four begins = ap (from_le_bytes w32) (same_front bytes head 4 four begins)

same_long : (bytes head : List ℕ) → 16 ≤ length head → take (length head) bytes ≡ head → eight_byte_number_at 8 bytes ≡ eight_byte_number_at 8 head
same_long bytes head sixteen begins =
    ap (from_le_bytes w64) (sym (drop-take 8 8 bytes) ∙ ap (drop 8) (same_front bytes head 16 sixteen begins) ∙ drop-take 8 8 head)

-- ---- a header that is whole

fits_four : (head : List ℕ) → head_len head ≤ length head → 4 ≤ length head
fits_four head le = by_four (ltb (length head) 4) (eqb (word_at 0 head / 2 ^ 30) 3) refl le
  where
    by_four : (a b : Bool) → ltb (length head) 4 ≡ a → (if a then 4 else if b then 16 else 4) ≤ length head → 4 ≤ length head
    by_four true b e le = le
    by_four false true e le = omega (arith, le)
    by_four false false e le = le

fits_sixteen : (head : List ℕ) → 4 ≤ length head → head_len head ≤ length head → eqb (word_at 0 head / 2 ^ 30) 3 ≡ true → 16 ≤ length head
fits_sixteen head four le long =
    let a : ltb (length head) 4 ≡ false = le-ltb _ _ four in
    let is : head_len head ≡ 16 = rw (a, long) refl in
    omega (arith, le, is)

alike : (long a b : Bool) (p q s : HeadFields) → (long ≡ true → (a ≡ b) × (p ≡ q)) → (if long then (if a then None else Some p) else Some s) ≡ (if long then (if b then None else Some q) else Some s)
alike true a b p q s same = λ k. if (same refl).0 k then None else Some ((same refl).1 k)
alike false a b p q s same = refl

whole_head : (bytes head : List ℕ) → head_len head ≤ length head → length head ≤ length bytes → take (length head) bytes ≡ head → block_head_fields bytes ≡ block_head_fields head
unfolding block_head_fields
whole_head bytes head le more begins =
    let four = fits_four head le in
    let a : ltb (length bytes) 4 ≡ false = le-ltb _ _ (omega arith) in
    let b : ltb (length head) 4 ≡ false = le-ltb _ _ four in
    let word = same_word bytes head four begins in
    rw (a, b, word) (alike _ _ _ _ _ _ (λ long.
    let sixteen = fits_sixteen head four le long in
    let c : ltb (length bytes) 16 ≡ false = le-ltb _ _ (omega arith) in
    let d : ltb (length head) 16 ≡ false = le-ltb _ _ sixteen in
    (c ∙ sym d, ap (fields_of_long_head (word_at 0 head)) (same_long bytes head sixteen begins))))

-- ---- a header of which all was read that is there, or that is not whole

few_head : (bytes : List ℕ) → length bytes < 4 → block_head_fields bytes ≡ None
unfolding block_head_fields
few_head bytes few =
    let a : ltb (length bytes) 4 ≡ true = lt-ltb _ _ few in
    rw a refl

cut_head : (bytes : List ℕ) → 4 ≤ length bytes → eqb (word_at 0 bytes / 2 ^ 30) 3 ≡ true → length bytes < 16 → block_head_fields bytes ≡ None
unfolding block_head_fields
cut_head bytes some long few =
    let a : ltb (length bytes) 4 ≡ false = le-ltb _ _ some in
    let b : ltb (length bytes) 16 ≡ true = lt-ltb _ _ few in
    rw (a, long, b) refl

-- a header that is longer than all that is left
torn_head : (bytes head : List ℕ) → length head ≤ length bytes → length bytes < head_len head → take (length head) bytes ≡ head → block_head_fields bytes ≡ block_head_fields head
torn_head bytes head more torn begins = by_four (ltb (length head) 4) (eqb (word_at 0 head / 2 ^ 30) 3) refl refl torn
  where
    by_four : (a b : Bool) → ltb (length head) 4 ≡ a → eqb (word_at 0 head / 2 ^ 30) 3 ≡ b → length bytes < (if a then 4 else if b then 16 else 4) → block_head_fields bytes ≡ block_head_fields head
    by_four true b e f few = few_head bytes few ∙ sym (few_head head (omega arith))
    by_four false true e f few =
        let four = ltb-false _ _ e in
        let word = same_word bytes head four begins in
        let long : eqb (word_at 0 bytes / 2 ^ 30) 3 ≡ true = rw word f in
        cut_head bytes (omega arith) long few ∙ sym (cut_head head four f (omega arith))
    by_four false false e f few = let four = ltb-false _ _ e in absurd (omega arith)

pub same_head : (bytes head : List ℕ) (left : ℕ) → IsHeadPrefix head left → length bytes ≡ left → take (length head) bytes ≡ head → block_head_fields bytes ≡ block_head_fields head
same_head bytes head left holds len begins =
    let within = holds.within in
    elim (cases_lt left (head_len head)) [
      | inl lt ↦ torn_head bytes head (omega (arith, len)) (omega (arith, len)) begins
      | inr ge ↦ whole_head bytes head (holds.whole ge) (omega (arith, len)) begins
    ]

-- ---- the step by it

pub framed_step : (last : Option BlockKind) (at : ℕ) (bytes head : List ℕ) (left : ℕ) (f : HeadFields) (s : NextBlockResult) → IsHeadPrefix head left → length bytes ≡ left → take (length head) bytes ≡ head → (left ≡ 0 → ⊥) → block_head_fields head ≡ Some f → next_block_result_by_kind_order last at bytes f (kind_of_number f.kind) ≡ s → next_block_result_at_offset last at bytes ≡ s
unfolding next_block_result_at_offset
framed_step last at bytes head left f s holds len begins some is step =
    let a : eqb (length bytes) 0 ≡ false = ne_eqb _ _ (λ e. some (sym len ∙ e)) in
    let same : block_head_fields bytes ≡ Some f = same_head bytes head left holds len begins ∙ is in
    rw (a, same) step
