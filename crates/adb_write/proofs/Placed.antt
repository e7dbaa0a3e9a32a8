-- What was placed is read again.
use Rattle.std.proofs.Common.{◌≡◌, ℕ, suc, ◌+◌, ◌-◌, ◌*◌, ◌^◌, ◌<◌, ◌≤◌, true, leb, List, [], ◌∷◌, ◌++◌, length, take, drop, replicate, Some, option_map, option_and_then, refl, sym, ap, subst, ◌∙◌, append_assoc, arith}
use Rattle.std.specs.List.{flat_map, AllByRecursion}
use Rattle.std.specs.Int.{Width, w8, w16, w32, w64, byte_len, from_le_bytes, to_le_bytes}
use Rattle.std.proofs.lemmas.Bool.{le-leb}
use Rattle.std.proofs.lemmas.List.{take_at, drop_at, length-append, length-drop, length-replicate, drop-drop, drop-append-le}
use Rattle.std.proofs.lemmas.List.Concat.{flat_map-cons}
use Rattle.std.proofs.lemmas.Nat.{from_le_bytes-to_le_bytes_2, from_le_bytes-to_le_bytes_4, from_le_bytes-to_le_bytes_8}
use Rattle.adb_view.specs.Bytes.{bytes_at_with_len, number_at, words}
use Rattle.adb_view.specs.Readers.{kind_number_of_word, low_28_bits, length_prefixed_bytes_at, run_entries_at_with_word_count, run_entries_at}
use Rattle.adb_write.specs.Canonical.{padding_to_alignment_from_offset, Item, Layout, payload_end_offset, word_and_layout_with_new_item, payload_with_root_word_in_head, run_bytes_with_leading_count}

-- the payload ends with these bytes, which begin at the offset
pub record Stands (p : List ℕ) (at : ℕ) (bytes : List ℕ) : Type 0 where
  pub inside : at ≤ length p
  pub is : drop at p ≡ bytes

Stands-len : (p : List ℕ) (at : ℕ) (bytes : List ℕ) → Stands p at bytes → at + length bytes ≡ length p
Stands-len p at bytes s =
    let i = s.inside in
    let l : length p - at ≡ length bytes = sym (length-drop at p) ∙ ap length s.is in
    omega arith

Stands-skip : (p : List ℕ) (at : ℕ) (front back : List ℕ) → Stands p at (front ++ back) → Stands p (at + length front) back
Stands-skip p at front back s =
    let l = Stands-len p at (front ++ back) s in
    record {
      inside = omega (arith, length-append front back);
      is = sym (drop-drop (length front) at p) ∙ ap (drop (length front)) s.is ∙ drop_at front back (length front) refl;
    }

range_stands : (p : List ℕ) (at n : ℕ) (front back : List ℕ) → Stands p at (front ++ back) → length front ≡ n → bytes_at_with_len p at n ≡ Some front
range_stands p at n front back s len =
    let l = Stands-len p at (front ++ back) s in
    let a = length-append front back in
    let t : leb (at + n) (length p) ≡ true = le-leb _ _ (omega arith) in
    rw (t, s.is, take_at front back n len) refl

pub record IsWide (w : Width) (limit : ℕ) : Type 0 where
  pub len : (n : ℕ) → length (to_le_bytes w n) ≡ byte_len w
  pub again : (n : ℕ) → n < limit → from_le_bytes w (to_le_bytes w n) ≡ n

pub wide8 : IsWide w8 (2 ^ 8)
wide8 = record { len = λ n. refl; again = λ n lt. omega arith }

pub wide16 : IsWide w16 (2 ^ 16)
wide16 = record { len = λ n. refl; again = λ n lt. from_le_bytes-to_le_bytes_2 n lt }

pub wide32 : IsWide w32 (2 ^ 32)
wide32 = record { len = λ n. refl; again = λ n lt. from_le_bytes-to_le_bytes_4 n lt }

pub wide64 : IsWide w64 (2 ^ 64)
wide64 = record { len = λ n. refl; again = λ n lt. from_le_bytes-to_le_bytes_8 n lt }

pub number_stands : (w : Width) (limit : ℕ) → IsWide w limit → (p : List ℕ) (at n : ℕ) (back : List ℕ) → n < limit → Stands p at (to_le_bytes w n ++ back) → number_at w p at ≡ Some n
number_stands w limit wide p at n back lt s =
    ap (option_map (from_le_bytes w)) (range_stands p at (byte_len w) (to_le_bytes w n) back s (wide.len n)) ∙ ap Some (wide.again n lt)

pub counted_stands : (w : Width) (limit : ℕ) → IsWide w limit → (p : List ℕ) (at : ℕ) (b back : List ℕ) → length b < limit → Stands p at ((to_le_bytes w (length b) ++ b) ++ back) → length_prefixed_bytes_at w p at ≡ Some b
counted_stands w limit wide p at b back lt s =
    let apart : Stands p at (to_le_bytes w (length b) ++ (b ++ back)) = subst (Stands p at) (append_assoc (to_le_bytes w (length b)) b back) s in
    let n : number_at w p at ≡ Some (length b) = number_stands w limit wide p at (length b) (b ++ back) lt apart in
    let skipped = Stands-skip p at (to_le_bytes w (length b)) (b ++ back) apart in
    let there : Stands p (at + byte_len w) (b ++ back) = subst (λ (k : ℕ). Stands p (at + k) (b ++ back)) (wide.len (length b)) skipped in
    ap (option_and_then (λ len. bytes_at_with_len p (at + byte_len w) len)) n ∙ range_stands p (at + byte_len w) (length b) b back there refl

-- ---- runs

words_again : (ws : List ℕ) → AllByRecursion (λ w. w < 2 ^ 32) ws → words (length ws) (flat_map (to_le_bytes w32) ws) ≡ ws
unfolding words
words_again [] small = refl
words_again (w ∷ ws) small =
    let split : flat_map (to_le_bytes w32) (w ∷ ws) ≡ to_le_bytes w32 w ++ flat_map (to_le_bytes w32) ws = flat_map-cons (to_le_bytes w32) w ws in
    let one : from_le_bytes w32 (take 4 (flat_map (to_le_bytes w32) (w ∷ ws))) ≡ w = ap (λ (x : List ℕ). from_le_bytes w32 (take 4 x)) split ∙ ap (from_le_bytes w32) (take_at (to_le_bytes w32 w) (flat_map (to_le_bytes w32) ws) 4 (wide32.len w)) ∙ wide32.again w small.0 in
    let others : drop 4 (flat_map (to_le_bytes w32) (w ∷ ws)) ≡ flat_map (to_le_bytes w32) ws = ap (drop 4) split ∙ drop_at (to_le_bytes w32 w) (flat_map (to_le_bytes w32) ws) 4 (wide32.len w) in
    ap (λ (x : ℕ). x ∷ words (length ws) (drop 4 (flat_map (to_le_bytes w32) (w ∷ ws)))) one ∙ ap (λ (x : List ℕ). w ∷ words (length ws) x) others ∙ ap (λ (x : List ℕ). w ∷ x) (words_again ws small.1)

pub words_len : (ws : List ℕ) → length (flat_map (to_le_bytes w32) ws) ≡ 4 * length ws
words_len [] = refl
words_len (w ∷ ws) = ap length (flat_map-cons (to_le_bytes w32) w ws) ∙ omega (arith, length-append (to_le_bytes w32 w) (flat_map (to_le_bytes w32) ws), words_len ws, wide32.len w)

pub run_stands : (p : List ℕ) (at : ℕ) (ws back : List ℕ) → AllByRecursion (λ w. w < 2 ^ 32) ws → suc (length ws) < 2 ^ 32 → Stands p at (run_bytes_with_leading_count ws ++ back) → run_entries_at p at ≡ Some ws
run_stands p at ws back small few s =
    let entries : List ℕ = flat_map (to_le_bytes w32) ws in
    let apart : Stands p at (to_le_bytes w32 (suc (length ws)) ++ (entries ++ back)) = subst (Stands p at) (append_assoc (to_le_bytes w32 (suc (length ws))) entries back) s in
    let n : number_at w32 p at ≡ Some (suc (length ws)) = number_stands w32 (2 ^ 32) wide32 p at (suc (length ws)) (entries ++ back) few apart in
    let there = Stands-skip p at (to_le_bytes w32 (suc (length ws))) (entries ++ back) apart in
    let range : bytes_at_with_len p (at + 4) (4 * length ws) ≡ Some entries = range_stands p (at + 4) (4 * length ws) entries back there (words_len ws) in
    ap (option_and_then (run_entries_at_with_word_count p at)) n ∙ ap (option_map (words (length ws))) range ∙ ap Some (words_again ws small)

-- bytes at the end change nothing
pub Stands-append : (p q : List ℕ) (at : ℕ) (bytes : List ℕ) → Stands p at bytes → Stands (p ++ q) at (bytes ++ q)
Stands-append p q at bytes s = record { inside = (let i = s.inside in omega (arith, length-append p q)); is = drop-append-le at p q s.inside ∙ ap (λ (x : List ℕ). x ++ q) s.is }

-- ---- placing

-- where the item goes
abbrev pub place : Item → Layout → ℕ
place i out = payload_end_offset out + padding_to_alignment_from_offset i.align (payload_end_offset out)

pub placed_stands : (i : Item) (out : Layout) (root : ℕ) → Stands (payload_with_root_word_in_head root (word_and_layout_with_new_item i out).1) (place i out) i.bytes
placed_stands i out root =
    let zeros : List ℕ = replicate (padding_to_alignment_from_offset i.align (payload_end_offset out)) 0 in
    let regroup : payload_with_root_word_in_head root (word_and_layout_with_new_item i out).1 ≡ (payload_with_root_word_in_head root out ++ zeros) ++ i.bytes = sym (append_assoc (payload_with_root_word_in_head root out) zeros i.bytes) in
    let len : length (payload_with_root_word_in_head root out ++ zeros) ≡ place i out = omega (arith, length-append (payload_with_root_word_in_head root out) zeros, length-replicate {A = ℕ} (padding_to_alignment_from_offset i.align (payload_end_offset out)) 0) in
    record {
      inside = omega (arith, ap length regroup, length-append (payload_with_root_word_in_head root out ++ zeros) i.bytes);
      is = ap (drop (place i out)) regroup ∙ drop_at (payload_with_root_word_in_head root out ++ zeros) i.bytes (place i out) len;
    }

pub word_kind : (kind at : ℕ) → at < 2 ^ 28 → kind_number_of_word (kind * 2 ^ 28 + at) ≡ kind
word_kind kind at lt = omega arith

pub word_low : (kind at : ℕ) → at < 2 ^ 28 → low_28_bits (kind * 2 ^ 28 + at) ≡ at
word_low kind at lt = omega arith
