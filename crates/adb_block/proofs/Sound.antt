-- A block that passes the tests is one of the grammar.
use Rattle.std.proofs.Common.{◌≡◌, ℕ, zero, suc, ◌+◌, ◌-◌, ◌*◌, ◌/◌, ◌%◌, ◌^◌, ◌<◌, ◌≤◌, true, ◌||◌, eqb, ltb, List, [], ◌++◌, length, take, drop, Option, Some, None, refl, ap, subst, ◌∙◌, arith, inl, inr, lit≤}
use Rattle.std.specs.Int.{w32, w64, from_le_bytes}
use Rattle.std.proofs.lemmas.Bool.{cases_lt, ltb-false, eqb-true, or_parts}
use Rattle.std.proofs.lemmas.List.{take-append-drop, length-take, length-drop, take-take, drop-drop, drop-take, drop_all, nil_from_length}
use Rattle.adb_block.specs.Container.{IsHead, IsPadding, IsBlock, MayFollow, HasBlockBefore}
use Rattle.adb_block.specs.BlockWithoutOffset.{BlockWithoutOffset, kind_number, may_be_next_kind, least_payload_len, padding_of}
use Rattle.adb_block.specs.Header.{word_at, eight_byte_number_at}
use Rattle.adb_block.specs.Framing.{HeadFields, fields_of_short_head, fields_of_long_head, block_head_fields, kind_of_number, ended, block, next_block_result_by_raw_size, next_block_result_by_kind_order, next_block_result_by_header, next_block_result_at_file_end, next_block_result_at_offset}
use Rattle.adb_block.specs.declared.block.BlockKind.{BlockKind}
use Rattle.adb_block.specs.declared.block.BlockKind.TheVariants.{Adb, Signature, Contents}
use Rattle.adb_block.proofs.Choices.{chosen}

-- ---- the header

-- the header's bytes stand there, and spell what its fields say
pub record Stands (bytes : List ℕ) (h : HeadFields) : Type 0 where
  pub within : h.len ≤ length bytes
  pub says : (k : BlockKind) → h.kind ≡ kind_number k → h.len ≤ h.raw → IsHead k (h.raw - h.len) (take h.len bytes)

whole_word : (word high low : ℕ) → word / 2 ^ 30 ≡ high → word % 2 ^ 30 ≡ low → word ≡ high * 2 ^ 30 + low
whole_word word high low a c = omega arith

back_to : (n h : ℕ) → h ≤ n → n ≡ h + (n - h)
back_to n h le = omega arith

small_rest : (word : ℕ) → 4 ≤ word % 2 ^ 30 → 4 + (word % 2 ^ 30 - 4) < 2 ^ 30
small_rest word le = omega arith

short_stands : (bytes : List ℕ) → 4 ≤ length bytes → Stands bytes (fields_of_short_head (word_at 0 bytes))
short_stands bytes four =
    let word = word_at 0 bytes in
    record {
      within = four;
      says = λ k kind enough. inl (record {
        size = omega (arith, length-take 4 bytes);
        word = whole_word word (kind_number k) (word % 2 ^ 30) kind refl ∙ ap (λ (n : ℕ). kind_number k * 2 ^ 30 + n) (back_to (word % 2 ^ 30) 4 enough);
        small = small_rest word enough;
      });
    }

long_stands : (bytes : List ℕ) → 16 ≤ length bytes → word_at 0 bytes / 2 ^ 30 ≡ 3 → Stands bytes (fields_of_long_head (word_at 0 bytes) (eight_byte_number_at 8 bytes))
long_stands bytes sixteen three =
    let front : take 4 (take 16 bytes) ≡ take 4 bytes = take-take 4 16 bytes (lit≤ tt) in
    let back : drop 8 (take 16 bytes) ≡ take 8 (drop 8 bytes) = drop-take 8 8 bytes in
    record {
      within = sixteen;
      says = λ k kind enough. inr (record {
        size = omega (arith, length-take 16 bytes);
        word = ap (from_le_bytes w32) front ∙ whole_word (word_at 0 bytes) 3 (kind_number k) three kind;
        raw = ap (from_le_bytes w64) back ∙ back_to (eight_byte_number_at 8 bytes) 16 enough;
      });
    }

pub head_sound : (bytes : List ℕ) (h : HeadFields) → block_head_fields bytes ≡ Some h → Stands bytes h
unfolding block_head_fields
head_sound bytes h e =
    elim (chosen (ltb (length bytes) 4) _ _ _ e) [
      | inl x ↦ absurd (let y = x.1 in cc)
      | inr x ↦ elim (chosen (eqb (word_at 0 bytes / 2 ^ 30) 3) _ _ _ x.1) [
        | inl y ↦ elim (chosen (ltb (length bytes) 16) _ _ _ y.1) [
          | inl z ↦ absurd (let w = z.1 in cc)
          | inr z ↦
              let is = z.1 in
              let same : fields_of_long_head (word_at 0 bytes) (eight_byte_number_at 8 bytes) ≡ h = cc in
              subst (Stands bytes) same (long_stands bytes (ltb-false _ _ z.0) (eqb-true _ _ y.0))
        ]
        | inr y ↦
            let is = y.1 in
            let same : fields_of_short_head (word_at 0 bytes) ≡ h = cc in
            subst (Stands bytes) same (short_stands bytes (ltb-false _ _ x.0))
      ]
    ]

-- ---- the tests after the header

kind_is : (n : ℕ) (k : BlockKind) → kind_of_number n ≡ Some k → n ≡ kind_number k
kind_is zero Adb e = refl
kind_is zero Signature e = absurd cc
kind_is zero Contents e = absurd cc
kind_is (suc zero) Adb e = absurd cc
kind_is (suc zero) Signature e = refl
kind_is (suc zero) Contents e = absurd cc
kind_is (suc (suc zero)) Adb e = absurd cc
kind_is (suc (suc zero)) Signature e = absurd cc
kind_is (suc (suc zero)) Contents e = refl
kind_is (suc (suc (suc n))) k e = absurd cc

-- what the tests leave of a header and the block that they answer
pub record Passes (last : Option BlockKind) (bytes : List ℕ) (h : HeadFields) (b : BlockWithoutOffset) (size : ℕ) : Type 0 where
  pub order : may_be_next_kind last b.kind ≡ true
  pub enough : h.len ≤ h.raw
  pub fits : h.raw ≤ length bytes
  pub long : least_payload_len b.kind ≤ h.raw - h.len
  pub payload_is : take (h.raw - h.len) (drop h.len bytes) ≡ b.payload
  pub size_is : h.raw + padding_of h.raw ≡ size

sized_sound : (last : Option BlockKind) (at : ℕ) (bytes : List ℕ) (h : HeadFields) (k : BlockKind) (b : BlockWithoutOffset) (size : ℕ) → may_be_next_kind last k ≡ true → next_block_result_by_raw_size at bytes h k ≡ block b size → (k ≡ b.kind) × Passes last bytes h b size
sized_sound last at bytes h k b size o e =
    elim (chosen (ltb h.raw h.len || ltb (length bytes) h.raw) _ _ _ e) [
      | inl x ↦ absurd (let y = x.1 in cc)
      | inr x ↦ elim (chosen (ltb (h.raw - h.len) (least_payload_len k)) _ _ _ x.1) [
        | inl y ↦ absurd (let z = y.1 in cc)
        | inr y ↦
            let parts = or_parts (ltb h.raw h.len) (ltb (length bytes) h.raw) x.0 in
            let made : BlockWithoutOffset = record { kind = k; payload = take (h.raw - h.len) (drop h.len bytes) } in
            let same : block made (h.raw + padding_of h.raw) ≡ block b size = y.1 in
            let b_is : made ≡ b = cc in
            let p : (k ≡ made.kind) × Passes last bytes h made size = (
              refl,
              record {
                order = o;
                enough = ltb-false _ _ parts.0;
                fits = ltb-false _ _ parts.1;
                long = ltb-false _ _ y.0;
                payload_is = refl;
                size_is = cc;
              },
            ) in
            subst (λ (q : BlockWithoutOffset). (k ≡ q.kind) × Passes last bytes h q size) b_is p
      ]
    ]

ordered_sound : (last : Option BlockKind) (at : ℕ) (bytes : List ℕ) (h : HeadFields) (o : Option BlockKind) (b : BlockWithoutOffset) (size : ℕ) → next_block_result_by_kind_order last at bytes h o ≡ block b size → (o ≡ Some b.kind) × Passes last bytes h b size
ordered_sound last at bytes h None b size e = absurd cc
ordered_sound last at bytes h (Some k) b size e =
    elim (chosen (may_be_next_kind last k) _ _ _ e) [
      | inl x ↦ (let s = sized_sound last at bytes h k b size x.0 x.1 in (ap Some s.0, s.1))
      | inr x ↦ absurd (let y = x.1 in cc)
    ]

-- ---- the block

-- the parts of the bytes
split_bytes : (bytes : List ℕ) (h raw g : ℕ) → h ≤ raw → bytes ≡ take h bytes ++ (take (raw - h) (drop h bytes) ++ (take g (drop raw bytes) ++ drop (raw + g) bytes))
split_bytes bytes h raw g le =
    let a = take-append-drop h bytes in
    let b = take-append-drop (raw - h) (drop h bytes) in
    let c = take-append-drop g (drop raw bytes) in
    let d : drop (raw - h) (drop h bytes) ≡ drop raw bytes = drop-drop (raw - h) h bytes ∙ ap (λ (n : ℕ). drop n bytes) (omega arith) in
    let e : drop g (drop raw bytes) ≡ drop (raw + g) bytes = drop-drop g raw bytes in
    cc

is_padded : (bytes : List ℕ) (size raw : ℕ) → size ≡ raw → raw ≤ length bytes → IsPadding size (take (padding_of raw) (drop raw bytes)) (drop (raw + padding_of raw) bytes)
is_padded bytes size raw e le =
    elim (cases_lt (length bytes - raw) (padding_of raw)) [
      | inl lt ↦ inr (rw e (omega (arith, length-take (padding_of raw) (drop raw bytes), length-drop raw bytes)), drop_all (raw + padding_of raw) bytes (omega arith))
      | inr ge ↦ inl (rw e (omega (arith, length-take (padding_of raw) (drop raw bytes), length-drop raw bytes)))
    ]

passes_block : (last : Option BlockKind) (bytes : List ℕ) (h : HeadFields) (b : BlockWithoutOffset) (size : ℕ) → Stands bytes h → h.kind ≡ kind_number b.kind → Passes last bytes h b size → MayFollow last b × IsBlock b bytes (drop size bytes)
passes_block last bytes h b size located kind p =
    let enough = p.enough in
    let fits = p.fits in
    let within = located.within in
    let len : length b.payload ≡ h.raw - h.len = rw (← p.payload_is) (omega (arith, length-take (h.raw - h.len) (drop h.len bytes), length-drop h.len bytes)) in
    let head_len : length (take h.len bytes) ≡ h.len = omega (arith, length-take h.len bytes) in
    let whole : bytes ≡ take h.len bytes ++ (b.payload ++ (take (padding_of h.raw) (drop h.raw bytes) ++ drop size bytes)) = rw (← p.payload_is, ← p.size_is) (split_bytes bytes h.len h.raw (padding_of h.raw) enough) in (
      record { order = p.order; long = rw len p.long },
      record {
        head = take h.len bytes;
        pad = take (padding_of h.raw) (drop h.raw bytes);
        is_head = rw len (located.says b.kind kind enough);
        parts = whole;
        is_pad = rw (← p.size_is) (is_padded bytes (length (take h.len bytes) + length b.payload) h.raw (omega arith) fits);
      },
    )

headed_sound : (last : Option BlockKind) (at : ℕ) (bytes : List ℕ) (o : Option HeadFields) (b : BlockWithoutOffset) (size : ℕ) → block_head_fields bytes ≡ o → next_block_result_by_header last at bytes o ≡ block b size → MayFollow last b × IsBlock b bytes (drop size bytes)
headed_sound last at bytes None b size i e = absurd cc
headed_sound last at bytes (Some h) b size i e =
    let s = ordered_sound last at bytes h (kind_of_number h.kind) b size e in
    passes_block last bytes h b size (head_sound bytes h i) (kind_is h.kind b.kind s.0) s.1

at_end_no_block : (last : Option BlockKind) (at : ℕ) (b : BlockWithoutOffset) (size : ℕ) → next_block_result_at_file_end last at ≡ block b size → ⊥
at_end_no_block None at b size e = cc
at_end_no_block (Some k) at b size e = cc

pub step_sound : (last : Option BlockKind) (at : ℕ) (bytes : List ℕ) (b : BlockWithoutOffset) (size : ℕ) → next_block_result_at_offset last at bytes ≡ block b size → MayFollow last b × IsBlock b bytes (drop size bytes)
unfolding next_block_result_at_offset
step_sound last at bytes b size e =
    elim (chosen (eqb (length bytes) 0) _ _ _ e) [
      | inl x ↦ absurd (at_end_no_block last at b size x.1)
      | inr x ↦ headed_sound last at bytes (block_head_fields bytes) b size refl x.1
    ]

-- ---- the end

sized_not_ended : (at : ℕ) (bytes : List ℕ) (h : HeadFields) (k : BlockKind) → next_block_result_by_raw_size at bytes h k ≡ ended → ⊥
sized_not_ended at bytes h k e =
    elim (chosen (ltb h.raw h.len || ltb (length bytes) h.raw) _ _ _ e) [
      | inl x ↦ (let y = x.1 in cc)
      | inr x ↦ elim (chosen (ltb (h.raw - h.len) (least_payload_len k)) _ _ _ x.1) [ inl y ↦ (let z = y.1 in cc) | inr y ↦ (let z = y.1 in cc) ]
    ]

ordered_not_ended : (last : Option BlockKind) (at : ℕ) (bytes : List ℕ) (h : HeadFields) (o : Option BlockKind) → next_block_result_by_kind_order last at bytes h o ≡ ended → ⊥
ordered_not_ended last at bytes h None e = cc
ordered_not_ended last at bytes h (Some k) e =
    elim (chosen (may_be_next_kind last k) _ _ _ e) [
      | inl x ↦ sized_not_ended at bytes h k x.1
      | inr x ↦ (let y = x.1 in cc)
    ]

headed_not_ended : (last : Option BlockKind) (at : ℕ) (bytes : List ℕ) (o : Option HeadFields) → next_block_result_by_header last at bytes o ≡ ended → ⊥
headed_not_ended last at bytes None e = cc
headed_not_ended last at bytes (Some h) e = ordered_not_ended last at bytes h (kind_of_number h.kind) e

at_end_ended : (last : Option BlockKind) (at : ℕ) → next_block_result_at_file_end last at ≡ ended → HasBlockBefore last
at_end_ended None at e = absurd cc
at_end_ended (Some k) at e = tt

pub step_ended : (last : Option BlockKind) (at : ℕ) (bytes : List ℕ) → next_block_result_at_offset last at bytes ≡ ended → (bytes ≡ []) × HasBlockBefore last
unfolding next_block_result_at_offset
step_ended last at bytes e =
    elim (chosen (eqb (length bytes) 0) _ _ _ e) [
      | inl x ↦ (nil_from_length bytes (eqb-true _ _ x.0), at_end_ended last at x.1)
      | inr x ↦ absurd (headed_not_ended last at bytes (block_head_fields bytes) x.1)
    ]
