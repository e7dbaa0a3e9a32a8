-- A header that was read holds what a header takes.
use Rattle.std.proofs.Common.{◌≡◌, ℕ, ◌/◌, ◌^◌, ◌<◌, ◌≤◌, ◌⊎◌, inl, inr, Bool, true, false, ltb, ◌==◌, if◌then◌else◌, List, [], ◌++◌, length, take, refl, ap, sym, ◌∙◌, arith}
use Rattle.std.specs.Int.{w32, from_le_bytes}
use Rattle.std.proofs.lemmas.Bool.{le-ltb}
use Rattle.std.proofs.lemmas.List.{length-append, take_at}
use Rattle.std.proofs.lemmas.Slice.{take-put_mid}
use Rattle.std.proofs.lemmas.Grind.{common_steps}
use borrow.Rule.Slice.PartMut.{put_mid}
use Rattle.adb_block.specs.Header.{word_at}
use Rattle.adb_block.specs.Frames.{IsHeadPrefix, head_len}

pub eq_false : (a b : ℕ) → (a ≡ b → ⊥) → (a == b) ≡ false
eq_false a b h = grind arith

pub holds_none : (left : ℕ) → left < 4 → IsHeadPrefix [] left
holds_none left few = record { within = omega arith; whole = λ room. absurd (omega (arith, room)) }

pub holds_short : (first : List ℕ) (left : ℕ) → length first ≡ 4 → 4 ≤ left → head_len first ≡ 4 → IsHeadPrefix first left
holds_short first left four some short = record { within = omega arith; whole = λ room. omega arith }

-- of a header that is not whole four bytes are enough
pub holds_cut : (first : List ℕ) (left : ℕ) → length first ≡ 4 → 4 ≤ left → left < head_len first → IsHeadPrefix first left
holds_cut first left four some cut = record { within = omega arith; whole = λ room. absurd (omega (arith, room)) }

-- four bytes are enough of a header that is short or is not whole
pub holds_four : (first : List ℕ) (left n : ℕ) → length first ≡ 4 → 4 ≤ left → n ≡ head_len first → (n ≡ 4) ⊎ ((n ≡ 4 → ⊥) × (left < n)) → IsHeadPrefix first left
holds_four first left n four some is (inl short) = holds_short first left four some (sym is ∙ short)
holds_four first left n four some is (inr cut) = holds_cut first left four some (omega (arith, is, cut.1))

-- no header is shorter than four bytes
pub short_four : (first : List ℕ) (n : ℕ) → length first ≡ 4 → n ≡ head_len first → (n ≡ 4) ⊎ (n ≡ 16) → length first ≤ head_len first
short_four first n four is (inl short) = omega arith
short_four first n four is (inr long) = omega arith

-- ---- sixteen bytes

-- a header that is not short has sixteen bytes
pub not_short : (n : ℕ) → (n ≡ 4) ⊎ (n ≡ 16) → (n ≡ 4 → ⊥) → n ≡ 16
not_short n (inl four) other = absurd (other four)
not_short n (inr sixteen) other = sixteen

abbrev by_kind : ℕ → ℕ
by_kind kind = if kind == 3 then 16 else 4

by_few : (few : Bool) (kind : ℕ) → few ≡ false → (if few then 4 else by_kind kind) ≡ by_kind kind
by_few true kind e = (cc)
by_few false kind e = refl

not_few : (bytes : List ℕ) → 4 ≤ length bytes → head_len bytes ≡ by_kind (word_at 0 bytes / 2 ^ 30)
not_few bytes le = by_few (ltb (length bytes) 4) (word_at 0 bytes / 2 ^ 30) (le-ltb _ _ le)

head_len_more : (first rest : List ℕ) → length first ≡ 4 → head_len (first ++ rest) ≡ head_len first
head_len_more first rest four =
    let all = length-append first rest in
    let word : word_at 0 (first ++ rest) ≡ word_at 0 first = ap (from_le_bytes w32) (take_at first rest 4 four ∙ sym (all_of first four)) in
    not_few (first ++ rest) (omega arith) ∙ (ap (λ (w : ℕ). by_kind (w / 2 ^ 30)) word ∙ sym (not_few first (omega arith)))
  where
    all_of : (xs : List ℕ) → length xs ≡ 4 → take 4 xs ≡ xs
    all_of xs e = grind (arith, common_steps)

pub holds_both : (first rest : List ℕ) (left : ℕ) → length first ≡ 4 → length rest ≡ 12 → head_len first ≡ 16 → 16 ≤ left → IsHeadPrefix (first ++ rest) left
holds_both first rest left four twelve long room =
    let all = length-append first rest in
    let same = head_len_more first rest four in
    record { within = omega arith; whole = λ fits. omega (arith, same) }

pub short_both : (first rest : List ℕ) → length first ≡ 4 → length rest ≡ 12 → head_len first ≡ 16 → length (first ++ rest) ≤ head_len (first ++ rest)
short_both first rest four twelve long =
    let all = length-append first rest in
    let same = head_len_more first rest four in
    omega arith

-- ---- the buffer

pub four_kept : (first copied more : List ℕ) → copied ≡ first → length first ≡ 4 → take 4 (copied ++ more) ≡ first
four_kept first copied more same four = take_at copied more 4 (ap length same ∙ four) ∙ same

pub sixteen_kept : (first rest copied more further : List ℕ) → copied ≡ first → further ≡ rest → length first ≡ 4 → length rest ≡ 12 → take 16 (put_mid 4 12 (copied ++ more) further) ≡ first ++ rest
sixteen_kept first rest copied more further same also four twelve =
    let n = ap length same ∙ four in
    let m = ap length also ∙ twelve in
    let all = length-append copied more in
    take-put_mid 4 12 (copied ++ more) further 16 (omega (arith, m)) (omega (arith, n, all))
    ∙ (λ k. four_kept first copied more same four k ++ also k)
