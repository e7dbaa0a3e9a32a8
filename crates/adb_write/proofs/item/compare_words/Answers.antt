use Rattle.std.proofs.Common.{◌≡◌, ◌≢◌, ◌<◌, ◌-◌, ◌^◌, ℕ, List, length, get_or, refl, sym, ap, ◌∙◌, arith, inl, inr, ◌⊎◌}
use Rattle.std.specs.Prelude.{reverse}
use Rattle.std.specs.Ordering.{nat_cmp}
use Rattle.std.specs.declared.cmp.Ordering.TheVariants.{Equal}
use Rattle.std.proofs.lemmas.List.{length-reverse}
use Rattle.adb_view.specs.Entries.{array_entries}
use Rattle.adb_write.specs.Keys.{low_words}
use Rattle.adb_write.proofs.Compared.{entry_at, equal_step, other_step, last_step, read_at, word_at, words_len}
use Rattle.adb_write.proofs.item.compare_words.Goals.{then-loop-i-test+else-i-len, else-loop-i-test}
use Rattle.adb_write.proofs.item.compare_words.Goals as goal

pub loop-i-preserved : goal.loop-i-preserved
loop-i-preserved c =
    let i = c.loop-i.invariant in
    let w : ℕ = c.word.result in
    let e : ℕ = c.word-in-loop-i.result in
    let ws : List ℕ = c.args.words.now in
    let es : List ℕ = array_entries c.args.entries.now in
    let small : w < 2 ^ 32 = omega arith in
    let in_words : c.loop-i.i < length ws = omega (arith, c.loop-i-test.true) in
    let in_entries : c.loop-i.i < length es = omega (arith, c.if-i-len.true, c.len.ensures.value) in
    let is : w ≡ get_or (reverse (low_words ws)) c.loop-i.i w = word_at ws c.loop-i.i (length ws - 1 - c.loop-i.i) w in_words refl small (read_at ws (length ws - 1 - c.loop-i.i) w c.index-words-last.result c.index-words-last.result c.word.ensures (omega arith) c.index-words-last.is) in
    let has : e ≡ get_or (reverse es) c.loop-i.i e = entry_at es c.loop-i.i e in_entries (read_at es (length es - 1 - c.loop-i.i) e c.get.result 0 c.word-in-loop-i.ensures (omega arith) (c.get.ensures ∙ ap (λ k. get_or es k 0) (omega (arith, c.len-in-loop-i.ensures.value)))) in
    let equal : nat_cmp w e ≡ Equal = sym c.cmp.ensures ∙ c.in-Equal.is in
    record { in_words = omega arith; in_entries = omega arith; same = equal_step (reverse (low_words ws)) (reverse es) c.loop-i.i w e (omega (arith, words_len ws)) (omega (arith, length-reverse es)) is has equal ∙ i.same }

pub returns-in_default : goal.returns-in_default
returns-in_default c =
    let i = c.loop-i.invariant in
    let w : ℕ = c.word.result in
    let e : ℕ = c.word-in-loop-i.result in
    let ws : List ℕ = c.args.words.now in
    let es : List ℕ = array_entries c.args.entries.now in
    let small : w < 2 ^ 32 = omega arith in
    let in_words : c.loop-i.i < length ws = omega (arith, c.loop-i-test.true) in
    let in_entries : c.loop-i.i < length es = omega (arith, c.if-i-len.true, c.len.ensures.value) in
    let is : w ≡ get_or (reverse (low_words ws)) c.loop-i.i w = word_at ws c.loop-i.i (length ws - 1 - c.loop-i.i) w in_words refl small (read_at ws (length ws - 1 - c.loop-i.i) w c.index-words-last.result c.index-words-last.result c.word.ensures (omega arith) c.index-words-last.is) in
    let has : e ≡ get_or (reverse es) c.loop-i.i e = entry_at es c.loop-i.i e in_entries (read_at es (length es - 1 - c.loop-i.i) e c.get.result 0 c.word-in-loop-i.ensures (omega arith) (c.get.ensures ∙ ap (λ k. get_or es k 0) (omega (arith, c.len-in-loop-i.ensures.value)))) in
    let differ : nat_cmp w e ≢ Equal = λ equal. c.in_default.not-Equal (c.cmp.ensures ∙ equal) in
    c.cmp.ensures ∙ other_step (reverse (low_words ws)) (reverse es) c.loop-i.i w e (omega (arith, words_len ws)) (omega (arith, length-reverse es)) is has differ ∙ i.same

pub returns : goal.returns
returns c =
    let i = c.loop-i.invariant in
    let n : ℕ = length (array_entries c.args.entries.now) in
    let end : (length c.args.words.now ≡ c.loop-i.i) ⊎ (n ≡ c.loop-i.i) = elim c.loop-i-test.branch [
      | then-loop-i-test+else-i-len w ↦ inr (omega (arith, w.if-i-len.false, w.len.ensures.value, i.in_entries))
      | else-loop-i-test w ↦ inl (omega (arith, w.loop-i-test.false, i.in_words))
    ] in
    c.cmp-2.ensures ∙ ap (nat_cmp (length c.args.words.now)) c.len-2.ensures.value ∙ last_step c.args.words.now (array_entries c.args.entries.now) c.loop-i.i i.in_words i.in_entries end ∙ i.same
