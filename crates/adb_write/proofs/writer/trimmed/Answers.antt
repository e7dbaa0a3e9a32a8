use Rattle.std.proofs.Common.{◌≡◌, ◌≢◌, ℕ, take, refl, sym, ap, ◌∙◌, arith}
use Rattle.adb_write.specs.Canonical.{words_without_last_nulls}
use Rattle.adb_write.proofs.Cells.{cut_null, cut_some}
use Rattle.adb_write.proofs.writer.trimmed.Goals.{then-loop-len-test+else-is_null, else-loop-len-test}
use Rattle.adb_write.proofs.writer.trimmed.Goals as goal

pub loop-len-preserved : goal.loop-len-preserved
loop-len-preserved c =
    let i = c.loop-len.invariant in
    let null : c.index-fields-len.result ≡ 0 = c.if-is_null.ensures.0 refl in
    record { within = omega (arith, i.within); same = cut_null c.args.fields.now c.loop-len.len c.index-fields-len.result (omega (arith, c.loop-len-test.true)) i.within c.index-fields-len.is null ∙ i.same }

pub returns : goal.returns
returns c =
    let i = c.loop-len.invariant in
    elim c.loop-len-test.branch [
      | then-loop-len-test+else-is_null w ↦
          let some : w.index-fields-len.result ≢ 0 = λ e. absurd (let f = w.if-is_null.ensures.1 e in cc) in
          sym (cut_some c.args.fields.now c.loop-len.len w.index-fields-len.result (omega (arith, w.loop-len-test.true)) i.within w.index-fields-len.is some) ∙ i.same
      | else-loop-len-test w ↦
          let none : c.loop-len.len ≡ 0 = omega (arith, w.loop-len-test.false) in
          sym (ap (λ (k : ℕ). words_without_last_nulls (take k c.args.fields.now)) none ∙ ap (λ (k : ℕ). take k c.args.fields.now) (sym none)) ∙ i.same
    ]
