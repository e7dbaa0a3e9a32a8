use Rattle.std.proofs.Common.{ap, sym, ◌∙◌, ◌++◌, ◌+◌, ℕ, List, Some, drop, codes}
use Rattle.outcome.specs.Verify.{sound_lines}
use Rattle.apk_front.proofs.Operands.{sound_more}
use Rattle.apk_front.proofs.verify.lines.Goals as goal

pub loop-i-preserved : goal.loop-i-preserved
loop-i-preserved c =
    ap (λ (l : List ℕ). l ++ sound_lines (drop (c.loop-i.i + 1) c.args.operands.now)) (c.in_ok-extend_from_slice-2.ensures.items ∙ ap (λ (l : List ℕ). l ++ codes ": OK\n") c.in_ok-extend_from_slice.ensures.items)
    ∙ sound_more c.args.operands.now c.loop-i.i _ _ (c.file.ensures ∙ ap Some (sym c.as_bytes.ensures.value)) c.loop-i.invariant
