use Rattle.std.proofs.Common.{◌≡◌, ◌∙◌, ◌++◌, List, ℕ, Some, ap, sym, append-nil, take_all, arith}
use Rattle.std.specs.Prelude.{slice_get}
use Rattle.search_tables.proofs.candidate_core.Steps.{get_at}
use Rattle.unmet_world.specs.Lines.{joined_texts}
use Rattle.unmet_world.proofs.Refused.{no_value}
use Rattle.unmet_world.proofs.AddedTexts.{joined_first, joined_next}
use Rattle.unmet_world.proofs.texts.add_joined.Goals as goal
use Rattle.unmet_world.proofs.texts.add_joined.Goals.{then-i-gt0+in_ok-extend_from_slice, else-i-gt0}

pub loop-i-init : goal.loop-i-init
loop-i-init c = sym (append-nil _)

pub returns-in_err-extend_from_slice : goal.returns-in_err-extend_from_slice
returns-in_err-extend_from_slice c = no_value _ _ c.from_residual.result c.from_residual.ensures.1

pub returns-in_err-extend_from_slice-2 : goal.returns-in_err-extend_from_slice-2
returns-in_err-extend_from_slice-2 c = no_value _ _ c.from_residual-in_err-extend_from_slice-2.result c.from_residual-in_err-extend_from_slice-2.ensures.1

pub loop-i-preserved : goal.loop-i-preserved
loop-i-preserved c =
    let texts : List (List ℕ) = c.args.texts.now in
    let x : List ℕ = c.as_bytes.result.now in
    let at : slice_get texts c.loop-i.i ≡ Some x = get_at texts c.loop-i.i c.index-texts-i.result (omega arith) ∙ ap Some (sym (c.as_bytes.ensures ∙ c.index-texts-i.is)) in
    elim c.if-i-gt0.branch [
      | then-i-gt0+in_ok-extend_from_slice w ↦
          joined_next texts c.loop-i.i x c.args.line.now.items c.loop-i.line.items c.if-i-gt0.line.items _ at (omega arith) c.loop-i.invariant
          (ap (λ v. v.items) w.line-is ∙ w.in_ok-extend_from_slice.ensures.items) c.in_ok-extend_from_slice-2.ensures.items
      | else-i-gt0 w ↦
          joined_first texts c.loop-i.i x c.args.line.now.items c.loop-i.line.items _ at (omega arith) c.loop-i.invariant
          (c.in_ok-extend_from_slice-2.ensures.items ∙ ap (λ v. v.items ++ x) w.line-is)
    ]

pub returns : goal.returns
returns c = c.loop-i.invariant ∙ ap (λ (z : List (List ℕ)). c.args.line.now.items ++ joined_texts z) (take_all c.loop-i.i c.args.texts.now (omega arith))
