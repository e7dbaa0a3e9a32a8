use Rattle.std.proofs.Common.{◌∙◌, ◌++◌, ℕ, List, ap, sym, append-nil, take_all}
use Rattle.hint_core.specs.Lines.{printed_bytes}
use Rattle.hint_core.proofs.ReadSteps.{no_value}
use Rattle.hint_core.proofs.Steps.{more_text, printed_chain}
use Rattle.hint_core.proofs.printed.push_printed.Goals as goal

pub loop-byte-init : goal.loop-byte-init
loop-byte-init c = sym (append-nil _)

pub returns-in_err-push_byte : goal.returns-in_err-push_byte
returns-in_err-push_byte c = no_value _ _ c.from_residual.result c.from_residual.ensures.1

pub loop-byte-preserved : goal.loop-byte-preserved
loop-byte-preserved c =
    more_text printed_bytes printed_chain _ _ _ _ c.loop-byte.byte-index _ _ (sym (append-nil _)) c.loop-byte-test.true c.loop-byte.invariant c.in_ok-push_byte.ensures

pub returns : goal.returns
returns c = c.loop-byte.invariant ∙ ap (λ (l : List ℕ). c.args.text.now.items ++ printed_bytes l) (take_all c.loop-byte.byte-index c.args.bytes.now c.loop-byte-test.false)
