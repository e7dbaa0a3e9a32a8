-- Results that are refused if a test fails. They serve the definitions of this crate and of those above, which chain
-- such tests; the order of the refusals is in `docs/commands.md`, "`add` and `del`".
use Rattle.std.specs.Prelude.{Option, Some, None, Result, Ok, Err}
pub use Rattle.base_core.specs.Lists.{and_then}
use Rattle.base_core.specs.declared.cause.Cause.{Cause}
use Rattle.report_core.specs.declared.refusal.Refusal.{Refusal}

-- the value of a result; or its error, made a refusal by the function `refusal`
abbrev pub with_error_as_refusal : {A E : Type 0} → (E → Refusal) → Result A E → Result A Refusal
with_error_as_refusal refusal (Ok a) = Ok a
with_error_as_refusal refusal (Err e) = Err (refusal e)

-- the value, unless a test failed with a cause; then the refusal that the function `refusal` makes of the cause
abbrev pub unless_cause : {A : Type 0} → (Cause → Refusal) → Option Cause → A → Result A Refusal
unless_cause refusal None a = Ok a
unless_cause refusal (Some cause) a = Err (refusal cause)
