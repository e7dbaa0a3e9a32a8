-- The counts of several calls.
use Rattle.std.proofs.Common.{◌≡◌, ◌∙◌, Err}
use Rattle.base_core.specs.Faults.{Counts, CountsOnlyRise, FailsWithCause}
use Rattle.base_core.proofs.Counting.{goes_on_twice, cause_later}

-- a call that fails, behind calls that did not
pub fails_after : {T E : Type 0} (a b c : Counts) (e : E) → CountsOnlyRise a b → b.misuses ≡ a.misuses → FailsWithCause {T = T} b c (Err e) → FailsWithCause {T = T} a c (Err e)
fails_after a b c e h same k = record { goes_on = goes_on_twice a b c h k.goes_on; cause = cause_later a b c h k.cause; kept = tt; proper = k.proper ∙ same }
