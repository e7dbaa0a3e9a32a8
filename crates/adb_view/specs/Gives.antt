-- When the result of a call is that of a definition, although the call returns a slice or a view in place of a list.
-- Serves the contracts of the readers in `src/adb.rt`.
use Rattle.std.specs.Prelude.{◌≡◌, Result, Ok, Err, Option, Some, None}
use Rattle.base_core.specs.declared.cause.Cause.{Cause}

-- a call returns the result `answer` of the definition: an Ok value of which `view` is the definition's value, or the
-- same cause
abbrev pub Gives : {X Y : Type 0} → (X → Y) → Result X Cause → Result Y Cause → Type 0
Gives view (Ok x) answer = answer ≡ Ok (view x)
Gives view (Err c) answer = answer ≡ Err c

-- a call returns the Option `answer` of the definition: a value of which `view` is the definition's value, or None
abbrev pub Finds : {X Y : Type 0} → (X → Y) → Option X → Option Y → Type 0
Finds view (Some x) answer = answer ≡ Some (view x)
Finds view None answer = answer ≡ None
