-- The fault of a visit, as the functions of the walk return it, and the cause that is reported for it. Serves the
-- contracts of `src/visit_fault.rt`, `src/readers.rt` and `src/walk.rt`; the rule is in `docs/formats.md`, "The shape".
use Rattle.std.specs.Prelude.{Bool, true, false, Result, Ok, Err}
use Rattle.base_core.specs.declared.cause.Cause.{Cause}
use Rattle.base_core.specs.declared.cause.Cause.TheVariants as Causes
use Rattle.adb_view.specs.declared.visit_fault.VisitFault.{VisitFault}
use Rattle.adb_view.specs.declared.visit_fault.VisitFault.TheVariants.{TooLarge, WrongKind, Outside}

-- the cause by which a fault of the walk is reported
abbrev pub cause_of_fault : VisitFault → Cause
cause_of_fault (TooLarge count) = Causes.TooLarge count
cause_of_fault (WrongKind word) = Causes.WrongKind word
cause_of_fault (Outside word) = Causes.Outside word

-- the result of a walk, in which the fault, if any, is replaced by its cause
abbrev pub with_cause : {A : Type 0} → Result A VisitFault → Result A Cause
with_cause (Ok x) = Ok x
with_cause (Err fault) = Err (cause_of_fault fault)

-- whether a reader may refuse a word with this cause: the wrong kind, or a range that is not within the payload
abbrev pub is_reader_fault : Cause → Bool
is_reader_fault (Causes.WrongKind word) = true
is_reader_fault (Causes.Outside word) = true
is_reader_fault cause = false
