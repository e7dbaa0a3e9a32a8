-- Answers that are handed on.
use Rattle.std.proofs.Common.{◌≡◌, Result, Ok, Err, ap, sym, subst}
use Rattle.std.specs.Result.{IsErrAnd}
use Rattle.report_core.specs.declared.refusal.Refusal as Refusals
use Rattle.change_inputs.specs.Chains.{and_then}
use Rattle.change_inputs.specs.Answers.{Agrees, AgreesUnlessDiskOrMemory, IsDiskOrMemoryFailure}
use Rattle.change_inputs.specs.declared.root.Refused.{Refused}
use Rattle.change_inputs.specs.declared.root.Refused.TheVariants.{Disk, Memory, Refusal}

module _ {A B : Type 0} (view : A → B) (wanted : Result B Refusals.Refusal) where
  pub memory_agrees : (r : Result A Refused) → IsErrAnd r (λ e. e ≡ Memory) → Agrees view r wanted
  memory_agrees (Ok a) h = absurd h
  memory_agrees (Err e) h = let P : Refused → Type 0 = λ f. Agrees view (Err f) wanted in subst P (sym h) tt

  pub handed_on : (r : Result A Refused) (fault : Refused) → IsErrAnd r (λ e. e ≡ fault) → Agrees view (Err fault) wanted → Agrees view r wanted
  handed_on (Ok a) fault h agrees = absurd h
  handed_on (Err e) fault h agrees = let P : Refused → Type 0 = λ f. Agrees view (Err f) wanted in subst P (sym h) agrees

  -- a failure says nothing
  pub failure_agrees : (r : Result A Refused) (fault : Refused) → IsErrAnd r (λ e. e ≡ fault) → IsDiskOrMemoryFailure fault → AgreesUnlessDiskOrMemory view r wanted
  failure_agrees (Ok a) fault h f = absurd h
  failure_agrees (Err e) fault h f = let P : Refused → Type 0 = λ x. AgreesUnlessDiskOrMemory view (Err x) wanted in subst P (sym h) (go fault f)
    where
      go : (x : Refused) → IsDiskOrMemoryFailure x → AgreesUnlessDiskOrMemory view (Err x) wanted
      go (Refusal r) f = absurd f
      go Disk f = tt
      go Memory f = tt

  pub unless_disk : (r : Result A Refused) → Agrees view r wanted → AgreesUnlessDiskOrMemory view r wanted
  unless_disk (Ok a) h = h
  unless_disk (Err (Refusal r)) h = h
  unless_disk (Err Disk) h = tt
  unless_disk (Err Memory) h = tt

  pub handed_on_disk : (r : Result A Refused) (fault : Refused) → IsErrAnd r (λ e. e ≡ fault) → AgreesUnlessDiskOrMemory view (Err fault) wanted → AgreesUnlessDiskOrMemory view r wanted
  handed_on_disk (Ok a) fault h agrees = absurd h
  handed_on_disk (Err e) fault h agrees = let P : Refused → Type 0 = λ f. AgreesUnlessDiskOrMemory view (Err f) wanted in subst P (sym h) agrees

-- a refusal of a part is that of the whole
module _ {A B C D : Type 0} (view : A → B) (whole : C → D) (next : B → Result D Refusals.Refusal) where
  pub refused_part : (fault : Refused) (part : Result B Refusals.Refusal) → Agrees view (Err fault) part → Agrees whole (Err fault) (and_then part next)
  refused_part (Refusal r) part h = ap (λ x. and_then x next) h
  refused_part Disk part h = h
  refused_part Memory part h = tt

  pub refused_part_disk : (fault : Refused) (part : Result B Refusals.Refusal) → AgreesUnlessDiskOrMemory view (Err fault) part → AgreesUnlessDiskOrMemory whole (Err fault) (and_then part next)
  refused_part_disk (Refusal r) part h = ap (λ x. and_then x next) h
  refused_part_disk Disk part h = tt
  refused_part_disk Memory part h = tt

-- what follows a part that is given
pub passed_part : {B D : Type 0} (P : Result D Refusals.Refusal → Type 0) (part : Result B Refusals.Refusal) (b : B) (next : B → Result D Refusals.Refusal) → part ≡ Ok b → P (next b) → P (and_then part next)
passed_part P part b next is h = subst (λ x. P (and_then x next)) (sym is) h
