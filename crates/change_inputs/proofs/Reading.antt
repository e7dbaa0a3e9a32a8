-- What the calls of a function that only reads a tree ensure together.
use Rattle.std.proofs.Common.{◌≡◌, ℕ, List, Option, Result, Ok, Err, sym, subst}
use Rattle.std.specs.Prelude.{IfOk}
use Rattle.std.specs.declared.alloc.AllocError.{AllocError}
use Rattle.std.specs.Result.{IsErrAnd, IsOkAnd}
use Rattle.base_core.specs.Faults.{Counts}
use Rattle.base_core.specs.Read.{OnlyReads}
use Rattle.base_core.specs.Tree.{TreeState}
use Rattle.report_core.specs.declared.refusal.Refusal as Refusals
use Rattle.change_inputs.specs.Answers.{Agrees, IsFileFoundInTree}
use Rattle.change_inputs.specs.declared.root.Refused.{Refused}
use Rattle.change_inputs.specs.declared.root.Refused.TheVariants.{Disk, Memory, Refusal}

-- the file under a name, given the result of the call that makes the name
pub named_found : (old now : List TreeState) (name : Result (List ℕ) AllocError) (wanted : List ℕ) (found : Option (List ℕ)) → now ≡ old → IfOk name (λ n. n ≡ wanted) → IsOkAnd name (λ n. IsFileFoundInTree now n found) → IsFileFoundInTree old wanted found
named_found old now (Ok n) wanted found same is located =
    subst (λ (history : List TreeState). IsFileFoundInTree history wanted found) same (subst (λ (m : List ℕ). IsFileFoundInTree now m found) is located)
named_found old now (Err e) wanted found same is located = absurd located

-- a test of what was read fails with no I/O error
pub no_disk : {A B : Type 0} (view : A → B) (wanted : Result B Refusals.Refusal) (fault : Refused) → Agrees view (Err fault) wanted → fault ≡ Disk → ⊥
no_disk view wanted (Refusal refusal) agrees is = absurd (cc)
no_disk view wanted Disk agrees is = agrees
no_disk view wanted Memory agrees is = absurd (cc)

module _ {A B : Type 0} (old now : List TreeState) (before after : Counts) where
  -- a fault after the reads, which is no I/O error
  pub reads_then_fault : (x : A) (fault : Refused) (r : Result B Refused) → (fault ≡ Disk → ⊥) → IsErrAnd r (λ e. e ≡ fault) → OnlyReads {A = A} {E = Refused} Disk old now before after (Ok x) → OnlyReads {A = B} {E = Refused} Disk old now before after r
  reads_then_fault x fault (Ok y) apart is reads = absurd is
  reads_then_fault x fault (Err e) apart is reads = subst (λ (f : Refused). OnlyReads {A = B} {E = Refused} Disk old now before after (Err f)) (sym is) (record {
    same = reads.same;
    goes_on = reads.goes_on;
    disk = λ failed. absurd (apart (let same : fault ≡ Disk = cc in same));
    kept = tt;
    others = λ other. reads.kept;
    proper = reads.proper;
  })
