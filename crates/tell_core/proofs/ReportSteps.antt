-- What a command comes to that first reads a part of a root: where that part is refused, and where
-- it is read.
use Rattle.std.proofs.Common.{Result, Ok, Err}
use Rattle.std.specs.Result.{IsErrAnd}
use Rattle.std.specs.Prelude.{◌≡◌, List}
use Rattle.base_core.specs.Tree.{TreeState}
use Rattle.change_inputs.proofs.Handed.{handed_on_disk, passed_part, refused_part_disk, unless_disk}
use Rattle.change_inputs.specs.Answers.{Agrees, AgreesUnlessDiskOrMemory}
use Rattle.change_inputs.specs.Chains.{and_then}
use Rattle.change_inputs.specs.declared.root.Refused.{Refused}
use Rattle.tell_core.specs.declared.info.reporting.ReportAndRefusal.{ReportAndRefusal}
use Rattle.change_inputs.specs.make_info.Reads.{Reads}
use Rattle.change_inputs.specs.package_files.Runs.{HoldsOfSomeReadsOfTree}
use Rattle.report_core.specs.declared.refusal.Refusal.{Refusal}

-- the part of a root that is read, as the program has it and as contracts see it
module _ {A B : Type 0} (view : A → B) (part : Reads → Result B Refusal) where
  -- what is read is the part
  abbrev pub IsPartRead : List TreeState → Result A Refused → Type 0
  IsPartRead history found = HoldsOfSomeReadsOfTree history (λ read. AgreesUnlessDiskOrMemory view found (part read))

  -- a result is the report of the part, which may rest on further reads
  abbrev pub IsReported : List TreeState → (Reads → B → Result ReportAndRefusal Refusal) → Result ReportAndRefusal Refused → Type 0
  IsReported history report result = HoldsOfSomeReadsOfTree history (λ read. AgreesUnlessDiskOrMemory (λ (done : ReportAndRefusal). done) result (and_then (part read) (report read)))

  module _ (history : List TreeState) (result : Result ReportAndRefusal Refused) where
    pub report_unread : (report : Reads → B → Result ReportAndRefusal Refusal) (fault : Refused) → IsErrAnd result (λ e. e ≡ fault) → IsPartRead history (Err fault) → IsReported history report result
    report_unread report fault is seen = record {
      read = seen.read;
      observed = seen.observed;
      is = handed_on_disk (λ (done : ReportAndRefusal). done) (and_then (part seen.read) (report seen.read)) result fault is
          (refused_part_disk view (λ (done : ReportAndRefusal). done) (report seen.read) fault (part seen.read) seen.is);
    }

    -- of a report that rests on the part alone
    pub report_read : (report : B → Result ReportAndRefusal Refusal) (found : A) → IsPartRead history (Ok found) → Agrees (λ (done : ReportAndRefusal). done) result (report (view found)) → IsReported history (λ read. report) result
    report_read report found seen agrees = record {
      read = seen.read;
      observed = seen.observed;
      is = passed_part (AgreesUnlessDiskOrMemory (λ (done : ReportAndRefusal). done) result) (part seen.read) (view found) report seen.is
          (unless_disk (λ (done : ReportAndRefusal). done) (report (view found)) result agrees);
    }
