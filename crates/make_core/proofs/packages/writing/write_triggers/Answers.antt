use Rattle.command_core.specs.declared.values.TheConstants.{TRIGGER}
use Rattle.std.proofs.Common.{◌∙◌, ap, List, ℕ, arith, refl}
use Rattle.adb_view.specs.Plain.{array_or_null, blob_or_null}
use Rattle.package_files.specs.adb_values.Drafts.{draft_with}
use Rattle.package_files.proofs.adb_values.Lists.{closed, list_given}
use Rattle.package_files.specs.Sources.{values_of_letter}
use Rattle.make_core.proofs.WriteLemmas.{blob_given, blob_passed, blobs}
use Rattle.make_core.proofs.packages.writing.write_triggers.Goals as goal
use Rattle.make_core.proofs.packages.writing.write_triggers.Goals.{then-value-eq-TRIGGER+in_ok-blob, else-value-eq-TRIGGER}

pub loop-i-preserved : goal.loop-i-preserved
loop-i-preserved c =
    elim c.if-value-eq-TRIGGER.branch [
      | then-value-eq-TRIGGER+in_ok-blob w ↦
          blob_given TRIGGER c.args.values.now c.loop-i.i c.get-value.result.now c.loop-i.draft _ _ c.get-value.ensures c.loop-i.invariant w.if-value-eq-TRIGGER.true
          (w.draft-is ∙ w.in_ok-blob.ensures.ok ∙ ap (λ (b : List ℕ). draft_with (blob_or_null b) c.loop-i.draft) w.as_bytes.ensures)
      | else-value-eq-TRIGGER w ↦
          blob_passed TRIGGER c.args.values.now c.loop-i.i c.get-value.result.now c.loop-i.draft _ _ c.get-value.ensures c.loop-i.invariant w.if-value-eq-TRIGGER.false w.draft-is
    ]

pub returns : goal.returns
returns c =
    closed array_or_null (blobs (values_of_letter TRIGGER c.args.values.now)) c.args.draft.now _ _ c.close_array.result c.close_array.ensures.ok
    (list_given (λ vs. blobs (values_of_letter TRIGGER vs)) c.args.values.now refl c.loop-i.i _ _ _ (omega arith) c.loop-i.invariant c.in_ok-open_list.ensures.ok)
