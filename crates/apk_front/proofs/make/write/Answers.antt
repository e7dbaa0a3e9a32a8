use Rattle.std.proofs.Common.{◌≡◌, ◌∙◌, Err, refl, sym, ap, subst}
use Rattle.std.specs.Prelude.{IsErrAnd}
use Rattle.std.proofs.lemmas.Result.{err_from_is_err_and}
use Rattle.base_core.specs.declared.tree.TreeFault.TheVariants.{Memory}
use Rattle.adb_dump.specs.adb_schema.Reserved.{is_reserved}
use Rattle.apk_front.proofs.Runs.{Judged, any_proper, cut_run, free_reports, image_has_state, report_no_refusal, reserved_run, reserved_reports, room_proper, written_run}
use Rattle.apk_front.proofs.make.write.Goals as goal

pub returns-then-is_reserved-clause-reported : goal.returns-then-is_reserved-clause-reported
returns-then-is_reserved-clause-reported g c =
    reserved_reports _ c.args.report c.args.file.now c.in-Some.output c.refused.result (sym c.in_ok-output.ensures ∙ c.in-Some.is) (ap is_reserved (sym c.as_bytes.ensures.value) ∙ (sym c.is_reserved.ensures ∙ c.if-is_reserved.true)) c.refused.ensures

pub returns-then-is_reserved-clause-run : goal.returns-then-is_reserved-clause-run
returns-then-is_reserved-clause-run g c = record {
  tree = reserved_run _ c.args.report c.args.file.now c.in-Some.output _ _ _ (sym c.in_ok-output.ensures ∙ c.in-Some.is) (ap is_reserved (sym c.as_bytes.ensures.value) ∙ (sym c.is_reserved.ensures ∙ c.if-is_reserved.true)) refl;
  refused = λ some. refl;
  undone = λ none. refl;
}

pub returns-then-is_reserved-clause-proper : goal.returns-then-is_reserved-clause-proper
returns-then-is_reserved-clause-proper g c = any_proper _ _ _ refl

pub replace-requires-clause-length : goal.replace-requires-clause-length
replace-requires-clause-length g c = c.an_output_is_short.ensures c.args.command.now c.in-Some.output c.requires.command (sym c.in_ok-output.ensures ∙ c.in-Some.is)

pub returns-in_err-replace-clause-run : goal.returns-in_err-replace-clause-run
returns-in_err-replace-clause-run g c =
    let p = err_from_is_err_and c.from_residual-in_err-replace.result c.from_residual-in_err-replace.ensures.1 in
    record {
      tree = cut_run image_has_state _ c.args.report c.args.file.now c.in-Some.output _ p.0 _ _ p.1 (sym c.in_ok-output.ensures ∙ c.in-Some.is) (ap is_reserved (sym c.as_bytes.ensures.value) ∙ (sym c.is_reserved.ensures ∙ c.if-is_reserved.false)) c.replace.ensures.moments c.replace.ensures.is_durable c.replace.ensures.reads c.replace.ensures.others;
      refused = rw p.1 tt;
      undone = λ none. ap g.T.Tree.history (c.replace.ensures.memory (c.in_err-replace.was ∙ ap Err (sym (subst (λ (judged : Judged). IsErrAnd judged (λ fault. fault ≡ c.in_err-replace.field-0.0)) none c.from_residual-in_err-replace.ensures.1))));
    }

pub returns-in_err-replace-clause-proper : goal.returns-in_err-replace-clause-proper
returns-in_err-replace-clause-proper g c =
    room_proper _ c.args.report c.args.file.now c.in-Some.output _ _ (sym c.in_ok-output.ensures ∙ c.in-Some.is) (ap is_reserved (sym c.as_bytes.ensures.value) ∙ (sym c.is_reserved.ensures ∙ c.if-is_reserved.false)) c.replace.ensures.proper

pub returns-clause-reported : goal.returns-clause-reported
returns-clause-reported g c =
    free_reports _ c.args.report c.args.file.now c.in-Some.output c.reported.result (sym c.in_ok-output.ensures ∙ c.in-Some.is) (ap is_reserved (sym c.as_bytes.ensures.value) ∙ (sym c.is_reserved.ensures ∙ c.if-is_reserved.false)) c.reported.ensures

pub returns-clause-run : goal.returns-clause-run
returns-clause-run g c = record {
  tree = written_run image_has_state _ c.args.report c.args.file.now c.in-Some.output c.reported.result _ _ (sym c.in_ok-output.ensures ∙ c.in-Some.is) (ap is_reserved (sym c.as_bytes.ensures.value) ∙ (sym c.is_reserved.ensures ∙ c.if-is_reserved.false)) c.in_ok-replace.ensures.moments c.in_ok-replace.ensures.is_durable c.in_ok-replace.ensures.reads c.in_ok-replace.ensures.settled c.in_ok-replace.ensures.ok c.in_ok-replace.ensures.synced c.replace.ensures.others;
  refused = report_no_refusal c.reported.result c.args.report _ c.reported.ensures;
  undone = λ none. absurd (cc);
}

pub returns-clause-proper : goal.returns-clause-proper
returns-clause-proper g c =
    room_proper _ c.args.report c.args.file.now c.in-Some.output _ _ (sym c.in_ok-output.ensures ∙ c.in-Some.is) (ap is_reserved (sym c.as_bytes.ensures.value) ∙ (sym c.is_reserved.ensures ∙ c.if-is_reserved.false)) c.in_ok-replace.ensures.proper
