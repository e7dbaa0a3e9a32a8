use Rattle.std.proofs.Common.{◌∙◌, ap, sym, subst}
use Rattle.pool_core.specs.candidate_core.Candidates.{Candidate}
use Rattle.query_core.specs.Appends.{Appends}
use Rattle.query_core.specs.Lines.{description_part, line_in_form}
use Rattle.query_core.specs.Order.{printed_version}
use Rattle.report_core.specs.Reports.{name_dash_version}
use Rattle.query_core.proofs.Appended.{appends_both, ends_with}
use Rattle.query_core.proofs.LineParts.{full_line, short_form}
use Rattle.query_core.proofs.candidates.put_line.Goals as goal
use Rattle.query_core.proofs.candidates.put_line.Goals.{in-Full+in_ok-put_description, in_default}

pub returns : goal.returns
returns g c =
    let holds = g.O.ReportOut.holds in
    let d : Candidate = c.args.details.now in
    elim c.match-form.branch [
      | in-Full+in_ok-put_description w ↦
          ends_with holds _ _ _ _ _ _ _ (full_line d ∙ ap (λ form. line_in_form form d) (sym w.in-Full.is))
          (appends_both holds _ _ _ _ _ c.in_ok-put_name_version.ensures
          (subst (λ out. Appends holds c.put_name_version.new.out out (description_part d)) (sym w.out-is) w.in_ok-put_description.ensures)) c.put.ensures
      | in_default w ↦
          ends_with holds _ _ _ _ _ _ _ (ap (λ form. line_in_form form d) (sym (short_form c.args.form w.in_default.not-Full)))
          (subst (λ out. Appends holds c.args.out.now out (name_dash_version d.name (printed_version d.version))) (sym w.out-is) c.in_ok-put_name_version.ensures) c.put.ensures
    ]
