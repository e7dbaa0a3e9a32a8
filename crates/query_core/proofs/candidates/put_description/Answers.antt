use Rattle.std.proofs.Common.{◌≡◌, ◌∙◌, ◌++◌, [], List, ℕ, ap}
use Rattle.std.specs.Prelude.{codes}
use Rattle.adb_view.specs.FieldIndexes.{INFO_ARCH_INDEX, INFO_LICENSE_INDEX, INFO_ORIGIN_INDEX}
use Rattle.adb_view.specs.Values.{entry_at_index, text_in}
use Rattle.pool_core.specs.candidate_core.Candidates.{Candidate}
use Rattle.pool_core.specs.candidate_core.Values.{candidate_value}
use Rattle.report_core.specs.QueryReports.{installed_mark, text_between_unless_empty}
use Rattle.query_core.specs.Lines.{description_part}
use Rattle.query_core.proofs.Appended.{appends_both, ends_with}
use Rattle.query_core.proofs.candidates.put_description.Goals as goal

pub returns : goal.returns
returns g c =
    let holds = g.O.ReportOut.holds in
    let d : Candidate = c.args.details.now in
    let seen : candidate_value c.candidate.result ≡ d = c.candidate.ensures in
    let arch : c.arch.result.now ≡ text_in (entry_at_index d.info INFO_ARCH_INDEX) = c.arch.ensures ∙ ap (λ (e : Candidate). text_in (entry_at_index e.info INFO_ARCH_INDEX)) seen in
    let origin : c.origin.result.now ≡ text_in (entry_at_index d.info INFO_ORIGIN_INDEX) = c.origin.ensures ∙ ap (λ (e : Candidate). text_in (entry_at_index e.info INFO_ORIGIN_INDEX)) seen in
    let license : c.license.result.now ≡ text_in (entry_at_index d.info INFO_LICENSE_INDEX) = c.license.ensures ∙ ap (λ (e : Candidate). text_in (entry_at_index e.info INFO_LICENSE_INDEX)) seen in
    let first : List ℕ = text_between_unless_empty (codes " ") c.arch.result.now [] in
    let second : List ℕ = text_between_unless_empty (codes " {") c.origin.result.now (codes "}") in
    let third : List ℕ = text_between_unless_empty (codes " (") c.license.result.now (codes ")") in
    let last : List ℕ = installed_mark c.is_installed.result in
    let is : first ++ second ++ third ++ last ≡ description_part d =
    (λ j. text_between_unless_empty (codes " ") (arch j) [] ++ text_between_unless_empty (codes " {") (origin j) (codes "}") ++ text_between_unless_empty (codes " (") (license j) (codes ")") ++ installed_mark (c.is_installed.ensures j)) in
    ends_with holds c.put_installed_mark.result c.args.out.now c.put_between-3.new.out c.put_installed_mark.new.out (first ++ second ++ third) last (description_part d) is
    (appends_both holds _ _ _ (first ++ second) third (appends_both holds _ _ _ first second c.in_ok-put_between.ensures c.in_ok-put_between-2.ensures) c.in_ok-put_between-3.ensures)
    c.put_installed_mark.ensures
