-- What each applet reports is what its command reports; another applet reports nothing.
use Rattle.std.proofs.Common.{◌≡◌, ◌⊎◌, inl, inr, [], List, None, Result, Ok, refl, sym, ap, subst, ◌∙◌}
use Rattle.base_core.specs.Tree.{TreeState}
use Rattle.change_inputs.specs.Answers.{AgreesUnlessDiskOrMemory}
use Rattle.change_inputs.specs.declared.root.Refused.{Refused}
use Rattle.command_core.specs.Command.{CommandLine}
use Rattle.command_core.specs.declared.command.Applet.{Applet}
use Rattle.command_core.specs.declared.command.Applet.TheVariants.{Audit, Info, List as ListApplet, Manifest, Policy, Search}
use Rattle.tell_core.specs.Info.{report_and_refusal}
use Rattle.tell_core.specs.declared.info.reporting.ReportAndRefusal.{ReportAndRefusal}
use Rattle.change_inputs.specs.make_info.Reads.{Reads}
use Rattle.change_inputs.proofs.package_files.ReadLemmas.{explained}
use Rattle.change_inputs.specs.package_files.Runs.{HoldsOfSomeReadsOfTree}
use Rattle.tell_core.specs.ReportForCommand.{report_for_command, report_for_applet}

abbrev pub IsTold : List TreeState → CommandLine → Applet → Result ReportAndRefusal Refused → Type 0
IsTold history command applet result = HoldsOfSomeReadsOfTree history (λ read. AgreesUnlessDiskOrMemory (λ (done : ReportAndRefusal). done) result (report_for_applet applet command read))

module _ (history : List TreeState) (command : CommandLine) (result : Result ReportAndRefusal Refused) where
  pub told_as : (applet read_applet : Applet) → read_applet ≡ command.applet → read_applet ≡ applet → IsTold history command applet result → IsTold history command command.applet result
  told_as applet read_applet same is told = subst (λ (a : Applet). IsTold history command a result) (sym is ∙ same) told

  pub told_of_query : (applet : Applet) → applet ≡ command.applet → (applet ≡ ListApplet) ⊎ ((applet ≡ Search) ⊎ (applet ≡ Policy)) → IsTold history command Search result → IsTold history command command.applet result
  told_of_query applet same (inl is) told = told_as ListApplet applet same is told
  told_of_query applet same (inr (inl is)) told = told_as Search applet same is told
  told_of_query applet same (inr (inr is)) told = told_as Policy applet same is told

-- an applet that is no such one
abbrev pub IsOther : Applet → Type 0
IsOther applet =
    (applet ≡ Info → ⊥) × (applet ≡ Audit → ⊥) × (applet ≡ Manifest → ⊥) × (applet ≡ ListApplet → ⊥) × (applet ≡ Search → ⊥) × (applet ≡ Policy → ⊥)

nothing_for : (applet : Applet) (command : CommandLine) (read : Reads) → IsOther applet → report_for_applet applet command read ≡ Ok (report_and_refusal [] None)
nothing_for Info command read (info, audit, manifest, list, search, policy) = absurd (info refl)
nothing_for Audit command read (info, audit, manifest, list, search, policy) = absurd (audit refl)
nothing_for Manifest command read (info, audit, manifest, list, search, policy) = absurd (manifest refl)
nothing_for ListApplet command read (info, audit, manifest, list, search, policy) = absurd (list refl)
nothing_for Search command read (info, audit, manifest, list, search, policy) = absurd (search refl)
nothing_for Policy command read (info, audit, manifest, list, search, policy) = absurd (policy refl)
nothing_for other command read (info, audit, manifest, list, search, policy) = refl

pub nothing_told : (history : List TreeState) (command : CommandLine) (applet : Applet) (done : ReportAndRefusal) → applet ≡ command.applet → IsOther applet → done ≡ report_and_refusal [] None
    → HoldsOfSomeReadsOfTree history (λ read. AgreesUnlessDiskOrMemory (λ (d : ReportAndRefusal). d) (Ok done) (report_for_command command read))
nothing_told history command applet done same others empty =
    let never = subst IsOther same others in
    explained history (λ read. report_for_command command read ≡ Ok done) (λ read. nothing_for command.applet command read never ∙ ap (λ (d : ReportAndRefusal). Ok d) (sym empty))
