-- The lines of a package whose contents are mixed up, by the front that was read of it.
use Rattle.std.proofs.Common.{◌≡◌, ◌∙◌, List, ℕ, Option, Some, None, Result, Ok, Err, sym, ap}
use Rattle.std.specs.Prelude.{IfOk, Vec}
use Rattle.std.specs.declared.alloc.Global.{Global}
use Rattle.adb_view.specs.declared.tables.Which.TheVariants.{Package}
use Rattle.base_core.specs.Calls.{IfObservable}
use Rattle.base_core.specs.Tree.{TreeState, files_of}
use Rattle.base_core.specs.declared.cause.Cause.{Cause}
use Rattle.base_core.specs.declared.tree.TreeFault.{TreeFault}
use Rattle.pkg_core.specs.Front.{IsFrontOf, IsFrontRead, front_fault, front_payload}
use Rattle.pkg_core.specs.adb_schema.Soundness.{container_fault_except_contents, payload_fault, payload_in, root_value_of_payload}
use Rattle.pkg_core.specs.declared.front.Front.{Front}
use Rattle.pkg_core.specs.declared.front.FrontFault.{FrontFault}
use Rattle.pkg_core.specs.declared.front.FrontFault.TheVariants.{Bad, Disk, Memory}
use Rattle.hint_core.specs.Contents.{AreLinesOfRead, ExplainsFile, contents_lines, lines_unless, package_lines}
use Rattle.hint_core.specs.declared.contents.MixedUp.{MixedUp}

module _ (schema : ℕ)
    (bad : (file : List ℕ) (cause : Cause) → front_fault schema file ≡ Some cause → container_fault_except_contents Package file ≡ Some cause)
    (tested : (file : List ℕ) (front : Front) → IsFrontOf schema file front → container_fault_except_contents Package file ≡ payload_fault Package (front_payload front))
    (held : (file : List ℕ) (front : Front) → IsFrontOf schema file front → payload_in file ≡ front_payload front) where
  lines_of : (name : List ℕ) (mixed : MixedUp) (found : Option (List ℕ)) (read : Result (Option Front) FrontFault) (lines : List ℕ) → IsFrontRead schema found read → AreLinesOfRead name mixed read lines → lines ≡ contents_lines name mixed found
  lines_of name mixed None (Ok (Some front)) lines is says = absurd is
  lines_of name mixed (Some file) (Ok (Some front)) lines is says =
      says
      ∙ (ap (λ (f : Option Cause). lines_unless f (package_lines name mixed (root_value_of_payload Package (front_payload front)))) (sym (tested file front is))
      ∙ ap (λ (p : List ℕ). lines_unless (container_fault_except_contents Package file) (package_lines name mixed (root_value_of_payload Package p))) (sym (held file front is)))
  lines_of name mixed None (Ok None) lines is says = says
  lines_of name mixed (Some file) (Ok None) lines is says = absurd is
  lines_of name mixed None (Err (Bad cause)) lines is says = absurd is
  lines_of name mixed (Some file) (Err (Bad cause)) lines is says =
      says ∙ ap (λ (f : Option Cause). lines_unless f (package_lines name mixed (root_value_of_payload Package (payload_in file)))) (sym (bad file cause is))
  lines_of name mixed found (Err Disk) lines is says = absurd says
  lines_of name mixed found (Err Memory) lines is says = absurd says

  -- what is printed of what is found under a name
  pub file_explained : (history : List TreeState) (name : List ℕ) (mixed : MixedUp) (read : Result (Option Front) FrontFault) (r : Result (Vec ℕ Global) TreeFault) → (found : Option (List ℕ)) × IfObservable history (λ v. found ≡ files_of v name) × IsFrontRead schema found read → IfOk r (λ lines. AreLinesOfRead name mixed read lines.items) → IfOk r (λ lines. ExplainsFile (Some name) mixed history lines.items)
  file_explained history name mixed read (Ok lines) e h = (e.0, e.1, lines_of name mixed e.0 read lines.items e.2 h)
  file_explained history name mixed read (Err fault) e h = tt
