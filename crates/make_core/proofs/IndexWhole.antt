-- The index that a command asks for, over any tree.
use Rattle.std.proofs.Common.{◌≡◌, ℕ, true, List, [], ◌∷◌, Option, Some, Result, Ok, Err, refl, sym, ◌∙◌, ap, subst}
use Rattle.base_core.specs.Calls.{IfObservable}
use Rattle.base_core.specs.Tree.{TreeState}
use Rattle.adb_view.specs.Plain.{Plain}
use Rattle.command_core.specs.Command.{CommandLine}
use Rattle.command_core.specs.Sound.{IsValidCommand}
use Rattle.command_core.specs.Applets.{operand_rule_if_needed_kind_flag_given}
use Rattle.command_core.specs.Named.{are_files}
use Rattle.command_core.specs.Operands.{at_least}
use Rattle.command_core.specs.declared.operands.OperandKind.TheVariants.{File}
use Rattle.command_core.specs.declared.operands.OperandRule.{OperandRule}
use Rattle.command_core.specs.declared.operands.Operand.{Operand}
use Rattle.command_core.specs.declared.command.Applet.{Applet}
use Rattle.command_core.specs.declared.command.Applet.TheVariants.{Mkndx}
use Rattle.make_core.specs.Index.{found_entries, index_of_entries, index_of_entries_or_fault, first_description_or_empty, made_index}
use Rattle.make_core.specs.Kept.{AgreesUnlessMemory, AgreesUnlessMemoryOrDisk}
use Rattle.make_core.specs.Files.{reads_of, EachOperandReadFindsNoFileOrFileBytes}
use Rattle.make_info.specs.declared.fault.MakeFault.{MakeFault}
use Rattle.make_info.specs.declared.fault.MakeFault.TheVariants.{FileMissing, FileBad, InfoBad, TooLarge, Disk, Memory}
use Rattle.make_core.proofs.IndexReads.{by_made}

made_all : {A : Type 0} (view : A → List ℕ) (d : List ℕ) (r : Result A MakeFault) (told : Result (List Plain) MakeFault) (es : List Plain) → told ≡ Ok es → AgreesUnlessMemory view r (index_of_entries d es) → AgreesUnlessMemoryOrDisk view r (index_of_entries_or_fault d told)
made_all view d r told es e h = subst (λ (t : Result (List Plain) MakeFault). AgreesUnlessMemoryOrDisk view r (index_of_entries_or_fault d t)) (sym e) (by_made view r (index_of_entries d es) h)

refused_all : {A B : Type 0} (one : B → List Plain) (view : A → List ℕ) (d : List ℕ) (fault : MakeFault) (told : Result (List Plain) MakeFault) → AgreesUnlessMemoryOrDisk one (Err fault) told → AgreesUnlessMemoryOrDisk view (Err fault) (index_of_entries_or_fault d told)
refused_all one view d (FileMissing p) told h = ap (index_of_entries_or_fault d) h
refused_all one view d (FileBad p c) told h = ap (index_of_entries_or_fault d) h
refused_all one view d (InfoBad p) told h = ap (index_of_entries_or_fault d) h
refused_all one view d (TooLarge b v) told h = ap (index_of_entries_or_fault d) h
refused_all one view d Disk told h = tt
refused_all one view d Memory told h = tt

module _ (command : CommandLine) (d : List ℕ) (os : List Operand) (is_d : d ≡ first_description_or_empty command.values) (is_os : os ≡ command.operands) where
  by_command : {A : Type 0} (view : A → List ℕ) (read : ℕ → List ℕ → Option (List ℕ)) (r : Result A MakeFault) → AgreesUnlessMemoryOrDisk view r (index_of_entries_or_fault d (found_entries read 0 os)) → AgreesUnlessMemoryOrDisk view r (made_index command read)
  unfolding made_index
  by_command view read r h = subst (λ o. AgreesUnlessMemoryOrDisk view r (index_of_entries_or_fault (first_description_or_empty command.values) (found_entries read 0 o))) is_os (subst (λ (x : List ℕ). AgreesUnlessMemoryOrDisk view r (index_of_entries_or_fault x (found_entries read 0 os))) is_d h)

  pub told_made : {A : Type 0} (view : A → List ℕ) (history : List TreeState) (es : List Plain) (r : Result A MakeFault) → IfObservable history (λ v. found_entries (reads_of v) 0 os ≡ Ok es) → AgreesUnlessMemory view r (index_of_entries d es) → IfObservable history (λ v. AgreesUnlessMemoryOrDisk view r (made_index command (reads_of v)))
  told_made view [] es r so made = tt
  told_made view (v ∷ earlier) es r so made = by_command view (reads_of v) r (made_all view d r _ es so made)

  pub found_made : {A : Type 0} (view : A → List ℕ) (es : List Plain) (r : Result A MakeFault) → (read : ℕ → List ℕ → Option (List ℕ)) × EachOperandReadFindsNoFileOrFileBytes read 0 os × (found_entries read 0 os ≡ Ok es) → AgreesUnlessMemory view r (index_of_entries d es) → (read : ℕ → List ℕ → Option (List ℕ)) × EachOperandReadFindsNoFileOrFileBytes read 0 command.operands × AgreesUnlessMemoryOrDisk view r (made_index command read)
  found_made view es r so made = (so.0, subst (EachOperandReadFindsNoFileOrFileBytes so.0 0) is_os so.1, by_command view so.0 r (made_all view d r _ es so.2 made))

module _ (command : CommandLine) (os : List Operand) (is_os : os ≡ command.operands) where
  pub told_refused : {A B : Type 0} (one : B → List Plain) (view : A → List ℕ) (history : List TreeState) (fault : MakeFault) (r : Result A MakeFault) → IfObservable history (λ v. AgreesUnlessMemoryOrDisk one (Err fault) (found_entries (reads_of v) 0 os)) → r ≡ Err fault → IfObservable history (λ v. AgreesUnlessMemoryOrDisk view r (made_index command (reads_of v)))
  told_refused one view [] fault r so e = tt
  told_refused one view (v ∷ earlier) fault r so e = by_command command (first_description_or_empty command.values) os refl is_os view (reads_of v) r (subst (λ x. AgreesUnlessMemoryOrDisk view x (index_of_entries_or_fault (first_description_or_empty command.values) (found_entries (reads_of v) 0 os))) (sym e) (refused_all one view (first_description_or_empty command.values) fault _ so))

  pub found_refused : {A B : Type 0} (one : B → List Plain) (view : A → List ℕ) (fault : MakeFault) (r : Result A MakeFault) → (read : ℕ → List ℕ → Option (List ℕ)) × EachOperandReadFindsNoFileOrFileBytes read 0 os × AgreesUnlessMemoryOrDisk one (Err fault) (found_entries read 0 os) → r ≡ Err fault → (read : ℕ → List ℕ → Option (List ℕ)) × EachOperandReadFindsNoFileOrFileBytes read 0 command.operands × AgreesUnlessMemoryOrDisk view r (made_index command read)
  found_refused one view fault r so e = (so.0, subst (EachOperandReadFindsNoFileOrFileBytes so.0 0) is_os so.1, by_command command (first_description_or_empty command.values) os refl is_os view so.0 r (subst (λ x. AgreesUnlessMemoryOrDisk view x (index_of_entries_or_fault (first_description_or_empty command.values) (found_entries so.0 0 os))) (sym e) (refused_all one view (first_description_or_empty command.values) fault _ so.2)))

-- what the layer of commands says of operands that are files
abbrev pub AreFileOperands : Type 0
AreFileOperands = (c : CommandLine) (rule : OperandRule) → IsValidCommand c → operand_rule_if_needed_kind_flag_given c.applet c.flags ≡ Some rule → rule.kind ≡ File → are_files c.operands ≡ true

pub files_by : AreFileOperands → (command : CommandLine) (os : List Operand) → IsValidCommand command → command.applet ≡ Mkndx → os ≡ command.operands → are_files os ≡ true
files_by law command os h e is = ap are_files is ∙ law command (at_least 0 File) h (ap (λ (a : Applet). operand_rule_if_needed_kind_flag_given a command.flags) e) refl
