-- A command has one first clash of names, or none.
use Rattle.std.proofs.Common.{◌≡◌, ◌∙◌, ℕ, Bool, true, false, List, Option, None, Result, Ok, Err, refl, sym}
use Rattle.base_core.specs.Files.{Files, HasOnlyNamesAmong}
use Rattle.tell_core.specs.change_inputs.Inputs.{Inputs}
use Rattle.engine_core.specs.change_outcome.ChangeOutcome.{ChangeWishes, IsFirstClashOfChange}
use Rattle.command_core.specs.Command.{CommandLine}
use Rattle.engine_core.specs.Changed.{IsFirstClashOrNoneIfRefused, IsFirstClashOrNoneIfSimulated, InputsAndReplacement, selected_from_reads_by_choice}
use Rattle.engine_core.specs.Wishes.{wishes_of}
use Rattle.make_core.specs.make_info.Reads.{Reads}
use Rattle.engine_core.specs.package_changes.Changes.{Replacement}
use Rattle.tell_core.specs.path_clashes.Clash.{NamePair}
use Rattle.report_core.specs.declared.refusal.Refusal.{Refusal}
use Rattle.outcome.specs.Effect.{Effect, Changes}
use Rattle.outcome.specs.Given.{IsFirstClashForChangeElseNone}

-- a change of files under finitely many names has a first clash, or none, and no second one
abbrev pub HaveClash : Type 0
HaveClash = (inputs : Inputs) (r : Replacement) (wishes : ChangeWishes) (read : Reads) (within : List (List ℕ)) (files : Files) → HasOnlyNamesAmong within files
    → (clash : Option NamePair) × IsFirstClashOfChange inputs r wishes read files clash

abbrev pub HaveOneClash : Type 0
HaveOneClash = (inputs : Inputs) (r : Replacement) (wishes : ChangeWishes) (read : Reads) (files : Files) (a b : Option NamePair)
    → IsFirstClashOfChange inputs r wishes read files a → IsFirstClashOfChange inputs r wishes read files b → a ≡ b

unless_simulated : HaveClash → (simulate : Bool) (wishes : ChangeWishes) (read : Reads) (files : Files) (within : List (List ℕ)) (s : InputsAndReplacement) → HasOnlyNamesAmong within files
    → (clash : Option NamePair) × IsFirstClashOrNoneIfSimulated simulate wishes read files s clash
unless_simulated have true wishes read files within s finite = (None, refl)
unless_simulated have false wishes read files within s finite = have s.inputs s.replacement wishes read within files finite

of_selected : HaveClash → (command : CommandLine) (read : Reads) (files : Files) (within : List (List ℕ)) (selected : Result InputsAndReplacement Refusal) → HasOnlyNamesAmong within files
    → (clash : Option NamePair) × IsFirstClashOrNoneIfRefused command read files selected clash
of_selected have command read files within (Ok s) finite = unless_simulated have command.flags.simulate (wishes_of command) read files within s finite
of_selected have command read files within (Err refusal) finite = (None, refl)

pub clash_exists : HaveClash → (effect : Effect) (command : CommandLine) (read : Reads) (files : Files) (within : List (List ℕ)) (chosen : Option (List ℕ)) → HasOnlyNamesAmong within files
    → (clash : Option NamePair) × IsFirstClashForChangeElseNone effect command read files chosen clash
clash_exists have Changes command read files within chosen finite = of_selected have command read files within (selected_from_reads_by_choice command read chosen) finite
clash_exists have other command read files within chosen finite = (None, refl)

one_unless : HaveOneClash → (simulate : Bool) (wishes : ChangeWishes) (read : Reads) (files : Files) (s : InputsAndReplacement) (a b : Option NamePair)
    → IsFirstClashOrNoneIfSimulated simulate wishes read files s a → IsFirstClashOrNoneIfSimulated simulate wishes read files s b → a ≡ b
one_unless one true wishes read files s a b x y = x ∙ sym y
one_unless one false wishes read files s a b x y = one s.inputs s.replacement wishes read files a b x y

one_selected : HaveOneClash → (command : CommandLine) (read : Reads) (files : Files) (selected : Result InputsAndReplacement Refusal) (a b : Option NamePair)
    → IsFirstClashOrNoneIfRefused command read files selected a → IsFirstClashOrNoneIfRefused command read files selected b → a ≡ b
one_selected one command read files (Ok s) a b x y = one_unless one command.flags.simulate (wishes_of command) read files s a b x y
one_selected one command read files (Err refusal) a b x y = x ∙ sym y

pub clash_one : HaveOneClash → (effect : Effect) (command : CommandLine) (read : Reads) (files : Files) (chosen : Option (List ℕ)) (a b : Option NamePair)
    → IsFirstClashForChangeElseNone effect command read files chosen a → IsFirstClashForChangeElseNone effect command read files chosen b → a ≡ b
clash_one one Changes command read files chosen a b x y = one_selected one command read files (selected_from_reads_by_choice command read chosen) a b x y
clash_one one other command read files chosen a b x y = x ∙ sym y
