-- What a text explains, by what was read of a root.
use Rattle.std.proofs.Common.{◌≡◌, ℕ, List, [], Result, Ok, Err, sym, subst}
use Rattle.std.specs.Prelude.{IfOk, Vec}
use Rattle.std.specs.declared.alloc.Global.{Global}
use Rattle.base_core.specs.Tree.{TreeState}
use Rattle.base_core.specs.declared.tree.TreeFault.{TreeFault}
use Rattle.change_inputs.specs.Answers.{AgreesUnlessDiskOrMemory}
use Rattle.change_inputs.specs.Candidates.{root_pool}
use Rattle.change_inputs.specs.Inputs.{Inputs, inputs_of}
use Rattle.change_inputs.specs.Seen.{inputs_seen}
use Rattle.change_inputs.specs.declared.loaded.Loaded.{Loaded}
use Rattle.change_inputs.specs.declared.root.Refused.{Refused}
use Rattle.change_inputs.specs.declared.root.Refused.TheVariants as Refuseds
use Rattle.change_inputs.specs.package_files.Runs.{HoldsOfSomeReadsOfTree}
use Rattle.command_core.specs.Command.{CommandLine}
use Rattle.dep_core.specs.Dependency.{Dependency}
use Rattle.dep_core.specs.Repositories.{Repository}
use Rattle.report_core.specs.declared.refusal.Refusal.{Refusal}
use Rattle.search_tables.specs.candidate_core.Rank.{SelectionProblem, no_names}
use Rattle.unmet_world.specs.Explained.{ExplainsChange, ExplainsIfPool, ExplainsIfRead, ExplainsInputs, ExplainsPool, ExplainsResult}

pub of_read : (command : CommandLine) (history : List TreeState) (read : Result Loaded Refused) (r : Result (Vec ℕ Global) TreeFault) → HoldsOfSomeReadsOfTree history (λ reads. AgreesUnlessDiskOrMemory inputs_seen read (inputs_of command reads)) → IfOk r (λ text. ExplainsResult read text.items) → IfOk r (λ text. ExplainsChange command history text.items)
of_read command history read (Err fault) e h = tt
of_read command history (Ok loaded) (Ok text) e h = record { read = e.read; observed = e.observed; is = subst (λ (found : Result Inputs Refusal). ExplainsIfRead found text.items) (sym e.is) h }
of_read command history (Err (Refuseds.Refusal refusal)) (Ok text) e h = record { read = e.read; observed = e.observed; is = subst (λ (found : Result Inputs Refusal). ExplainsIfRead found text.items) (sym e.is) h }
of_read command history (Err Refuseds.Disk) (Ok text) e h = absurd h
of_read command history (Err Refuseds.Memory) (Ok text) e h = absurd h

pub of_pool : {E : Type 0} (inputs : Inputs) (pool : SelectionProblem) (listed : List Dependency) (repositories : List Repository) (r : Result (Vec ℕ Global) E) → root_pool inputs no_names ≡ Ok pool → listed ≡ inputs.root.world → repositories ≡ inputs.root.repositories → IfOk r (λ text. ExplainsPool listed repositories pool text.items) → IfOk r (λ text. ExplainsInputs inputs text.items)
of_pool inputs pool listed repositories (Ok text) is own same h =
    subst (λ (found : Result SelectionProblem Refusal). ExplainsIfPool inputs.root.world inputs.root.repositories found text.items) (sym is)
    (subst (λ (ds : List Dependency). ExplainsPool ds inputs.root.repositories pool text.items) own (subst (λ (rs : List Repository). ExplainsPool listed rs pool text.items) same h))
of_pool inputs pool listed repositories (Err fault) is own same h = tt

pub of_no_pool : (inputs : Inputs) (refusal : Refusal) (text : List ℕ) → root_pool inputs no_names ≡ Err refusal → text ≡ [] → ExplainsInputs inputs text
of_no_pool inputs refusal text is none =
    subst (λ (found : Result SelectionProblem Refusal). ExplainsIfPool inputs.root.world inputs.root.repositories found text) (sym is) none
