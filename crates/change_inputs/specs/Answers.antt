-- How the result of a call relates to the result that a definition wants, and to the files of the tree. Serves the
-- contracts of `Loaded`, of `Installed` and of the crates above; `docs/commands.md`, "Answers and statuses", lists the
-- failures.
use Rattle.std.specs.Prelude.{◌≡◌, ℕ, List, [], ◌∷◌, Option, Result, Ok, Err}
use Rattle.base_core.specs.Calls.{IfObservable}
use Rattle.base_core.specs.Tree.{TreeState, files_of}
use Rattle.dep_core.specs.Repositories.{Repository}
use Rattle.report_core.specs.declared.refusal.Refusal as Refusals
use Rattle.change_inputs.specs.declared.root.Refused.{Refused}
use Rattle.change_inputs.specs.declared.root.Refused.TheVariants.{Disk, Memory, Refusal}

-- The result of a call that reads no tree is as `wanted`: if it is Ok, the wanted result is Ok with its value, mapped
-- by `view`; a refusal is the wanted one. The call returns no I/O error, and out of memory says nothing of `wanted`.
abbrev pub Agrees :
    {A B : Type 0} → (A → B) → Result A Refused → Result B Refusals.Refusal → Type 0
Agrees view (Ok x) wanted = wanted ≡ Ok (view x)
Agrees view (Err (Refusal refusal)) wanted = wanted ≡ Err refusal
Agrees view (Err Disk) wanted = ⊥
Agrees view (Err Memory) wanted = Unit {0}

-- *Agrees* for a call that reads a tree: an I/O error says nothing of `wanted` either
abbrev pub AgreesUnlessDiskOrMemory :
    {A B : Type 0} → (A → B) → Result A Refused → Result B Refusals.Refusal → Type 0
AgreesUnlessDiskOrMemory view (Ok x) wanted = wanted ≡ Ok (view x)
AgreesUnlessDiskOrMemory view (Err (Refusal refusal)) wanted = wanted ≡ Err refusal
AgreesUnlessDiskOrMemory view (Err Disk) wanted = Unit {0}
AgreesUnlessDiskOrMemory view (Err Memory) wanted = Unit {0}

-- why a call ends without a refusal: an I/O error of the tree, or out of memory
abbrev pub IsDiskOrMemoryFailure : Refused → Type 0
IsDiskOrMemoryFailure (Refusal refusal) = ⊥
IsDiskOrMemoryFailure Disk = Unit {0}
IsDiskOrMemoryFailure Memory = Unit {0}

-- on an observable tree, `found` is the file under the name in the newest state, or None if there is none
abbrev pub IsFileFoundInTree : List TreeState → List ℕ → Option (List ℕ) → Type 0
IsFileFoundInTree history name found = IfObservable history (λ v. found ≡ files_of v name)

-- on an observable tree, `found` are the files under the paths of these repositories, one for each, None if absent
abbrev pub AreFilesFoundInTree : List TreeState → List Repository → List (Option (List ℕ)) → Type 0
AreFilesFoundInTree history [] [] = Unit {0}
AreFilesFoundInTree history [] (f ∷ found) = ⊥
AreFilesFoundInTree history (repository ∷ repositories) [] = ⊥
AreFilesFoundInTree history (repository ∷ repositories) (f ∷ found) =
    IsFileFoundInTree history repository.path f × AreFilesFoundInTree history repositories found
