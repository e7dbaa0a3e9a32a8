-- What a call that explains a refusal writes. The rules are in `docs/commands.md`, "Hints".
use Rattle.std.specs.Prelude.{◌≡◌, ℕ, List, [], if◌then◌else◌, Option, Some, None, Result, OnOk, OnErr}
use Rattle.base_core.specs.Calls.{IfObservable}
use Rattle.base_core.specs.Sink.{SinkBeforeAndAfter, SinkBytesGrowBy, SinkBytesGrowByPrefixOf}
use Rattle.base_core.specs.Tree.{TreeState, files_of}
use Rattle.base_core.specs.declared.tree.TreeFault.{TreeFault}
use Rattle.base_core.specs.declared.tree.TreeFault.TheVariants as Trees
use Rattle.report_core.specs.declared.refusal.Refusal.{Refusal}
use Rattle.words_core.specs.Grammar.{command_of}
use Rattle.hint_core.specs.declared.telling.HintFault.{HintFault}
use Rattle.hint_core.specs.declared.telling.HintFault.TheVariants.{Disk, Memory, Sink}
use Rattle.hint_core.specs.declared.hint.Subject.{Subject}
use Rattle.hint_core.specs.Hints.{hints_by_words_and_subject_file, is_explained, subject_file}
use Rattle.hint_core.specs.Lines.{hint_lines}

-- a fault of a read, as a fault of the hints
abbrev pub as_hint_fault : TreeFault → HintFault
as_hint_fault Trees.Disk = Disk
as_hint_fault Trees.Memory = Memory

-- a fault is not one of the tree
abbrev pub IsNotDiskFault : HintFault → Type 0
IsNotDiskFault Disk = ⊥
IsNotDiskFault Memory = Unit {0}
IsNotDiskFault Sink = Unit {0}

-- `found` is the file under a name, if a name is given; without a name nothing is found
abbrev pub IsFoundIfNamed : List TreeState → Option (List ℕ) → Option (List ℕ) → Type 0
IsFoundIfNamed history None found = found ≡ None
IsFoundIfNamed history (Some name) found = IfObservable history (λ v. found ≡ files_of v name)

-- `found` is the file that a refusal with this subject is about, if it is about one
abbrev pub IsFoundForSubject : List TreeState → Subject → Option (List ℕ) → Type 0
IsFoundForSubject history subject found = IsFoundIfNamed history (subject_file subject) found

-- the lines that are written after a refusal of a command line; `found` is the file that the refusal is about, if there
-- is one
abbrev pub hint_lines_after_refusal : List (List ℕ) → Refusal → Option (List ℕ) → List ℕ
hint_lines_after_refusal words refusal found =
    if is_explained (command_of words) then hint_lines
    (hints_by_words_and_subject_file words refusal found) else []

-- a call has written these lines to a sink, or a prefix of them if it failed
pub record Tells {T E : Type 0} (lines : List ℕ) (sink : SinkBeforeAndAfter)
    (result : Result T E) : Type 0 where
  -- all lines were written
  pub ok : OnOk result (SinkBytesGrowBy sink lines)
  -- a prefix of the lines was written
  pub err : OnErr result (SinkBytesGrowByPrefixOf sink lines)
