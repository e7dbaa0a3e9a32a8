-- What `mkpkg` and `mkndx` write, and which refusal they report. The rules are in `docs/commands.md`,
-- "`mkpkg`" and "`mkndx PACKAGE..`". Serves the laws of `src/make.rt`.
use Rattle.std.specs.Prelude.{◌≡◌, ◌≢◌, ◌⊎◌, ℕ, true, false, List, [], ◌∷◌, ◌++◌, codes, Option, Some, None, Result, Ok, Err}
use Rattle.base_core.specs.Files.{Files}
use Rattle.base_core.specs.Lists.{IsIn}
use Rattle.outcome.specs.make_info.declared.fault.MakeFault.{MakeFault}
use Rattle.outcome.specs.make_info.declared.fault.MakeFault.TheVariants.{FileMissing as NoFile, FileBad as BadFile, InfoBad as BadInfo, TooLarge, Disk, Memory}
use Rattle.report_core.specs.Texts.{refusal_line}
use Rattle.report_core.specs.declared.refusal.Refusal.{Refusal}
use Rattle.report_core.specs.declared.refusal.Refusal.TheVariants.{FileMissing, FileBad, InfoBad}
use Rattle.outcome.specs.Outcome.{Outcome}

-- ---- reserved names

-- the four names that are reserved, with all names below them
abbrev pub four_names : List (List ℕ)
four_names = codes "etc/apk/world" ∷ codes "lib/apk/intent" ∷ codes "lib/apk/stage" ∷
    codes "lib/apk/db" ∷ []

-- a name is one of the four, or one of them followed by a slash and by more
pub record IsReservedName (name : List ℕ) : Type 0 where
  -- the one of the four names
  pub top : List ℕ
  -- it is one of the four
  pub listed : IsIn top four_names
  -- the name is this one, or it is below it
  pub below : (name ≡ top) ⊎ ((rest : List ℕ) × (name ≡ top ++ codes "/" ++ rest))

-- the output, if there is one, has no reserved name
abbrev pub IsOutputUnreserved : Option (List ℕ) → Type 0
IsOutputUnreserved output = (name : List ℕ) → output ≡ Some name → IsReservedName name → ⊥

-- ---- outcomes

-- the outcome is this refusal: the command prints only the line of the refusal, on standard error, and writes nothing
pub record IsRefusedWith (refusal : Refusal) (files : Files) (outcome : Outcome) : Type 0 where
  -- the outcome is this refusal
  pub refused : outcome.refusal ≡ Some refusal
  -- nothing is printed on standard output
  pub prints : outcome.out ≡ []
  -- the line of the refusal is printed on standard error
  pub explains : outcome.err ≡ refusal_line refusal
  -- the files are unchanged
  pub keeps : outcome.files ≡ files
  -- nothing is committed
  pub commits : outcome.commits ≡ false

-- the files after an output was written: it has these bytes, nothing is under its scratch name, and
-- each other name is as before
pub record HasOutputNamed (name bytes : List ℕ) (before after : Files) : Type 0 where
  -- the output has these bytes
  pub written : after name ≡ Some bytes
  -- there is no file under the scratch name
  pub scratch : after (name ++ codes ".apk-tmp") ≡ None
  -- each other name has the same file as before, or none
  pub others : (q : List ℕ) → q ≢ name → q ≢ name ++ codes ".apk-tmp" → after q ≡ before q

-- the files after a command that may have no output: they are as before if it has none, and otherwise as
-- *HasOutputNamed* says
abbrev pub HasOutput : Option (List ℕ) → List ℕ → Files → Files → Type 0
HasOutput None bytes before after = after ≡ before
HasOutput (Some name) bytes before after = HasOutputNamed name bytes before after

-- the command has written its output and printed its report
pub record IsOutputWrittenAndReported (output : Option (List ℕ)) (bytes report : List ℕ) (files : Files)
    (outcome : Outcome) : Type 0 where
  -- the command is not refused
  pub accepted : outcome.refusal ≡ None
  -- the report is printed on standard output
  pub prints : outcome.out ≡ report
  -- nothing is printed on standard error
  pub explains : outcome.err ≡ []
  -- the output has these bytes
  pub writes : HasOutput output bytes files outcome.files
  -- the outcome commits
  pub commits : outcome.commits ≡ true

-- ---- what was made

-- the refusal of a fault of the input: a file that is absent or bad, or a bad value of `-I`; None for any other fault
abbrev pub refusal_if_input_fault : MakeFault → Option Refusal
refusal_if_input_fault (NoFile place) = Some (FileMissing place)
refusal_if_input_fault (BadFile place cause) = Some (FileBad place cause)
refusal_if_input_fault (BadInfo place) = Some (InfoBad place)
refusal_if_input_fault (TooLarge bytes values) = None
refusal_if_input_fault Disk = None
refusal_if_input_fault Memory = None

-- the input has no fault: a container was made, or it is too large
abbrev pub IsMadeOrTooLarge : Result (List ℕ) MakeFault → Type 0
IsMadeOrTooLarge made =
    ((bytes : List ℕ) × (made ≡ Ok bytes))
    ⊎ ((bytes : ℕ) × (values : ℕ) × (made ≡ Err (TooLarge bytes values)))
