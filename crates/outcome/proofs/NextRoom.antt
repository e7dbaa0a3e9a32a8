-- A change leaves room for the next command.
use Rattle.std.proofs.Common.{◌≡◌, ◌∙◌, ℕ, Bool, true, false, List, Option, Some, None, IsSome, Result, Ok, Err, refl, sym, ap, subst}
use Rattle.std.specs.Prelude.{if◌then◌else◌}
use Rattle.base_core.specs.Files.{Files}
use Rattle.base_core.specs.declared.cause.Cause.{Cause}
use Rattle.tell_core.specs.change_inputs.Inputs.{Inputs}
use Rattle.engine_core.specs.change_outcome.ChangeOutcome.{ChangeDone, ChangeWishes, IsFirstClashOfChange, change_or_refusal}
use Rattle.command_core.specs.Command.{CommandLine}
use Rattle.command_core.specs.declared.command.Applet.{Applet}
use Rattle.engine_core.specs.Changed.{IsFirstClashOfCommand, IsFirstClashOrNoneIfRefused, IsFirstClashOrNoneIfSimulated, InputsAndReplacement, change_of_selected, change_of_command, selected_from_reads_by_choice, simulated_change}
use Rattle.engine_core.specs.Wishes.{wishes_of}
use Rattle.engine_core.specs.journal_core.Recovery.{Intent, intent_in_file, intent_name, is_staged, recovered_files, files_after_intent}
use Rattle.engine_core.specs.journal_core.Staged.{AreJournalPathsFreeAfterReplayIfAny, HasEmptyStageAndFreeJournalPaths, unstaged_files}
use Rattle.make_core.specs.make_info.Reads.{Reads}
use Rattle.engine_core.specs.package_changes.Changes.{Replacement}
use Rattle.tell_core.specs.path_clashes.Clash.{NamePair}
use Rattle.report_core.specs.declared.refusal.Refusal.{Refusal}
use Rattle.words_core.specs.Grammar.{command_of}
use Rattle.outcome.proofs.Applets.{change_is}
use Rattle.outcome.proofs.Idle.{chain_ok}
use Rattle.outcome.proofs.Recovered.{ReadSound}
use Rattle.outcome.specs.Changing.{change_outcome}
use Rattle.outcome.specs.Commands.{IsOutcomeWithoutDemo, IsOutcomeOverRecoveredFiles, IsOutcomeUnlessBadIntent, effect_outcome, reads_in}
use Rattle.outcome.specs.Effect.{Changes, Effect, effect_of_arguments, effect_of}
use Rattle.outcome.specs.Given.{Given, IsFirstClashForChangeElseNone}
use Rattle.outcome.specs.Outcome.{Outcome}
use Rattle.outcome.specs.Work.{fault_of_intent, recovery_fault, files_recovered_if_needed}

-- a change leaves room to stage, and brings no intent
abbrev pub KeepsRoom : Type 0
KeepsRoom = (inputs : Inputs) (r : Replacement) (wishes : ChangeWishes) (read : Reads) (clash : Option NamePair) (files : Files) (done : ChangeDone)
    → change_or_refusal inputs r wishes read clash files ≡ Ok done → IsFirstClashOfChange inputs r wishes read files clash → HasEmptyStageAndFreeJournalPaths files → HasEmptyStageAndFreeJournalPaths done.files

abbrev pub BringsNoIntent : Type 0
BringsNoIntent = (inputs : Inputs) (r : Replacement) (wishes : ChangeWishes) (read : Reads) (clash : Option NamePair) (files : Files) (done : ChangeDone)
    → change_or_refusal inputs r wishes read clash files ≡ Ok done → files intent_name ≡ None → done.files intent_name ≡ None

-- no intent stands there, and a stage has room
abbrev HasRoomNow : Files → Type 0
HasRoomNow files = (files intent_name ≡ None) × HasEmptyStageAndFreeJournalPaths files

-- ---- a change

module _ (room : KeepsRoom) (gone : BringsNoIntent) where
  selected_room : (command : CommandLine) (read : Reads) (files : Files) (clash : Option NamePair) (s : InputsAndReplacement) (done : ChangeDone)
      → (simulate : Bool) → (if simulate then Ok (simulated_change s.replacement (wishes_of command) files) else change_or_refusal s.inputs s.replacement (wishes_of command) read clash files) ≡ Ok done
      → IsFirstClashOrNoneIfSimulated simulate (wishes_of command) read files s clash → HasRoomNow files → HasRoomNow done.files
  selected_room command read files clash s done true is is_clash now = subst HasRoomNow (ap (λ (r : Result ChangeDone Refusal). files_or r) is) now
    where
      files_or : Result ChangeDone Refusal → Files
      files_or (Ok d) = d.files
      files_or (Err refusal) = files
  selected_room command read files clash s done false is is_clash (absent, stage) =
      (gone s.inputs s.replacement (wishes_of command) read clash files done is absent, room s.inputs s.replacement (wishes_of command) read clash files done is is_clash stage)

  changed_room : (command : CommandLine) (read : Reads) (files : Files) (chosen : Option (List ℕ)) (clash : Option NamePair) (done : ChangeDone)
      → IsFirstClashOfCommand command read files chosen clash → change_of_command command read files chosen clash ≡ Ok done → HasRoomNow files → HasRoomNow done.files
  unfolding change_of_command
  changed_room command read files chosen clash done is_clash is now =
      let (s, selected, rest) = chain_ok (selected_from_reads_by_choice command read chosen) (change_of_selected command read files clash) done is in
      selected_room command read files clash s done command.flags.simulate rest (subst (λ (r : Result InputsAndReplacement Refusal). IsFirstClashOrNoneIfRefused command read files r clash) selected is_clash) now

  change_room : (command : CommandLine) (files : Files) (chosen : Option (List ℕ)) (clash : Option NamePair) (result : Result ChangeDone Refusal)
      → change_of_command command (reads_in files) files chosen clash ≡ result → IsFirstClashOfCommand command (reads_in files) files chosen clash
      → (change_outcome files result).refusal ≡ None → HasRoomNow files → HasRoomNow (change_outcome files result).files
  change_room command files chosen clash (Ok done) is is_clash unrefused now = changed_room command (reads_in files) files chosen clash done is_clash is now
  change_room command files chosen clash (Err refusal) is is_clash unrefused now = absurd (cc (unrefused))

  applet_room : (applet : Applet) (command : CommandLine) (given : Given) (files : Files) → effect_of applet ≡ Changes
      → IsFirstClashForChangeElseNone (effect_of applet) command (reads_in files) files given.chosen given.clash
      → (effect_outcome (effect_of applet) applet command given (reads_in files) files).refusal ≡ None → HasRoomNow files
      → HasRoomNow (effect_outcome (effect_of applet) applet command given (reads_in files) files).files
  applet_room applet command given files changes is_clash =
      subst (λ (o : Outcome). o.refusal ≡ None → HasRoomNow files → HasRoomNow o.files) (change_is applet command given (reads_in files) files changes)
      (change_room command files given.chosen given.clash (change_of_command command (reads_in files) files given.chosen given.clash) refl
      (subst (λ (e : Effect). IsFirstClashForChangeElseNone e command (reads_in files) files given.chosen given.clash) changes is_clash))

  over_room : (command : CommandLine) (files : Files) (o : Outcome) → effect_of command.applet ≡ Changes → IsOutcomeOverRecoveredFiles command files o → o.refusal ≡ None → HasRoomNow files → HasRoomNow o.files
  over_room command files o changes (given, are, is) =
      subst (λ (p : Outcome). p.refusal ≡ None → HasRoomNow files → HasRoomNow p.files) (sym is) (applet_room command.applet command given files changes are.clash)

-- ---- a recovery

-- it leaves no intent
pub intent_gone : ReadSound → (files : Files) (found : Option (List ℕ)) → files intent_name ≡ found → fault_of_intent found ≡ None → unstaged_files files intent_name ≡ None
intent_gone sound files None is good = ap (λ (o : Option (List ℕ)). files_after_intent (intent_in_file o) files intent_name) is ∙ is
intent_gone sound files (Some file) is good =
    ap (λ (o : Option (List ℕ)). files_after_intent (intent_in_file o) files intent_name) is
    ∙ ap (λ (o : Option Intent). files_after_intent o files intent_name) (sound file good)

-- and where there is none, and nothing waits, it has nothing to do
nothing_at : (files : Files) (q : List ℕ) → HasRoomNow files → (b : Bool) → is_staged q ≡ b → (if b then None else recovered_files files q) ≡ files q
nothing_at files q (absent, stage) true staged = sym (stage.empty q staged)
nothing_at files q (absent, stage) false shown = ap (λ (o : Option (List ℕ)). files_after_intent (intent_in_file o) files q) absent

nothing_left : (files : Files) → HasRoomNow files → unstaged_files files ≡ files
nothing_left files now i q = nothing_at files q now (is_staged q) refl i

room_now : (files : Files) → HasRoomNow files → AreJournalPathsFreeAfterReplayIfAny files × HasEmptyStageAndFreeJournalPaths (unstaged_files files)
room_now files now =
    (λ some. absurd (let e = subst (λ (o : Option (List ℕ)). IsSome (intent_in_file o)) now.0 some in cc (e)), subst HasEmptyStageAndFreeJournalPaths (sym (nothing_left files now)) now.1)

-- ---- by the words

abbrev LeavesNext : Outcome → Type 0
LeavesNext o = AreJournalPathsFreeAfterReplayIfAny o.files × HasEmptyStageAndFreeJournalPaths (unstaged_files o.files)

module _ (room : KeepsRoom) (gone : BringsNoIntent) (sound : ReadSound) where
  unless_room : (fault : Option Cause) (command : CommandLine) (files : Files) (o : Outcome) → effect_of command.applet ≡ Changes → recovery_fault (effect_of command.applet) files ≡ fault
      → IsOutcomeUnlessBadIntent fault command files o → o.refusal ≡ None → HasEmptyStageAndFreeJournalPaths (unstaged_files files) → LeavesNext o
  unless_room (Some cause) command files o changes at is unrefused stage = absurd (let e = sym (ap (λ (p : Outcome). p.refusal) is) ∙ unrefused in cc (e))
  unless_room None command files o changes at is unrefused stage =
      let good = subst (λ (e : Effect). recovery_fault e files ≡ None) changes at in
      let over = subst (λ (e : Effect). IsOutcomeOverRecoveredFiles command (files_recovered_if_needed e files) o) changes is in
      room_now o.files (over_room room gone command (unstaged_files files) o changes over unrefused (intent_gone sound files (files intent_name) refl good, stage))

  by_line : (read : Result CommandLine ℕ) (files : Files) (o : Outcome) → effect_of_arguments read ≡ Changes → IsOutcomeWithoutDemo read files o → o.refusal ≡ None → HasEmptyStageAndFreeJournalPaths (unstaged_files files) → LeavesNext o
  by_line (Err place) files o changes is unrefused stage = absurd (cc (changes))
  by_line (Ok command) files o changes is unrefused stage = unless_room (recovery_fault (effect_of command.applet) files) command files o changes refl is unrefused stage

  pub next_room : (words : List (List ℕ)) (files : Files) (o : Outcome) → effect_of_arguments (command_of words) ≡ Changes → IsOutcomeWithoutDemo (command_of words) files o → o.refusal ≡ None → HasEmptyStageAndFreeJournalPaths (unstaged_files files) → LeavesNext o
  next_room words files o = by_line (command_of words) files o
