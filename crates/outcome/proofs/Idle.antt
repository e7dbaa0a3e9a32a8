-- A command that commits nothing leaves the files.
use Rattle.std.proofs.Common.{◌≡◌, ◌⊎◌, inl, inr, ◌∙◌, ℕ, Bool, true, false, List, [], ◌∷◌, length, Option, Some, None, Result, Ok, Err, refl, sym, ap, subst, true≢false}
use Rattle.std.specs.Prelude.{if◌then◌else◌}
use Rattle.gen_core.specs.adb_schema.Reserved.{is_reserved}
use Rattle.base_core.specs.Files.{Files}
use Rattle.base_core.specs.declared.cause.Cause.{Cause}
use Rattle.tell_core.specs.change_inputs.Chains.{and_then}
use Rattle.tell_core.specs.change_inputs.Inputs.{Inputs, inputs_of}
use Rattle.engine_core.proofs.change_outcome.Made.{leaves_files, made}
use Rattle.engine_core.proofs.change_outcome.ReadRoot.{root_read}
use Rattle.engine_core.specs.change_outcome.Premises.{AreDatabaseAndWorldReadFromFiles}
use Rattle.engine_core.specs.change_outcome.ChangeOutcome.{ChangeDone, ChangeWishes, change_or_refusal}
use Rattle.command_core.specs.Command.{CommandLine}
use Rattle.command_core.specs.Files.{without_one_leading_dot_slash}
use Rattle.command_core.specs.declared.command.Applet.{Applet}
use Rattle.command_core.specs.declared.command.Applet.TheVariants.{Adbdump, Adbgen, Mkndx, Mkpkg, Verify, Version}
use Rattle.command_core.specs.declared.command.Flags.{Flags}
use Rattle.command_core.specs.declared.operands.Operand.{Operand}
use Rattle.engine_core.specs.Changed.{InputsAndReplacement, change_of_selected, change_of_command, selected_from_pool_by_choice, selected_from_reads_by_choice, selected_from_inputs_by_choice, simulated_change}
use Rattle.engine_core.specs.Selecting.{pool_of_inputs_unless_too_many_candidates}
use Rattle.engine_core.specs.Wishes.{unknown_operand_place, unless_unknown_operand, wishes_of}
use Rattle.gen_core.specs.Generated.{generated_file}
use Rattle.gen_core.specs.declared.generate.GenFault.{GenFault}
use Rattle.gen_core.specs.declared.generate.GenFault.TheVariants.{Bad as BadLine, TooLarge as TextTooLarge, Memory as NoMemory}
use Rattle.make_core.specs.Index.{made_index}
use Rattle.make_core.specs.make_info.Output.{output_name}
use Rattle.make_core.specs.make_info.Reads.{Reads}
use Rattle.make_core.specs.make_info.declared.fault.MakeFault.{MakeFault}
use Rattle.make_core.specs.make_info.declared.fault.MakeFault.TheVariants.{FileMissing, FileBad, InfoBad, TooLarge, Disk, Memory}
use Rattle.make_core.specs.Making.{made_package}
use Rattle.engine_core.specs.package_changes.Changes.{Replacement}
use Rattle.tell_core.specs.path_clashes.Clash.{NamePair}
use Rattle.tell_core.specs.candidate_core.Rank.{SelectionProblem}
use Rattle.report_core.specs.declared.refusal.Refusal.{Refusal}
use Rattle.report_core.specs.declared.refusal.Refusal.TheVariants.{Reserved, ResultTooLarge}
use Rattle.tell_core.specs.ReportForCommand.{report_for_command}
use Rattle.words_core.specs.Grammar.{command_of}
use Rattle.outcome.proofs.Applets.{told_files}
use Rattle.outcome.specs.Changing.{change_outcome}
use Rattle.outcome.specs.Commands.{IsOutcomeWithoutDemo, IsOutcomeOverRecoveredFiles, IsOutcomeUnlessBadIntent, outcome_from_arguments_alone, effect_outcome, outcome_of_writing_one_output_file, outcome_of_only_reading_files, reads_in}
use Rattle.outcome.specs.Dump.{adbdump, dump_of, dump_outcome, text_outcome}
use Rattle.outcome.specs.Effect.{Effect, Changes, Computes, Makes, OnlyReadsFiles, AsksRoot, effect_of_arguments, effect_of}
use Rattle.outcome.specs.Generate.{adbgen, container_outcome, generate_outcome}
use Rattle.outcome.specs.Given.{Given}
use Rattle.outcome.specs.Make.{files_with_output, index_report_line, make_outcome, outcome_unless_output_reserved}
use Rattle.outcome.specs.Outcome.{Outcome, commit_report, just_refusal, outcome_without_commit, just_report_unless_refusal}
use Rattle.outcome.specs.Verify.{sound_lines, verify_refusal_from_read_number}
use Rattle.outcome.specs.Version.{invalid_version_lines, version_order_report, version, version_refusal}
use Rattle.outcome.specs.Work.{recovery_fault, files_recovered_if_needed}

abbrev LeavesIdle : Files → Outcome → Type 0
LeavesIdle files o = o.commits ≡ false → o.files ≡ files

-- ---- commands that compute or read

unless_idle : (files : Files) (refusal : Option Refusal) (report : List ℕ) → LeavesIdle files (just_report_unless_refusal files refusal report)
unless_idle files None report idle = refl
unless_idle files (Some refusal) report idle = refl

version_idle : (files : Files) (flags : Flags) (operands : List Operand) → LeavesIdle files (version files flags operands)
version_idle files flags operands = by_test flags.test
  where
    by_test : (b : Bool) → LeavesIdle files (if b then just_report_unless_refusal files (version_refusal operands) (version_order_report operands) else outcome_without_commit (version_refusal operands) (invalid_version_lines operands) files)
    by_test true = unless_idle files (version_refusal operands) (version_order_report operands)
    by_test false = λ idle. refl

text_idle : (files : Files) (place : ℕ) (text : Result (List ℕ) Cause) → LeavesIdle files (text_outcome files place text)
text_idle files place (Ok text) idle = refl
text_idle files place (Err cause) idle = refl

dump_idle : (files : Files) (place : ℕ) (found : Option (List ℕ)) → LeavesIdle files (dump_outcome files place found)
dump_idle files place None idle = refl
dump_idle files place (Some bytes) idle = text_idle files place (dump_of bytes) idle

adbdump_idle : (read : Reads) (files : Files) (operands : List Operand) → LeavesIdle files (adbdump read files operands)
adbdump_idle read files [] idle = refl
adbdump_idle read files (o ∷ operands) idle = dump_idle files o.place (read 0 (without_one_leading_dot_slash o.text)) idle

container_idle : (files : Files) (place : ℕ) (made : Result (List ℕ) GenFault) → LeavesIdle files (container_outcome files place made)
container_idle files place (Ok file) idle = refl
container_idle files place (Err (BadLine line)) idle = refl
container_idle files place (Err (TextTooLarge bytes values)) idle = refl
container_idle files place (Err NoMemory) idle = refl

generate_idle : (files : Files) (place : ℕ) (found : Option (List ℕ)) → LeavesIdle files (generate_outcome files place found)
generate_idle files place None idle = refl
generate_idle files place (Some text) idle = container_idle files place (generated_file text) idle

adbgen_idle : (read : Reads) (files : Files) (operands : List Operand) → LeavesIdle files (adbgen read files operands)
adbgen_idle read files [] idle = refl
adbgen_idle read files (o ∷ operands) idle = generate_idle files o.place (read 0 (without_one_leading_dot_slash o.text)) idle

computing_idle : (applet : Applet) (command : CommandLine) (files : Files) → LeavesIdle files (outcome_from_arguments_alone applet command files)
computing_idle Version command files = version_idle files command.flags command.operands
computing_idle other command files = λ idle. refl

reading_idle : (applet : Applet) (command : CommandLine) (read : Reads) (files : Files) → LeavesIdle files (outcome_of_only_reading_files applet command read files)
reading_idle Verify command read files = unless_idle files (verify_refusal_from_read_number read 0 command.operands) (sound_lines command.operands)
reading_idle Adbdump command read files = adbdump_idle read files command.operands
reading_idle Adbgen command read files = adbgen_idle read files command.operands
reading_idle other command read files = λ idle. refl

-- ---- commands that make a file

reserved_idle : (reserved : Bool) (files : Files) (name : List ℕ) (o : Outcome) → LeavesIdle files o → LeavesIdle files (if reserved then just_refusal files (Reserved name) else o)
reserved_idle true files name o h = λ idle. refl
reserved_idle false files name o h = h

output_idle : (files : Files) (output : Option (List ℕ)) (o : Outcome) → LeavesIdle files o → LeavesIdle files (outcome_unless_output_reserved files output o)
output_idle files None o h = h
output_idle files (Some name) o h = reserved_idle (is_reserved name) files name o h

made_idle : (files : Files) (output : Option (List ℕ)) (report : List ℕ) (result : Result (List ℕ) MakeFault) → LeavesIdle files (make_outcome files output report result)
made_idle files output report (Ok bytes) = output_idle files output (commit_report (files_with_output output bytes files) report) (λ idle. absurd (true≢false idle))
made_idle files output report (Err (FileMissing place)) = λ idle. refl
made_idle files output report (Err (FileBad place cause)) = λ idle. refl
made_idle files output report (Err (InfoBad place)) = λ idle. refl
made_idle files output report (Err (TooLarge bytes values)) = output_idle files output (just_refusal files (ResultTooLarge bytes values)) (λ idle. refl)
made_idle files output report (Err Disk) = λ idle. refl
made_idle files output report (Err Memory) = λ idle. refl

making_idle : (applet : Applet) (command : CommandLine) (names : List (List ℕ)) (read : Reads) (files : Files) → LeavesIdle files (outcome_of_writing_one_output_file applet command names read files)
making_idle Mkpkg command names read files = made_idle files (output_name command) [] (made_package command names read)
making_idle Mkndx command names read files = made_idle files (output_name command) (index_report_line (length command.operands)) (made_index command read)
making_idle other command names read files = λ idle. refl

-- ---- a change

-- what a change reads of a root stands there
abbrev pub HaveRoot : Type 0
HaveRoot = (command : CommandLine) (read : Reads) (inputs : Inputs) (files : Files) → ((n : ℕ) (name : List ℕ) → read n name ≡ files name) → inputs_of command read ≡ Ok inputs → AreDatabaseAndWorldReadFromFiles files inputs.root

-- one that writes nothing leaves the files
abbrev pub HaveIdle : Type 0
HaveIdle = (inputs : Inputs) (r : Replacement) (wishes : ChangeWishes) (read : Reads) (clash : Option NamePair) (files : Files) (done : ChangeDone)
    → change_or_refusal inputs r wishes read clash files ≡ Ok done → AreDatabaseAndWorldReadFromFiles files inputs.root → done.commits ≡ false → done.files ≡ files

pub chain_ok : {A B : Type 0} (a : Result A Refusal) (next : A → Result B Refusal) (b : B) → and_then a next ≡ Ok b → (x : A) × (a ≡ Ok x) × (next x ≡ Ok b)
chain_ok (Ok x) next b e = (x, refl, e)
chain_ok (Err refusal) next b e = absurd (cc (e))

place_ok : {A : Type 0} (place : Option ℕ) (next : Result A Refusal) (a : A) → unless_unknown_operand place next ≡ Ok a → next ≡ Ok a
place_ok None next a e = e
place_ok (Some place) next a e = absurd (cc (e))

chosen_inputs : (command : CommandLine) (inputs : Inputs) (pool : SelectionProblem) (chosen : Option (List ℕ)) (s : InputsAndReplacement) → selected_from_pool_by_choice command inputs pool chosen ≡ Ok s → s.inputs ≡ inputs
chosen_inputs command inputs pool None s e = absurd (cc (e))
chosen_inputs command inputs pool (Some trace) s e = ap (λ (r : Result InputsAndReplacement Refusal). inputs_or r) (sym e)
  where
    inputs_or : Result InputsAndReplacement Refusal → Inputs
    inputs_or (Ok t) = t.inputs
    inputs_or (Err refusal) = inputs

pub selected_inputs : (command : CommandLine) (read : Reads) (chosen : Option (List ℕ)) (s : InputsAndReplacement) → selected_from_reads_by_choice command read chosen ≡ Ok s → inputs_of command read ≡ Ok s.inputs
selected_inputs command read chosen s e =
    let (inputs, are, rest) = chain_ok (inputs_of command read) (selected_from_inputs_by_choice command chosen) s e in
    let (pool, is, left) = chain_ok (pool_of_inputs_unless_too_many_candidates command inputs) (λ pool. unless_unknown_operand (unknown_operand_place command.applet inputs command.operands) (selected_from_pool_by_choice command inputs pool chosen)) s rest in
    are ∙ ap (λ (x : Inputs). Ok x) (sym (chosen_inputs command inputs pool chosen s (place_ok (unknown_operand_place command.applet inputs command.operands) (selected_from_pool_by_choice command inputs pool chosen) s left)))

selected_idle : HaveIdle → (command : CommandLine) (read : Reads) (files : Files) (clash : Option NamePair) (s : InputsAndReplacement) (done : ChangeDone) → AreDatabaseAndWorldReadFromFiles files s.inputs.root
    → (simulate : Bool) → (if simulate then Ok (simulated_change s.replacement (wishes_of command) files) else change_or_refusal s.inputs s.replacement (wishes_of command) read clash files) ≡ Ok done
    → done.commits ≡ false → done.files ≡ files
selected_idle idle command read files clash s done root true is nothing = ap (λ (r : Result ChangeDone Refusal). files_or r) (sym is)
  where
    files_or : Result ChangeDone Refusal → Files
    files_or (Ok d) = d.files
    files_or (Err refusal) = files
selected_idle idle command read files clash s done root false is nothing = idle s.inputs s.replacement (wishes_of command) read clash files done is root nothing

changed_idle : HaveRoot → HaveIdle → (command : CommandLine) (read : Reads) (files : Files) (chosen : Option (List ℕ)) (clash : Option NamePair) (done : ChangeDone)
    → ((n : ℕ) (name : List ℕ) → read n name ≡ files name) → change_of_command command read files chosen clash ≡ Ok done → done.commits ≡ false → done.files ≡ files
unfolding change_of_command
changed_idle rooted idle command read files chosen clash done reads is nothing =
    let (s, selected, rest) = chain_ok (selected_from_reads_by_choice command read chosen) (change_of_selected command read files clash) done is in
    selected_idle idle command read files clash s done (rooted command read s.inputs files reads (selected_inputs command read chosen s selected)) command.flags.simulate rest nothing

pub change_idle : HaveRoot → HaveIdle → (command : CommandLine) (files : Files) (chosen : Option (List ℕ)) (clash : Option NamePair) (result : Result ChangeDone Refusal)
    → change_of_command command (reads_in files) files chosen clash ≡ result → LeavesIdle files (change_outcome files result)
change_idle rooted idle command files chosen clash (Ok done) is nothing = changed_idle rooted idle command (reads_in files) files chosen clash done (λ n name. refl) is nothing
change_idle rooted idle command files chosen clash (Err refusal) is nothing = refl

-- ---- each command

effect_idle : HaveRoot → HaveIdle → (effect : Effect) (applet : Applet) (command : CommandLine) (given : Given) (files : Files) → LeavesIdle files (effect_outcome effect applet command given (reads_in files) files)
effect_idle rooted idle Computes applet command given files = computing_idle applet command files
effect_idle rooted idle OnlyReadsFiles applet command given files = reading_idle applet command (reads_in files) files
effect_idle rooted idle AsksRoot applet command given files = λ nothing. told_files files (report_for_command command (reads_in files))
effect_idle rooted idle Makes applet command given files = making_idle applet command given.names (reads_in files) files
effect_idle rooted idle Changes applet command given files = change_idle rooted idle command files given.chosen given.clash (change_of_command command (reads_in files) files given.chosen given.clash) refl

pub over_idle : HaveRoot → HaveIdle → (command : CommandLine) (files : Files) (o : Outcome) → IsOutcomeOverRecoveredFiles command files o → o.commits ≡ false → o.files ≡ files
over_idle rooted idle command files o (given, are, is) nothing =
    subst (LeavesIdle files) (sym is) (effect_idle rooted idle (effect_of command.applet) command.applet command given files) nothing

pub idle_change : HaveIdle
idle_change inputs r wishes read clash files done ok = leaves_files inputs r wishes read clash files done (made inputs r wishes read clash files done ok)

pub without_commit : (command : CommandLine) (files : Files) (o : Outcome) → IsOutcomeOverRecoveredFiles command files o → o.commits ≡ false → o.files ≡ files
without_commit = over_idle root_read idle_change

-- ---- by the words

unless_leaves : HaveRoot → HaveIdle → (fault : Option Cause) (command : CommandLine) (files : Files) (o : Outcome) → IsOutcomeUnlessBadIntent fault command files o → o.commits ≡ false
    → (o.files ≡ files) ⊎ (o.files ≡ files_recovered_if_needed (effect_of command.applet) files)
unless_leaves rooted idle (Some cause) command files o is nothing = inl (ap (λ (p : Outcome). p.files) is)
unless_leaves rooted idle None command files o is nothing = inr (over_idle rooted idle command (files_recovered_if_needed (effect_of command.applet) files) o is nothing)

leaves_by : HaveRoot → HaveIdle → (read : Result CommandLine ℕ) (files : Files) (o : Outcome) → IsOutcomeWithoutDemo read files o → o.commits ≡ false
    → (o.files ≡ files) ⊎ (o.files ≡ files_recovered_if_needed (effect_of_arguments read) files)
leaves_by rooted idle (Err place) files o is nothing = inl (ap (λ (p : Outcome). p.files) is)
leaves_by rooted idle (Ok command) files o is nothing = unless_leaves rooted idle (recovery_fault (effect_of command.applet) files) command files o is nothing

pub leaves_idle : HaveRoot → HaveIdle → (words : List (List ℕ)) (files : Files) (o : Outcome) → IsOutcomeWithoutDemo (command_of words) files o → o.commits ≡ false
    → (o.files ≡ files) ⊎ (o.files ≡ files_recovered_if_needed (effect_of_arguments (command_of words)) files)
leaves_idle rooted idle words files o is nothing = leaves_by rooted idle (command_of words) files o is nothing
