-- What is made is a sound container where it is left.
use Rattle.std.proofs.Common.{◌≡◌, ℕ, ◌+◌, ◌<◌, ◌^◌, Bool, true, false, List, [], ◌∷◌, ◌++◌, codes, length, Contains, Option, Some, None, IsSome, Result, Ok, Err, refl, sym, ap, subst, ◌∙◌}
use Rattle.std.specs.Prelude.{if◌then◌else◌, nat_eq}
use Rattle.std.specs.List.{starts_with}
use Rattle.std.proofs.lemmas.List.Elements.{All-contains_itself, All-weaker}
use Rattle.std.proofs.lemmas.Slice.Eq.{bytes_eq-Decides}
use Rattle.gen_core.specs.adb_schema.Reserved.{is_reserved}
use Rattle.adb_view.specs.Plain.{Plain}
use Rattle.gen_core.specs.adb_write.Canonical.{ByteAndValueCounts, counts_at_first_overflow, payload_or_counts_at_overflow}
use Rattle.base_core.specs.Files.{HaveValidNamesAndBytes, Files, drop_name}
use Rattle.base_core.specs.Listed.{AreSortedAndEachBelowFolder, IsValidNameBelowFolder, IsSortedListOfAllNamesInMap}
use Rattle.base_core.specs.Tree.{IsWellFormed, TreeState, files_of}
use Rattle.base_core.specs.declared.cause.Cause.{Cause}
use Rattle.command_core.specs.declared.values.TheConstants.{FILES, SCRIPT, TRIGGER}
use Rattle.engine_core.specs.journal_core.Replacing.{files_after_replacement, scratch_name_of}
use Rattle.engine_core.specs.journal_core.Staged.{unstaged_files}
use Rattle.make_core.specs.package_files.Folders.{FolderListing, folder_listings_by_tree_names, last_part_of}
use Rattle.make_core.specs.Index.{entry_before_others_or_fault, found_entries, found_entry, index_container, index_of_entries, index_of_entries_or_fault, value_of_index, entry_unless_fault, first_description_or_empty, made_index}
use Rattle.make_core.specs.EntryOrder.{index_entry_cmp}
use Rattle.base_core.specs.Sorted.{sorted_by}
use Rattle.make_core.specs.make_info.Information.{FieldWithValue, information_value_with_installed_size, information, replaces_priority}
use Rattle.make_core.specs.Making.{container_unless_too_large, made_package, or_info_bad, package_container, package_of_parts}
use Rattle.make_core.specs.make_info.Output.{output_name}
use Rattle.make_core.specs.package_files.Package.{Script, SourceFileNameAndBytes, SourceFolder, contents_of_folders, installed_size, value_of_package}
use Rattle.make_core.specs.Files.{EachOperandReadFindsNoFileOrFileBytes}
use Rattle.make_core.specs.package_files.Sources.{AreSortedAndEachBelowFirstFolder, and_then, results_from_read, source_file_at_place_by_read, source_files_at_place_from_read, source_folder_at_place_by_read, source_folders_of_first_option_only, found_bytes_or_missing, values_of_letter, script_at, scripts_from_read, texts_of}
use Rattle.make_core.specs.make_info.Reads.{Reads}
use Rattle.make_core.specs.make_info.declared.fault.MakeFault.{MakeFault}
use Rattle.make_core.specs.make_info.declared.fault.MakeFault.TheVariants.{FileMissing, FileBad, InfoBad, TooLarge, Disk, Memory}
use Rattle.make_core.specs.pkg_core.Contents.{Contents}
use Rattle.make_core.specs.pkg_core.Whole.{container_fault, package_fault}
use Rattle.report_core.specs.declared.refusal.Refusal.{Refusal}
use Rattle.report_core.specs.declared.refusal.Refusal.TheVariants.{IntentBad, Reserved, ResultTooLarge}
use Rattle.command_core.specs.Command.{CommandLine}
use Rattle.command_core.specs.Files.{without_one_leading_dot_slash}
use Rattle.words_core.specs.Grammar.{command_of}
use Rattle.command_core.specs.Values.{script_file, script_type}
use Rattle.command_core.specs.declared.command.Applet.{Applet}
use Rattle.command_core.specs.declared.command.Applet.TheVariants.{Mkndx, Mkpkg}
use Rattle.command_core.specs.declared.operands.Operand.{Operand}
use Rattle.command_core.specs.declared.values.OptionValue.{OptionValue}
use Rattle.engine_core.proofs.journal_core.Below.{is_below}
use Rattle.outcome.proofs.Listings.{if_some}
use Rattle.outcome.specs.Given.{Given, AreNamesListedForApplet}
use Rattle.outcome.specs.Commands.{IsOutcomeWithoutDemo, IsOutcomeUnlessBadIntent, effect_outcome, reads_in}
use Rattle.outcome.specs.Effect.{Effect, Computes, OnlyReadsFiles, AsksRoot, Makes, Changes, effect_of, output, output_name_of_arguments, output_name_for_effect}
use Rattle.outcome.specs.Make.{AreNamesBelowOptionFolder, files_below, index_report_line, make_outcome, mkndx, mkpkg}
use Rattle.outcome.specs.Outcome.{Outcome, commit_report, just_refusal}
use Rattle.outcome.specs.Sound.{IsSoundFileAt}
use Rattle.outcome.specs.Work.{recovery_fault, files_recovered_if_needed}

-- a package that is made of names below its folder is sound, and so is an index of files
abbrev pub SoundPackage : Type 0
SoundPackage = (command : CommandLine) (names : List (List ℕ)) (read : Reads) (bytes : List ℕ) → AreSortedAndEachBelowFirstFolder (values_of_letter FILES command.values) names → made_package command names read ≡ Ok bytes → length bytes < 2 ^ 64 → container_fault bytes ≡ None

abbrev pub SoundIndex : Type 0
SoundIndex = (command : CommandLine) (read : Reads) (bytes : List ℕ) → EachOperandReadFindsNoFileOrFileBytes read 0 command.operands → made_index command read ≡ Ok bytes → container_fault bytes ≡ None

-- ---- the names below a folder are names below it

name_below : (folder : List ℕ) (files : Files) → HaveValidNamesAndBytes files → (q : List ℕ) → IsSome (files_below folder files q) → IsValidNameBelowFolder folder q
name_below folder files good q some =
    let found = if_some (starts_with nat_eq q (folder ++ codes "/")) (files q) some in
    record { named = good.named q found.1; below = is_below folder q found.0 }

names_below : (folder : List ℕ) (files : Files) (names : List (List ℕ)) → HaveValidNamesAndBytes files → IsSortedListOfAllNamesInMap (files_below folder files) names → AreSortedAndEachBelowFolder folder names
names_below folder files names good are = record {
  rising = are.rising;
  each = All-weaker (Contains names) (IsValidNameBelowFolder folder) (λ q here. name_below folder files good q ((are.each q).0 here)) names (All-contains_itself names);
}

names_for : (values : List OptionValue) (files : Files) (names : List (List ℕ)) → HaveValidNamesAndBytes files → AreNamesBelowOptionFolder values files names → AreSortedAndEachBelowFirstFolder values names
names_for [] files names good are = tt
names_for (folder ∷ values) files names good are = names_below (without_one_leading_dot_slash folder.text) files names good are

-- ---- what reads find in the files are files

files_found : (files : Files) → HaveValidNamesAndBytes files → (n : ℕ) (operands : List Operand) → EachOperandReadFindsNoFileOrFileBytes (reads_in files) n operands
files_found files good n [] = tt
files_found files good n (o ∷ operands) = (good.each (without_one_leading_dot_slash o.text), files_found files good (n + 1) operands)

-- ---- the definitions of what is made give no fault of the tree, and no want of memory

abbrev pub IsRefusalOrMade : {A : Type 0} → Result A MakeFault → Type 0
IsRefusalOrMade (Ok x) = Unit {0}
IsRefusalOrMade (Err (FileMissing place)) = Unit {0}
IsRefusalOrMade (Err (FileBad place cause)) = Unit {0}
IsRefusalOrMade (Err (InfoBad place)) = Unit {0}
IsRefusalOrMade (Err (TooLarge bytes values)) = Unit {0}
IsRefusalOrMade (Err Disk) = ⊥
IsRefusalOrMade (Err Memory) = ⊥

fine_err : (A B : Type 0) (why : MakeFault) → IsRefusalOrMade {A = A} (Err why) → IsRefusalOrMade {A = B} (Err why)
fine_err A B (FileMissing place) h = tt
fine_err A B (FileBad place cause) h = tt
fine_err A B (InfoBad place) h = tt
fine_err A B (TooLarge bytes values) h = tt
fine_err A B Disk h = absurd h
fine_err A B Memory h = absurd h

after_fine : {A B : Type 0} (r : Result A MakeFault) (next : A → Result B MakeFault) → IsRefusalOrMade r → ((x : A) → IsRefusalOrMade (next x)) → IsRefusalOrMade (and_then r next)
after_fine (Ok x) next h further = further x
after_fine {A} {B} (Err why) next h further = fine_err A B why h

each_fine : {X Y : Type 0} (count : X → ℕ) (of : ℕ → X → Result Y MakeFault) → ((n : ℕ) (x : X) → IsRefusalOrMade (of n x)) → (n : ℕ) (xs : List X) → IsRefusalOrMade (results_from_read count of n xs)
each_fine count of h n [] = tt
each_fine count of h n (x ∷ xs) =
    after_fine (of n x) (λ y. and_then (results_from_read count of (n + count x) xs) (λ ys. Ok (y ∷ ys))) (h n x)
    (λ y. after_fine (results_from_read count of (n + count x) xs) (λ ys. Ok (y ∷ ys)) (each_fine count of h (n + count x) xs) (λ ys. tt))

found_fine : (place : ℕ) (found : Option (List ℕ)) → IsRefusalOrMade (found_bytes_or_missing place found)
found_fine place None = tt
found_fine place (Some bytes) = tt

info_fine : (r : Result (List FieldWithValue) ℕ) → IsRefusalOrMade (or_info_bad r)
info_fine (Ok items) = tt
info_fine (Err place) = tt

script_of : OptionValue → List ℕ → Result Script MakeFault
script_of v bytes = Ok (record { field = script_type v.text; bytes = bytes })

script_fine : (read : Reads) (n : ℕ) (v : OptionValue) → IsRefusalOrMade (script_at read n v)
unfolding script_of
script_fine read n v = after_fine (found_bytes_or_missing v.place (read n (without_one_leading_dot_slash (script_file v.text)))) (script_of v) (found_fine v.place (read n (without_one_leading_dot_slash (script_file v.text)))) (λ bytes. tt)

source_of : List ℕ → List ℕ → Result SourceFileNameAndBytes MakeFault
source_of name bytes = Ok (record { name = last_part_of name; bytes = bytes })

file_fine : (place : ℕ) (read : Reads) (n : ℕ) (name : List ℕ) → IsRefusalOrMade (source_file_at_place_by_read place read n name)
unfolding source_of
file_fine place read n name = after_fine (found_bytes_or_missing place (read n name)) (source_of name) (found_fine place (read n name)) (λ bytes. tt)

folder_of : FolderListing → List SourceFileNameAndBytes → Result SourceFolder MakeFault
folder_of folder files = Ok (record { name = folder.name; files = files })

folder_fine : (place : ℕ) (read : Reads) (n : ℕ) (folder : FolderListing) → IsRefusalOrMade (source_folder_at_place_by_read place read n folder)
unfolding folder_of
folder_fine place read n folder =
    after_fine (source_files_at_place_from_read place read n folder.files) (folder_of folder) (each_fine (λ name. 1) (source_file_at_place_by_read place read) (file_fine place read) n folder.files) (λ files. tt)

folders_fine : (read : Reads) (n : ℕ) (values : List OptionValue) (names : List (List ℕ)) → IsRefusalOrMade (source_folders_of_first_option_only read n values names)
folders_fine read n [] names = tt
folders_fine read n (v ∷ values) names =
    each_fine (λ (folder : FolderListing). length folder.files) (source_folder_at_place_by_read v.place read) (folder_fine v.place read) n (folder_listings_by_tree_names (without_one_leading_dot_slash v.text) names)

unless_fine : (counts : Option ByteAndValueCounts) (v : Plain) (contents : List Contents) → IsRefusalOrMade (container_unless_too_large counts v contents)
unless_fine None v contents = tt
unless_fine (Some counts) v contents = tt

file_of_fine : (v : Plain) (contents : List Contents) → IsRefusalOrMade (package_container v contents)
unfolding package_container
file_of_fine v contents = unless_fine (counts_at_first_overflow v) v contents

pub package_fine : (command : CommandLine) (names : List (List ℕ)) (read : Reads) → IsRefusalOrMade (made_package command names read)
unfolding made_package
package_fine command names read =
    after_fine (scripts_from_read read 0 (values_of_letter SCRIPT command.values))
    (λ scripts. and_then (or_info_bad (information command)) (λ about. and_then (source_folders_of_first_option_only read (length scripts) (values_of_letter FILES command.values) names) (package_of_parts command scripts about)))
    (each_fine (λ v. 1) (script_at read) (script_fine read) 0 (values_of_letter SCRIPT command.values))
    (λ scripts.
    after_fine (or_info_bad (information command)) (λ about. and_then (source_folders_of_first_option_only read (length scripts) (values_of_letter FILES command.values) names) (package_of_parts command scripts about))
    (info_fine (information command))
    (λ about.
    after_fine (source_folders_of_first_option_only read (length scripts) (values_of_letter FILES command.values) names) (package_of_parts command scripts about)
    (folders_fine read (length scripts) (values_of_letter FILES command.values) names)
    (λ folders.
    file_of_fine
    (value_of_package (information_value_with_installed_size about (installed_size folders)) folders scripts (texts_of (values_of_letter TRIGGER command.values)) (replaces_priority about))
    (contents_of_folders 1 folders))))

tested_fine : (place : ℕ) (file : List ℕ) (cause : Option Cause) → IsRefusalOrMade (entry_unless_fault place file cause)
tested_fine place file None = tt
tested_fine place file (Some cause) = tt

entry_fine : (place : ℕ) (found : Option (List ℕ)) → IsRefusalOrMade (found_entry place found)
entry_fine place None = tt
entry_fine place (Some file) = tested_fine place file (package_fault file)

and_fine : (entry : Result Plain MakeFault) (others : Result (List Plain) MakeFault) → IsRefusalOrMade entry → IsRefusalOrMade others → IsRefusalOrMade (entry_before_others_or_fault entry others)
and_fine (Err why) others h further = fine_err Plain (List Plain) why h
and_fine (Ok entry) (Err why) h further = further
and_fine (Ok entry) (Ok entries) h further = tt

entries_fine : (read : Reads) (n : ℕ) (operands : List Operand) → IsRefusalOrMade (found_entries read n operands)
entries_fine read n [] = tt
entries_fine read n (o ∷ operands) =
    and_fine (found_entry o.place (read n (without_one_leading_dot_slash o.text))) (found_entries read (n + 1) operands)
    (entry_fine o.place (read n (without_one_leading_dot_slash o.text))) (entries_fine read (n + 1) operands)

written_fine : (payload : Result (List ℕ) ByteAndValueCounts) → IsRefusalOrMade (index_container payload)
written_fine (Ok payload) = tt
written_fine (Err counts) = tt

of_found_fine : (description : List ℕ) (entries : Result (List Plain) MakeFault) → IsRefusalOrMade entries → IsRefusalOrMade (index_of_entries_or_fault description entries)
unfolding index_of_entries
of_found_fine description (Ok entries) h = written_fine (payload_or_counts_at_overflow (value_of_index description (sorted_by index_entry_cmp entries)))
of_found_fine description (Err why) h = fine_err (List Plain) (List ℕ) why h

pub index_fine : (command : CommandLine) (read : Reads) → IsRefusalOrMade (made_index command read)
unfolding made_index
index_fine command read = of_found_fine (first_description_or_empty command.values) (found_entries read 0 command.operands) (entries_fine read 0 command.operands)

-- ---- what was made, where nothing is refused, stands under the output's name

abbrev Stands : List ℕ → Result (List ℕ) MakeFault → Outcome → Type 0
Stands name result outcome = (bytes : List ℕ) × (result ≡ Ok bytes) × (outcome.files name ≡ Some bytes)

put_there : (name bytes : List ℕ) (files : Files) → files_after_replacement name bytes files name ≡ Some bytes
put_there name bytes files = ap (λ (b : Bool). if b then Some bytes else drop_name files (scratch_name_of name) name) ((bytes_eq-Decides name name).1 refl)

stands_unless : (reserved : Bool) (name bytes report : List ℕ) (files : Files) → (if reserved then just_refusal files (Reserved name) else commit_report (files_after_replacement name bytes files) report).refusal ≡ None
    → (if reserved then just_refusal files (Reserved name) else commit_report (files_after_replacement name bytes files) report).files name ≡ Some bytes
stands_unless true name bytes report files none = cc
stands_unless false name bytes report files none = put_there name bytes files

refused_either_way : (reserved : Bool) (a b : Refusal) (files : Files) → (if reserved then just_refusal files a else just_refusal files b).refusal ≡ None → ⊥
refused_either_way true a b files none = cc
refused_either_way false a b files none = cc

located : (files : Files) (name report : List ℕ) (result : Result (List ℕ) MakeFault) → IsRefusalOrMade result → (make_outcome files (Some name) report result).refusal ≡ None → Stands name result (make_outcome files (Some name) report result)
located files name report (Ok bytes) fine none = (bytes, refl, stands_unless (is_reserved name) name bytes report files none)
located files name report (Err (FileMissing place)) fine none = absurd (cc (none))
located files name report (Err (FileBad place cause)) fine none = absurd (cc (none))
located files name report (Err (InfoBad place)) fine none = absurd (cc (none))
located files name report (Err (TooLarge bytes values)) fine none = absurd (refused_either_way (is_reserved name) (Reserved name) (ResultTooLarge bytes values) files none)
located files name report (Err Disk) fine none = absurd fine
located files name report (Err Memory) fine none = absurd fine

stands_at : (files : Files) (output : Option (List ℕ)) (name report : List ℕ) (result : Result (List ℕ) MakeFault) → IsRefusalOrMade result → output ≡ Some name → (make_outcome files output report result).refusal ≡ None
    → Stands name result (make_outcome files output report result)
stands_at files output name report result fine is =
    subst (λ (o : Option (List ℕ)). (make_outcome files o report result).refusal ≡ None → Stands name result (make_outcome files o report result)) (sym is) (located files name report result fine)

-- ---- the outcome of a command

package_sound : SoundPackage → (command : CommandLine) (names : List (List ℕ)) (files : Files) (name : List ℕ) → HaveValidNamesAndBytes files → AreNamesBelowOptionFolder (values_of_letter FILES command.values) files names → output_name command ≡ Some name
    → (mkpkg (reads_in files) files command names).refusal ≡ None → IsSoundFileAt name (mkpkg (reads_in files) files command names).files
package_sound law command names files name good are is none =
    let read : Reads = reads_in files in
    let (bytes, ok, here) = stands_at files (output_name command) name [] (made_package command names read) (package_fine command names read) is none in
    (bytes, here, law command names read bytes (names_for (values_of_letter FILES command.values) files names good are) ok)

index_sound : SoundIndex → (command : CommandLine) (files : Files) (name : List ℕ) → HaveValidNamesAndBytes files → output_name command ≡ Some name
    → (mkndx (reads_in files) files command).refusal ≡ None → IsSoundFileAt name (mkndx (reads_in files) files command).files
index_sound law command files name good is none =
    let read : Reads = reads_in files in
    let (bytes, ok, here) = stands_at files (output_name command) name (index_report_line (length command.operands)) (made_index command read) (index_fine command read) is none in
    (bytes, here, λ few. law command read bytes (files_found files good 0 command.operands) ok)

applet_sound : SoundPackage → SoundIndex → (applet : Applet) (command : CommandLine) (given : Given) (files : Files) (name : List ℕ) → HaveValidNamesAndBytes files → AreNamesListedForApplet applet command files given.names
    → output_name_for_effect (effect_of applet) command ≡ Some name → (effect_outcome (effect_of applet) applet command given (reads_in files) files).refusal ≡ None → IsSoundFileAt name (effect_outcome (effect_of applet) applet command given (reads_in files) files).files
applet_sound packages indexes Mkpkg command given files name good are is none = package_sound packages command given.names files name good are is none
applet_sound packages indexes Mkndx command given files name good are is none = index_sound indexes command files name good is none
applet_sound packages indexes other command given files name good are is none = absurd (cc (is))

-- named files stay so where they are recovered
abbrev pub StayNamed : Type 0
StayNamed = (files : Files) → HaveValidNamesAndBytes files → HaveValidNamesAndBytes (unstaged_files files)

work_named : StayNamed → (effect : Effect) (files : Files) → HaveValidNamesAndBytes files → HaveValidNamesAndBytes (files_recovered_if_needed effect files)
work_named stay Computes files good = good
work_named stay OnlyReadsFiles files good = good
work_named stay AsksRoot files good = stay files good
work_named stay Makes files good = stay files good
work_named stay Changes files good = stay files good

sound_unless : StayNamed → SoundPackage → SoundIndex → (fault : Option Cause) (command : CommandLine) (files : Files) (o : Outcome) (name : List ℕ) → HaveValidNamesAndBytes files → IsOutcomeUnlessBadIntent fault command files o → o.refusal ≡ None
    → output_name_for_effect (effect_of command.applet) command ≡ Some name → IsSoundFileAt name o.files
sound_unless stay packages indexes (Some cause) command files o name good is none named = absurd (let e : Some (IntentBad cause) ≡ None = ap (λ (p : Outcome). p.refusal) (sym is) ∙ none in cc)
sound_unless stay packages indexes None command files o name good (given, are, is) none named =
    let work = files_recovered_if_needed (effect_of command.applet) files in
    subst (λ (p : Outcome). IsSoundFileAt name p.files) (sym is)
    (applet_sound packages indexes command.applet command given work name (work_named stay (effect_of command.applet) files good) are.names named (ap (λ (p : Outcome). p.refusal) (sym is) ∙ none))

sound_by : StayNamed → SoundPackage → SoundIndex → (read : Result CommandLine ℕ) (files : Files) (o : Outcome) (name : List ℕ) → HaveValidNamesAndBytes files → IsOutcomeWithoutDemo read files o → o.refusal ≡ None → output_name_of_arguments read ≡ Some name
    → IsSoundFileAt name o.files
sound_by stay packages indexes (Err place) files o name good is none named = absurd (cc (named))
sound_by stay packages indexes (Ok command) files o name good is none named = sound_unless stay packages indexes (recovery_fault (effect_of command.applet) files) command files o name good is none named

pub made_sound : ((v : TreeState) → IsWellFormed v → HaveValidNamesAndBytes (files_of v)) → StayNamed → SoundPackage → SoundIndex
    → (words : List (List ℕ)) (v : TreeState) (o : Outcome) (name : List ℕ) → IsWellFormed v → IsOutcomeWithoutDemo (command_of words) (files_of v) o → o.refusal ≡ None → output words ≡ Some name
    → IsSoundFileAt name o.files
made_sound named stay packages indexes words v o name whole is none under = sound_by stay packages indexes (command_of words) (files_of v) o name (named v whole) is none under
