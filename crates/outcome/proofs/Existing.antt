-- A command line has one outcome.
use Rattle.std.proofs.Common.{◌≡◌, ℕ, true, false, List, [], ◌∷◌, ◌++◌, codes, Option, Some, None, IsSome, Result, Ok, Err, refl, sym, ap, subst, ◌∙◌}
use Rattle.std.specs.Prelude.{if◌then◌else◌, nat_eq}
use Rattle.std.specs.List.{list_any, starts_with}
use Rattle.std.specs.Str.{bytes_eq}
use Rattle.std.proofs.lemmas.Bool.{false≢true}
use Rattle.base_core.specs.Files.{Files, HasOnlyNamesAmong}
use Rattle.base_core.specs.Listed.{IsSortedListOfAllNamesInMap}
use Rattle.base_core.specs.declared.cause.Cause.{Cause}
use Rattle.engine_core.specs.Choice.{IsPreferredChoiceOrNoneIfRefused}
use Rattle.engine_core.specs.Selecting.{pool_of_command}
use Rattle.make_core.specs.make_info.Reads.{Reads}
use Rattle.tell_core.specs.candidate_core.Rank.{SelectionProblem}
use Rattle.report_core.specs.declared.refusal.Refusal.{Refusal}
use Rattle.report_core.specs.declared.refusal.Refusal.TheVariants.{IntentBad, Usage}
use Rattle.command_core.specs.Command.{CommandLine}
use Rattle.command_core.specs.Files.{without_one_leading_dot_slash}
use Rattle.command_core.specs.declared.values.TheConstants.{FILES}
use Rattle.command_core.specs.Files.{without_one_leading_dot_slash}
use Rattle.command_core.specs.declared.command.Applet.{Applet}
use Rattle.command_core.specs.declared.command.Applet.TheVariants.{Mkpkg}
use Rattle.command_core.specs.declared.values.OptionValue.{OptionValue}
use Rattle.make_core.specs.package_files.Sources.{values_of_letter}
use Rattle.outcome.proofs.Clashes.{HaveClash, HaveOneClash, clash_exists, clash_one}
use Rattle.outcome.proofs.Recovered.{unstaged_within}
use Rattle.outcome.specs.Given.{Given, IsPreferredChoiceForChangeElseNone, IsFirstClashForChangeElseNone, IsListingChoiceAndClashFor, AreNamesListedForApplet}
use Rattle.outcome.specs.Commands.{IsOutcomeWithoutDemo, IsOutcomeOverRecoveredFiles, IsOutcomeUnlessBadIntent, effect_outcome, reads_in}
use Rattle.outcome.specs.Effect.{Effect, Computes, OnlyReadsFiles, AsksRoot, Makes, Changes, effect_of}
use Rattle.outcome.specs.Make.{AreNamesBelowOptionFolder, files_below}
use Rattle.outcome.specs.Outcome.{Outcome, just_refusal}
use Rattle.outcome.specs.Work.{recovery_fault, files_recovered_if_needed}

-- files under finitely many names have a list of them, and no second one
abbrev pub HaveList : Type 0
HaveList = (files : Files) (within : List (List ℕ)) → HasOnlyNamesAmong within files → (names : List (List ℕ)) × IsSortedListOfAllNamesInMap files names

abbrev pub HaveOneList : Type 0
HaveOneList = (files : Files) (a b : List (List ℕ)) → IsSortedListOfAllNamesInMap files a → IsSortedListOfAllNamesInMap files b → a ≡ b

-- what is below a folder is within the files
within_below : (folder : List ℕ) (files : Files) (within : List (List ℕ)) → HasOnlyNamesAmong within files → HasOnlyNamesAmong within (files_below folder files)
within_below folder files within h q some =
    elim (starts_with nat_eq q (folder ++ codes "/")) as (λ b. IsSome (if b then files q else None) → list_any (bytes_eq q) within ≡ true) [
      | true ↦ λ s. h q s
      | false ↦ λ s. absurd (false≢true s)
    ] some

listing_exists : HaveList → (values : List OptionValue) (files : Files) (within : List (List ℕ)) → HasOnlyNamesAmong within files → (names : List (List ℕ)) × AreNamesBelowOptionFolder values files names
listing_exists have [] files within h = ([], refl)
listing_exists have (v ∷ values) files within h = have (files_below (without_one_leading_dot_slash v.text) files) within (within_below (without_one_leading_dot_slash v.text) files within h)

names_exist : HaveList → (applet : Applet) (command : CommandLine) (files : Files) (within : List (List ℕ)) → HasOnlyNamesAmong within files → (names : List (List ℕ)) × AreNamesListedForApplet applet command files names
names_exist have Mkpkg command files within h = listing_exists have (values_of_letter FILES command.values) files within h
names_exist have other command files within h = ([], refl)

pub work_within : (effect : Effect) (files : Files) (within : List (List ℕ)) → HasOnlyNamesAmong within files → (names : List (List ℕ)) × HasOnlyNamesAmong names (files_recovered_if_needed effect files)
work_within Computes files within h = (within, h)
work_within OnlyReadsFiles files within h = (within, h)
work_within AsksRoot files within h = unstaged_within files within h
work_within Makes files within h = unstaged_within files within h
work_within Changes files within h = unstaged_within files within h

-- something is chosen, whatever the candidates are, and just one thing
abbrev pub HaveChoice : Type 0
HaveChoice = (pool : Result SelectionProblem Refusal) → (chosen : Option (List ℕ)) × IsPreferredChoiceOrNoneIfRefused pool chosen

abbrev pub HaveOneChoice : Type 0
HaveOneChoice = (pool : Result SelectionProblem Refusal) (a b : Option (List ℕ)) → IsPreferredChoiceOrNoneIfRefused pool a → IsPreferredChoiceOrNoneIfRefused pool b → a ≡ b

chosen_exists : HaveChoice → (effect : Effect) (command : CommandLine) (read : Reads) → (chosen : Option (List ℕ)) × IsPreferredChoiceForChangeElseNone effect command read chosen
chosen_exists choose Changes command read = choose (pool_of_command command read)
chosen_exists choose other command read = (None, refl)

chosen_one : HaveOneChoice → (effect : Effect) (command : CommandLine) (read : Reads) (a b : Option (List ℕ)) → IsPreferredChoiceForChangeElseNone effect command read a → IsPreferredChoiceForChangeElseNone effect command read b → a ≡ b
chosen_one one Changes command read a b x y = one (pool_of_command command read) a b x y
chosen_one one other command read a b x y = x ∙ sym y

given_exists : HaveList → HaveChoice → HaveClash → (command : CommandLine) (read : Reads) (files : Files) (within : List (List ℕ)) → HasOnlyNamesAmong within files → (given : Given) × IsListingChoiceAndClashFor command read files given
given_exists have choose clashes command read files within finite =
    let (names, listed) = names_exist have command.applet command files within finite in
    let (chosen, choice) = chosen_exists choose (effect_of command.applet) command read in
    let (clash, first) = clash_exists clashes (effect_of command.applet) command read files within chosen finite in
    (record { names = names; chosen = chosen; clash = clash }, record { names = listed; chosen = choice; clash = first })

outcome_unless : HaveList → HaveChoice → HaveClash → (fault : Option Cause) (command : CommandLine) (files : Files) (within : List (List ℕ)) → HasOnlyNamesAmong within files → (o : Outcome) × IsOutcomeUnlessBadIntent fault command files o
outcome_unless have choose clashes (Some cause) command files within h = (just_refusal files (IntentBad cause), refl)
outcome_unless have choose clashes None command files within h =
    let work = files_recovered_if_needed (effect_of command.applet) files in
    let (within_work, is) = work_within (effect_of command.applet) files within h in
    let (given, are) = given_exists have choose clashes command (reads_in work) work within_work is in
    (effect_outcome (effect_of command.applet) command.applet command given (reads_in work) work, (given, are, refl))

pub outcome_by : HaveList → HaveChoice → HaveClash → (read : Result CommandLine ℕ) (files : Files) (within : List (List ℕ)) → HasOnlyNamesAmong within files → (o : Outcome) × IsOutcomeWithoutDemo read files o
outcome_by have choose clashes (Err place) files within h = (just_refusal files (Usage place), refl)
outcome_by have choose clashes (Ok command) files within h = outcome_unless have choose clashes (recovery_fault (effect_of command.applet) files) command files within h

pub listing_one : HaveOneList → (values : List OptionValue) (files : Files) (a b : List (List ℕ)) → AreNamesBelowOptionFolder values files a → AreNamesBelowOptionFolder values files b → a ≡ b
listing_one one [] files a b x y = x ∙ sym y
listing_one one (v ∷ values) files a b x y = one (files_below (without_one_leading_dot_slash v.text) files) a b x y

names_one : HaveOneList → (applet : Applet) (command : CommandLine) (files : Files) (a b : List (List ℕ)) → AreNamesListedForApplet applet command files a → AreNamesListedForApplet applet command files b → a ≡ b
names_one one Mkpkg command files a b x y = listing_one one (values_of_letter FILES command.values) files a b x y
names_one one other command files a b x y = x ∙ sym y

given_one : HaveOneList → HaveOneChoice → HaveOneClash → (command : CommandLine) (read : Reads) (files : Files) (a b : Given) → IsListingChoiceAndClashFor command read files a → IsListingChoiceAndClashFor command read files b → a ≡ b
given_one one choice clashes command read files a b x y =
    let names : a.names ≡ b.names = names_one one command.applet command files a.names b.names x.names y.names in
    let chosen : a.chosen ≡ b.chosen = chosen_one choice (effect_of command.applet) command read a.chosen b.chosen x.chosen y.chosen in
    let clash : a.clash ≡ b.clash = clash_one clashes (effect_of command.applet) command read files a.chosen a.clash b.clash x.clash
    (subst (λ (c : Option (List ℕ)). IsFirstClashForChangeElseNone (effect_of command.applet) command read files c b.clash) (sym chosen) y.clash) in
    λ i. record { names = names i; chosen = chosen i; clash = clash i }

pub over_one : HaveOneList → HaveOneChoice → HaveOneClash → (command : CommandLine) (files : Files) (a b : Outcome) → IsOutcomeOverRecoveredFiles command files a → IsOutcomeOverRecoveredFiles command files b → a ≡ b
over_one one choice clashes command files a b (g, is_g, x) (h, is_h, y) =
    x
    ∙ ap (λ given. effect_outcome (effect_of command.applet) command.applet command given (reads_in files) files) (given_one one choice clashes command (reads_in files) files g h is_g is_h)
    ∙ sym y

unless_one : HaveOneList → HaveOneChoice → HaveOneClash → (fault : Option Cause) (command : CommandLine) (files : Files) (a b : Outcome) → IsOutcomeUnlessBadIntent fault command files a → IsOutcomeUnlessBadIntent fault command files b → a ≡ b
unless_one one choice clashes (Some cause) command files a b x y = x ∙ sym y
unless_one one choice clashes None command files a b x y = over_one one choice clashes command (files_recovered_if_needed (effect_of command.applet) files) a b x y

pub outcome_one : HaveOneList → HaveOneChoice → HaveOneClash → (read : Result CommandLine ℕ) (files : Files) (a b : Outcome) → IsOutcomeWithoutDemo read files a → IsOutcomeWithoutDemo read files b → a ≡ b
outcome_one one choice clashes (Err place) files a b x y = x ∙ sym y
outcome_one one choice clashes (Ok command) files a b x y = unless_one one choice clashes (recovery_fault (effect_of command.applet) files) command files a b x y
