-- The outcome of `demo`: there is one, and no second one.
use Rattle.std.proofs.Common.{◌≡◌, ◌⊎◌, inl, inr, ◌||◌, ◌-◌, ℕ, zero, suc, Bool, true, false, List, [], ◌∷◌, codes, length, Option, Some, None, IsSome, Result, Ok, Err, refl, sym, ap, subst, ◌∙◌}
use Rattle.std.specs.Prelude.{if◌then◌else◌, option_and_then, slice_get, take}
use Rattle.std.specs.List.{list_any}
use Rattle.std.specs.Str.{bytes_eq}
use Rattle.std.proofs.lemmas.Bool.{or_right}
use Rattle.gen_core.specs.adb_schema.Reserved.{is_reserved}
use Rattle.base_core.specs.Files.{Files, HasOnlyNamesAmong, drop_name, no_names, put_name}
use Rattle.base_core.specs.declared.cause.Cause.{Cause}
use Rattle.command_core.specs.Command.{CommandLine}
use Rattle.command_core.specs.declared.command.Applet.{Applet}
use Rattle.command_core.specs.declared.command.Applet.TheVariants.{Help, Mkndx, Mkpkg, ProgramVersion}
use Rattle.outcome.specs.DemoLines.{add_words, demo_file, demo_repositories, contents_of_demo_file, mkndx_words, mkpkg_words}
use Rattle.outcome.specs.DemoReport.{demo_line_of_count_and_add_report}
use Rattle.engine_core.specs.journal_core.Replacing.{scratch_name_of}
use Rattle.make_core.specs.Index.{made_index}
use Rattle.make_core.specs.make_info.Output.{output_name}
use Rattle.make_core.specs.make_info.declared.fault.MakeFault.{MakeFault}
use Rattle.make_core.specs.make_info.declared.fault.MakeFault.TheVariants.{FileMissing, FileBad, InfoBad, TooLarge, Disk, Memory}
use Rattle.make_core.specs.Making.{made_package}
use Rattle.report_core.specs.declared.refusal.Refusal.{Refusal}
use Rattle.report_core.specs.declared.refusal.Refusal.TheVariants.{Reserved, ResultTooLarge}
use Rattle.root_names.specs.RootNames.{repositories_name}
use Rattle.words_core.specs.Grammar.{help_or_version_option_at, help_or_version_or_err, command_of, command_of_reading_with_end_place, spelled_command, next_word_of_command_line, applet_site_of_word, command_else_help_or_version_at_error, can_be_option, unless_refused_at}
use Rattle.words_core.specs.Options.{applet_of_help_or_version_option}
use Rattle.outcome.proofs.Existing.{work_within}
use Rattle.outcome.proofs.Looking.{read_leaves}
use Rattle.outcome.specs.Commands.{IsOutcomeWithoutDemo, IsOutcomeUnlessBadIntent, effect_outcome, reads_in}
use Rattle.outcome.specs.Demo.{IsDemoOutcomeAfterIndexingByPackageCount, IsDemoOutcomeAfterInstallingByPackageCount, IsDemoOutcomeAfterPackagingByPackageCount, IsDemoOutcomeByPackageCount, IsOutcomeOfNextRunAloneOrEarlierRefusal, IsOutcomeOfNextRunAloneOrBeforeIfRefused, outcome_before_demo_with_repositories_file, with_file_packed_in_demo_package}
use Rattle.outcome.specs.Effect.{Makes, does_neither_recover_nor_write, effect_of}
use Rattle.outcome.specs.Given.{Given}
use Rattle.outcome.specs.Make.{files_with_output, index_report_line, make_outcome, outcome_unless_output_reserved}
use Rattle.outcome.specs.Outcome.{Outcome, just_refusal, just_report, outcome_without_commit, just_report_unless_refusal}
use Rattle.outcome.specs.Work.{recovery_fault, files_recovered_if_needed}

-- ---- files under finitely many names

-- the names of which they are
abbrev pub AreFew : Files → Type 0
AreFew files = (names : List (List ℕ)) × HasOnlyNamesAmong names files

few_put : (files : Files) (name bytes : List ℕ) → AreFew files → AreFew (put_name files name bytes)
few_put files name bytes (names, within) = (name ∷ names, λ q some. by_name (bytes_eq q name) q refl some)
  where
    by_name : (b : Bool) (q : List ℕ) → bytes_eq q name ≡ b → IsSome (if b then Some bytes else files q) → (bytes_eq q name || list_any (bytes_eq q) names) ≡ true
    by_name true q is some = ap (λ b. b || list_any (bytes_eq q) names) is
    by_name false q is some = or_right (bytes_eq q name) (list_any (bytes_eq q) names) (within q some)

few_drop : (files : Files) (name : List ℕ) → AreFew files → AreFew (drop_name files name)
few_drop files name (names, within) = (names, λ q some. within q (if_there (bytes_eq q name) (files q) some))
  where
    if_there : (b : Bool) (o : Option (List ℕ)) → IsSome (if b then None else o) → IsSome o
    if_there true o some = cc
    if_there false o some = some

few_with : (output : Option (List ℕ)) (bytes : List ℕ) (files : Files) → AreFew files → AreFew (files_with_output output bytes files)
few_with None bytes files few = few
few_with (Some name) bytes files few = few_put (drop_name files (scratch_name_of name)) name bytes (few_drop files (scratch_name_of name) few)

-- ---- what a command leaves that makes a file

few_name : (reserved : Bool) (files : Files) (name : List ℕ) (o : Outcome) → AreFew files → AreFew o.files → AreFew ((if reserved then just_refusal files (Reserved name) else o).files)
few_name true files name o few after = few
few_name false files name o few after = after

few_output : (files : Files) (output : Option (List ℕ)) (o : Outcome) → AreFew files → AreFew o.files → AreFew ((outcome_unless_output_reserved files output o).files)
few_output files None o few after = after
few_output files (Some name) o few after = few_name (is_reserved name) files name o few after

few_made : (files : Files) (output : Option (List ℕ)) (report : List ℕ) (made : Result (List ℕ) MakeFault) → AreFew files → AreFew ((make_outcome files output report made).files)
few_made files output report (Ok bytes) few = few_output files output (record (just_report (files_with_output output bytes files) report) { commits = true }) few (few_with output bytes files few)
few_made files output report (Err (FileMissing place)) few = few
few_made files output report (Err (FileBad place cause)) few = few
few_made files output report (Err (InfoBad place)) few = few
few_made files output report (Err (TooLarge bytes values)) few = few_output files output (just_refusal files (ResultTooLarge bytes values)) few few
few_made files output report (Err Disk) few = few
few_made files output report (Err Memory) few = few

few_applet : (applet : Applet) (command : CommandLine) (given : Given) (files : Files) → effect_of applet ≡ Makes → AreFew files → AreFew ((effect_outcome (effect_of applet) applet command given (reads_in files) files).files)
few_applet Mkpkg command given files makes few = few_made files (output_name command) [] (made_package command given.names (reads_in files)) few
few_applet Mkndx command given files makes few = few_made files (output_name command) (index_report_line (length command.operands)) (made_index command (reads_in files)) few
few_applet other command given files makes few = cc

few_unless : (fault : Option Cause) (command : CommandLine) (files : Files) (o : Outcome) → effect_of command.applet ≡ Makes → IsOutcomeUnlessBadIntent fault command files o → AreFew files → AreFew o.files
few_unless (Some cause) command files o makes is few = subst AreFew (sym (ap (λ (p : Outcome). p.files) is)) few
few_unless None command files o makes (given, are, is) few =
    let (names, within) = few in
    let work = files_recovered_if_needed (effect_of command.applet) files in
    subst AreFew (sym (ap (λ (p : Outcome). p.files) is)) (few_applet command.applet command given work makes (work_within (effect_of command.applet) files names within))

-- words that make a file, or only read, if they are a command
abbrev pub DoMake : Result CommandLine ℕ → Type 0
DoMake (Ok command) = (effect_of command.applet ≡ Makes) ⊎ (does_neither_recover_nor_write (effect_of command.applet) ≡ true)
DoMake (Err place) = Unit {0}

few_by : (read : Result CommandLine ℕ) (files : Files) (o : Outcome) → DoMake read → IsOutcomeWithoutDemo read files o → AreFew files → AreFew o.files
few_by (Err place) files o makes is few = subst AreFew (sym (ap (λ (p : Outcome). p.files) is)) few
few_by (Ok command) files o (inl makes) is few = few_unless (recovery_fault (effect_of command.applet) files) command files o makes is few
few_by (Ok command) files o (inr reads) is few = subst AreFew (sym (read_leaves (Ok command) files o reads is).0) few

-- ---- the words

unless_makes : (place : Option ℕ) (lacks : Bool) (behind : ℕ) (command : CommandLine) → effect_of command.applet ≡ Makes → DoMake (unless_refused_at place (if lacks then Err behind else Ok command))
unless_makes (Some place) lacks behind command makes = tt
unless_makes None true behind command makes = tt
unless_makes None false behind command makes = inl makes

-- what words ask for only looks at the words
abbrev AskComputes : Option Applet → Type 0
AskComputes None = Unit {0}
AskComputes (Some applet) = does_neither_recover_nor_write (effect_of applet) ≡ true

word_asks : (help version : Bool) → AskComputes (if help then Some Help else if version then Some ProgramVersion else None)
word_asks true version = refl
word_asks false true = refl
word_asks false false = tt

place_asks : (option : Bool) (word : Option (List ℕ)) → AskComputes (if option then option_and_then applet_of_help_or_version_option word else None)
place_asks false word = tt
place_asks true None = tt
place_asks true (Some word) = word_asks (bytes_eq (codes "--help") word || bytes_eq (codes "-h") word) (bytes_eq (codes "--version") word || bytes_eq (codes "-V") word)

asked_makes : (words : List (List ℕ)) (place : ℕ) (asked : Option Applet) → AskComputes asked → DoMake (help_or_version_or_err words place asked)
asked_makes words place None computes = tt
asked_makes words place (Some applet) computes = inr computes

line_makes : (words : List (List ℕ)) (line : Result CommandLine ℕ) → DoMake line → DoMake (command_else_help_or_version_at_error words line)
line_makes words (Ok command) makes = makes
line_makes words (Err place) makes = asked_makes words place (help_or_version_option_at words place) (place_asks (can_be_option (next_word_of_command_line (take (place - 1) words))) (slice_get words (place - 1)))

mkpkg_line : (words : List (List ℕ)) → DoMake (spelled_command (codes "mkpkg" ∷ words))
unfolding spelled_command applet_site_of_word command_of_reading_with_end_place
mkpkg_line words = unless_makes _ _ _ _ refl

mkndx_line : (words : List (List ℕ)) → DoMake (spelled_command (codes "mkndx" ∷ words))
unfolding spelled_command applet_site_of_word command_of_reading_with_end_place
mkndx_line words = unless_makes _ _ _ _ refl

mkpkg_makes : (words : List (List ℕ)) → DoMake (command_of (codes "mkpkg" ∷ words))
unfolding command_of
mkpkg_makes words = line_makes (codes "mkpkg" ∷ words) (spelled_command (codes "mkpkg" ∷ words)) (mkpkg_line words)

mkndx_makes : (words : List (List ℕ)) → DoMake (command_of (codes "mkndx" ∷ words))
unfolding command_of
mkndx_makes words = line_makes (codes "mkndx" ∷ words) (spelled_command (codes "mkndx" ∷ words)) (mkndx_line words)

-- ---- there is one

-- a command that is read has an outcome over few files
abbrev pub HaveOutcome : Type 0
HaveOutcome = (read : Result CommandLine ℕ) (files : Files) (within : List (List ℕ)) → HasOnlyNamesAmong within files → (o : Outcome) × IsOutcomeWithoutDemo read files o

-- an outcome that leaves few files
abbrev One : (Outcome → Type 0) → Type 0
One IsOne = (o : Outcome) × IsOne o × AreFew o.files

unless_exists : HaveOutcome → (refusal : Option Refusal) (words : List (List ℕ)) (files : Files) (before : Outcome) → AreFew files → (o : Outcome) × IsOutcomeOfNextRunAloneOrBeforeIfRefused refusal words files before o
unless_exists have (Some refusal) words files before few = (before, refl)
unless_exists have None words files before (names, within) = have (command_of words) files names within

few_after : (refusal : Option Refusal) (words : List (List ℕ)) (files : Files) (before o : Outcome) → DoMake (command_of words) → IsOutcomeOfNextRunAloneOrBeforeIfRefused refusal words files before o → AreFew before.files → AreFew files → AreFew o.files
few_after (Some refusal) words files before o makes is few few_now = subst AreFew (sym (ap (λ (p : Outcome). p.files) is)) few
few_after None words files before o makes is few few_now = few_by (command_of words) files o makes is few_now

packaged_exists : HaveOutcome → (n : ℕ) → One (IsDemoOutcomeAfterPackagingByPackageCount n)
packaged_exists have zero =
    let start : Files = put_name no_names repositories_name demo_repositories in
    (outcome_before_demo_with_repositories_file, refl, few_put no_names repositories_name demo_repositories ([], λ q some. cc))
packaged_exists have (suc i) =
    let (before, is, few) = packaged_exists have i in
    let files = with_file_packed_in_demo_package (suc i) before.files in
    let few_now : AreFew files = few_put before.files (demo_file (suc i)) (contents_of_demo_file (suc i)) few in
    let (o, is_next) = unless_exists have before.refusal (mkpkg_words (suc i)) files before few_now in
    (o, (before, is, is_next), few_after before.refusal (mkpkg_words (suc i)) files before o (mkpkg_makes _) is_next few few_now)

indexed_exists : HaveOutcome → (n : ℕ) → One (IsDemoOutcomeAfterIndexingByPackageCount n)
indexed_exists have n =
    let (before, is, few) = packaged_exists have n in
    let (o, is_next) = unless_exists have before.refusal (mkndx_words n) before.files before few in
    (o, (before, is, is_next), few_after before.refusal (mkndx_words n) before.files before o (mkndx_makes _) is_next few few)

installed_exists : HaveOutcome → (n : ℕ) → (o : Outcome) × IsDemoOutcomeAfterInstallingByPackageCount n o
installed_exists have n =
    let (before, is, few) = indexed_exists have n in
    let (o, is_next) = unless_exists have before.refusal (add_words n) before.files before few in
    (o, (before, is, is_next))

pub demo_exists : HaveOutcome → (n : ℕ) (files : Files) → (o : Outcome) × IsDemoOutcomeByPackageCount n files o
demo_exists have n files =
    let (last, is) = installed_exists have n in
    (just_report_unless_refusal files last.refusal (demo_line_of_count_and_add_report n last.out), (last, is, refl))

-- ---- there is no second one

-- a command that is read has one outcome
abbrev pub HaveOneOutcome : Type 0
HaveOneOutcome = (read : Result CommandLine ℕ) (files : Files) (a b : Outcome) → IsOutcomeWithoutDemo read files a → IsOutcomeWithoutDemo read files b → a ≡ b

unless_one : HaveOneOutcome → (refusal : Option Refusal) (words : List (List ℕ)) (files : Files) (before a b : Outcome) → IsOutcomeOfNextRunAloneOrBeforeIfRefused refusal words files before a → IsOutcomeOfNextRunAloneOrBeforeIfRefused refusal words files before b → a ≡ b
unless_one one (Some refusal) words files before a b x y = x ∙ sym y
unless_one one None words files before a b x y = one (command_of words) files a b x y

-- behind one outcome, over files that it gives
behind_one : HaveOneOutcome → (words : List (List ℕ)) (next : Outcome → Files) (p q a b : Outcome) → p ≡ q → IsOutcomeOfNextRunAloneOrEarlierRefusal words (next p) p a → IsOutcomeOfNextRunAloneOrEarlierRefusal words (next q) q b → a ≡ b
behind_one one words next p q a b same x y =
    unless_one one q.refusal words (next q) q a b (subst (λ (r : Outcome). IsOutcomeOfNextRunAloneOrEarlierRefusal words (next r) r a) same x) y

packaged_one : HaveOneOutcome → (n : ℕ) (a b : Outcome) → IsDemoOutcomeAfterPackagingByPackageCount n a → IsDemoOutcomeAfterPackagingByPackageCount n b → a ≡ b
packaged_one one zero a b x y = x ∙ sym y
packaged_one one (suc i) a b (p, is_p, x) (q, is_q, y) =
    behind_one one (mkpkg_words (suc i)) (λ (o : Outcome). with_file_packed_in_demo_package (suc i) o.files) p q a b (packaged_one one i p q is_p is_q) x y

indexed_one : HaveOneOutcome → (n : ℕ) (a b : Outcome) → IsDemoOutcomeAfterIndexingByPackageCount n a → IsDemoOutcomeAfterIndexingByPackageCount n b → a ≡ b
indexed_one one n a b (p, is_p, x) (q, is_q, y) = behind_one one (mkndx_words n) (λ (o : Outcome). o.files) p q a b (packaged_one one n p q is_p is_q) x y

installed_one : HaveOneOutcome → (n : ℕ) (a b : Outcome) → IsDemoOutcomeAfterInstallingByPackageCount n a → IsDemoOutcomeAfterInstallingByPackageCount n b → a ≡ b
installed_one one n a b (p, is_p, x) (q, is_q, y) = behind_one one (add_words n) (λ (o : Outcome). o.files) p q a b (indexed_one one n p q is_p is_q) x y

pub demo_one : HaveOneOutcome → (n : ℕ) (files : Files) (a b : Outcome) → IsDemoOutcomeByPackageCount n files a → IsDemoOutcomeByPackageCount n files b → a ≡ b
demo_one one n files a b (p, is_p, x) (q, is_q, y) =
    x ∙ ap (λ (last : Outcome). just_report_unless_refusal files last.refusal (demo_line_of_count_and_add_report n last.out)) (installed_one one n p q is_p is_q) ∙ sym y

-- ---- it leaves the files, whichever these are

unless_leaves : (files : Files) (refusal : Option Refusal) (report : List ℕ) → ((just_report_unless_refusal files refusal report).files ≡ files) × ((just_report_unless_refusal files refusal report).commits ≡ false)
unless_leaves files None report = (refl, refl)
unless_leaves files (Some refusal) report = (refl, refl)

pub demo_leaves : (n : ℕ) (files : Files) (o : Outcome) → IsDemoOutcomeByPackageCount n files o → (o.files ≡ files) × (o.commits ≡ false)
demo_leaves n files o (last, is_last, is) = subst (λ (p : Outcome). (p.files ≡ files) × (p.commits ≡ false)) (sym is) (unless_leaves files last.refusal (demo_line_of_count_and_add_report n last.out))

unless_same : (files others : Files) (refusal : Option Refusal) (report : List ℕ)
    → outcome_without_commit (just_report_unless_refusal files refusal report).refusal (just_report_unless_refusal files refusal report).out others ≡ just_report_unless_refusal others refusal report
unless_same files others None report = refl
unless_same files others (Some refusal) report = refl

pub demo_everywhere : (n : ℕ) (files others : Files) (o : Outcome) → IsDemoOutcomeByPackageCount n files o → IsDemoOutcomeByPackageCount n others (outcome_without_commit o.refusal o.out others)
demo_everywhere n files others o (last, is_last, is) =
    (last, is_last, subst (λ (p : Outcome). outcome_without_commit p.refusal p.out others ≡ just_report_unless_refusal others last.refusal (demo_line_of_count_and_add_report n last.out)) (sym is) (unless_same files others last.refusal (demo_line_of_count_and_add_report n last.out)))
