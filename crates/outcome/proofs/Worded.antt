-- The outcome of words is that of a command, or that of `demo`.
use Rattle.std.proofs.Common.{◌≡◌, ◌⊎◌, inl, inr, ⊎_elim, ℕ, false, List, None, Some, Result, Ok, Err, refl, sym, subst, ◌∙◌}
use Rattle.std.specs.Prelude.{IsTrue}
use Rattle.base_core.specs.Files.{Files, HasOnlyNamesAmong}
use Rattle.command_core.specs.Command.{CommandLine}
use Rattle.command_core.specs.declared.command.Applet.{Applet}
use Rattle.command_core.specs.declared.command.Applet.TheVariants.{Demo}
use Rattle.outcome.specs.DemoCount.{demo_count}
use Rattle.outcome.proofs.Demos.{HaveOneOutcome, HaveOutcome, demo_everywhere, demo_exists, demo_leaves, demo_one}
use Rattle.outcome.specs.Commands.{IsOutcomeWithoutDemo}
use Rattle.outcome.specs.Demo.{IsDemoOutcomeByPackageCount}
use Rattle.outcome.specs.Effect.{Effect, Computes, AsksRoot, Makes, Changes, ignores_files, effect_of_arguments, effect_of, output_name_of_arguments, output_name_for_effect, depends_only_on_arguments}
use Rattle.outcome.specs.Outcome.{Outcome, outcome_without_commit}
use Rattle.outcome.specs.Words.{IsOutcome, IsOutcomeOfAppletIncludingRecovery}

-- ---- there is one, and no second one

applet_exists : HaveOutcome → (applet : Applet) (command : CommandLine) (files : Files) (within : List (List ℕ)) → HasOnlyNamesAmong within files → (o : Outcome) × IsOutcomeOfAppletIncludingRecovery applet command files o
applet_exists have Demo command files within few = demo_exists have (demo_count command.operands) files
applet_exists have other command files within few = have (Ok command) files within few

pub by_exists : HaveOutcome → (read : Result CommandLine ℕ) (files : Files) (within : List (List ℕ)) → HasOnlyNamesAmong within files → (o : Outcome) × IsOutcome read files o
by_exists have (Ok command) files within few = applet_exists have command.applet command files within few
by_exists have (Err place) files within few = have (Err place) files within few

applet_one : HaveOneOutcome → (applet : Applet) (command : CommandLine) (files : Files) (a b : Outcome) → IsOutcomeOfAppletIncludingRecovery applet command files a → IsOutcomeOfAppletIncludingRecovery applet command files b → a ≡ b
applet_one one Demo command files a b x y = demo_one one (demo_count command.operands) files a b x y
applet_one one other command files a b x y = one (Ok command) files a b x y

pub by_one : HaveOneOutcome → (read : Result CommandLine ℕ) (files : Files) (a b : Outcome) → IsOutcome read files a → IsOutcome read files b → a ≡ b
by_one one (Ok command) files a b x y = applet_one one command.applet command files a b x y
by_one one (Err place) files a b x y = one (Err place) files a b x y

-- ---- which of both

-- it is that of `demo`
abbrev pub IsOfDemo : Result CommandLine ℕ → Files → Outcome → Type 0
IsOfDemo read files o = (n : ℕ) × IsDemoOutcomeByPackageCount n files o × (effect_of_arguments read ≡ Computes)

applet_either : (applet : Applet) (command : CommandLine) (files : Files) (o : Outcome) → IsOutcomeOfAppletIncludingRecovery applet command files o
    → IsOutcomeWithoutDemo (Ok command) files o ⊎ ((n : ℕ) × IsDemoOutcomeByPackageCount n files o × (effect_of applet ≡ Computes))
applet_either Demo command files o is = inr (demo_count command.operands, is, refl)
applet_either other command files o is = inl is

pub either : (read : Result CommandLine ℕ) (files : Files) (o : Outcome) → IsOutcome read files o → IsOutcomeWithoutDemo read files o ⊎ IsOfDemo read files o
either (Ok command) files o is = applet_either command.applet command files o is
either (Err place) files o is = inl is

-- where it does not rest on the words alone, it is not that of `demo`
pub of_by : (read : Result CommandLine ℕ) (files : Files) (o : Outcome) → (effect_of_arguments read ≡ Computes → ⊥) → IsOutcome read files o → IsOutcomeWithoutDemo read files o
of_by read files o rests is = ⊎_elim (λ of. of) (λ demo. absurd (rests demo.2)) (either read files o is)

pub tells_not : (effect : Effect) → effect ≡ AsksRoot → effect ≡ Computes → ⊥
tells_not effect tells computes = let e : AsksRoot ≡ Computes = sym tells ∙ computes in cc

pub makes_not : (effect : Effect) → effect ≡ Makes → effect ≡ Computes → ⊥
makes_not effect makes computes = let e : Makes ≡ Computes = sym makes ∙ computes in cc

pub changes_not : (effect : Effect) → effect ≡ Changes → effect ≡ Computes → ⊥
changes_not effect changes computes = let e : Changes ≡ Computes = sym changes ∙ computes in cc

pub output_not : (read : Result CommandLine ℕ) (name : List ℕ) → output_name_of_arguments read ≡ Some name → effect_of_arguments read ≡ Computes → ⊥
output_not (Err place) name is computes = cc
output_not (Ok command) name is computes =
    let e : None ≡ Some name = subst (λ (effect : Effect). output_name_for_effect effect command ≡ Some name) computes is in cc

-- ---- it leaves the files

pub leaves_by : (P : Outcome → Type 0) (read : Result CommandLine ℕ) (files : Files) (o : Outcome) → (IsOutcomeWithoutDemo read files o → P o) → ((o.files ≡ files) × (o.commits ≡ false) → P o) → IsOutcome read files o → P o
leaves_by P read files o of demo is = ⊎_elim of (λ d. demo (demo_leaves d.0 files o d.1)) (either read files o is)

-- ---- it is the same over all files

-- so it is of a command that rests on the words alone
abbrev pub SameEverywhere : Type 0
SameEverywhere = (read : Result CommandLine ℕ) (files others : Files) (o : Outcome) → IsTrue (depends_only_on_arguments read) → IsOutcomeWithoutDemo read files o → IsOutcomeWithoutDemo read others (outcome_without_commit o.refusal o.out others)

applet_everywhere : SameEverywhere → (applet : Applet) (command : CommandLine) (files others : Files) (o : Outcome) → IsTrue (ignores_files (effect_of command.applet)) → IsOutcomeOfAppletIncludingRecovery applet command files o
    → IsOutcomeOfAppletIncludingRecovery applet command others (outcome_without_commit o.refusal o.out others)
applet_everywhere same Demo command files others o rests is = demo_everywhere (demo_count command.operands) files others o is
applet_everywhere same other command files others o rests is = same (Ok command) files others o rests is

pub by_everywhere : SameEverywhere → (read : Result CommandLine ℕ) (files others : Files) (o : Outcome) → IsTrue (depends_only_on_arguments read) → IsOutcome read files o → IsOutcome read others (outcome_without_commit o.refusal o.out others)
by_everywhere same (Ok command) files others o rests is = applet_everywhere same command.applet command files others o rests is
by_everywhere same (Err place) files others o rests is = same (Err place) files others o rests is
