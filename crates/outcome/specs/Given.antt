-- The parts of an outcome that definitions only relate to the files, and do not compute: the names that a command
-- lists, the candidates that it chooses, and the first clash of names. The rules are in
-- `docs/commands.md`, "`mkpkg`" (`-F DIR`) and "What a change does with files" (test 2), and in
-- `docs/selection.md`, "Which selection is taken".
use Rattle.std.specs.Prelude.{◌≡◌, ℕ, List, [], Option, None}
use Rattle.base_core.specs.Files.{Files}
use Rattle.command_core.specs.Command.{CommandLine}
use Rattle.command_core.specs.declared.command.Applet.{Applet}
use Rattle.command_core.specs.declared.command.Applet.TheVariants.{Mkpkg}
use Rattle.command_core.specs.declared.values.TheConstants.{FILES}
use Rattle.engine_core.specs.Changed.{IsFirstClashOfCommand, IsFirstClashOfCommandAmong}
use Rattle.engine_core.specs.Choice.{IsPreferredChoiceOrNoneIfRefused}
use Rattle.engine_core.specs.Selecting.{pool_of_command}
use Rattle.make_core.specs.make_info.Reads.{Reads}
use Rattle.make_core.specs.package_files.Sources.{AreSortedAndEachBelowFirstFolder, values_of_letter}
use Rattle.tell_core.specs.path_clashes.Clash.{NamePair}
use Rattle.outcome.specs.Effect.{Effect, Changes, effect_of}
use Rattle.outcome.specs.Make.{AreNamesBelowOptionFolder}

-- what an outcome depends on besides the command, what reads find, and the files
pub record Given : Type 0 where
  -- the names below the folder of `mkpkg -F`
  pub names : List (List ℕ)
  -- the places of the candidates that the command chooses, in the order of the choice; None if no selection satisfies
  -- the new world, or the command chooses nothing
  pub chosen : Option (List ℕ)
  -- the first clash of the names after a change, if there is one
  pub clash : Option NamePair

-- the parts for a command that lists and chooses nothing
abbrev pub no_listing_choice_or_clash : Given
no_listing_choice_or_clash = record { names = []; chosen = None; clash = None }

-- ---- the choice

-- the places of the candidates that a command chooses, given what reads find; only a change chooses
abbrev pub IsPreferredChoiceForChangeElseNone : Effect → CommandLine → Reads → Option (List ℕ) → Type 0
IsPreferredChoiceForChangeElseNone Changes command read chosen =
    IsPreferredChoiceOrNoneIfRefused (pool_of_command command read) chosen
IsPreferredChoiceForChangeElseNone other command read chosen = chosen ≡ None

-- ---- over these files

-- `names` are those that an applet lists over these files: `mkpkg` those below the folder of `-F`, the others none
abbrev pub AreNamesListedForApplet : Applet → CommandLine → Files → List (List ℕ) → Type 0
AreNamesListedForApplet Mkpkg command files names =
    AreNamesBelowOptionFolder (values_of_letter FILES command.values) files names
AreNamesListedForApplet other command files names = names ≡ []

-- `clash` is the first clash of names that a command with this effect makes over these files, or None; only a change
-- has one
abbrev pub IsFirstClashForChangeElseNone :
    Effect → CommandLine → Reads → Files → Option (List ℕ) → Option NamePair → Type 0
IsFirstClashForChangeElseNone Changes command read files chosen clash =
    IsFirstClashOfCommand command read files chosen clash
IsFirstClashForChangeElseNone other command read files chosen clash = clash ≡ None

-- `given` are the names listed, the candidates chosen and the first clash of a command over these files, by what its
-- reads find
pub record IsListingChoiceAndClashFor (command : CommandLine) (read : Reads) (files : Files) (given : Given)
    : Type 0 where
  -- the names that the command lists are those of the files
  pub names : AreNamesListedForApplet command.applet command files given.names
  -- for a change: the chosen candidates are the preferred selection; None if no selection satisfies world
  pub chosen : IsPreferredChoiceForChangeElseNone (effect_of command.applet) command read given.chosen
  -- the clash is the first one of the change over these files, if there is one
  pub clash :
      IsFirstClashForChangeElseNone (effect_of command.applet) command read files given.chosen given.clash

-- ---- over a tree that is not observable

-- `names` are some that an applet may list: `mkpkg` some below the folder of `-F`, in byte order and each once, the
-- others none
abbrev pub ArePossibleNamesListedForApplet : Applet → CommandLine → List (List ℕ) → Type 0
ArePossibleNamesListedForApplet Mkpkg command names =
    AreSortedAndEachBelowFirstFolder (values_of_letter FILES command.values) names
ArePossibleNamesListedForApplet other command names = names ≡ []

-- `clash` is the first clash of names that a command makes among some present files, or None; only a change has one.
-- `files` decide which configuration files are kept
abbrev pub IsPossibleFirstClashForChangeElseNone :
    Effect → CommandLine → Reads → Files → Option (List ℕ) → Option NamePair → Type 0
IsPossibleFirstClashForChangeElseNone Changes command read files chosen clash =
    (present_files : Files) × IsFirstClashOfCommandAmong command read files present_files chosen clash
IsPossibleFirstClashForChangeElseNone other command read files chosen clash = clash ≡ None

-- `given` are names that a command may list, the candidates that it chooses, and a clash that it may find, on a tree
-- that is not observable
pub record IsPossibleListingChoiceAndClash (command : CommandLine) (read : Reads) (files : Files)
    (given : Given)
    : Type 0 where
  -- some names that a tree may list
  pub names : ArePossibleNamesListedForApplet command.applet command given.names
  -- for a change: the chosen candidates are the preferred selection; None if no selection satisfies world
  pub chosen : IsPreferredChoiceForChangeElseNone (effect_of command.applet) command read given.chosen
  -- a clash that is the first one over some files, if there is one
  pub clash :
      IsPossibleFirstClashForChangeElseNone
      (effect_of command.applet) command read files given.chosen given.clash
