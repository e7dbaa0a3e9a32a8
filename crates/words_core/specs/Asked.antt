-- Words that ask for help or for the version, apart from how they are read. The rules are in
-- `docs/commands.md`, "Help"; the laws `read_words_are_a_command` and `commands_are_read` connect them
-- with *command_of*.
use Rattle.std.specs.Prelude.{◌≡◌, ℕ, ◌<◌, List, ◌∷◌, ◌++◌, length, Err, Some, IsTrue}
use Rattle.command_core.specs.Command.{CommandLine}
use Rattle.words_core.specs.Grammar.{command_with_help_or_version_applet, spelled_command, next_word_of_command_line, can_be_option}
use Rattle.words_core.specs.Options.{applet_of_help_or_version_option}

-- a word of a command line asks for this command, help or the version: an option can be at its place, and no word
-- before it is wrong. The words after it do not matter
pub record IsHelpOrVersionAskedBy (words : List (List ℕ)) (command : CommandLine) : Type 0 where
  -- the words before the one that asks, this word, and those after it
  pub before : List (List ℕ)
  pub word : List ℕ
  pub after : List (List ℕ)
  pub whole : words ≡ before ++ (word ∷ after)
  -- the word is `--help` or `--version`, or a short form, and asks for the command's applet
  pub asks : applet_of_help_or_version_option word ≡ Some command.applet
  -- an option can be at the place of this word
  pub option : IsTrue (can_be_option (next_word_of_command_line before))
  -- no word before it is wrong: an error in these words alone would be that a word is missing after them
  pub fine : (place : ℕ) → spelled_command before ≡ Err place → length before < place
  -- the command is the one that asks for help or for the version, with the topic of help
  pub is : command ≡ command_with_help_or_version_applet words command.applet
