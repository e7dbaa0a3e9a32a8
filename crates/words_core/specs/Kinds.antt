-- Words of `info` whose kind can still follow: a kind takes other operands than `info` without one. The
-- rule is in `docs/commands.md`, "Words", below the table of places (`info usr/x -W`). Serves the laws
-- `words_offend_whatever_follows` and `what_follows_a_command_offends_after_it`.
use Rattle.std.specs.Prelude.{ℕ, Bool, true, false, not, ◌&&◌, ◌||◌, List, drop, None, is_some, Result, Ok, Err}
use Rattle.command_core.specs.declared.command.Applet.{Applet}
use Rattle.command_core.specs.declared.command.Applet.TheVariants.{Info}
use Rattle.command_core.specs.Flags.{has_command_kind_flag}
use Rattle.words_core.specs.declared.reading.Start.{Start}
use Rattle.words_core.specs.Grammar.{start_of_command_line, reading_of_rest_of_command_words}
use Rattle.words_core.specs.Options.{options_of}
use Rattle.words_core.specs.Stuck.{have_options_ended}

-- whether the applet is `info`
abbrev pub is_info_applet : Applet → Bool
is_info_applet Info = true
is_info_applet applet = false

-- whether words with this start can still get a kind: they are `info` without one, each of them can be read, and
-- options can follow
abbrev pub can_started_words_get_info_kind : List (List ℕ) → Start → Bool
can_started_words_get_info_kind words start =
    let reading = reading_of_rest_of_command_words start words in
    is_info_applet start.applet && not (has_command_kind_flag reading.state.flags)
    && not (is_some reading.unread)
    && not (start.ended || have_options_ended (options_of start.applet) None (drop start.read words))

-- whether words can still get a kind of `info`, by their start; they cannot if no start was found
abbrev pub can_info_kind_follow_if_started : List (List ℕ) → Result Start ℕ → Bool
can_info_kind_follow_if_started words (Err place) = false
can_info_kind_follow_if_started words (Ok start) = can_started_words_get_info_kind words start

-- whether words are `info` without a kind, and one of its four options can still follow
unfoldable pub can_info_kind_follow : List (List ℕ) → Bool
can_info_kind_follow words = can_info_kind_follow_if_started words (start_of_command_line words)
