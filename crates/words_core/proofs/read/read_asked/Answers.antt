use Rattle.std.proofs.Common.{sym, ◌∙◌}
use Rattle.words_core.proofs.AskedLaws.{asked_sound, asked_start}
use Rattle.words_core.proofs.OffendingWords.{usage_between}
use Rattle.words_core.proofs.read.read_asked.Goals as goal

pub help_or_version_option_at-requires-clause-low : goal.help_or_version_option_at-requires-clause-low
help_or_version_option_at-requires-clause-low c = (usage_between c.args.words.now c.args.place c.requires).0

pub help_or_version_option_at-requires-clause-high : goal.help_or_version_option_at-requires-clause-high
help_or_version_option_at-requires-clause-high c = (usage_between c.args.words.now c.args.place c.requires).1

pub command_with_help_or_version_applet-requires : goal.command_with_help_or_version_applet-requires
command_with_help_or_version_applet-requires c = asked_sound c.args.words.now c.args.place c.in-Some.applet (sym c.help_or_version_option_at.ensures ∙ c.in-Some.is)

pub returns-in-Err-clause-memory : goal.returns-in-Err-clause-memory
returns-in-Err-clause-memory c = asked_start c.args.words.now c.args.place c.in-Some.applet c.requires (sym c.help_or_version_option_at.ensures ∙ c.in-Some.is) c.in-Err.ensures.memory
