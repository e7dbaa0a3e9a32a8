use Rattle.words_core.specs.HelpTexts.{first_steps_text, program_usage}
use Rattle.words_core.proofs.Helped.{program_told}
use Rattle.words_core.proofs.help_texts.push_program_help.Goals as goal

pub returns : goal.returns
unfolding first_steps_text program_usage
returns c =
    program_told _ c.args.text.now.items c.extend_from_slice.new.self.items c.extend_from_slice-2.new.self.items c.push_command_lines.new.text.items c.push_section.new.text.items _ _
    c.in_ok-extend_from_slice.ensures.items c.in_ok-extend_from_slice-2.ensures.items c.in_ok-push_command_lines.ensures c.in_ok-push_section.ensures c.common_option_help.ensures c.extend_from_slice-3.ensures.items
