use Rattle.std.proofs.Common.{◌∙◌, ◌++◌, ap, codes, subst, List, ℕ, ◌≡◌}
use Rattle.std.specs.Prelude.{OnOk}
use Rattle.words_core.specs.HelpTexts.{common_option_help, field_help, help_lines_text, operand_help, option_column, option_help, purpose, section_text, synopsis, synopsis_text_with_first_prefix}
use Rattle.words_core.proofs.Helped.{between_line_ends, nine_texts}
use Rattle.words_core.proofs.help_texts.push_command_help.Goals as goal

pub returns : goal.returns
returns c =
    let usage : List ℕ = synopsis_text_with_first_prefix (codes "usage: ") (synopsis c.args.applet) in
    let own : List ℕ = help_lines_text option_column (option_help c.args.applet) in
    let common : List ℕ = help_lines_text option_column common_option_help in
    let fields : List ℕ = section_text (codes "\nFields that -I takes:\n") option_column (field_help c.args.applet) in
    let operands : List ℕ = section_text (codes "\nOperands:\n") option_column (operand_help c.args.applet) in
    let manual : List ℕ = codes "\nManual page: apk(8)\n" in
    subst (λ (front : List ℕ). OnOk c.extend_from_slice-4.result (c.extend_from_slice-4.new.self.items ≡ c.args.text.now.items ++ (((((front ++ own) ++ common) ++ fields) ++ operands) ++ manual)))
    (between_line_ends usage (purpose c.args.applet))
    (nine_texts c.extend_from_slice-4.result c.args.text.now.items
    usage (codes "\n") (purpose c.args.applet) (codes "\n\nOptions:\n") own common fields operands manual
    c.push_usage.new.text.items c.extend_from_slice.new.self.items c.extend_from_slice-2.new.self.items c.extend_from_slice-3.new.self.items
    c.push_lines.new.text.items c.push_lines-2.new.text.items c.push_section.new.text.items c.push_section-2.new.text.items c.extend_from_slice-4.new.self.items
    (c.in_ok-push_usage.ensures ∙ ap (λ ls. c.args.text.now.items ++ synopsis_text_with_first_prefix (codes "usage: ") ls) c.synopsis.ensures)
    c.in_ok-extend_from_slice.ensures.items
    (c.in_ok-extend_from_slice-2.ensures.items ∙ ap (λ t. c.extend_from_slice.new.self.items ++ t) c.purpose.ensures)
    c.in_ok-extend_from_slice-3.ensures.items
    (c.in_ok-push_lines.ensures ∙ ap (λ ls. c.extend_from_slice-3.new.self.items ++ help_lines_text option_column ls) c.option_help.ensures)
    (c.in_ok-push_lines-2.ensures ∙ ap (λ ls. c.push_lines.new.text.items ++ help_lines_text option_column ls) c.common_option_help.ensures)
    (c.in_ok-push_section.ensures ∙ ap (λ ls. c.push_lines-2.new.text.items ++ section_text (codes "\nFields that -I takes:\n") option_column ls) c.field_help.ensures)
    (c.in_ok-push_section-2.ensures ∙ ap (λ ls. c.push_section.new.text.items ++ section_text (codes "\nOperands:\n") option_column ls) c.operand_help.ensures)
    c.extend_from_slice-4.ensures.items)
