use Rattle.std.proofs.Common.{◌+◌, length, sym, ◌∙◌, arith}
use Rattle.words_core.specs.Grammar.{reading_of_rest_of_command_words}
use Rattle.words_core.proofs.Hints.{plain_asked, rule_same}
use Rattle.words_core.proofs.KindsKept.{IsPlain, start_known}
use Rattle.words_core.proofs.usage.operand_rule_of_words.Goals as goal

pub read_flags-requires-clause-read : goal.read_flags-requires-clause-read
read_flags-requires-clause-read c =
    let known : IsPlain c.args.start.now (1 + length c.args.words.now) = start_known c.args.words.now c.args.start.now c.requires in
    omega (arith, known.read)

pub read_flags-requires-clause-plain : goal.read_flags-requires-clause-plain
read_flags-requires-clause-plain c = plain_asked c.args.start.now.applet (sym c.operands_depend_on_flags.ensures ∙ c.if-operands_depend_on_flags.true)

pub returns : goal.returns
returns c =
    c.operands-2.ensures
    ∙ rule_same c.args.start.now.applet _ (reading_of_rest_of_command_words c.args.start.now c.args.words.now).state.flags (sym c.operands_depend_on_flags.ensures ∙ c.if-operands_depend_on_flags.false)
