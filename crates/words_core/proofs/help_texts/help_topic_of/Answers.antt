use Rattle.std.proofs.Common.{◌∙◌, ap}
use Rattle.words_core.specs.Options.{applet_of}
use Rattle.words_core.proofs.Helped.{topic_first}
use Rattle.words_core.proofs.help_texts.help_topic_of.Goals as goal

pub returns : goal.returns
returns c = c.applet_of.ensures ∙ (ap applet_of c.as_bytes.ensures ∙ topic_first c.args.operands.now c.get.result.now c.get.ensures)
