use Rattle.std.proofs.Common.{◌∙◌}
use Rattle.command_core.proofs.Named.{first_named}
use Rattle.command_core.proofs.values.Values.first_file.Goals as goal

pub returns-in-Some : goal.returns-in-Some
returns-in-Some c =
    c.as_ref.ensures.value
    ∙ first_named c.args.letter c.args.self.now c.in-Some.entry.now.value c.in-Some.entry.now.file c.in-Some.ensures.value c.in-Some.ensures.file c.requires.letter c.requires.file
