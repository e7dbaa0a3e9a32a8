use Rattle.std.proofs.Common.{rules, tests}
use Rattle.std.specs.Prelude.{◌==◌}
use Rattle.std.proofs.lemmas.Iterator.{YieldsList-from_slice}
use Rattle.std.proofs.lemmas.Iterator.Search.{find_from_yields_List}
use Rattle.command_core.specs.declared.values.ValueEntry.{ValueEntry}
use Rattle.command_core.proofs.Named.{first_agrees, first_seen}
use Rattle.command_core.proofs.values.Values.first_entry.Goals as goal

pub returns-clause-value : goal.returns-clause-value
returns-clause-value c =
    first_seen (λ entry. entry.now) c.args.letter c.self.inside.entries.items c.args.self.now c.find.result c.self.view_is
    (find_from_yields_List (λ (e : ValueEntry). e.value.letter == c.args.letter) _ _ c.find.result c.find.ensures.ran
    (YieldsList-from_slice c.self.inside.entries.items cc)
    (λ x b q k. search (rules, tests)))

pub returns-clause-file : goal.returns-clause-file
returns-clause-file c =
    first_agrees (λ entry. entry.now) c.args.letter c.self.inside.entries.items c.find.result c.self.invariant
    (find_from_yields_List (λ (e : ValueEntry). e.value.letter == c.args.letter) _ _ c.find.result c.find.ensures.ran
    (YieldsList-from_slice c.self.inside.entries.items cc)
    (λ x b q k. search (rules, tests)))
