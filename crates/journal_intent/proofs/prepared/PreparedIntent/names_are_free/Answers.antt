use Rattle.std.proofs.Common.{◌<◌, ◌+◌, ◌^◌, length, subst}
use Rattle.journal_intent.specs.Intent.{Intent}
use Rattle.journal_intent.specs.FreeNames.{HasFreeNamesAndUnrepeatedWrites}
use Rattle.journal_intent.proofs.prepared.PreparedIntent.names_are_free.Goals as goal

pub returns-clause-free : goal.returns-clause-free
returns-clause-free c = subst HasFreeNamesAndUnrepeatedWrites c.self.view_is (c.a_read_intent_has_free_names.ensures _ _ c.self.inside.spelled)

pub returns-clause-few : goal.returns-clause-few
returns-clause-few c = subst (λ (i : Intent). length i.removals + length i.writes < 2 ^ 63) c.self.view_is c.self.inside.few
