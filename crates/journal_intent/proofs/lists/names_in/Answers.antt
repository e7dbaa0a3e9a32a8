use Rattle.std.proofs.Common.{arith, ◌∙◌, ap, ◌++◌, ◌∷◌, [], List, ℕ}
use Rattle.adb_sound.specs.adb_fields.ListValue.{list_value}
use Rattle.adb_view.specs.Values.{entries_in}
use Rattle.journal_intent.proofs.Texts.{at_nth, text_named, texts_all, texts_more}
use Rattle.journal_intent.proofs.lists.names_in.Goals as goal

pub of-requires : goal.of-requires
of-requires c = text_named (entries_in (list_value c.args.list)) c.loop-i.i c.get.result.now (omega arith) c.requires (at_nth (entries_in (list_value c.args.list)) c.loop-i.i _ c.get.ensures)

pub loop-i-preserved : goal.loop-i-preserved
loop-i-preserved c = texts_more (entries_in (list_value c.args.list)) c.loop-i.i c.get.result.now _ _ (omega arith) (at_nth (entries_in (list_value c.args.list)) c.loop-i.i _ c.get.ensures) c.loop-i.invariant (c.in_ok-push.ensures.ok ∙ ap (λ (x : List ℕ). c.loop-i.names ++ x ∷ []) c.in_ok-of.ensures)

pub returns-clause-value : goal.returns-clause-value
returns-clause-value c = texts_all (entries_in (list_value c.args.list)) c.loop-i.i _ (omega arith) c.loop-i.invariant
