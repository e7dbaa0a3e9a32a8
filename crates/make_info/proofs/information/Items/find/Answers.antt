use Rattle.std.proofs.Common.{rules, tests, ◌∙◌, ap}
use Rattle.std.proofs.lemmas.Iterator.{YieldsList-from_slice}
use Rattle.std.proofs.lemmas.Iterator.Search.{find_from_yields_List}
use Rattle.make_info.specs.declared.information.Item.{Item}
use Rattle.std.specs.List.{find}
use Rattle.make_info.specs.FieldTexts.{is_same_field}
use Rattle.make_info.specs.Information.{is_item_for}
use Rattle.make_info.proofs.Seeing.{found_seen}
use Rattle.make_info.proofs.information.Items.find.Goals as goal

pub returns : goal.returns
returns c =
    found_seen c.args.field c.self.inside.entries.items c.find.result
    (find_from_yields_List (λ (e : Item). is_same_field e.field c.args.field) _ _ c.find.result c.find.ensures.ran
    (YieldsList-from_slice c.self.inside.entries.items (c.iter.ensures.rest ∙ c.deref.ensures.value))
    (λ x b q k. search (rules, tests)))
    ∙ ap (find (is_item_for c.args.field)) c.self.view_is
