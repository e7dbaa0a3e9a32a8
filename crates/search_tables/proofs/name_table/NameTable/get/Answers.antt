use Rattle.std.proofs.Common.{◌∙◌, List, ℕ, ap}
use Rattle.search_tables.specs.NameTable.{items_under_name}
use Rattle.search_tables.proofs.NameTables.{items_or_none, looked_up}
use Rattle.search_tables.proofs.name_table.NameTable.get.Goals as goal

pub returns-in-Some : goal.returns-in-Some
returns-in-Some g c =
    c.as_slice.ensures.value ∙ (ap items_or_none c.in-Some.ensures.value ∙ (looked_up c.args.name.now c.self.inside.by_name.entries ∙ ap (λ (z : List (List ℕ × List g.row.T.Denot)). items_under_name z c.args.name.now) c.self.view_is))

pub returns-in-None : goal.returns-in-None
returns-in-None g c =
    ap items_or_none c.in-None.ensures.value ∙ (looked_up c.args.name.now c.self.inside.by_name.entries ∙ ap (λ (z : List (List ℕ × List g.row.T.Denot)). items_under_name z c.args.name.now) c.self.view_is)
