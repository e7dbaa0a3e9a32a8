use Rattle.std.proofs.Common.{◌≡◌, ◌∙◌, List, ℕ, Vec, [], ◌∷◌, ◌++◌, Bor, ap, sym}
use Rattle.std.specs.Prelude.{None, if◌then◌else◌}
use Rattle.std.specs.Global.{Global}
use Rattle.std.specs.Map.{lookup}
use Rattle.std.specs.Str.{bytes_eq}
use Rattle.indexmap.specs.IndexMap.{insert_entry}
use Rattle.search_tables.specs.NameTable.{items_under_name, names_and_items}
use Rattle.search_tables.proofs.NameTables.{Entries, is_key, items_under_name-insert_entry, items_under_name-set_value, items_or_none, looked_up, one_more_item}
use Rattle.search_tables.proofs.name_table.NameTable.add.Goals as goal

pub returns-in_ok-push-in-Some : goal.returns-in_ok-push-in-Some
returns-in_ok-push-in-Some g c = λ other.
    let name : List ℕ = c.args.name.now in
    let es : Entries g.row.T.Denot = c.self.inside.by_name.entries in
    let table : List (List ℕ × List g.row.T.Denot) = c.args.self.now in
    let seen : names_and_items es ≡ table = c.self.view_is in
    let old : Vec g.row.T.Denot Global = c.in-Some.items.now in
    let new : Vec g.row.T.Denot Global = c.push.new.self in
    let written = (c.get_mut.follows.holds new).0 in
    one_more_item name other c.args.item table old.items new.items _
    (sym (ap items_or_none c.in-Some.ensures.value ∙ (looked_up name es ∙ ap (λ (z : List (List ℕ × List g.row.T.Denot)). items_under_name z name) seen)))
    c.in_ok-push-in-Some.ensures.items
    (ap (λ (z : Entries g.row.T.Denot). items_under_name (names_and_items z) other) written
    ∙ (items_under_name-set_value name other new old es (sym c.in-Some.ensures.value)
    ∙ ap (λ (z : List (List ℕ × List g.row.T.Denot)). if bytes_eq other name then new.items else items_under_name z other) seen))

pub returns-in_ok-insert-in-None : goal.returns-in_ok-insert-in-None
returns-in_ok-insert-in-None g c = λ other.
    let name : List ℕ = c.args.name.now in
    let es : Entries g.row.T.Denot = c.self.inside.by_name.entries in
    let table : List (List ℕ × List g.row.T.Denot) = c.args.self.now in
    let seen : names_and_items es ≡ table = c.self.view_is in
    let new : Vec g.row.T.Denot Global = c.push-in-None.new.self in
    let held = c.get_mut.follows.holds-at-none in
    let same : c.get_mut.follows.lender-at-none.entries ≡ es = cc in
    let none : lookup (is_key name) es ≡ None = sym c.in-None.ensures.value in
    let one : new.items ≡ [] ++ c.args.item ∷ [] = c.in_ok-push-in-None.ensures.items ∙ ap (λ (z : List g.row.T.Denot). z ++ c.args.item ∷ []) c.new-items.ensures.items in
    one_more_item name other c.args.item table [] new.items _
    (sym (ap items_or_none c.in-None.ensures.value ∙ (looked_up name es ∙ ap (λ (z : List (List ℕ × List g.row.T.Denot)). items_under_name z name) seen)))
    one
    (ap (λ (z : Entries g.row.T.Denot). items_under_name (names_and_items z) other) (c.in_ok-insert-in-None.ensures.entries ∙ ap (λ (z : Entries g.row.T.Denot). insert_entry (λ (a b : Bor (List ℕ)). bytes_eq a.now b.now) z c.args.name new) same)
    ∙ (items_under_name-insert_entry c.args.name other new es none
    ∙ ap (λ (z : List (List ℕ × List g.row.T.Denot)). if bytes_eq other name then new.items else items_under_name z other) seen))
