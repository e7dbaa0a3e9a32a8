use Rattle.std.proofs.Common.{◌≡◌, ◌∙◌, ◌-◌, List, ℕ, Vec, ap, sym, length, take, arith, vec_len}
use Rattle.std.specs.Prelude.{if◌then◌else◌}
use Rattle.std.specs.Global.{Global}
use Rattle.std.specs.Str.{bytes_eq}
use Rattle.search_tables.specs.NameTable.{items_under_name, names_and_items, without_last}
use Rattle.search_tables.proofs.NameTables.{Entries, items_under_name-set_value, items_or_none, looked_up, popped_item, popped_none}
use Rattle.search_tables.proofs.name_table.NameTable.pop.Goals as goal

pub returns : goal.returns
returns g c = λ other.
    let name : List ℕ = c.args.name.now in
    let es : Entries g.row.T.Denot = c.self.inside.by_name.entries in
    let table : List (List ℕ × List g.row.T.Denot) = c.args.self.now in
    let seen : names_and_items es ≡ table = c.self.view_is in
    let old : Vec g.row.T.Denot Global = c.in-Some.items.now in
    let new : Vec g.row.T.Denot Global = c.pop.new.self in
    let written = (c.get_mut.follows.holds new).0 in
    let was : old.items ≡ items_under_name table name = ap items_or_none c.in-Some.ensures.value ∙ (looked_up name es ∙ ap (λ (z : List (List ℕ × List g.row.T.Denot)). items_under_name z name) seen) in
    let len : vec_len old ≡ length old.items = omega (arith, old.ok) in
    popped_item name other table new.items _
    (c.pop.ensures.rest ∙ (ap (λ (n : ℕ). take (n - 1) old.items) len ∙ ap without_last was))
    (ap (λ (z : Entries g.row.T.Denot). items_under_name (names_and_items z) other) written
    ∙ (items_under_name-set_value name other new old es (sym c.in-Some.ensures.value)
    ∙ ap (λ (z : List (List ℕ × List g.row.T.Denot)). if bytes_eq other name then new.items else items_under_name z other) seen))

pub returns-in_default : goal.returns-in_default
returns-in_default g c = λ other.
    let name : List ℕ = c.args.name.now in
    let es : Entries g.row.T.Denot = c.self.inside.by_name.entries in
    let table : List (List ℕ × List g.row.T.Denot) = c.args.self.now in
    let seen : names_and_items es ≡ table = c.self.view_is in
    let held = c.get_mut.follows.holds-at-none in
    let same : c.get_mut.follows.lender-at-none.entries ≡ es = cc in
    popped_none name other table _
    (sym (ap items_or_none c.in_default.ensures.value ∙ (looked_up name es ∙ ap (λ (z : List (List ℕ × List g.row.T.Denot)). items_under_name z name) seen)))
    (ap (λ (z : Entries g.row.T.Denot). items_under_name (names_and_items z) other) same ∙ ap (λ (z : List (List ℕ × List g.row.T.Denot)). items_under_name z other) seen)
