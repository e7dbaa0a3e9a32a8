use Rattle.std.proofs.Common.{◌≡◌, ◌∙◌, List, ℕ, [], ◌∷◌, Option, ap, sym, None, Some}
use Rattle.std.specs.Prelude.{if◌then◌else◌, Vec}
use Rattle.std.specs.Global.{Global}
use Rattle.std.specs.Map.{lookup}
use Rattle.std.specs.Str.{bytes_eq}
use Rattle.candidate_core.specs.Table.{Offered, first_entry_under_name, places_of_name, with_place_if_added}
use Rattle.candidate_core.proofs.Steps.{on_ok}
use Rattle.candidate_core.proofs.TableLookup.{Entries, after_insert, is_key, looked_up, named, none_mapped, same_as_first, second_of_name}
use Rattle.candidate_core.proofs.table.Table.add_second.Goals as goal

abbrev all : Vec ℕ Global → List ℕ
all v = v.items

abbrev alone : ℕ → List ℕ
alone id = id ∷ []

abbrev with_more : List ℕ → List ℕ → ℕ → Offered → List ℕ
with_more name other id table = with_place_if_added (bytes_eq other name) (places_of_name table other) id

pub returns-then-eq : goal.returns-then-eq
returns-then-eq c = λ other.
    let table : Offered = c.args.self.now in
    same_as_first (first_entry_under_name table.lists) (first_entry_under_name table.singles) c.args.name.now other c.args.first c.args.id c.requires.list c.requires.single (sym c.eq.ensures ∙ c.if-eq.true)

pub returns : goal.returns
returns c =
    let name : List ℕ = c.args.name.now in
    let id : ℕ = c.args.id in
    let first : ℕ = c.args.first in
    let es : Entries all = c.self.inside.lists.entries in
    let ss : Entries alone = c.self.inside.singles.entries in
    let lists : List ℕ → Option (List ℕ) = first_entry_under_name (named all es) in
    let singles : List ℕ → Option (List ℕ) = first_entry_under_name (named alone ss) in
    let ids : Vec ℕ Global = c.in_ok-ids.ids in
    let none : lists name ≡ None = ap (λ (t : Offered). first_entry_under_name t.lists name) c.self.view_is ∙ c.requires.list in
    let one : singles name ≡ Some (first ∷ []) = ap (λ (t : Offered). first_entry_under_name t.singles name) c.self.view_is ∙ c.requires.single in
    let free : lookup (is_key name) es ≡ None = none_mapped all _ (looked_up all name es ∙ none) in
    on_ok c.insert_list.result _ _ (λ h other.
    second_of_name lists singles name other first id (first_entry_under_name (named all c.insert_list.new.lists.entries) other) none one (sym c.eq.ensures ∙ c.if-eq.false)
    (ap (λ (z : Entries all). first_entry_under_name (named all z) other) h
    ∙ (after_insert all c.args.name other ids es free ∙ ap (λ (xs : List ℕ). if bytes_eq other name then Some xs else lists other) c.in_ok-ids.ensures.items))
    ∙ ap (with_more name other id) c.self.view_is) c.insert_list.ensures
