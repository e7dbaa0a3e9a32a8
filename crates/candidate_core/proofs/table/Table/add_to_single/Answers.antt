use Rattle.std.proofs.Common.{◌≡◌, ◌∙◌, List, ℕ, [], ◌∷◌, Option, ap, sym, None, Some}
use Rattle.std.specs.Prelude.{Vec}
use Rattle.std.specs.Global.{Global}
use Rattle.std.specs.Map.{lookup}
use Rattle.std.specs.Option.{option_map}
use Rattle.std.specs.Str.{bytes_eq}
use Rattle.candidate_core.specs.Table.{Offered, first_entry_under_name, places_of_name, with_place_if_added}
use Rattle.candidate_core.proofs.Steps.{on_ok}
use Rattle.candidate_core.proofs.TableLookup.{Entries, after_insert, first_of_name, is_key, looked_up, named}
use Rattle.candidate_core.proofs.table.Table.add_to_single.Goals as goal

abbrev all : Vec ℕ Global → List ℕ
all v = v.items

abbrev alone : ℕ → List ℕ
alone id = id ∷ []

abbrev with_more : List ℕ → List ℕ → ℕ → Offered → List ℕ
with_more name other id table = with_place_if_added (bytes_eq other name) (places_of_name table other) id

pub add_second-requires-clause-single : goal.add_second-requires-clause-single
add_second-requires-clause-single c =
    let name : List ℕ = c.args.name.now in
    let ss : Entries alone = c.self.inside.singles.entries in
    let value : lookup (is_key name) ss ≡ Some c.in-Some.first = sym c.get.ensures.value ∙ (sym c.copied.ensures ∙ c.in-Some.is) in
    sym (ap (λ (t : Offered). first_entry_under_name t.singles name) c.self.view_is) ∙ (sym (looked_up alone name ss) ∙ ap (option_map alone) value)

pub returns-in-None : goal.returns-in-None
returns-in-None c =
    let name : List ℕ = c.args.name.now in
    let id : ℕ = c.args.id in
    let es : Entries all = c.self.inside.lists.entries in
    let ss : Entries alone = c.self.inside.singles.entries in
    let lists : List ℕ → Option (List ℕ) = first_entry_under_name (named all es) in
    let singles : List ℕ → Option (List ℕ) = first_entry_under_name (named alone ss) in
    let none : lists name ≡ None = ap (λ (t : Offered). first_entry_under_name t.lists name) c.self.view_is ∙ c.requires in
    let free : lookup (is_key name) ss ≡ None = sym c.get.ensures.value ∙ (sym c.copied.ensures ∙ c.in-None.is) in
    let nobody : singles name ≡ None = sym (looked_up alone name ss) ∙ ap (option_map alone) free in
    on_ok c.insert_single.result _ _ (λ h other.
    first_of_name lists singles name other id (first_entry_under_name (named alone c.insert_single.new.singles.entries) other) none nobody
    (ap (λ (z : Entries alone). first_entry_under_name (named alone z) other) h ∙ after_insert alone c.args.name other id ss free)
    ∙ ap (with_more name other id) c.self.view_is) c.insert_single.ensures
