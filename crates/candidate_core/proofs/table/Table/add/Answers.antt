use Rattle.std.proofs.Common.{◌≡◌, ◌∙◌, List, ℕ, [], ◌∷◌, Option, ap, sym, Some}
use Rattle.std.specs.Prelude.{if◌then◌else◌, Vec}
use Rattle.std.specs.Global.{Global}
use Rattle.std.specs.Option.{option_map}
use Rattle.std.specs.Str.{bytes_eq}
use Rattle.candidate_core.specs.Table.{Offered, first_entry_under_name, places_of_name, with_place_if_added}
use Rattle.candidate_core.proofs.Steps.{on_ok}
use Rattle.candidate_core.proofs.TableLookup.{Entries, after_set_value, last_in_list, looked_up, named}
use Rattle.candidate_core.proofs.table.Table.add.Goals as goal

abbrev all : Vec ℕ Global → List ℕ
all v = v.items

abbrev alone : ℕ → List ℕ
alone id = id ∷ []

abbrev with_more : List ℕ → List ℕ → ℕ → Offered → List ℕ
with_more name other id table = with_place_if_added (bytes_eq other name) (places_of_name table other) id

pub add_to_single-requires : goal.add_to_single-requires
add_to_single-requires c =
    let name : List ℕ = c.args.name.now in
    let es : Entries all = c.self.inside.lists.entries in
    let held = c.get_mut.follows.holds-at-none in
    let same : c.get_mut.follows.lender-at-none.entries ≡ es = cc in
    ap (λ (z : Entries all). first_entry_under_name (named all z) name) same ∙ (sym (looked_up all name es) ∙ ap (option_map all) (sym c.in-None.ensures.value))

pub returns-in-Some : goal.returns-in-Some
returns-in-Some c =
    let name : List ℕ = c.args.name.now in
    let id : ℕ = c.args.id in
    let es : Entries all = c.self.inside.lists.entries in
    let lists : List ℕ → Option (List ℕ) = first_entry_under_name (named all es) in
    let singles : List ℕ → Option (List ℕ) = first_entry_under_name (named alone c.self.inside.singles.entries) in
    let old : Vec ℕ Global = c.in-Some.ids.now in
    let new : Vec ℕ Global = c.push_once.new.ids in
    let written = (c.get_mut.follows.holds new).0 in
    let found : lists name ≡ Some old.items = sym (ap (option_map all) c.in-Some.ensures.value ∙ looked_up all name es) in
    on_ok c.push_once.result _ _ (λ h other.
    last_in_list lists singles name other old.items id (first_entry_under_name (named all (c.get_mut.follows.lender new).entries) other) found
    (ap (λ (z : Entries all). first_entry_under_name (named all z) other) written
    ∙ (after_set_value all name other new old es (sym c.in-Some.ensures.value) ∙ ap (λ (xs : List ℕ). if bytes_eq other name then Some xs else lists other) h))
    ∙ ap (with_more name other id) c.self.view_is) c.push_once.ensures
