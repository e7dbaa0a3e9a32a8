-- The table of names: the candidates that offer each. *places_offering* defines the offers of a name
-- (`docs/selection.md`, "What there is to choose from": by its own name, or by an entry of `provides`).
-- Serves the contracts of `src/table.rt`, which stores names of one candidate apart from names of more.
use Rattle.std.specs.Prelude.{◌≡◌, ℕ, ◌==◌, Bool, List, [], ◌∷◌, ◌++◌, map, Option, None, Some, unwrap_or, Vec, if◌then◌else◌, false}
use Rattle.std.specs.Borrow.{Bor}
use Rattle.std.specs.declared.alloc.Global.{Global}
use Rattle.std.specs.List.{last_or}
use Rattle.std.specs.Option.{option_map_or}
use Rattle.std.specs.Str.{bytes_eq}
use Rattle.candidate_core.specs.Candidates.{Candidate}
use Rattle.candidate_core.specs.Options.{places_offering}

-- a table of names with the places of the candidates that offer them: `lists` has the names that several candidates
-- offer, and `singles` the first candidate of each name
pub record Offered : Type 0 where
  -- for each name, the place of the first candidate that offers it
  pub singles : List (List ℕ × List ℕ)
  -- for each name that several candidates offer, the places of all of them
  pub lists : List (List ℕ × List ℕ)

-- the table that the two maps of the program represent: one of names with the place of one candidate, one of names
-- with a list of places
abbrev pub offered_from_maps : List (Bor (List ℕ) × ℕ) → List (Bor (List ℕ) × Vec ℕ Global) → Offered
offered_from_maps singles lists = record {
  singles = map (λ (e : Bor (List ℕ) × ℕ). (e.0.now, e.1 ∷ [])) singles;
  lists = map (λ (e : Bor (List ℕ) × Vec ℕ Global). (e.0.now, e.1.items)) lists;
}

-- the places under the first entry that has the name; None if no entry has it
abbrev pub first_entry_under_name : List (List ℕ × List ℕ) → List ℕ → Option (List ℕ)
first_entry_under_name [] name = None
first_entry_under_name (e ∷ es) name =
    if bytes_eq name e.0 then Some e.1 else first_entry_under_name es name

-- the places of the candidates that offer a name: those in `lists` if the name is there, else the place in `singles`,
-- else none
abbrev pub places_of_name : Offered → List ℕ → List ℕ
places_of_name table name = unwrap_or (first_entry_under_name table.lists name)
    (unwrap_or (first_entry_under_name table.singles name) [])

-- whether this place is the last of the list
abbrev pub is_last_place : ℕ → List ℕ → Bool
is_last_place id ids = option_map_or (λ last. last == id) (last_or None ids) false

-- the list with this place appended, unless the place is the last one already
abbrev pub with_place_unless_last : List ℕ → ℕ → List ℕ
with_place_unless_last ids id = if is_last_place id ids then ids else ids ++ id ∷ []

-- the places, with one more at the end if `added` is true and the place is not already the last
abbrev pub with_place_if_added : Bool → List ℕ → ℕ → List ℕ
with_place_if_added added ids id = if added then with_place_unless_last ids id else ids

-- each name has in the new table the places that it has in the old one. A name that passes the test `is_added` also
-- has the place `id` at the end, unless `id` was the last place of this name already
abbrev pub HasPlaceAdded : (List ℕ → Bool) → ℕ → Offered → Offered → Type 0
HasPlaceAdded is_added id old new = (name : List ℕ)
    → places_of_name new name ≡ with_place_if_added (is_added name) (places_of_name old name) id

-- the table has for each name its offers: the places of the candidates that offer it
abbrev pub HasPlacesOfEachName : Offered → List Candidate → Type 0
HasPlacesOfEachName table candidates =
    (name : List ℕ) → places_of_name table name ≡ places_offering name candidates
