-- Items by name. No rule of a document: serves the contract of `src/name_table.rt`.
use Rattle.std.specs.Prelude.{ℕ, ◌-◌, List, [], ◌∷◌, length, map, take, if◌then◌else◌, Vec}
use Rattle.std.specs.Global.{Global}
use Rattle.std.specs.Borrow.{Bor}
use Rattle.std.specs.Str.{bytes_eq}

-- the names of a map of the program, each with the items of its list
abbrev pub names_and_items :
    {X : Type 0} → List (Bor (List ℕ) × Vec X Global) → List (List ℕ × List X)
names_and_items {X} entries = map (λ (e : Bor (List ℕ) × Vec X Global). (e.0.now, e.1.items)) entries

-- the items of the first entry with this name; none if there is none
abbrev pub items_under_name : {X : Type 0} → List (List ℕ × List X) → List ℕ → List X
items_under_name [] name = []
items_under_name (e ∷ es) name = if bytes_eq name e.0 then e.1 else items_under_name es name

-- all items of a list but the last
abbrev pub without_last : {X : Type 0} → List X → List X
without_last xs = take (length xs - 1) xs
