use Rattle.std.proofs.Common.{◌∙◌, List, ℕ, [], ◌∷◌, Option, ap}
use Rattle.std.specs.Prelude.{unwrap_or}
use Rattle.std.specs.Option.{option_map}
use Rattle.candidate_core.specs.Table.{Offered, first_entry_under_name}
use Rattle.candidate_core.proofs.TableLookup.{looked_up}
use Rattle.candidate_core.proofs.table.Table.single.Goals as goal

abbrev alone : ℕ → List ℕ
alone id = id ∷ []

pub returns-in-Some : goal.returns-in-Some
returns-in-Some c =
    let name : List ℕ = c.args.name.now in
    c.from_ref.ensures.value ∙ (ap (λ (o : Option ℕ). unwrap_or (option_map alone o) []) c.in-Some.ensures.value
    ∙ (ap (λ (o : Option (List ℕ)). unwrap_or o []) (looked_up alone name c.self.inside.singles.entries) ∙ ap (λ (t : Offered). unwrap_or (first_entry_under_name t.singles name) []) c.self.view_is))

pub returns-in-None : goal.returns-in-None
returns-in-None c =
    let name : List ℕ = c.args.name.now in
    ap (λ (o : Option ℕ). unwrap_or (option_map alone o) []) c.in-None.ensures.value
    ∙ (ap (λ (o : Option (List ℕ)). unwrap_or o []) (looked_up alone name c.self.inside.singles.entries) ∙ ap (λ (t : Offered). unwrap_or (first_entry_under_name t.singles name) []) c.self.view_is)
