use Rattle.std.proofs.Common.{◌∙◌, List, ℕ, [], Option, ap}
use Rattle.std.specs.Prelude.{unwrap_or, Vec}
use Rattle.std.specs.Global.{Global}
use Rattle.std.specs.Option.{option_map}
use Rattle.candidate_core.specs.Table.{Offered, first_entry_under_name}
use Rattle.candidate_core.proofs.TableLookup.{looked_up}
use Rattle.candidate_core.proofs.table.Table.get.Goals as goal

abbrev all : Vec ℕ Global → List ℕ
all v = v.items

pub returns-in-Some : goal.returns-in-Some
returns-in-Some c =
    let name : List ℕ = c.args.name.now in
    let rest : List ℕ = unwrap_or (first_entry_under_name c.args.self.now.singles name) [] in
    c.as_slice.ensures.value ∙ (ap (λ (o : Option (Vec ℕ Global)). unwrap_or (option_map all o) rest) c.in-Some.ensures.value
    ∙ (ap (λ (o : Option (List ℕ)). unwrap_or o rest) (looked_up all name c.self.inside.lists.entries) ∙ ap (λ (t : Offered). unwrap_or (first_entry_under_name t.lists name) rest) c.self.view_is))

pub returns-in-None : goal.returns-in-None
returns-in-None c =
    let name : List ℕ = c.args.name.now in
    let rest : List ℕ = unwrap_or (first_entry_under_name c.args.self.now.singles name) [] in
    c.single.ensures ∙ (ap (λ (o : Option (Vec ℕ Global)). unwrap_or (option_map all o) rest) c.in-None.ensures.value
    ∙ (ap (λ (o : Option (List ℕ)). unwrap_or o rest) (looked_up all name c.self.inside.lists.entries) ∙ ap (λ (t : Offered). unwrap_or (first_entry_under_name t.lists name) rest) c.self.view_is))
