use Rattle.std.proofs.Common.{◌++◌, ℕ, List, subst}
use Rattle.std.specs.Prelude.{OnOk}
use Rattle.search_choices.specs.search_tables.Reasons.{HasSameMembers}
use Rattle.solve_core.proofs.search.replace_members.Goals as goal

pub returns : goal.returns
returns c = subst (λ (z : List ℕ). OnOk c.add_all.result (HasSameMembers c.add_all.new.self (z ++ c.args.ids.now))) c.clear.ensures c.add_all.ensures
