use Rattle.std.proofs.Common.{◌∙◌, ap, ℕ}
use Rattle.std.specs.Prelude.{Option, false, ◌==◌}
use Rattle.std.specs.Option.{option_map_or}
use Rattle.candidate_core.proofs.TableAdding.{last_is}
use Rattle.candidate_core.proofs.table.is_last_place.Goals as goal

pub returns-in-Some : goal.returns-in-Some
returns-in-Some c = c.eq.ensures ∙ ap (λ (o : Option ℕ). option_map_or (λ (last : ℕ). last == c.args.id) o false) (c.in-Some.ensures.value ∙ last_is c.args.ids.now)
