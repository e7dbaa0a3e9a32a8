use Rattle.std.proofs.Common.{◌≤◌, length, subst, sym}
use Rattle.journal_intent.specs.Intent.{Intent}
use Rattle.journal_intent.proofs.Places.{has_place, place_is}
use Rattle.journal_intent.proofs.prepared.PreparedIntent.stage_name.Goals as goal

pub get-requires : goal.get-requires
get-requires c = has_place c.self.inside.stage_names (length c.self.inside.writes) c.self.inside.waiting c.args.k (subst (λ (i : Intent). c.args.k ≤ length i.writes) (sym c.self.view_is) c.requires)

pub returns : goal.returns
returns c = place_is c.self.inside.stage_names (length c.self.inside.writes) c.self.inside.waiting c.args.k (subst (λ (i : Intent). c.args.k ≤ length i.writes) (sym c.self.view_is) c.requires) c.get.result.now c.get.ensures
