use Rattle.std.proofs.Common.{◌∙◌, ap, sym, length}
use Rattle.adb_view.specs.Plain.{Plains}
use Rattle.adb_schema.specs.adb_fields.ListValue.{list_value}
use Rattle.adb_view.specs.Values.{entries_in}
use Rattle.candidate_core.proofs.JudgedLists.{sound_count}
use Rattle.candidate_core.proofs.dependencies.Deps.len.Goals as goal

pub returns-then-self : goal.returns-then-self
returns-then-self c =
    let values : Plains = entries_in (list_value c.self.inside.list) in
    c.len.ensures.value ∙ (sym (sound_count values (c.self.invariant c.if-self.true)) ∙ ap length c.self.view_is)
