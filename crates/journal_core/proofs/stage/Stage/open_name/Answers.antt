use Rattle.std.proofs.Common.{◌∙◌, ap}
use Rattle.journal_core.specs.Staged.{Staging}
use Rattle.journal_core.proofs.Filed.{next_name}
use Rattle.journal_core.proofs.stage.Stage.open_name.Goals as goal

pub returns : goal.returns
returns c =
    next_name _ c.self.inside.intent _ _ _ _ _ c.self.view_is (c.self.invariant (ap (λ (s : Staging). s.is_open) c.self.view_is ∙ c.requires)) c.names_are_free.ensures.few c.stage_name.ensures
