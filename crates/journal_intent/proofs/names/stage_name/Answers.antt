use Rattle.std.proofs.Common.{rules, ◌≡◌, ◌∙◌, ap}
use Rattle.base_core.specs.Name.{is_name}
use Rattle.journal_intent.specs.Intent.{stage_name}
use Rattle.journal_intent.proofs.Digits.{stage_is_name}
use Rattle.journal_intent.proofs.names.stage_name.Goals as goal

pub of-requires : goal.of-requires
of-requires c =
    let e : c.as_bytes.result.now ≡ stage_name c.args.k = search rules in
    ap is_name e ∙ stage_is_name c.args.k
