use Rattle.std.proofs.Common.{ap, ◌++◌, ◌∙◌, List, ℕ, subst, sym}
use Rattle.base_core.specs.Name.{IsName}
use Rattle.own_core.proofs.Endings.{aside_is_name, ending}
use Rattle.own_core.proofs.guarded.name_beside.Goals as goal

pub of-requires : goal.of-requires
of-requires c =
    subst IsName
    (sym (c.deref.ensures.value ∙ (c.in_ok-bytes.ensures ∙ ap (λ (bytes : List ℕ). bytes ++ ending) c.as_bytes.ensures.value)))
    (aside_is_name c.args.name.now c.as_bytes.ensures.name c.requires)
