use Rattle.std.proofs.Common.{ap, ◌++◌, ◌∙◌, codes, List, ℕ, subst, sym}
use Rattle.base_core.specs.Name.{IsName}
use Rattle.journal_commit.proofs.Suffix.{scratch_is_name}
use Rattle.journal_commit.proofs.new_file.scratch_name.Goals as goal

pub of-requires : goal.of-requires
of-requires c =
    let front = c.in_ok-bytes.ensures.items ∙ c.as_bytes.ensures.value in
    subst IsName
    (sym (c.deref.ensures.value ∙ c.in_ok-extend_from_slice.ensures.items ∙ ap (λ (bytes : List ℕ). bytes ++ codes ".apk-tmp") front))
    (scratch_is_name c.args.name.now c.as_bytes.ensures.name c.requires)
