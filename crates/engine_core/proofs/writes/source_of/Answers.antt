use Rattle.std.proofs.Common.{◌∙◌, ap, sym, true≢false}
use Rattle.std.specs.Prelude.{Option, is_some}
use Rattle.journal_staging.specs.package_verifier.declared.package.TestedPackage.{TestedPackage}
use Rattle.engine_core.proofs.writes.source_of.Goals as goal

pub unreachable-requires : goal.unreachable-requires
unreachable-requires c =
    true≢false (sym (c.requires.packages c.args.write.now.member c.requires.file.member c.requires.file.at c.requires.file.comes) ∙ sym (ap (λ (o : Option TestedPackage). is_some o) c.in-None.ensures))
