use Rattle.package_files.proofs.ReadLemmas.{explained_as, same_fault}
use Rattle.make_core.proofs.ScriptLemmas.{script_fault, script_is}
use Rattle.make_core.proofs.packages.reading.read_script.Goals as goal

pub returns-in_err-bytes-clause-read : goal.returns-in_err-bytes-clause-read
returns-in_err-bytes-clause-read g c = λ n.
    explained_as _ _ _ (c.in_err-bytes.ensures.read n)
    (λ read e. same_fault _ _ c.from_residual.result _ c.from_residual.ensures.1 (script_fault read n c.args.value.now c.args.file.now _ c.requires e))

pub returns-clause-read : goal.returns-clause-read
returns-clause-read g c = λ n.
    explained_as _ _ _ (c.in_ok-bytes.ensures.read n)
    (λ read e. script_is read n c.args.value.now c.args.file.now (record { kind = c.script_type-kind.result; bytes = c.in_ok-bytes.bytes }) c.requires c.script_type-kind.ensures e)
