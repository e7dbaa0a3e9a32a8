use Rattle.package_files.proofs.ReadLemmas.{explained_as, same_fault}
use Rattle.package_files.proofs.PackLemmas.{folder_fault, packed_folder_is, now_of}
use Rattle.package_files.proofs.packing.pack_folder.Goals as goal

pub returns-in_err-files-clause-read : goal.returns-in_err-files-clause-read
returns-in_err-files-clause-read g c = λ n. explained_as _ _ _ (c.in_err-files.ensures.read n)
    (λ read e. same_fault _ _ c.from_residual.result _ c.from_residual.ensures.1
    (folder_fault c.args.position c.args.blocks.now.items c.pack_files.new.blocks.items c.args.place read n (record { name = c.args.name.now; files = now_of c.args.names.now }) _ e))

pub returns-clause-read : goal.returns-clause-read
returns-clause-read g c = λ n. explained_as _ _ _ (c.in_ok-files.ensures.read n)
    (λ read e. packed_folder_is c.args.position c.args.blocks.now.items c.pack_files.new.blocks.items c.args.place read n c.args.name (now_of c.args.names.now) c.in_ok-files.files e)
