use Rattle.std.proofs.Common.{◌≡◌, ◌∙◌, ap, sym, subst, List, Err}
use Rattle.package_files.specs.Folders.{FolderListing, folder_listings_by_tree_names}
use Rattle.package_files.specs.BorrowedNames.{listings_of}
use Rattle.package_files.specs.Packed.{IsPacking}
use Rattle.package_files.specs.Runs.{AgreesOrIsFault}
use Rattle.package_files.specs.Sources.{source_folders_at_place_from_read}
use Rattle.package_files.proofs.ReadLemmas.{explained, explained_as, same_fault, memory_fault}
use Rattle.package_files.proofs.PackLemmas.{listed_folders, listed_as_many}
use Rattle.package_files.proofs.packing.pack_names.Goals as goal

pub pack_folders-requires : goal.pack_folders-requires
pack_folders-requires g c = listed_as_many c.args.dir.now c.args.names.now c.in_ok-folders.folders c.in_ok-files.files.items c.deref.result.now c.in_ok-files.ensures c.deref.ensures.value

pub returns-in_err-folders-clause-read : goal.returns-in_err-folders-clause-read
returns-in_err-folders-clause-read g c = λ n. explained _ _ (λ read. memory_fault _ _ _ c.from_residual.ensures.1)

pub returns-in_err-files-clause-read : goal.returns-in_err-files-clause-read
returns-in_err-files-clause-read g c = λ n. explained _ _ (λ read. memory_fault _ _ _ c.from_residual-in_err-files.ensures.1)

pub returns-in_err-packing-clause-read : goal.returns-in_err-packing-clause-read
returns-in_err-packing-clause-read g c = λ n.
    let same : listings_of c.in_ok-folders.folders c.deref.result.now ≡ folder_listings_by_tree_names c.args.dir.now c.args.names.now =
    listed_folders c.args.dir.now c.args.names.now c.in_ok-folders.folders c.in_ok-files.files.items c.deref.result.now c.in_ok-folders.ensures c.in_ok-files.ensures c.deref.ensures.value in
    explained_as _ _ _ (c.in_err-packing.ensures.read n)
    (λ read e. let P : List FolderListing → Type 0 = λ l. AgreesOrIsFault IsPacking (Err c.in_err-packing.field-0.0) (source_folders_at_place_from_read c.args.place read n l) in
    same_fault _ _ _ _ c.from_residual-in_err-packing.ensures.1 (subst P same e))

pub returns-clause-read : goal.returns-clause-read
returns-clause-read g c = λ n.
    let same : listings_of c.in_ok-folders.folders c.deref.result.now ≡ folder_listings_by_tree_names c.args.dir.now c.args.names.now =
    listed_folders c.args.dir.now c.args.names.now c.in_ok-folders.folders c.in_ok-files.files.items c.deref.result.now c.in_ok-folders.ensures c.in_ok-files.ensures c.deref.ensures.value in
    explained_as _ _ _ (c.in_ok-packing.ensures.read n) (λ read e. (e.0, ap (source_folders_at_place_from_read c.args.place read n) (sym same) ∙ e.1, e.2))
