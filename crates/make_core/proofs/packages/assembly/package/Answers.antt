use Rattle.std.proofs.Common.{◌≡◌, ◌∙◌, ◌++◌, ap, subst, refl, List, ℕ, Ok, Err, arith}
use Rattle.package_files.specs.adb_schema.declared.read.TheConstants.{PACKAGE_WORD}
use Rattle.adb_view.specs.Plain.{Plain}
use Rattle.package_files.specs.adb_write.File.{file_of}
use Rattle.make_core.specs.Answers.{IsBytes}
use Rattle.make_core.specs.Making.{package_container}
use Rattle.package_files.specs.Package.{contents_of_folders}
use Rattle.package_files.specs.Packed.{installed_size_of_folders}
use Rattle.package_files.specs.Runs.{AgreesOrIsFault}
use Rattle.make_core.specs.Scripts.{scripts_view}
use Rattle.make_core.proofs.MadeParts.{large_answer, memory_answer, package_err, package_ok, value_is}
use Rattle.package_files.proofs.ReadLemmas.{memory_fault, same_fault}
use Rattle.make_core.proofs.packages.assembly.package.Goals as goal

pub installed_size-size-requires : goal.installed_size-size-requires
installed_size-size-requires c =
    let same : installed_size_of_folders c.deref.result.now ≡ installed_size_of_folders c.args.packing.folders.items = ap installed_size_of_folders c.deref.ensures.value in
    omega arith

pub returns-in_err-payload-clause-made : goal.returns-in_err-payload-clause-made
returns-in_err-payload-clause-made c = λ sources packed.
    let is = value_is c.args.about.now c.installed_size-size.result c.deref-2.result.now c.args.packing.folders.items sources (scripts_view c.args.scripts.now) c.values.result.now c.args.command.now.values
    (c.installed_size-size.ensures ∙ ap installed_size_of_folders c.deref.ensures.value) c.deref-2.ensures.value packed.are c.values.ensures.value in
    let P : Plain → Type 0 = λ u. AgreesOrIsFault IsBytes (Err c.in_err-payload.field-0.0) (package_container u (contents_of_folders 1 sources)) in
    same_fault _ _ c.from_residual.result _ c.from_residual.ensures.1 (subst P is (package_err _ (contents_of_folders 1 sources) c.in_err-payload.field-0.0 c.in_err-payload.ensures.err))

pub returns-in_err-file-clause-made : goal.returns-in_err-file-clause-made
returns-in_err-file-clause-made c = λ sources packed. memory_fault _ _ _ c.from_residual-in_err-file.ensures.1

pub returns-clause-made : goal.returns-clause-made
returns-clause-made c = λ sources packed.
    let is = value_is c.args.about.now c.installed_size-size.result c.deref-2.result.now c.args.packing.folders.items sources (scripts_view c.args.scripts.now) c.values.result.now c.args.command.now.values
    (c.installed_size-size.ensures ∙ ap installed_size_of_folders c.deref.ensures.value) c.deref-2.ensures.value packed.are c.values.ensures.value in
    let P : Plain → Type 0 = λ u. package_container u (contents_of_folders 1 sources) ≡ Ok c.in_ok-file.file.items in (
      c.in_ok-file.file.items,
      subst P is (package_ok _ (contents_of_folders 1 sources) c.in_ok-payload.payload.items c.in_ok-file.file.items c.args.packing.blocks.items c.in_ok-payload.ensures.made packed.blocks
          (c.in_ok-file.ensures ∙ ap (λ (p : List ℕ). file_of PACKAGE_WORD p ++ c.args.packing.blocks.items) c.deref-3.ensures.value)),
      refl,
    )

pub returns-in_err-payload-clause-disk : goal.returns-in_err-payload-clause-disk
returns-in_err-payload-clause-disk c = large_answer c.from_residual.result c.in_err-payload.field-0.0 _ c.from_residual.ensures.1 c.in_err-payload.ensures.err

pub returns-in_err-file-clause-disk : goal.returns-in_err-file-clause-disk
returns-in_err-file-clause-disk c = memory_answer c.from_residual-in_err-file.result c.from_residual-in_err-file.ensures.1
