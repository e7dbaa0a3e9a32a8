-- At the place that was kept of it.
use Rattle.std.proofs.Common.{◌≡◌, List, sym, subst, ◌∙◌}
use Rattle.package_reader.specs.pkg_core.Values.{value_of_contents}
use Rattle.package_reader.specs.FileReading.{HasUnreadBytes, expected_file_of}
use Rattle.package_verifier.specs.Places.{AreInFileOrder, offset_of_file}
use Rattle.package_verifier.specs.declared.places.FilePlace.{FilePlace}
use Rattle.package_verifier.proofs.BytesFound.{gives_bytes}
use Rattle.package_verifier.proofs.package.TestedPackage.file.Goals as goal

pub returns-clause-reading : goal.returns-clause-reading
returns-clause-reading c = λ name pkg is.
    let self = c.args.self.now in
    gives_bytes (HasUnreadBytes c.new.result) (expected_file_of c.new.result) c.file_len-len.result c.args.folder c.args.file c.offset_of-at.result (value_of_contents c.contents.result) pkg self.places.items is.sound (c.contents.ensures.value ∙ is.value) (sym is.long ∙ sym c.file_len-len.ensures) is.places
    (subst (λ (ps : List FilePlace). AreInFileOrder ps → c.offset_of-at.result ≡ offset_of_file c.args.folder c.args.file ps) c.deref.ensures.value c.offset_of-at.ensures)
    c.new.ensures.due c.new.ensures.reading c.new.ensures.empty
