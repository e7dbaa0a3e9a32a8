-- A file with contents has a size above 0.
use Rattle.pkg_core.specs.adb_schema.Views.{package_value}
use Rattle.package_reader.proofs.FileDue.{wanted_size}
use Rattle.package_reader.proofs.one_file.FilePieces.new.Goals as goal

pub of-requires : goal.of-requires
of-requires c = wanted_size (package_value c.view-view.result) c.args.folder c.args.file c.wanted_file.result c.in-Some.wanted c.wanted_file.ensures c.in-Some.is
