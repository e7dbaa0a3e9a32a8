-- The pieces of the blocks after the front.
use Rattle.std.proofs.Common.{◌≡◌, ℕ, List, Some, drop, ap, sym, ◌∙◌}
use Rattle.adb_block.specs.declared.block.BlockKind.TheVariants.{Adb}
use Rattle.adb_block.specs.Reading.{block_stream_from}
use Rattle.adb_view.specs.Plain.{Plain}
use Rattle.pkg_core.specs.adb_fields.Repeated.{list_of}
use Rattle.adb_view.specs.Values.{entries_in, entry_at_index}
use Rattle.pkg_core.specs.Contents.{ExpectedFile, expected_files_of_package, expected_files_of_folders}
use Rattle.pkg_core.specs.Opened.{files_left_in_walk}
use Rattle.pkg_core.specs.Front.{front_end}
use Rattle.pkg_core.specs.Values.{value_of_contents}
use Rattle.pkg_core.specs.Pieces.{pieces_read_from_blocks}
use Rattle.package_reader.proofs.Readings.{any_schema, in_front}
use Rattle.package_reader.proofs.reader.PieceReader.new.Goals as goal

pub returns-clause-pieces : goal.returns-clause-pieces
returns-clause-pieces c = λ pkg.
    let front = c.args.front.now in
    let files : files_left_in_walk c.new.result ≡ expected_files_of_package (value_of_contents c.args.contents.now) = c.new.ensures ∙ ap (λ (v : Plain). expected_files_of_folders 1 (list_of (entries_in v))) (c.paths.ensures ∙ ap (λ (v : Plain). entry_at_index v 1) c.view.ensures) in
    in_front c.in_front_of.result _ pkg _ c.in_front_of.ensures.place c.in_front_of.ensures.opened c.in_front_of.ensures.due
    (any_schema (expected_files_of_package (value_of_contents c.args.contents.now)) front.schema (front_end front) (Some Adb) pkg
    ∙ (ap (λ (es : List ExpectedFile). pieces_read_from_blocks es (block_stream_from (record { schema = 0; last = Some Adb; at = front_end front; left = drop (front_end front) pkg }))) (sym files)
    ∙ ap (λ (n : ℕ). pieces_read_from_blocks (files_left_in_walk c.new.result) (block_stream_from (record { schema = 0; last = Some Adb; at = n; left = drop n pkg }))) (sym c.end.ensures.exact)))
