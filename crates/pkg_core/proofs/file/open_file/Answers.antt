-- By the positions and the size.
use Rattle.std.proofs.Common.{ap, sym, ◌∙◌}
use Rattle.pkg_core.specs.Contents.{contents_from_block_payload}
use Rattle.pkg_core.specs.Opened.{expected_of, files_left_in_walk}
use Rattle.pkg_core.specs.declared.walk.Wanted.{Wanted}
use Rattle.pkg_core.specs.Pieces.{pieces_of_bytes}
use Rattle.pkg_core.proofs.Opened.{contents_len, opened_bad, opened_good, pair_alike, size_same}
use Rattle.pkg_core.proofs.file.open_file.Goals as goal

pub returns-in-Some-position_or_size_fault-clause-opened : goal.returns-in-Some-position_or_size_fault-clause-opened
returns-in-Some-position_or_size_fault-clause-opened c = λ payload further long begins.
    let bad = c.in-Some-position_or_size_fault.ensures.exact payload (contents_len payload c.args.len long) (pair_alike payload c.args.positions.now begins ∙ sym c.folder_and_file_positions_from_payload-found.ensures) in
    opened_bad (expected_of c.in-Some.wanted) _ (files_left_in_walk c.next.new.self) payload further c.in-Some-position_or_size_fault.cause c.in-Some.ensures bad

pub returns-in-None-clause-opened : goal.returns-in-None-clause-opened
returns-in-None-clause-opened c = λ payload further long begins.
    let good = c.in-None.ensures.exact payload (contents_len payload c.args.len long) (pair_alike payload c.args.positions.now begins ∙ sym c.folder_and_file_positions_from_payload-found.ensures) in
    let same = sym c.new.ensures.wanted in (
      opened_good (expected_of c.in-Some.wanted) _ (files_left_in_walk c.next.new.self) payload further c.in-Some.ensures good
          ∙ ap (λ (w : Wanted). pieces_of_bytes (expected_of w) (contents_from_block_payload payload) (further (files_left_in_walk c.next.new.self))) same,
      c.new.ensures.taken,
      size_same (expected_of c.in-Some.wanted) payload good ∙ ap (λ (w : Wanted). w.size) same,
    )
