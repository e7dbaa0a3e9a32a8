-- What was seen read by read is the witness.
use Rattle.std.proofs.Common.{◌≡◌, ◌≤◌, ◌+◌, ◌-◌, ℕ, ◌++◌, ◌∙◌, sym, ap, refl, subst, length, drop, min, None, arith}
use Rattle.std.proofs.lemmas.List.{length-drop}
use Rattle.adb_block.specs.Framing.{next_block_result_at_offset}
use Rattle.adb_block.specs.BlockWithoutOffset.{padding_of}
use Rattle.adb_view.specs.Head.{payload_head_fault}
use Rattle.adb_block.specs.Frames.{IsFrameOfBlockResult}
use Rattle.pkg_core.specs.Seen.{HasBytesAtOffset, tree_fault}
use Rattle.pkg_core.specs.declared.front.FrontFault.TheVariants.{Bad, Disk as DiskFault}
use Rattle.pkg_core.proofs.FrontSeen.{bad_not_disk, disk_no_test, eight_last, end_64, front_ends, further_fits, head_fits, head_seen, header_fits, header_is, header_seen, header_whole, padded, padded_64, padding_fits, part_fits, payload_fits, payload_seen, payload_start, present_bad, present_unseen, rest_fits, start_64}
use Rattle.pkg_core.proofs.FrontSteps.{first_bad, first_blocks, first_failed, first_head_bad, header_bad, header_eight, schema_bad}
use Rattle.pkg_core.proofs.HeaderFront.{header_front}
use Rattle.pkg_core.proofs.SeenBytes.{has_front, has_rest, reads_bad, reads_err, reads_failed, reads_in_a_row, reads_ok}
use Rattle.pkg_core.proofs.read.read_present.Goals as goal

zero_and : {n m : ℕ} → n ≡ m → 0 + n ≡ m
zero_and {n} {m} e = omega (arith, e)

pub returns-in_err-header-clause-front : goal.returns-in_err-header-clause-front
returns-in_err-header-clause-front g c = present_unseen _ _ _ c.args.schema _ c.in_err-header.field-0.0 c.from_residual.ensures.1 (disk_no_test _ c.in_err-header.ensures.disk)

pub returns-in_err-header-clause-tree : goal.returns-in_err-header-clause-tree
returns-in_err-header-clause-tree g c = reads_err _ _ DiskFault _ _ _ _ c.in_err-header.field-0.0 _ c.from_residual.ensures.1 c.in_err-header.ensures.tree

pub returns-in_err-found-clause-front : goal.returns-in_err-found-clause-front
returns-in_err-found-clause-front g c =
    let header = c.in_ok-header.header in
    let n = c.in_ok-header.ensures.len in
    (header, header_seen _ _ header c.args.len n (c.in_ok-header.ensures.seen c.args.len), λ file long has. present_bad c.args.schema c.from_residual-in_err-found.result (length header) file c.in_err-found.field-0.0 c.from_residual-in_err-found.ensures.1 (header_bad file c.args.schema c.in_err-found.field-0.0 (sym (header_front file header c.args.len n long has) ∙ (sym c.schema.ensures ∙ c.in_err-found.was))))

pub returns-in_err-found-clause-tree : goal.returns-in_err-found-clause-tree
returns-in_err-found-clause-tree g c = reads_bad _ _ DiskFault DiskFault _ _ _ _ c.in_ok-header.header (Bad c.in_err-found.field-0.0) _ c.from_residual-in_err-found.ensures.1 (bad_not_disk _) c.in_ok-header.ensures.tree

pub returns-then-found-schema-clause-front : goal.returns-then-found-schema-clause-front
returns-then-found-schema-clause-front g c =
    let header = c.in_ok-header.header in
    let n = c.in_ok-header.ensures.len in
    (header, header_seen _ _ header c.args.len n (c.in_ok-header.ensures.seen c.args.len), λ file long has. schema_bad file c.args.schema c.in_ok-found.found (sym (header_front file header c.args.len n long has) ∙ (sym c.schema.ensures ∙ c.in_ok-found.was)) c.if-found-schema.true)

pub returns-then-found-schema-clause-tree : goal.returns-then-found-schema-clause-tree
returns-then-found-schema-clause-tree g c = reads_bad _ _ DiskFault DiskFault _ _ _ _ c.in_ok-header.header _ _ refl (bad_not_disk _) c.in_ok-header.ensures.tree

pub overflow_sub-len : goal.overflow_sub-len
overflow_sub-len g c =
    let n = c.in_ok-header.ensures.len in
    let eight = header_eight c.in_ok-header.header c.in_ok-found.found (sym c.schema.ensures ∙ c.in_ok-found.was) in
    header_fits _ c.args.len n eight

pub returns-in_err-head-clause-front : goal.returns-in_err-head-clause-front
returns-in_err-head-clause-front g c = present_unseen _ _ _ c.args.schema _ DiskFault c.from_residual-in_err-head.ensures.1 tt

pub returns-in_err-head-clause-tree : goal.returns-in_err-head-clause-tree
returns-in_err-head-clause-tree g c =
    let n = c.in_ok-header.ensures.len in
    let eight = header_eight c.in_ok-header.header c.in_ok-found.found (sym c.schema.ensures ∙ c.in_ok-found.was) in
    let fits = rest_fits _ c.args.len n eight in
    reads_in_a_row _ _ DiskFault DiskFault _ _ _ _ _ _ _ _ c.in_ok-header.ensures.tree (reads_failed _ _ DiskFault _ _ _ _ c.in_err-head.field-0.0 _ c.from_residual-in_err-head.ensures.1 (c.in_err-head.ensures.tree c.args.len fits))

pub overflow_sub-len-2 : goal.overflow_sub-len-2
overflow_sub-len-2 g c =
    let n = c.in_ok-header.ensures.len in
    let eight = header_eight c.in_ok-header.header c.in_ok-found.found (sym c.schema.ensures ∙ c.in_ok-found.was) in
    header_fits _ c.args.len n eight

pub overflow_sub-len-3 : goal.overflow_sub-len-3
overflow_sub-len-3 g c =
    let n = c.in_ok-header.ensures.len in
    let eight = header_eight c.in_ok-header.header c.in_ok-found.found (sym c.schema.ensures ∙ c.in_ok-found.was) in
    header_fits _ c.args.len n eight

pub returns-in_err-framed-clause-front : goal.returns-in_err-framed-clause-front
returns-in_err-framed-clause-front g c =
    let header = c.in_ok-header.header in
    let head = c.in_ok-head.head in
    let n = c.in_ok-header.ensures.len in
    let eight = header_eight header c.in_ok-found.found (sym c.schema.ensures ∙ c.in_ok-found.was) in
    let long_header = header_whole _ c.args.len n eight in
    let short : length head ≤ c.args.len - 8 = c.in_ok-head.ensures.holds.within in
    let fits = part_fits _ c.args.len (length head) n eight short in (
      header ++ head,
      head_seen _ _ _ header head c.args.len c.in_ok-header.ensures.tree.same long_header fits (c.in_ok-header.ensures.seen c.args.len) (c.in_ok-head.ensures.seen c.args.len),
      λ file long has.
          let front = header_is file header c.args.len c.args.schema c.in_ok-found.found n long (has_front file 0 header head has) (sym c.schema.ensures ∙ c.in_ok-found.was) c.if-found-schema.false in
          let left : length (drop 8 file) ≡ c.args.len - 8 = length-drop 8 file ∙ ap (λ (k : ℕ). k - 8) long in
          let here : HasBytesAtOffset file 8 head = subst (λ (k : ℕ). HasBytesAtOffset file k head) (zero_and long_header) (has_rest file 0 header head has) in
          let step = subst (λ r. IsFrameOfBlockResult r (drop 8 file) (next_block_result_at_offset None 8 (drop 8 file))) c.in_err-framed.was (c.first_framed.ensures.exact (drop 8 file) left here) in
          present_bad c.args.schema c.from_residual-in_err-framed.result (length (header ++ head)) file c.in_err-framed.field-0.0 c.from_residual-in_err-framed.ensures.1 (first_bad file c.args.schema c.in_err-framed.field-0.0 front (first_failed file c.in_err-framed.field-0.0 step c.args.schema)),
    )

pub returns-in_err-framed-clause-tree : goal.returns-in_err-framed-clause-tree
returns-in_err-framed-clause-tree g c =
    let n = c.in_ok-header.ensures.len in
    let eight = header_eight c.in_ok-header.header c.in_ok-found.found (sym c.schema.ensures ∙ c.in_ok-found.was) in
    let fits = rest_fits _ c.args.len n eight in
    reads_in_a_row _ _ DiskFault DiskFault _ _ _ _ _ _ _ _ c.in_ok-header.ensures.tree (reads_bad _ _ tree_fault DiskFault _ _ _ _ c.in_ok-head.head (Bad c.in_err-framed.field-0.0) _ c.from_residual-in_err-framed.ensures.1 (bad_not_disk c.in_err-framed.field-0.0) (c.in_ok-head.ensures.tree c.args.len fits))

pub returns-in_err-payload-clause-front : goal.returns-in_err-payload-clause-front
returns-in_err-payload-clause-front g c = present_unseen _ _ _ c.args.schema _ c.in_err-payload.field-0.0 c.from_residual-in_err-payload.ensures.1 c.in_err-payload.ensures.good

pub returns-in_err-payload-clause-tree : goal.returns-in_err-payload-clause-tree
returns-in_err-payload-clause-tree g c =
    let n = c.in_ok-header.ensures.len in
    let eight = header_eight c.in_ok-header.header c.in_ok-found.found (sym c.schema.ensures ∙ c.in_ok-found.was) in
    let room = c.in_ok-framed.ensures.within.0 in
    let fits = rest_fits _ c.args.len n eight in
    let ends = payload_fits _ c.args.len c.in_ok-framed.framed.head_len c.in_ok-framed.framed.payload_len c.in_ok-framed.framed.payload_len n eight room refl in
    reads_in_a_row _ _ DiskFault DiskFault _ _ _ _ _ _ _ _ c.in_ok-header.ensures.tree (reads_in_a_row _ _ tree_fault DiskFault _ _ _ _ _ _ _ _ (c.in_ok-head.ensures.tree c.args.len fits) (reads_err _ _ DiskFault _ _ _ _ c.in_err-payload.field-0.0 _ c.from_residual-in_err-payload.ensures.1 (c.in_err-payload.ensures.tree c.args.len ends)))

pub returns-in_err-new-clause-front : goal.returns-in_err-new-clause-front
returns-in_err-new-clause-front g c =
    let header = c.in_ok-header.header in
    let head = c.in_ok-head.head in
    let payload = c.in_ok-payload.payload.items in
    let framed = c.in_ok-framed.framed in
    let n = c.in_ok-header.ensures.len in
    let eight = header_eight header c.in_ok-found.found (sym c.schema.ensures ∙ c.in_ok-found.was) in
    let long_header = header_whole _ c.args.len n eight in
    let room = c.in_ok-framed.ensures.within.0 in
    let pad = c.padding_after-padding.ensures in
    let head_len : framed.head_len ≡ length head = c.in_ok-framed.ensures.within.1 in
    let payload_len : length payload ≡ framed.payload_len = c.in_ok-payload.ensures.len in
    let whole = rest_fits _ c.args.len n eight in
    let fits = head_fits _ c.args.len framed.head_len framed.payload_len (length head) n eight room head_len in
    let starts = payload_start header head framed.head_len long_header head_len in
    let ends = payload_fits _ c.args.len framed.head_len framed.payload_len (length payload) n eight room payload_len in (
      (header ++ head) ++ payload,
      payload_seen _ _ _ (header ++ head) payload c.args.len (8 + framed.head_len) ((c.in_ok-head.ensures.tree c.args.len whole).same ∙ c.in_ok-header.ensures.tree.same) starts ends (head_seen _ _ _ header head c.args.len c.in_ok-header.ensures.tree.same long_header fits (c.in_ok-header.ensures.seen c.args.len) (c.in_ok-head.ensures.seen c.args.len)) (c.in_ok-payload.ensures.seen c.args.len),
      λ file long has.
          let before = has_front file 0 (header ++ head) payload has in
          let front = header_is file header c.args.len c.args.schema c.in_ok-found.found n long (has_front file 0 header head before) (sym c.schema.ensures ∙ c.in_ok-found.was) c.if-found-schema.false in
          let left : length (drop 8 file) ≡ c.args.len - 8 = length-drop 8 file ∙ ap (λ (k : ℕ). k - 8) long in
          let here : HasBytesAtOffset file 8 head = subst (λ (k : ℕ). HasBytesAtOffset file k head) (zero_and long_header) (has_rest file 0 header head before) in
          let there : HasBytesAtOffset file (8 + framed.head_len) payload = subst (λ (k : ℕ). HasBytesAtOffset file k payload) (zero_and (sym starts)) (has_rest file 0 (header ++ head) payload has) in
          let step = subst (λ r. IsFrameOfBlockResult r (drop 8 file) (next_block_result_at_offset None 8 (drop 8 file))) c.in_ok-framed.was (c.first_framed.ensures.exact (drop 8 file) left here) in
          let blocks = first_blocks file payload framed c.padding_after-padding.result _ step c.in_ok-framed.ensures.order (subst (λ (k : ℕ). framed.head_len + framed.payload_len ≤ k) (sym left) room) (pad ∙ ap (λ (k : ℕ). min (padding_of (framed.head_len + framed.payload_len)) (k - (framed.head_len + framed.payload_len))) (sym left)) payload_len there refl in
          present_bad c.args.schema c.from_residual-in_err-new.result (length ((header ++ head) ++ payload)) file c.in_err-new.field-0.0 c.from_residual-in_err-new.ensures.1 (first_bad file c.args.schema c.in_err-new.field-0.0 front (first_head_bad file payload _ c.in_err-new.field-0.0 blocks (sym (c.in_err-new.ensures.exact ∙ ap payload_head_fault c.deref.ensures.value)) c.args.schema)),
    )

pub returns-in_err-new-clause-tree : goal.returns-in_err-new-clause-tree
returns-in_err-new-clause-tree g c =
    let n = c.in_ok-header.ensures.len in
    let eight = header_eight c.in_ok-header.header c.in_ok-found.found (sym c.schema.ensures ∙ c.in_ok-found.was) in
    let room = c.in_ok-framed.ensures.within.0 in
    let fits = rest_fits _ c.args.len n eight in
    let ends = payload_fits _ c.args.len c.in_ok-framed.framed.head_len c.in_ok-framed.framed.payload_len c.in_ok-framed.framed.payload_len n eight room refl in
    reads_in_a_row _ _ DiskFault DiskFault _ _ _ _ _ _ _ _ c.in_ok-header.ensures.tree (reads_in_a_row _ _ tree_fault DiskFault _ _ _ _ _ _ _ _ (c.in_ok-head.ensures.tree c.args.len fits) (reads_bad _ _ DiskFault DiskFault _ _ _ _ c.in_ok-payload.payload (Bad c.in_err-new.field-0.0) _ c.from_residual-in_err-new.ensures.1 (bad_not_disk c.in_err-new.field-0.0) (c.in_ok-payload.ensures.tree c.args.len ends)))

pub returns-clause-front : goal.returns-clause-front
returns-clause-front g c =
    let header = c.in_ok-header.header in
    let head = c.in_ok-head.head in
    let payload = c.in_ok-payload.payload.items in
    let framed = c.in_ok-framed.framed in
    let padding = c.padding_after-padding.result in
    let n = c.in_ok-header.ensures.len in
    let eight = header_eight header c.in_ok-found.found (sym c.schema.ensures ∙ c.in_ok-found.was) in
    let long_header = header_whole _ c.args.len n eight in
    let room = c.in_ok-framed.ensures.within.0 in
    let pad = c.padding_after-padding.ensures in
    let head_len : framed.head_len ≡ length head = c.in_ok-framed.ensures.within.1 in
    let payload_len : length payload ≡ framed.payload_len = c.in_ok-payload.ensures.len in
    let whole = rest_fits _ c.args.len n eight in
    let fits = head_fits _ c.args.len framed.head_len framed.payload_len (length head) n eight room head_len in
    let starts = payload_start header head framed.head_len long_header head_len in
    let ends = payload_fits _ c.args.len framed.head_len framed.payload_len (length payload) n eight room payload_len in
    let seen = payload_seen _ _ _ (header ++ head) payload c.args.len (8 + framed.head_len) ((c.in_ok-head.ensures.tree c.args.len whole).same ∙ c.in_ok-header.ensures.tree.same) starts ends (head_seen _ _ _ header head c.args.len c.in_ok-header.ensures.tree.same long_header fits (c.in_ok-header.ensures.seen c.args.len) (c.in_ok-head.ensures.seen c.args.len)) (c.in_ok-payload.ensures.seen c.args.len) in
    let within = padding_fits _ c.args.len framed.head_len framed.payload_len _ padding (header ++ head) payload n eight room pad starts payload_len in
    let last = padded _ _ c.args.len padding ((header ++ head) ++ payload) seen within in (
      ((header ++ head) ++ payload) ++ last.further,
      record { seen = last.seen; within = further_fits ((header ++ head) ++ payload) last.further padding c.args.len last.long within },
      λ file long has.
          let whole = has_front file 0 ((header ++ head) ++ payload) last.further has in
          let before = has_front file 0 (header ++ head) payload whole in
          let front = header_is file header c.args.len c.args.schema c.in_ok-found.found n long (has_front file 0 header head before) (sym c.schema.ensures ∙ c.in_ok-found.was) c.if-found-schema.false in
          let left : length (drop 8 file) ≡ c.args.len - 8 = length-drop 8 file ∙ ap (λ (k : ℕ). k - 8) long in
          let here : HasBytesAtOffset file 8 head = subst (λ (k : ℕ). HasBytesAtOffset file k head) (zero_and long_header) (has_rest file 0 header head before) in
          let there : HasBytesAtOffset file (8 + framed.head_len) payload = subst (λ (k : ℕ). HasBytesAtOffset file k payload) (zero_and (sym starts)) (has_rest file 0 (header ++ head) payload whole) in
          let step = subst (λ r. IsFrameOfBlockResult r (drop 8 file) (next_block_result_at_offset None 8 (drop 8 file))) c.in_ok-framed.was (c.first_framed.ensures.exact (drop 8 file) left here) in
          let at_is = eight_last framed.head_len framed.payload_len padding in
          let blocks = first_blocks file payload framed padding (8 + framed.head_len + framed.payload_len + padding) step c.in_ok-framed.ensures.order (subst (λ (k : ℕ). framed.head_len + framed.payload_len ≤ k) (sym left) room) (pad ∙ ap (λ (k : ℕ). min (padding_of (framed.head_len + framed.payload_len)) (k - (framed.head_len + framed.payload_len))) (sym left)) payload_len there at_is in
          (record { header = front; same_schema = refl; long = long; blocks = blocks c.args.schema; head = sym (c.in_ok-new.ensures.exact ∙ ap payload_head_fault c.deref.ensures.value) }, front_ends (header ++ head) payload last.further framed.head_len framed.payload_len padding starts payload_len last.long),
    )

pub returns-clause-tree : goal.returns-clause-tree
returns-clause-tree g c =
    let n = c.in_ok-header.ensures.len in
    let eight = header_eight c.in_ok-header.header c.in_ok-found.found (sym c.schema.ensures ∙ c.in_ok-found.was) in
    let room = c.in_ok-framed.ensures.within.0 in
    let fits = rest_fits _ c.args.len n eight in
    let ends = payload_fits _ c.args.len c.in_ok-framed.framed.head_len c.in_ok-framed.framed.payload_len c.in_ok-framed.framed.payload_len n eight room refl in
    reads_in_a_row _ _ DiskFault DiskFault _ _ _ _ _ _ _ _ c.in_ok-header.ensures.tree (reads_in_a_row _ _ tree_fault DiskFault _ _ _ _ _ _ _ _ (c.in_ok-head.ensures.tree c.args.len fits) (reads_ok _ _ DiskFault _ _ _ _ c.in_ok-payload.payload _ (c.in_ok-payload.ensures.tree c.args.len ends)))

pub first_framed-requires : goal.first_framed-requires
first_framed-requires g c = record { holds = c.in_ok-head.ensures.holds; short = c.in_ok-head.ensures.short }

pub padding_after-padding-requires : goal.padding_after-padding-requires
padding_after-padding-requires g c = c.in_ok-framed.ensures.within.0

pub overflow_add-start : goal.overflow_add-start
overflow_add-start g c = record { fits = start_64 c.args.len c.in_ok-framed.framed.head_len c.in_ok-framed.framed.payload_len c.ranges.len.fits c.in_ok-framed.ensures.within.0 }

pub overflow_add-result : goal.overflow_add-result
overflow_add-result g c = record { fits = end_64 c.args.len c.in_ok-framed.framed.head_len c.in_ok-framed.framed.payload_len c.ranges.len.fits c.in_ok-framed.ensures.within.0 }

pub overflow_add-result-2 : goal.overflow_add-result-2
overflow_add-result-2 g c = record { fits = padded_64 c.args.len c.in_ok-framed.framed.head_len c.in_ok-framed.framed.payload_len _ c.padding_after-padding.result c.ranges.len.fits c.in_ok-framed.ensures.within.0 c.padding_after-padding.ensures }
