use Rattle.std.proofs.Common.{ap, sym, ◌∙◌}
use Rattle.std.proofs.lemmas.List.{append-nil}
use Rattle.adb_write.specs.Items.{content_bytes, item_of}
use Rattle.adb_write.proofs.Pieces.{zeros_behind, item_behind, before_kept, before_kept_by, before_kept_again, before_kept_alone, same_kept, not_ok, appended_by, appended_on_ok}
use Rattle.adb_write.proofs.item.Parts.try_append.Goals as goal

pub returns-in-Int-clause-ok : goal.returns-in-Int-clause-ok
returns-in-Int-clause-ok c =
    let i = item_of c.args.self.now in
    sym (append-nil c.extend_from_slice.new.self.items)
    ∙ item_behind c.args.out.now.items c.resize.new.self.items c.extend_from_slice.new.self.items i.bytes c.to_le_bytes.result (content_bytes c.args.self.now) _ c.args.at _ c.len.result c.number.result i.align c.requires c.args.out.now.ok.0
    c.in_ok-resize.ensures.items c.in_ok-extend_from_slice.ensures.items (c.len.ensures.value ∙ c.width.ensures) c.to_le_bytes.ensures c.number.ensures (ap content_bytes c.in-Int.is)

pub returns-in-Blob-clause-ok : goal.returns-in-Blob-clause-ok
returns-in-Blob-clause-ok c =
    let i = item_of c.args.self.now in
    appended_by c.extend_from_slice-in-Blob.result c.extend_from_slice.new.self.items c.extend_from_slice-in-Blob.new.self.items _ _ c.extend_from_slice-in-Blob.ensures.items
    (item_behind c.args.out.now.items c.resize.new.self.items c.extend_from_slice.new.self.items i.bytes c.to_le_bytes.result (content_bytes c.args.self.now) _ c.args.at _ c.len.result c.number.result i.align c.requires c.args.out.now.ok.0
    c.in_ok-resize.ensures.items c.in_ok-extend_from_slice.ensures.items (c.len.ensures.value ∙ c.width.ensures) c.to_le_bytes.ensures c.number.ensures (ap content_bytes c.in-Blob.is))

pub returns-in-List-clause-ok : goal.returns-in-List-clause-ok
returns-in-List-clause-ok c =
    let i = item_of c.args.self.now in
    appended_on_ok c.add_words.result c.extend_from_slice.new.self.items c.add_words.new.out.items _ _ c.add_words.ensures.ok
    (item_behind c.args.out.now.items c.resize.new.self.items c.extend_from_slice.new.self.items i.bytes c.to_le_bytes.result (content_bytes c.args.self.now) _ c.args.at _ c.len.result c.number.result i.align c.requires c.args.out.now.ok.0
    c.in_ok-resize.ensures.items c.in_ok-extend_from_slice.ensures.items (c.len.ensures.value ∙ c.width.ensures) c.to_le_bytes.ensures c.number.ensures (ap content_bytes c.in-List.is))

pub returns-in-Int-clause-kept : goal.returns-in-Int-clause-kept
returns-in-Int-clause-kept c =
    let zeros = zeros_behind c.args.out.now.items c.resize.new.self.items c.args.at _ c.requires c.args.out.now.ok.0 c.in_ok-resize.ensures.items in
    before_kept c.args.out.now.items c.resize.new.self.items c.extend_from_slice.new.self.items _ _ zeros c.in_ok-extend_from_slice.ensures.items

pub returns-in-Blob-clause-kept : goal.returns-in-Blob-clause-kept
returns-in-Blob-clause-kept c =
    let zeros = zeros_behind c.args.out.now.items c.resize.new.self.items c.args.at _ c.requires c.args.out.now.ok.0 c.in_ok-resize.ensures.items in
    before_kept_by c.extend_from_slice-in-Blob.result c.args.out.now.items c.resize.new.self.items c.extend_from_slice.new.self.items c.extend_from_slice-in-Blob.new.self.items _ _ _ zeros c.in_ok-extend_from_slice.ensures.items c.extend_from_slice-in-Blob.ensures.items

pub returns-in-List-clause-kept : goal.returns-in-List-clause-kept
returns-in-List-clause-kept c =
    let zeros = zeros_behind c.args.out.now.items c.resize.new.self.items c.args.at _ c.requires c.args.out.now.ok.0 c.in_ok-resize.ensures.items in
    before_kept_again c.args.out.now.items c.resize.new.self.items c.extend_from_slice.new.self.items c.add_words.new.out.items _ _ zeros c.in_ok-extend_from_slice.ensures.items c.add_words.ensures.kept

pub returns-in_err-extend_from_slice-clause-kept : goal.returns-in_err-extend_from_slice-clause-kept
returns-in_err-extend_from_slice-clause-kept c =
    let zeros = zeros_behind c.args.out.now.items c.resize.new.self.items c.args.at _ c.requires c.args.out.now.ok.0 c.in_ok-resize.ensures.items in
    before_kept_alone c.args.out.now.items c.resize.new.self.items c.extend_from_slice.new.self.items _ zeros c.in_err-extend_from_slice.ensures.items

pub returns-in_err-extend_from_slice-clause-ok : goal.returns-in_err-extend_from_slice-clause-ok
returns-in_err-extend_from_slice-clause-ok c = not_ok c.from_residual-in_err-extend_from_slice.result _ _ c.from_residual-in_err-extend_from_slice.ensures.1

pub returns-in_err-resize-clause-kept : goal.returns-in_err-resize-clause-kept
returns-in_err-resize-clause-kept c = same_kept c.args.out.now.items c.resize.new.self.items c.in_err-resize.ensures.items

pub returns-in_err-resize-clause-ok : goal.returns-in_err-resize-clause-ok
returns-in_err-resize-clause-ok c = not_ok c.from_residual.result _ _ c.from_residual.ensures.1
