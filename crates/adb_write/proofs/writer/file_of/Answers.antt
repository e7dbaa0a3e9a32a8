use Rattle.std.proofs.Common.{◌≡◌, ℕ, ◌++◌, codes, List, length, refl, ap, ◌∙◌}
use Rattle.std.specs.Int.{w32, to_le_bytes}
use Rattle.std.proofs.lemmas.Result.{IfOk-from_err}
use Rattle.adb_block.specs.Written.{head_bytes}
use Rattle.adb_block.specs.declared.block.BlockKind.TheVariants.{Adb}
use Rattle.adb_write.proofs.Files.{in_order, padded}
use Rattle.adb_write.proofs.writer.file_of.Goals as goal

pub returns-in_err-file : goal.returns-in_err-file
returns-in_err-file c = IfOk-from_err c.from_residual.result _ c.from_residual.ensures.0

pub returns-in_err-extend_from_slice : goal.returns-in_err-extend_from_slice
returns-in_err-extend_from_slice c = IfOk-from_err c.from_residual-in_err-extend_from_slice.result _ c.from_residual-in_err-extend_from_slice.ensures.0

pub returns-in_err-extend_from_slice-2 : goal.returns-in_err-extend_from_slice-2
returns-in_err-extend_from_slice-2 c = IfOk-from_err c.from_residual-in_err-extend_from_slice-2.result _ c.from_residual-in_err-extend_from_slice-2.ensures.0

pub returns-in_err-extend_from_slice-3 : goal.returns-in_err-extend_from_slice-3
returns-in_err-extend_from_slice-3 c = IfOk-from_err c.from_residual-in_err-extend_from_slice-3.result _ c.from_residual-in_err-extend_from_slice-3.ensures.0

pub returns-in_err-extend_from_slice-4 : goal.returns-in_err-extend_from_slice-4
returns-in_err-extend_from_slice-4 c = IfOk-from_err c.from_residual-in_err-extend_from_slice-4.result _ c.from_residual-in_err-extend_from_slice-4.ensures.0

pub returns-in_err-resize : goal.returns-in_err-resize
returns-in_err-resize c = IfOk-from_err c.from_residual-in_err-resize.result _ c.from_residual-in_err-resize.ensures.0

pub returns : goal.returns
returns c =
    let p : List ℕ = c.args.payload.now in
    let h : List ℕ = c.bytes-head.result.now in
    let head : h ≡ head_bytes Adb (length p) = c.bytes-head.ensures.bytes ∙ c.block_head-head.ensures.bytes in
    let f1 : List ℕ = c.extend_from_slice.new.self.items in
    let front =
    in_order p (codes "ADB.") (to_le_bytes w32 c.args.schema) h c.in_ok-file.file.items f1 c.extend_from_slice-2.new.self.items c.extend_from_slice-3.new.self.items c.extend_from_slice-4.new.self.items c.in_ok-file.ensures.items c.in_ok-extend_from_slice.ensures.items
    (c.in_ok-extend_from_slice-2.ensures.items ∙ ap (λ (s : List ℕ). f1 ++ s) c.to_le_bytes.ensures) c.in_ok-extend_from_slice-3.ensures.items c.in_ok-extend_from_slice-4.ensures.items in
    padded c.args.schema p h c.extend_from_slice-4.new.self.items c.resize.new.self.items _ _ c.padding_of.result head front c.extend_from_slice-4.new.self.ok.0 refl c.padding_of.ensures.value c.in_ok-resize.ensures.items
