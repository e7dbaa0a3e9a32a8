use Rattle.std.proofs.Common.{◌≡◌, ℕ, ◌+◌, ◌++◌, codes, List, length, refl, ap, ◌∙◌}
use Rattle.std.specs.Int.{w32, to_le_bytes}
use Rattle.std.proofs.lemmas.Result.{IfOk-from_err}
use Rattle.adb_block.specs.BlockWithoutOffset.{padding_of}
use Rattle.adb_block.specs.Written.{head_bytes}
use Rattle.adb_block.specs.declared.block.BlockKind.TheVariants.{Adb}
use Rattle.adb_write.proofs.Files.{rotated, padded, no_room_for_mark, no_room_for_schema, no_room_for_head, no_room_for_zeros}
use Rattle.adb_write.proofs.writer.file_in_place.Goals as goal

pub returns-in_err-extend_from_slice-clause-bytes : goal.returns-in_err-extend_from_slice-clause-bytes
returns-in_err-extend_from_slice-clause-bytes c = IfOk-from_err c.from_residual.result _ c.from_residual.ensures.0

pub returns-in_err-extend_from_slice-clause-succeeds : goal.returns-in_err-extend_from_slice-clause-succeeds
returns-in_err-extend_from_slice-clause-succeeds c =
    let p : List ℕ = c.args.payload.items in
    let h : List ℕ = c.bytes-head.result.now in
    let head : h ≡ head_bytes Adb (length p) = c.bytes-head.ensures.bytes ∙ c.block_head-head.ensures.bytes ∙ ap (head_bytes Adb) (c.len.ensures ∙ c.args.payload.ok.0) in
    no_room_for_mark c.from_residual.result c.args.schema p h _ _ head c.args.payload.ok.0 c.in_err-extend_from_slice.ensures.full

pub returns-in_err-extend_from_slice-2-clause-bytes : goal.returns-in_err-extend_from_slice-2-clause-bytes
returns-in_err-extend_from_slice-2-clause-bytes c = IfOk-from_err c.from_residual-in_err-extend_from_slice-2.result _ c.from_residual-in_err-extend_from_slice-2.ensures.0

pub returns-in_err-extend_from_slice-2-clause-succeeds : goal.returns-in_err-extend_from_slice-2-clause-succeeds
returns-in_err-extend_from_slice-2-clause-succeeds c =
    let p : List ℕ = c.args.payload.items in
    let h : List ℕ = c.bytes-head.result.now in
    let head : h ≡ head_bytes Adb (length p) = c.bytes-head.ensures.bytes ∙ c.block_head-head.ensures.bytes ∙ ap (head_bytes Adb) (c.len.ensures ∙ c.args.payload.ok.0) in
    no_room_for_schema c.from_residual-in_err-extend_from_slice-2.result c.args.schema p h _ _ _ _ _ head c.args.payload.ok.0 c.in_ok-extend_from_slice.ensures.capacity c.in_ok-extend_from_slice.ensures.len (ap length c.to_le_bytes.ensures) c.in_err-extend_from_slice-2.ensures.full

pub returns-in_err-extend_from_slice-3-clause-bytes : goal.returns-in_err-extend_from_slice-3-clause-bytes
returns-in_err-extend_from_slice-3-clause-bytes c = IfOk-from_err c.from_residual-in_err-extend_from_slice-3.result _ c.from_residual-in_err-extend_from_slice-3.ensures.0

pub returns-in_err-extend_from_slice-3-clause-succeeds : goal.returns-in_err-extend_from_slice-3-clause-succeeds
returns-in_err-extend_from_slice-3-clause-succeeds c =
    let p : List ℕ = c.args.payload.items in
    let h : List ℕ = c.bytes-head.result.now in
    let head : h ≡ head_bytes Adb (length p) = c.bytes-head.ensures.bytes ∙ c.block_head-head.ensures.bytes ∙ ap (head_bytes Adb) (c.len.ensures ∙ c.args.payload.ok.0) in
    no_room_for_head c.from_residual-in_err-extend_from_slice-3.result c.args.schema p h _ _ _ _ _ _ _ head c.args.payload.ok.0 c.in_ok-extend_from_slice.ensures.capacity c.in_ok-extend_from_slice-2.ensures.capacity c.in_ok-extend_from_slice.ensures.len (ap length c.to_le_bytes.ensures) c.in_ok-extend_from_slice-2.ensures.len c.in_err-extend_from_slice-3.ensures.full

pub returns-in_err-resize-clause-bytes : goal.returns-in_err-resize-clause-bytes
returns-in_err-resize-clause-bytes c = IfOk-from_err c.from_residual-in_err-resize.result _ c.from_residual-in_err-resize.ensures.0

pub returns-in_err-resize-clause-succeeds : goal.returns-in_err-resize-clause-succeeds
returns-in_err-resize-clause-succeeds c =
    let p : List ℕ = c.args.payload.items in
    let h : List ℕ = c.bytes-head.result.now in
    let head : h ≡ head_bytes Adb (length p) = c.bytes-head.ensures.bytes ∙ c.block_head-head.ensures.bytes ∙ ap (head_bytes Adb) (c.len.ensures ∙ c.args.payload.ok.0) in
    let sum = ap (λ (n : ℕ). 8 + length h + n + c.padding_of.result) (c.len-2.ensures ∙ c.args.payload.ok.0) in
    let zeros = c.padding_of.ensures.value ∙ ap (λ (n : ℕ). padding_of (length h + n)) (c.len-3.ensures ∙ c.args.payload.ok.0) in
    no_room_for_zeros c.from_residual-in_err-resize.result c.args.schema p h _ _ _ _ _ _ _ head c.in_ok-extend_from_slice.ensures.capacity c.in_ok-extend_from_slice-2.ensures.capacity c.in_ok-extend_from_slice-3.ensures.capacity c.rotate_right.ensures.capacity sum zeros c.in_err-resize.ensures.full

pub returns-clause-bytes : goal.returns-clause-bytes
returns-clause-bytes c =
    let p : List ℕ = c.args.payload.items in
    let h : List ℕ = c.bytes-head.result.now in
    let head : h ≡ head_bytes Adb (length p) = c.bytes-head.ensures.bytes ∙ c.block_head-head.ensures.bytes ∙ ap (head_bytes Adb) (c.len.ensures ∙ c.args.payload.ok.0) in
    let sum = ap (λ (n : ℕ). 8 + length h + n + c.padding_of.result) (c.len-2.ensures ∙ c.args.payload.ok.0) in
    let zeros = c.padding_of.ensures.value ∙ ap (λ (n : ℕ). padding_of (length h + n)) (c.len-3.ensures ∙ c.args.payload.ok.0) in
    let f1 : List ℕ = c.extend_from_slice.new.self.items in
    let front =
    rotated p (codes "ADB.") (to_le_bytes w32 c.args.schema) h f1 c.extend_from_slice-2.new.self.items c.extend_from_slice-3.new.self.items c.rotate_right.new.self.items _ _ refl refl c.in_ok-extend_from_slice.ensures.items
    (c.in_ok-extend_from_slice-2.ensures.items ∙ ap (λ (s : List ℕ). f1 ++ s) c.to_le_bytes.ensures) c.in_ok-extend_from_slice-3.ensures.items refl c.extend_from_slice-3.new.self.ok.0 c.rotate_right.ensures.items in
    padded c.args.schema p h c.rotate_right.new.self.items c.resize.new.self.items _ _ c.padding_of.result head front c.rotate_right.new.self.ok.0 sum zeros c.in_ok-resize.ensures.items

pub returns-clause-succeeds : goal.returns-clause-succeeds
returns-clause-succeeds c = λ room. refl
