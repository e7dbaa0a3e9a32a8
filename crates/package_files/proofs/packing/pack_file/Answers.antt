use Rattle.std.proofs.Common.{rules, arith, ◌≡◌, ℕ, ◌-◌, ◌++◌, ◌∙◌, ap, length, take, drop}
use Rattle.std.specs.Prelude.{replicate}
use Rattle.adb_block.specs.BlockWithoutOffset.{padding_of}
use Rattle.package_files.specs.Folders.{last_part_of}
use Rattle.package_files.specs.Package.{kind_of_file}
use Rattle.package_files.proofs.ReadLemmas.{explained_as, explained, same_fault, memory_fault}
use Rattle.package_files.proofs.PackLemmas.{file_fault, packed_file_is}
use Rattle.package_files.proofs.PlacedBlocks.{begun_after, kind_of_rest, placed_is}
use Rattle.package_files.proofs.packing.pack_file.Goals as goal

pub returns-in_err-at-clause-read : goal.returns-in_err-at-clause-read
returns-in_err-at-clause-read g c = λ n. explained_as _ _ _ (c.in_err-at.ensures.read n)
    (λ read e. same_fault _ _ c.from_residual.result _ c.from_residual.ensures.1
    (file_fault c.args.position.0 c.args.position.1 c.args.blocks.now.items c.read_listed.new.blocks.items c.read_listed.new.blocks.items c.args.place read n c.args.name.now _ e))

pub returns-in_err-kind-clause-read : goal.returns-in_err-kind-clause-read
returns-in_err-kind-clause-read g c = λ n. explained _ _ (λ read. memory_fault _ _ _ c.from_residual-in_err-kind.ensures.1)

pub end_block-requires : goal.end_block-requires
end_block-requires g c =
    let behind = begun_after c.args.position.0 c.args.position.1 c.args.blocks.now.items c.read_listed.new.blocks.items c.in_ok-at.at c.in_ok-at.ensures.begun in
    omega arith

pub returns-in_err-end_block-clause-read : goal.returns-in_err-end_block-clause-read
returns-in_err-end_block-clause-read g c = λ n. explained _ _ (λ read. memory_fault _ _ _ c.from_residual-in_err-end_block.ensures.1)

pub returns-clause-read : goal.returns-clause-read
returns-clause-read g c = λ n.
    let kind : c.in_ok-kind.kind ≡ kind_of_file (drop c.in_ok-at.at c.read_listed.new.blocks.items) =
    kind_of_rest c.in_ok-kind.kind _ c.read_listed.new.blocks.items c.in_ok-at.at _ c.in_ok-kind.ensures c.deref.ensures.value (omega (arith, ap length c.deref.ensures.value)) in
    let start : c.len-start.result ≡ length c.args.blocks.now.items = search rules in
    let placed = placed_is c.args.position.0 c.args.position.1 c.args.blocks.now.items c.read_listed.new.blocks.items c.end_block.new.blocks.items c.in_ok-at.at c.in_ok-kind.kind c.in_ok-at.ensures.begun kind
    (λ e. c.in_ok-end_block.ensures.none e ∙ ap (λ (k : ℕ). take k c.read_listed.new.blocks.items) start)
    (λ e. c.in_ok-end_block.ensures.padded e ∙ ap (λ (k : ℕ). c.read_listed.new.blocks.items ++ replicate (padding_of (length c.read_listed.new.blocks.items - k)) 0) start) in
    explained_as _ _ _ (c.in_ok-at.ensures.read n)
    (λ read e. packed_file_is c.args.position.0 c.args.position.1 c.args.blocks.now.items c.read_listed.new.blocks.items c.end_block.new.blocks.items c.args.place read n c.args.name.now c.in_ok-at.at
    c.last_part_of-name.result c.in_ok-kind.kind (c.last_part_of-name.ensures ∙ ap last_part_of c.as_bytes.ensures.value) kind placed e)
