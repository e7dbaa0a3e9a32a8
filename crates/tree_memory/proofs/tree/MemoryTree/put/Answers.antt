use Rattle.std.proofs.Common.{ap, ◌∙◌}
use Rattle.std.proofs.lemmas.Result.{on_ok_weaker}
use Rattle.base_core.specs.Files.{put_name}
use Rattle.base_core.specs.Tree.{files_of}
use Rattle.tree_memory.specs.Changes.{contents_of}
use Rattle.tree_memory.specs.WellFormedLaw.{bounded_state}
use Rattle.tree_memory.specs.Memory.{tree_state}
use Rattle.tree_memory.proofs.Keeping.{read-after_put, newest}
use Rattle.tree_memory.proofs.tree.MemoryTree.put.Goals as goal

pub returns-clause-files : goal.returns-clause-files
returns-clause-files c =
    let store = c.args.self.now.store in
    on_ok_weaker c.put.result
    (λ is. ap files_of (ap newest is) ∙ read-after_put c.args.name.now c.in_ok-bytes.bytes.items (tree_state c.args.self.now) (bounded_state (contents_of store.files.items) store.changes.items) ∙ ap (put_name (files_of (tree_state c.args.self.now)) c.args.name.now) c.in_ok-bytes.ensures.items)
    c.put.ensures.ok
