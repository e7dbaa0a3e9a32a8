use Rattle.std.proofs.Common.{ap, ◌∙◌}
use Rattle.adb_view.specs.Head.{payload_head_fault}
use Rattle.adb_write.specs.Keys.{key_of}
use Rattle.adb_write.specs.WordPages.{pages_of}
use Rattle.adb_write.proofs.Held.{nothing_between}
use Rattle.adb_write.proofs.store.Store.find.Goals as goal

pub returns-in-Err : goal.returns-in-Err
returns-in-Err c =
    nothing_between c.args.self.now.payload.items (key_of c.args.parts.now) (pages_of c.args.self.now.words) c.in-Err.field-0 c.requires.head c.requires.filled c.requires.stored (c.in-Err.ensures.exact ∙ ap payload_head_fault c.deref.ensures.value)
