use Rattle.std.proofs.Common.{◌≡◌, ◌<◌, ◌+◌, arith, length, rules, subst, sym}
use Rattle.base_core.specs.Files.{IsFolderOf}
use Rattle.tree_memory.proofs.Folders.{IsListing, listing_none, listing_more, listed_below, none_from}
use Rattle.tree_memory.proofs.table.NameTable.list_below.Goals as goal

pub loop-i-init : goal.loop-i-init
loop-i-init c =
    subst (IsListing c.args.self.now.entries.items c.start-start.result c.start-start.result c.args.folder.now) (sym c.new-names.ensures) (listing_none c.args.self.now.entries.items c.start-start.result c.args.folder.now)

pub returns-then-not-is_folder_of : goal.returns-then-not-is_folder_of
returns-then-not-is_folder_of c =
    let es = c.args.self.now.entries.items in
    let within : c.loop-i.i < length es = search rules in
    let off : IsFolderOf c.args.folder.now c.as_bytes.result.now → ⊥ = λ below. let t = c.is_folder_of.ensures.1 below in cc (t, c.if-not-is_folder_of.true) in
    let behind = none_from es c.start-start.result c.loop-i.i c.args.folder.now c.as_bytes.result.now c.index.result.now c.args.self.now.rising c.start-start.ensures c.loop-i.auto.i within c.index.ensures c.as_bytes.ensures.value off in
    listed_below es c.start-start.result c.loop-i.i c.args.folder.now c.loop-i.names c.args.self.now.rising c.start-start.ensures (omega (arith, within)) c.loop-i.invariant behind

pub loop-i-preserved : goal.loop-i-preserved
loop-i-preserved c =
    let es = c.args.self.now.entries.items in
    let within : c.loop-i.i < length es = search rules in
    let below = subst (IsFolderOf c.args.folder.now) c.as_bytes.ensures.value (c.is_folder_of.ensures.0 c.if-not-is_folder_of.false) in
    subst (IsListing es c.start-start.result (c.loop-i.i + 1) c.args.folder.now) (sym c.in_ok-push.ensures.ok)
    (listing_more es c.start-start.result c.loop-i.i c.args.folder.now c.in_ok-copy.field-0 c.loop-i.names c.index.result.now c.loop-i.invariant within c.index.ensures c.in_ok-copy.ensures below)

pub returns : goal.returns
returns c =
    let long : c.len-i-end.result ≡ length c.args.self.now.entries.items = search rules in
    let upto = c.loop-i.auto.i-end (omega (arith, long, c.start-start.ensures.within)) in
    listed_below c.args.self.now.entries.items c.start-start.result c.loop-i.i c.args.folder.now c.loop-i.names c.args.self.now.rising c.start-start.ensures (omega (arith, long, upto)) c.loop-i.invariant (λ k d from inside. absurd (omega (arith, long, from, inside, c.loop-i-test.false)))
