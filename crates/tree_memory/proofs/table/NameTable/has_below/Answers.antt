use Rattle.std.proofs.Common.{◌≡◌, ◌<◌, ◌∙◌, Bool, false, true, not, ap, arith, length, refl, rules, subst, sym}
use Rattle.std.specs.Str.{bytes_eq}
use Rattle.base_core.specs.Files.{IsFolderOf}
use Rattle.tree_memory.proofs.Folders.{at_entry, has_at, has_none, none_from}
use Rattle.tree_memory.proofs.table.NameTable.has_below.Goals as goal

pub returns-then-not-is_folder_of : goal.returns-then-not-is_folder_of
returns-then-not-is_folder_of c =
    let es = c.args.self.now.entries.items in
    let within : c.loop-i.i < length es = search rules in
    let off : IsFolderOf c.args.folder.now c.as_bytes-name.result.now → ⊥ = λ below. let t = c.is_folder_of.ensures.1 below in cc (t, c.if-not-is_folder_of.true) in
    let behind = none_from es c.start-start.result c.loop-i.i c.args.folder.now c.as_bytes-name.result.now c.index.result.now c.args.self.now.rising c.start-start.ensures c.loop-i.auto.i within c.index.ensures c.as_bytes-name.ensures.value off in
    (λ t. absurd (cc), λ has. absurd (has_none es c.start-start.result c.loop-i.i c.args.folder.now c.args.but.now c.args.self.now.rising c.start-start.ensures c.loop-i.auto.i c.loop-i.invariant behind has))

unlike : (b r : Bool) → r ≡ not b → r ≡ true → b ≡ false
unlike true r is at = absurd (cc (is, at))
unlike false r is at = refl

pub returns-then-ne : goal.returns-then-ne
returns-then-ne c =
    let es = c.args.self.now.entries.items in
    let within : c.loop-i.i < length es = search rules in
    let same = at_entry es c.loop-i.i c.index.result.now c.index.result.now c.as_bytes-name.result.now within c.index.ensures c.as_bytes-name.ensures.value in
    let off = unlike (bytes_eq c.as_bytes-name.result.now c.args.but.now) c.ne.result c.ne.ensures c.if-ne.true in (
      λ _. has_at es c.loop-i.i c.index.result.now c.args.folder.now c.args.but.now within (subst (IsFolderOf c.args.folder.now) same (c.is_folder_of.ensures.0 c.if-not-is_folder_of.false))
          (sym (ap (λ n. bytes_eq n c.args.but.now) same) ∙ off),
      λ _. refl,
    )

pub returns : goal.returns
returns c =
    (λ t. absurd (cc), λ has. absurd (has_none c.args.self.now.entries.items c.start-start.result c.loop-i.i c.args.folder.now c.args.but.now c.args.self.now.rising c.start-start.ensures (omega arith) c.loop-i.invariant (λ k d upto within. absurd (omega (arith, upto, within))) has))
