use Rattle.std.proofs.Common.{◌≡◌, false, ℕ, List, length, take, IsSome, refl, sym, subst, arith, below_more}
use Rattle.std.specs.Str.{bytes_eq}
use Rattle.base_core.proofs.Folders.{folder_at, at_folder}
use Rattle.tree_memory.specs.Table.{lookup}
use Rattle.tree_memory.proofs.table.NameTable.has_folder_of.Goals as goal
use Rattle.tree_memory.proofs.table.NameTable.has_folder_of.Goals.{else-byte-eq47-via-then-byte-eq47+else-has_other, else-byte-eq47-via-else-byte-eq47}

pub returns-then-has_other : goal.returns-then-has_other
returns-then-has_other c =
    let has = c.has_other.ensures.0 c.if-has_other.true in
    (λ _. (take c.loop-i.i c.args.name.now, folder_at c.args.name.now c.loop-i.i c.loop-i-test.true c.if-byte-eq47.true, has), λ _. refl)

pub loop-i-preserved : goal.loop-i-preserved
loop-i-preserved c =
    below_more _ _ c.loop-i.invariant
    (elim c.else-byte-eq47.branch [
      | else-byte-eq47-via-then-byte-eq47+else-has_other w ↦ λ slash some off. let t = w.has_other.ensures.1 (some, off) in cc (t, w.if-has_other.false)
      | else-byte-eq47-via-else-byte-eq47 w ↦ λ slash some off. absurd (w.if-byte-eq47.false slash)
    ])

pub returns : goal.returns
returns c = (
  λ t. absurd (cc),
  λ (folder, below, (some, off)). let at = at_folder folder c.args.name.now below in
      absurd (c.loop-i.invariant (length folder) (omega (arith, at.0)) at.1 (subst (λ (l : List ℕ). IsSome (lookup c.args.self.now.entries.items l)) (sym at.2) some) (subst (λ (l : List ℕ). bytes_eq l c.args.but.now ≡ false) (sym at.2) off)),
)
