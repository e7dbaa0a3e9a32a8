use Rattle.std.proofs.Common.{List, refl, sym, subst, arith}
use Rattle.base_core.specs.Files.{HasNoFileAsFolder}
use Rattle.tree_memory.specs.Table.{HasFolderOtherThan, lookup}
use Rattle.tree_memory.specs.declared.table.NameAndFile.{NameAndFile}
use Rattle.tree_memory.proofs.Folders.{folder_found, free_none, free_more, free_all}
use Rattle.tree_memory.proofs.table.NameTable.has_no_folder.Goals as goal

pub loop-entry-init : goal.loop-entry-init
loop-entry-init c = free_none c.deref-entry-items.result.now

pub loop-entry-preserved : goal.loop-entry-preserved
loop-entry-preserved c =
    let name = c.as_bytes-name.result.now in
    free_more c.deref-entry-items.result.now c.loop-entry.entry-index c.entry-item.result name c.loop-entry-test.true c.entry-item.is c.as_bytes-name.ensures.value
    (λ has. let t = c.has_folder_of.ensures.1 (subst (λ (l : List NameAndFile). HasFolderOtherThan l name name) c.deref-entry-items.ensures.value has) in cc (t, c.if-has_folder_of.false))
    c.loop-entry.invariant

pub returns-then-has_folder_of : goal.returns-then-has_folder_of
returns-then-has_folder_of c =
    let name = c.as_bytes-name.result.now in
    let has = subst (λ (l : List NameAndFile). HasFolderOtherThan l name name) (sym c.deref-entry-items.ensures.value) (c.has_folder_of.ensures.0 c.if-has_folder_of.true) in (
      λ t. absurd (cc),
      λ none. absurd (folder_found c.deref-entry-items.result.now c.loop-entry.entry-index c.entry-item.result name c.loop-entry-test.true c.entry-item.is c.as_bytes-name.ensures.value has
          (subst (λ (l : List NameAndFile). HasNoFileAsFolder (lookup l)) (sym c.deref-entry-items.ensures.value) none)),
    )

pub returns : goal.returns
returns c = (
  λ _. subst (λ (l : List NameAndFile). HasNoFileAsFolder (lookup l)) c.deref-entry-items.ensures.value (free_all c.deref-entry-items.result.now c.loop-entry.entry-index (omega (arith, c.loop-entry-test.false)) c.loop-entry.invariant),
  λ _. refl,
)
