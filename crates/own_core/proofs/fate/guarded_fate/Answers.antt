use Rattle.std.proofs.Common.{◌∙◌, ℕ, List, ap, subst, sym, refl}
use Rattle.own_core.specs.Fate.{fate_if_user_modified_file}
use Rattle.file_owners.specs.db_core.Seen.{members_of}
use Rattle.path_claim_lists.specs.path_claims.Seen.{claim_seen}
use Rattle.own_core.specs.ClaimEntries.{claim_entry}
use Rattle.own_core.specs.Fates.{DescribesEntryIfAny, fate_seen}
use Rattle.own_core.specs.Sides.{file_change_of}
use Rattle.own_core.proofs.OneFile.{changed_fate}
use Rattle.base_core.specs.declared.tree.TreeFault.TheVariants.{Disk, Memory}
use Rattle.own_core.specs.FileChange.{old_file_entry}
use Rattle.own_core.proofs.AfterReads.{read_as, read_fails, read_then_fails, tree_memory_not_disk}
use Rattle.own_core.proofs.fate.guarded_fate.Goals as goal

pub returns-then-is_present_and_modified_from_entry-clause-fate : goal.returns-then-is_present_and_modified_from_entry-clause-fate
returns-then-is_present_and_modified_from_entry-clause-fate g c =
    changed_fate (file_change_of c.args.change.now) _ (claim_seen c.args.claim.now) c.in_ok-name.name c.listed_after-new.result c.listed_so_far-old.result c.in_ok-found.found (fate_seen c.in_ok-fate.fate)
    c.in_ok-name.ensures c.requires.guarded c.listed_after-new.ensures c.listed_so_far-old.ensures c.in_ok-found.ensures.found (c.is_present_and_modified_from_entry.ensures.0 c.if-is_present_and_modified_from_entry.true)
    (c.in_ok-fate.ensures (claim_entry (members_of c.args.change.now.members.now) (claim_seen c.args.claim.now)) c.listed_after-new.ensures
    ∙ ap (λ q. fate_if_user_modified_file (file_change_of c.args.change.now) q (claim_entry (members_of c.args.change.now.members.now) (claim_seen c.args.claim.now))) c.in_ok-name.ensures)

pub returns-clause-tree : goal.returns-clause-tree
returns-clause-tree g c = read_as (record {}) Disk _ _ _ _ c.in_ok-found.found _ c.in_ok-found.ensures.tree

pub returns-in_err-fate-clause-tree : goal.returns-in_err-fate-clause-tree
returns-in_err-fate-clause-tree g c =
    read_then_fails (record {}) Disk Memory _ _ _ _ c.in_ok-found.found c.from_residual-in_err-fate.result c.from_residual-in_err-fate.ensures.1 tree_memory_not_disk c.in_ok-found.ensures.tree

pub returns-then-is_present_and_modified_from_entry-clause-tree : goal.returns-then-is_present_and_modified_from_entry-clause-tree
returns-then-is_present_and_modified_from_entry-clause-tree g c = read_as (record {}) Disk _ _ _ _ c.in_ok-found.found _ c.in_ok-found.ensures.tree

pub fate_if_user_modified_file-requires-clause-old : goal.fate_if_user_modified_file-requires-clause-old
fate_if_user_modified_file-requires-clause-old g c =
    subst (λ (name : List ℕ). DescribesEntryIfAny c.listed_so_far-old.result (old_file_entry (file_change_of c.args.change.now) name)) (sym c.in_ok-name.ensures) c.listed_so_far-old.ensures

pub name_of_path-requires : goal.name_of_path-requires
name_of_path-requires g c = c.requires.file.name

pub returns-in_err-found-clause-tree : goal.returns-in_err-found-clause-tree
returns-in_err-found-clause-tree g c =
    read_fails (record {}) Disk _ _ _ _ c.in_err-found.field-0.0 c.from_residual-in_err-found.result refl c.from_residual-in_err-found.ensures.1 c.in_err-found.ensures.tree
