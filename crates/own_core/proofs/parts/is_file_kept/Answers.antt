use Rattle.std.proofs.Common.{inl, inr, ◌∙◌, sym, refl}
use Rattle.path_claim_lists.specs.path_claims.Seen.{claim_seen}
use Rattle.own_core.specs.Sides.{file_change_of}
use Rattle.own_core.proofs.OneFile.{no_stay}
use Rattle.base_core.specs.declared.tree.TreeFault.TheVariants.{Disk}
use Rattle.own_core.proofs.AfterReads.{read_as, read_fails}
use Rattle.own_core.proofs.parts.is_file_kept.Goals as goal
use Rattle.own_core.proofs.parts.is_file_kept.Goals.{then-change-via-then-change, then-change-via-else-change+then-not-is_protected_path}

pub returns-then-change-clause-stays : goal.returns-then-change-clause-stays
returns-then-change-clause-stays g c = no_stay (file_change_of c.args.change.now) _ (claim_seen c.args.claim.now) (elim c.then-change.branch [
  | then-change-via-then-change w ↦ inl w.if-change.true
  | then-change-via-else-change+then-not-is_protected_path w ↦ inr (sym w.is_protected_path.ensures ∙ w.if-not-is_protected_path.true)
])

pub returns-clause-tree : goal.returns-clause-tree
returns-clause-tree g c = read_as (record {}) Disk _ _ _ _ c.in_ok-found.found _ c.in_ok-found.ensures.tree

pub name_of_path-requires : goal.name_of_path-requires
name_of_path-requires g c = c.requires.name

pub returns-in_err-found-clause-tree : goal.returns-in_err-found-clause-tree
returns-in_err-found-clause-tree g c =
    read_fails (record {}) Disk _ _ _ _ c.in_err-found.field-0.0 c.from_residual-in_err-found.result refl c.from_residual-in_err-found.ensures.1 c.in_err-found.ensures.tree
