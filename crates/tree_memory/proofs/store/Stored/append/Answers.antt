use Rattle.std.proofs.Common.{refl}
use Rattle.std.proofs.lemmas.Result.{IfOk-from_err}
use Rattle.tree_memory.proofs.Outcomes.{on_any_err}
use Rattle.tree_memory.proofs.Pieces.{all_bytes}
use Rattle.tree_memory.proofs.store.Stored.append.Goals as goal

pub returns-in_err-extend_from_slice-clause-bytes : goal.returns-in_err-extend_from_slice-clause-bytes
returns-in_err-extend_from_slice-clause-bytes c = IfOk-from_err c.from_residual.result _ c.from_residual.ensures.0

pub returns-in_err-extend_from_slice-clause-synced : goal.returns-in_err-extend_from_slice-clause-synced
returns-in_err-extend_from_slice-clause-synced c = IfOk-from_err c.from_residual.result _ c.from_residual.ensures.0

pub returns-in_err-extend_from_slice-clause-piece : goal.returns-in_err-extend_from_slice-clause-piece
returns-in_err-extend_from_slice-clause-piece c = all_bytes c.args.piece.now (λ i. (c.type_inv.piece i).fits)

pub returns-in_err-extend_from_slice-clause-same_bytes : goal.returns-in_err-extend_from_slice-clause-same_bytes
returns-in_err-extend_from_slice-clause-same_bytes c = on_any_err c.from_residual.result c.in_err-extend_from_slice.ensures.items

pub returns-in_err-extend_from_slice-clause-same_synced : goal.returns-in_err-extend_from_slice-clause-same_synced
returns-in_err-extend_from_slice-clause-same_synced c = on_any_err c.from_residual.result refl

pub returns-clause-bytes : goal.returns-clause-bytes
returns-clause-bytes c = c.in_ok-extend_from_slice.ensures.items

pub returns-clause-piece : goal.returns-clause-piece
returns-clause-piece c = all_bytes c.args.piece.now (λ i. (c.type_inv.piece i).fits)
