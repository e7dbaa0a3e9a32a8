use Rattle.tree_memory.specs.Stores.{store_state}
use Rattle.tree_memory.proofs.Outcomes.{not_both}
use Rattle.tree_memory.proofs.Keeping.{absent_from}
use Rattle.tree_memory.proofs.store.Store.can_create.Goals as goal

pub returns-then-has : goal.returns-then-has
returns-then-has c =
    (λ t. absurd (cc), λ can. let has = c.has.ensures.0 c.if-has.true in absurd (not_both ((store_state c.args.self.now).names c.args.name.now) has can.absent))

pub returns : goal.returns
returns c = (
  λ t. record { absent = absent_from ((store_state c.args.self.now).names c.args.name.now) (λ has. let t = c.has.ensures.1 has in cc (t, c.if-has.false)); folders = (c.can_put.ensures.0 t).folders },
  λ can. c.can_put.ensures.1 (record { folders = can.folders }),
)
