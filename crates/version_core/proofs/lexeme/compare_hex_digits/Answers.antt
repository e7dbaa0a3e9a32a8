-- The digits from a place on compare by those at the place, and then by those after it.
use Rattle.std.proofs.Common.{sym, ◌∙◌, ap, arith, rules}
use Rattle.std.specs.Prelude.{is_some, not}
use Rattle.version_core.proofs.Runs.{hex_cmp_decided, hex_cmp_ended, hex_cmp_tied, hex_place}
use Rattle.version_core.proofs.lexeme.compare_hex_digits.Goals as goal
use Rattle.version_core.proofs.lexeme.compare_hex_digits.Goals.{then-is_ne-via-then-is_ne, then-is_ne-via-else-is_ne+then-is_none}

pub returns-then-is_ne : goal.returns-then-is_ne
returns-then-is_ne c =
    let here = hex_cmp_decided c.args.left.now c.args.right.now c.loop-ours.at c.hex_digit_at-ours.result c.hex_digit_at.result c.cmp-order.result c.hex_digit_at-ours.ensures c.hex_digit_at.ensures c.cmp-order.ensures in
    let there = hex_cmp_ended c.args.left.now c.args.right.now c.loop-ours.at c.hex_digit_at-ours.result c.hex_digit_at.result c.cmp-order.result c.hex_digit_at-ours.ensures c.hex_digit_at.ensures c.cmp-order.ensures in
    elim c.then-is_ne.branch [
      | then-is_ne-via-then-is_ne w ↦ here (sym c.is_ne.ensures ∙ w.if-is_ne.true) ∙ sym c.loop-ours.invariant
      | then-is_ne-via-else-is_ne+then-is_none w ↦
          there (sym c.is_ne.ensures ∙ w.if-is_ne.false) (w.is_none.ensures ∙ ap not w.if-is_none.true) ∙ sym c.loop-ours.invariant
    ]

pub loop-ours-preserved : goal.loop-ours-preserved
loop-ours-preserved c =
    c.loop-ours.invariant
    ∙ hex_cmp_tied c.args.left.now c.args.right.now c.loop-ours.at c.hex_digit_at-ours.result c.hex_digit_at.result c.cmp-order.result c.hex_digit_at-ours.ensures c.hex_digit_at.ensures c.cmp-order.ensures
    (sym c.is_ne.ensures ∙ c.if-is_ne.false) (c.is_none.ensures ∙ ap not c.if-is_none.false)

pub loop-ours-smaller : goal.loop-ours-smaller
loop-ours-smaller c =
    let within = hex_place c.args.left.now c.loop-ours.at (ap is_some (sym c.hex_digit_at-ours.ensures) ∙ c.is_none.ensures ∙ ap not c.if-is_none.false) in
    omega (arith, within)

pub overflow_add-at : goal.overflow_add-at
overflow_add-at c =
    let within = hex_place c.args.left.now c.loop-ours.at (ap is_some (sym c.hex_digit_at-ours.ensures) ∙ c.is_none.ensures ∙ ap not c.if-is_none.false) in
    search (rules, within)
