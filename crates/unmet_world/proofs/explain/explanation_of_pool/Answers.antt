use Rattle.std.proofs.Common.{◌∙◌, ◌++◌, ℕ, List, ap}
use Rattle.unmet_world.proofs.explain.explanation_of_pool.Goals as goal

pub returns : goal.returns
returns c = record {
  front = c.in_ok-text.text.items;
  explains = c.in_ok-text.ensures;
  whole = c.in_ok-extend_from_slice.ensures.items ∙ ap (λ (l : List ℕ). c.in_ok-text.text.items ++ l) c.no_index_line.ensures;
}
