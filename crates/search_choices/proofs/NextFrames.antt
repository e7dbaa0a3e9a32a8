-- The frame of the next need, told of the choices before the cursors moved.
use Rattle.std.proofs.Common.{◌≡◌, ◌∙◌, List, ℕ, sym, subst}
use Rattle.std.specs.Prelude.{Option, None, Result, Ok, Err, IfOk, IsErrAnd, MatchOption}
use Rattle.std.specs.List.{find}
use Rattle.search_needs.specs.candidate_core.Rank.{SelectionProblem}
use Rattle.search_needs.specs.search_tables.Queue.{RaisedDepValue, is_unmet_dep, queue_of}
use Rattle.search_needs.specs.search_tables.Reasons.{FrameValue, IsFrameOf}
use Rattle.search_needs.specs.search_tables.Selection.{next_need}

-- each raised dependency is met if the queue has none at its cursor
pub all_met : (p q : SelectionProblem) (t u : List ℕ) (front : Option RaisedDepValue) → q ≡ p → u ≡ t → None ≡ front → front ≡ find (is_unmet_dep p t) (queue_of p t) → find (is_unmet_dep q u) (queue_of q u) ≡ None
all_met p q t u front same_pool same none first =
    subst (λ (x : SelectionProblem). find (is_unmet_dep x u) (queue_of x u) ≡ None) (sym same_pool)
    (subst (λ (z : List ℕ). find (is_unmet_dep p z) (queue_of p z) ≡ None) (sym same) (sym first ∙ sym none))

-- the frame of the next need is that of the same pool and the same choices
pub frame_as : (p q : SelectionProblem) (t u : List ℕ) (found : Option FrameValue) → q ≡ p → u ≡ t → MatchOption found (next_need q u ≡ None) (λ frame. IsFrameOf q u frame) → MatchOption found (next_need p t ≡ None) (λ frame. IsFrameOf p t frame)
frame_as p q t u found same_pool same h =
    subst (λ (x : SelectionProblem). MatchOption found (next_need x t ≡ None) (λ frame. IsFrameOf x t frame)) same_pool
    (subst (λ (z : List ℕ). MatchOption found (next_need q z ≡ None) (λ frame. IsFrameOf q z frame)) same h)

-- a call that failed has no value of which anything is to be said
pub no_value : {A E : Type 0} (P : A → Type 0) (Q : E → Type 0) (r : Result A E) → IsErrAnd r Q → IfOk r P
no_value P Q (Ok x) is = absurd is
no_value P Q (Err fault) is = tt
