-- A search that ends with no need left has found the first selection; one that ends with an empty reason shows that there is none.
use Rattle.std.proofs.Common.{◌≡◌, ℕ, List, [], subst, sym}
use Rattle.std.specs.Prelude.{None}
use Rattle.search_choices.specs.candidate_core.Candidates.{Need}
use Rattle.search_choices.specs.candidate_core.Rank.{SelectionProblem}
use Rattle.search_choices.specs.search_tables.Selection.{IsSatisfying, IsFirstPreferredSelection, next_need}
use Rattle.search_choices.specs.search_tables.Reasons.{FrameValue, AreCompatible, IsReason, AreTurnsFrom, choices_of_turns}
use Rattle.search_choices.specs.search_tables.Reasons.{HasOptions}
use Rattle.search_choices.specs.Choices.{IsSearch, choices_of, pool_of}
use Rattle.search_choices.specs.declared.choices.Choices.{Choices}
use Rattle.search_choices.proofs.search_tables.Turns.{turns_found}
use Rattle.search_choices.proofs.search_tables.PoolFacts.{pool_facts}
use Rattle.search_choices.proofs.search_tables.Satisfying.{closed_of_satisfying, satisfying_of_closed}

pub first_found : (pool : SelectionProblem) → ((need : Need) → HasOptions pool need) → (chosen : Choices) (turns : List (FrameValue × ℕ)) → IsSearch chosen turns → pool_of chosen ≡ pool → next_need (pool_of chosen) (choices_of chosen) ≡ None → IsFirstPreferredSelection pool (choices_of chosen)
first_found pool has chosen turns search same end =
    let facts = pool_facts pool has in
    let t = choices_of_turns turns in
    let taken : AreTurnsFrom pool [] turns = subst (λ (p : SelectionProblem). AreTurnsFrom p [] turns) same search.taken in
    let clean : AreCompatible pool t = subst (λ (p : SelectionProblem). AreCompatible p t) same (subst (λ (z : List ℕ). AreCompatible (pool_of chosen) z) search.choices search.clean) in
    let none : next_need pool t ≡ None = subst (λ (p : SelectionProblem). next_need p t ≡ None) same (subst (λ (z : List ℕ). next_need (pool_of chosen) z ≡ None) search.choices end) in
    let all = turns_found pool facts turns taken clean none in
    let found : IsFirstPreferredSelection pool t = record {
      satisfies = satisfying_of_closed pool t all.0;
      walked = all.1;
      first = λ selection walk satisfies walked. all.2 selection walk (closed_of_satisfying pool selection satisfies) walked;
    } in
    subst (λ (z : List ℕ). IsFirstPreferredSelection pool z) (sym search.choices) found

pub none_satisfies : (pool : SelectionProblem) → IsReason pool [] → (selection : List ℕ) → IsSatisfying pool selection → ⊥
none_satisfies pool dead selection satisfies = dead selection (closed_of_satisfying pool selection satisfies) (λ c h. absurd h)
