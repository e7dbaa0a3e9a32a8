-- There is one choice.
use Rattle.std.proofs.Common.{◌≡◌, inl, inr, ℕ, ◌+◌, List, Option, Some, None, Result, Ok, Err, refl, sym, ap, subst, ◌∙◌, arith}
use Rattle.change_report.specs.candidate_core.Candidates.{Need, is_eligible}
use Rattle.change_report.specs.candidate_core.Options.{IsIn, places_passing_counted_from}
use Rattle.change_report.specs.candidate_core.Rank.{SelectionProblem}
use Rattle.change_report.proofs.candidate_core.OptionLists.{in_places}
use Rattle.report_core.specs.declared.refusal.Refusal.{Refusal}
use Rattle.change_report.specs.search_tables.Reasons.{HasOptions}
use Rattle.change_report.specs.search_tables.Selection.{IsFirstPreferredSelection}
use Rattle.change_report.proofs.solve_core.Existence.{first_or_none}
use Rattle.change_report.proofs.solve_core.FirstFound.{none_satisfies}
use Rattle.change_report.proofs.search_tables.PoolFacts.{pool_facts}
use Rattle.change_report.proofs.search_tables.Satisfying.{closed_of_satisfying, satisfying_of_closed}
use Rattle.engine_core.specs.Choice.{IsPreferredChoice, IsPreferredChoiceOrNoneIfRefused}

-- what a pool promises of the options of each need
abbrev pub HaveOptions : Type 0
HaveOptions = (pool : SelectionProblem) (need : Need) → HasOptions pool need

pool_choice : HaveOptions → (pool : SelectionProblem) → (chosen : Option (List ℕ)) × IsPreferredChoice pool chosen
pool_choice has pool =
    let facts = pool_facts pool (has pool) in
    let all = places_passing_counted_from 0 (is_eligible pool.world) pool.candidates in
    elim (first_or_none pool facts all (λ c h. let z : 0 + c ≡ c = omega arith in subst (λ (k : ℕ). IsIn k all) z (in_places 0 (is_eligible pool.world) pool.candidates c h))) [
      | inl found ↦ (
        Some found.0,
        record {
          satisfies = satisfying_of_closed pool found.0 found.1.0;
          walked = found.1.1;
          first = λ other walk o walked. found.1.2 other walk (closed_of_satisfying pool other o) walked;
        },
      )
      | inr dead ↦ (None, none_satisfies pool dead)
    ]

pub choice_exists : HaveOptions → (pool : Result SelectionProblem Refusal) → (chosen : Option (List ℕ)) × IsPreferredChoiceOrNoneIfRefused pool chosen
choice_exists has (Ok pool) = pool_choice has pool
choice_exists has (Err refusal) = (None, refl)

-- a pool has one first selection at most
abbrev pub HasOneFirst : Type 0
HasOneFirst = (pool : SelectionProblem) (trace other : List ℕ) → IsFirstPreferredSelection pool trace → IsFirstPreferredSelection pool other → trace ≡ other

pool_one : HasOneFirst → (pool : SelectionProblem) (a b : Option (List ℕ)) → IsPreferredChoice pool a → IsPreferredChoice pool b → a ≡ b
pool_one one pool None None x y = refl
pool_one one pool None (Some t) x y = absurd (x t y.satisfies)
pool_one one pool (Some t) None x y = absurd (y t x.satisfies)
pool_one one pool (Some t) (Some u) x y = ap Some (one pool t u x y)

pub choice_one : HasOneFirst → (pool : Result SelectionProblem Refusal) (a b : Option (List ℕ)) → IsPreferredChoiceOrNoneIfRefused pool a → IsPreferredChoiceOrNoneIfRefused pool b → a ≡ b
choice_one one (Ok pool) a b x y = pool_one one pool a b x y
choice_one one (Err refusal) a b x y = x ∙ sym y
