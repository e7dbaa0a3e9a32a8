-- The lines of changes with their numbers.
use Rattle.std.proofs.Common.{◌≡◌, ◌∙◌, ℕ, suc, zero, ◌+◌, List, [], ◌∷◌, ◌++◌, length, Some, refl, ap, arith}
use Rattle.std.specs.Prelude.{slice_get}
use Rattle.report_core.specs.Reports.{Change, change_lines, change_lines_from, numbered_change, report_line, report_lines}
use Rattle.definition_laws.specs.answers.WhichChange.{HasNumberedChangeLines}

lines_from : ℕ → ℕ → List Change → List (List ℕ)
lines_from number count [] = []
lines_from number count (change ∷ changes) = numbered_change number count change ∷ lines_from (number + 1) count changes

as_lines : (number count : ℕ) (changes : List Change) → change_lines_from number count changes ≡ report_lines (lines_from number count changes)
unfolding lines_from
as_lines number count [] = refl
as_lines number count (change ∷ changes) = ap (λ text. report_line (numbered_change number count change) ++ text) (as_lines (number + 1) count changes)

as_many : (number count : ℕ) (changes : List Change) → length (lines_from number count changes) ≡ length changes
unfolding lines_from
as_many number count [] = refl
as_many number count (change ∷ changes) = ap suc (as_many (number + 1) count changes)

at_place : (number count : ℕ) (changes : List Change) (i : ℕ) (change : Change) → slice_get changes i ≡ Some change
    → slice_get (lines_from number count changes) i ≡ Some (numbered_change (i + number) count change)
unfolding lines_from
at_place number count [] i change e = absurd cc
at_place number count (first ∷ changes) zero change e =
    let is : first ≡ change = cc in
    let sum : number ≡ 0 + number = omega arith in
    ap (λ c. Some (numbered_change number count c)) is ∙ ap (λ n. Some (numbered_change n count change)) sum
at_place number count (first ∷ changes) (suc i) change e =
    let sum : i + (number + 1) ≡ suc i + number = omega arith in
    at_place (number + 1) count changes i change e ∙ ap (λ n. Some (numbered_change n count change)) sum

pub numbered : (changes : List Change) → HasNumberedChangeLines changes (change_lines changes)
numbered changes = record {
  lines = lines_from 1 (length changes) changes;
  text_is = as_lines 1 (length changes) changes;
  count = as_many 1 (length changes) changes;
  each = at_place 1 (length changes) changes;
}
