use Rattle.std.proofs.Common.{◌≡◌, ◌∙◌, ℕ, Bool, List, [], ◌∷◌, ◌++◌, Bor, Result, Ok, Err, ap, sym, map, refl}
use Rattle.std.specs.Prelude.{IfOk}
use Rattle.std.specs.declared.alloc.AllocError.{AllocError}
use Rattle.change_report.specs.change_outcome.ChangeOutcome.{name_if_needed}
use Rattle.base_core.specs.ByteOrder.{bytes_cmp}
use Rattle.base_core.specs.Sorted.{sorted_by}
use Rattle.root_names.specs.RootNames.{text_database_name}
use Rattle.engine_core.proofs.Lists.{map_more}
use Rattle.engine_core.proofs.Once.{once_ordered}
use Rattle.engine_core.proofs.removals.removals_of.Goals.{then-takes_text_over+in_ok-push, else-takes_text_over}
use Rattle.engine_core.proofs.removals.removals_of.Goals as goal

name_of : Bor (List ℕ) → List ℕ
name_of n = n.now

with_nothing : {X : Type 0} (xs : List X) → xs ≡ xs ++ []
with_nothing [] = refl
with_nothing (x ∷ xs) = ap (λ l. x ∷ l) (with_nothing xs)

made : (r : Result (List (List ℕ)) AllocError) (copies names : List (List ℕ)) → copies ≡ names → IfOk r (λ a. a ≡ copies) → IfOk r (λ a. a ≡ names)
made (Ok a) copies names same is = is ∙ same
made (Err e) copies names same is = tt

pub returns : goal.returns
returns c =
    let planned = c.args.planned.now in
    let wanted = λ (b : Bool). planned ++ name_if_needed b text_database_name in
    let first : map (λ (n : Bor (List ℕ)). n.now) c.push_each.new.names.items ≡ planned = c.in_ok-push_each.ensures ∙ ap (λ (l : List (Bor (List ℕ))). map (λ (n : Bor (List ℕ)). n.now) l ++ planned) c.new-names.ensures.items in
    let all : map (λ (n : Bor (List ℕ)). n.now) c.if-takes_text_over.names.items ≡ wanted c.args.takes_text_over =
    elim c.if-takes_text_over.branch [
      | then-takes_text_over+in_ok-push w ↦ ap (λ v. map (λ (n : Bor (List ℕ)). n.now) v.items) w.names-is ∙ ap (map (λ (n : Bor (List ℕ)). n.now)) w.in_ok-push.ensures.items
          ∙ map_more (λ (n : Bor (List ℕ)). n.now) c.push_each.new.names.items _
          ∙ ap (λ (l : List (List ℕ)). l ++ c.in_ok-text_name.text_name ∷ []) first
          ∙ ap (λ (t : List ℕ). planned ++ t ∷ []) c.in_ok-text_name.ensures
          ∙ ap wanted (sym w.if-takes_text_over.true)
      | else-takes_text_over w ↦ ap (λ v. map (λ (n : Bor (List ℕ)). n.now) v.items) w.names-is ∙ first ∙ with_nothing planned ∙ ap wanted (sym w.if-takes_text_over.false)
    ] in
    made c.copies_of.result (map (λ (n : Bor (List ℕ)). n.now) c.deref.result.now) _
    (ap (map (λ (n : Bor (List ℕ)). n.now)) c.deref.ensures.value ∙ c.in_ok-sort_names.ensures ∙ ap (sorted_by bytes_cmp) all ∙ once_ordered (wanted c.args.takes_text_over) c.requires) c.copies_of.ensures
