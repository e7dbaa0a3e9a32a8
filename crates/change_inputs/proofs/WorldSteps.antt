-- World, operand by operand.
use Rattle.std.proofs.Common.{◌≡◌, ℕ, ◌+◌, ◌≤◌, List, [], ◌∷◌, ◌++◌, length, map, drop, take, take_all, Some, sym, ap, ◌∙◌}
use Rattle.std.proofs.Math.ListN.{drop_of_length-le}
use Rattle.std.proofs.lemmas.List.{map-append, take_more}
use Rattle.std.proofs.lemmas.Option.{get_or_from_slice_get, slice_get_within}
use Rattle.std.specs.List.{slice_get}
use Rattle.command_core.specs.declared.operands.Operand.{Operand}
use Rattle.dep_core.specs.Dependency.{Dependency}
use Rattle.command_core.proofs.Entries.{left_at}
use Rattle.change_inputs.specs.World.{world_with_operand, world_with_operands}

abbrev pub IsAdded : List Operand → ℕ → List Dependency → List Dependency → Type 0
IsAdded os i start now = world_with_operands os start ≡ world_with_operands (drop i os) now

pub added_more : (os : List Operand) (i : ℕ) (o : Operand) (start now next : List Dependency) → slice_get os i ≡ Some o → next ≡ world_with_operand o now → IsAdded os i start now → IsAdded os (i + 1) start next
added_more os i o start now next at is so_far =
    so_far ∙ (ap (λ (l : List Operand). world_with_operands l now) (left_at os i o at) ∙ ap (world_with_operands (drop (i + 1) os)) (sym is))

pub added_all : (os : List Operand) (i : ℕ) (start now : List Dependency) → length os ≤ i → IsAdded os i start now → now ≡ world_with_operands os start
added_all os i start now past so_far = sym (so_far ∙ ap (λ (l : List Operand). world_with_operands l now) (drop_of_length-le os past))

-- ---- the texts of operands

pub texts_more : (os : List Operand) (i : ℕ) (o : Operand) (texts : List (List ℕ)) → slice_get os i ≡ Some o → texts ≡ map (λ (p : Operand). p.text) (take i os)
    → texts ++ o.text ∷ [] ≡ map (λ (p : Operand). p.text) (take (i + 1) os)
texts_more os i o texts at is =
    let text : Operand → List ℕ = λ p. p.text in
    ap (λ (l : List (List ℕ)). l ++ o.text ∷ []) is
    ∙ sym (ap (map text) (take_more os i o (slice_get_within os i o at) ∙ ap (λ (p : Operand). take i os ++ p ∷ []) (get_or_from_slice_get os i o o at)) ∙ map-append text (take i os) (o ∷ []))

pub texts_all : (os : List Operand) (i : ℕ) (texts : List (List ℕ)) → length os ≤ i → texts ≡ map (λ (p : Operand). p.text) (take i os) → texts ≡ map (λ (p : Operand). p.text) os
texts_all os i texts past is = is ∙ ap (map (λ (p : Operand). p.text)) (take_all i os past)
