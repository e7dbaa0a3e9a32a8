-- Two worlds with the same entries are one.
use Rattle.std.proofs.Common.{◌≡◌, ◌↔◌, true, List, [], ◌∷◌, inl, inr, refl, ap, sym, ◌∙◌}
use Rattle.engine_core.specs.adb_fields.FirstPair.{IsIn}
use Rattle.command_core.specs.declared.command.Applet.{Applet}
use Rattle.command_core.specs.declared.command.Applet.TheVariants as Applets
use Rattle.command_core.specs.declared.operands.Operand.{Operand}
use Rattle.dep_core.specs.Dependency.{Dependency}
use Rattle.dep_core.specs.World.{IsWorldSortedByName, is_in_order}
use Rattle.dep_core.proofs.Places.{in_order}
use Rattle.definition_laws.specs.worlds.NewWorld.{IsWorldAfterApplet}
use Rattle.definition_laws.proofs.worlds.NewWorlds.{after_other, other_less, tail_in_order, behind_first}

AllOf : List Dependency → List Dependency → Type 0
AllOf a b = (d : Dependency) → IsIn d a → IsIn d b

one_first : (x y : Dependency) (a b : List Dependency) → is_in_order (x ∷ a) ≡ true → is_in_order (y ∷ b) ≡ true → IsIn x (y ∷ b) → IsIn y (x ∷ a) → x ≡ y
one_first x y a b h k (inl is) there = is
one_first x y a b h k (inr here) (inl is) = sym is
one_first x y a b h k (inr here) (inr there) = absurd (behind_first x y a h there (after_other y b x k here))

tail_of : (x y : Dependency) (a b : List Dependency) → x ≡ y → is_in_order (x ∷ a) ≡ true → AllOf (x ∷ a) (y ∷ b) → AllOf a b
unfolding AllOf
tail_of x y a b same h all d here = by (all d (inr here))
  where
    by : IsIn d (y ∷ b) → IsIn d b
    by (inl is) = absurd (other_less x.name d.name (after_other x a d h here) (ap (λ (e : Dependency). e.name) (is ∙ sym same)))
    by (inr there) = there

same_entries : (a b : List Dependency) → is_in_order a ≡ true → is_in_order b ≡ true → AllOf a b → AllOf b a → a ≡ b
unfolding AllOf
same_entries [] [] h k all back = refl
same_entries [] (y ∷ b) h k all back = absurd (back y (inl refl))
same_entries (x ∷ a) [] h k all back = absurd (all x (inl refl))
same_entries (x ∷ a) (y ∷ b) h k all back =
    let same : x ≡ y = one_first x y a b h k (all x (inl refl)) (back y (inl refl)) in
    let rest : a ≡ b = same_entries a b (tail_in_order x a h) (tail_in_order y b k) (tail_of x y a b same h all) (tail_of y x b a (sym same) k back) in
    ap (λ (e : Dependency). e ∷ a) same ∙ ap (λ (l : List Dependency). y ∷ l) rest

-- by what each entry is known by
by_entries : (IsOne : Dependency → Type 0) (a b : List Dependency) → IsWorldSortedByName a → IsWorldSortedByName b → ((d : Dependency) → IsIn d a ↔ IsOne d) → ((d : Dependency) → IsIn d b ↔ IsOne d) → a ≡ b
unfolding AllOf
by_entries IsOne a b h k f g =
    same_entries a b (in_order a h) (in_order b k) (λ d here. (g d).1 ((f d).0 here)) (λ d here. (f d).1 ((g d).0 here))

pub one_world : (applet : Applet) (os : List Operand) (w a b : List Dependency) → IsWorldAfterApplet applet os w a → IsWorldAfterApplet applet os w b → a ≡ b
one_world Applets.Add os w a b f g = by_entries _ a b f.world g.world f.entries g.entries
one_world Applets.Del os w a b f g = by_entries _ a b f.world g.world f.entries g.entries
one_world other os w a b f g = f ∙ sym g
