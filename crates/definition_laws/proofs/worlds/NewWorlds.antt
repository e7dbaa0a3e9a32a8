-- The entries of a world with one more and one less, operand by operand.
use Rattle.std.proofs.Common.{◌≡◌, ◌≢◌, ◌⊎◌, ℕ, Bool, true, false, true≢false, not, List, [], ◌∷◌, ◌++◌, Option, Some, None, Ordering, cond, inl, inr, refl, ap, sym, ◌∙◌, subst}
use Rattle.std.specs.List.{list_all}
use Rattle.std.specs.Option.{option_map_or}
use Rattle.std.specs.Ordering.{match_ordering, ordering_reverse}
use Rattle.std.specs.Str.{bytes_eq}
use Rattle.std.specs.declared.cmp.Ordering.TheVariants.{Less, Equal, Greater}
use Rattle.std.proofs.lemmas.Bool.{and_parts}
use Rattle.std.proofs.lemmas.Slice.Eq.{bytes_eq-Decides}
use Rattle.engine_core.specs.adb_fields.FirstPair.{IsIn}
use Rattle.engine_core.specs.change_inputs.World.{new_world, world_with_operands, world_without_operands}
use Rattle.command_core.specs.declared.command.Applet.{Applet}
use Rattle.command_core.specs.declared.command.Applet.TheVariants as Applets
use Rattle.command_core.specs.declared.operands.Operand.{Operand}
use Rattle.dep_core.specs.Dependency.{Dependency}
use Rattle.dep_core.specs.Reading.{dependency_of}
use Rattle.dep_core.specs.World.{IsWorldSortedByName, is_in_order, world_with_dependency_put_in_name_order, world_without_name}
use Rattle.dep_core.proofs.ReadOut.{read-out}
use Rattle.dep_core.proofs.Worlds.{IsWorldSortedByName-world_with_dependency_put_in_name_order, IsWorldSortedByName-without, cmp-equal, is_behind}
use Rattle.dep_core.proofs.Places.{in_order}
use Rattle.base_core.specs.ByteOrder.{bytes_cmp}
use Rattle.base_core.proofs.Orderings.{is_less, names_total}
use Rattle.definition_laws.specs.worlds.NewWorld.{IsWorldAfterAdd, IsWorldAfterDel, IsWorldAfterApplet, IsAddedDependency, IsDependencyOfNoOperand, IsNoOperand}

-- ---- order

all_in : (P : Dependency → Bool) (w : List Dependency) (x : Dependency) → list_all P w ≡ true → IsIn x w → P x ≡ true
all_in P [] x h here = absurd here
all_in P (e ∷ rest) x h (inl is) = ap P is ∙ (and_parts (P e) (list_all P rest) h).0
all_in P (e ∷ rest) x h (inr more) = all_in P rest x (and_parts (P e) (list_all P rest) h).1 more

is_self : (o : Ordering) → o ≡ ordering_reverse o → o ≡ Equal
is_self Less e = absurd (cc (e))
is_self Equal e = refl
is_self Greater e = absurd (cc (e))

self : (a : List ℕ) → bytes_cmp a a ≡ Equal
self a = is_self (bytes_cmp a a) (names_total.antisymm a a)

pub other_less : (a b : List ℕ) → bytes_cmp a b ≡ Less → b ≢ a
other_less a b less same = let e : Less ≡ Equal = sym less ∙ (ap (bytes_cmp a) same ∙ self a) in absurd (cc (e))

other_greater : (a b : List ℕ) → bytes_cmp a b ≡ Greater → b ≢ a
other_greater a b greater same = let e : Greater ≡ Equal = sym greater ∙ (ap (bytes_cmp a) same ∙ self a) in absurd (cc (e))

-- no entry behind the first has its name
pub after_other : (e : Dependency) (rest : List Dependency) (x : Dependency) → is_in_order (e ∷ rest) ≡ true → IsIn x rest → bytes_cmp e.name x.name ≡ Less
after_other e rest x h here =
    let parts = and_parts (list_all (is_behind e.name) rest) (is_in_order rest) h in
    is_less (bytes_cmp e.name x.name) (all_in (is_behind e.name) rest x parts.0 here)

-- of two entries, one behind the other, only the second comes behind
pub behind_first : (x y : Dependency) (a : List Dependency) → is_in_order (x ∷ a) ≡ true → IsIn y a → bytes_cmp y.name x.name ≡ Less → ⊥
behind_first x y a h here less =
    other_less y.name y.name (names_total.trans y.name x.name y.name less (after_other x a y h here)) refl

-- each entry of a world has another name than one that comes before its first
before_other : (name : List ℕ) (e : Dependency) (rest : List Dependency) (x : Dependency) → bytes_cmp name e.name ≡ Less → is_in_order (e ∷ rest) ≡ true → IsIn x (e ∷ rest) → x.name ≢ name
before_other name e rest x less h (inl is) = λ same. other_less name e.name less (ap (λ (d : Dependency). d.name) (sym is) ∙ same)
before_other name e rest x less h (inr more) =
    other_less name x.name (names_total.trans name e.name x.name less (after_other e rest x h more))

pub tail_in_order : (e : Dependency) (rest : List Dependency) → is_in_order (e ∷ rest) ≡ true → is_in_order rest ≡ true
tail_in_order e rest h = (and_parts (list_all (is_behind e.name) rest) (is_in_order rest) h).1

-- ---- one entry more

-- it is the new one, or it stood and has another name
abbrev pub IsNewOr : Dependency → List Dependency → Dependency → Type 0
IsNewOr d w x = (x ≡ d) ⊎ (IsIn x w × (x.name ≢ d.name))

pub entry_to : (d : Dependency) (w : List Dependency) (x : Dependency) → is_in_order w ≡ true → IsIn x (world_with_dependency_put_in_name_order d w) → IsNewOr d w x
entry_to d [] x h (inl is) = inl is
entry_to d [] x h (inr none) = absurd none
entry_to d (e ∷ rest) x h here = by (bytes_cmp d.name e.name) refl here (entry_to d rest x (tail_in_order e rest h))
  where
    by : (o : Ordering) → bytes_cmp d.name e.name ≡ o → IsIn x (match_ordering o (d ∷ (e ∷ rest)) (d ∷ rest) (e ∷ world_with_dependency_put_in_name_order d rest)) → (IsIn x (world_with_dependency_put_in_name_order d rest) → IsNewOr d rest x) → IsNewOr d (e ∷ rest) x
    by Less c (inl is) more = inl is
    by Less c (inr stood) more = inr (stood, before_other d.name e rest x c h stood)
    by Equal c (inl is) more = inl is
    by Equal c (inr stood) more =
        inr (inr stood, λ same. other_less e.name x.name (after_other e rest x h stood) (same ∙ cmp-equal d.name e.name c))
    by Greater c (inl is) more = inr (inl is, λ same. other_greater d.name e.name c (ap (λ (f : Dependency). f.name) (sym is) ∙ same))
    by Greater c (inr further) more = elim (more further) [
      | inl is ↦ inl is
      | inr stood ↦ inr (inr stood.0, stood.1)
    ]

pub entry_from : (d : Dependency) (w : List Dependency) (x : Dependency) → IsNewOr d w x → IsIn x (world_with_dependency_put_in_name_order d w)
entry_from d [] x (inl is) = inl is
entry_from d [] x (inr stood) = absurd stood.0
entry_from d (e ∷ rest) x here = by (bytes_cmp d.name e.name) refl here (entry_from d rest x)
  where
    by : (o : Ordering) → bytes_cmp d.name e.name ≡ o → IsNewOr d (e ∷ rest) x → (IsNewOr d rest x → IsIn x (world_with_dependency_put_in_name_order d rest)) → IsIn x (match_ordering o (d ∷ (e ∷ rest)) (d ∷ rest) (e ∷ world_with_dependency_put_in_name_order d rest))
    by Less c (inl is) more = inl is
    by Less c (inr stood) more = inr stood.0
    by Equal c (inl is) more = inl is
    by Equal c (inr (inl is, other)) more = absurd (other (ap (λ (f : Dependency). f.name) is ∙ sym (cmp-equal d.name e.name c)))
    by Equal c (inr (inr stood, other)) more = inr stood
    by Greater c (inl is) more = inr (more (inl is))
    by Greater c (inr (inl is, other)) more = inl is
    by Greater c (inr (inr stood, other)) more = inr (more (inr (stood, other)))

-- ---- one name less

name_test : (name : List ℕ) → Dependency → Bool
name_test name d = not (bytes_eq d.name name)

pub left_to : (name : List ℕ) (w : List Dependency) (x : Dependency) → IsIn x (world_without_name name w) → IsIn x w × (name ≢ x.name)
left_to name [] x here = absurd here
left_to name (e ∷ rest) x here = by (bytes_eq e.name name) refl here (left_to name rest x)
  where
    by : (b : Bool) → bytes_eq e.name name ≡ b → IsIn x (cond (not b) (e ∷ world_without_name name rest) (world_without_name name rest)) → (IsIn x (world_without_name name rest) → IsIn x rest × (name ≢ x.name)) → IsIn x (e ∷ rest) × (name ≢ x.name)
    by true t here more = let further = more here in (inr further.0, further.1)
    by false t (inl is) more = (inl is, λ same. absurd (true≢false (sym ((bytes_eq-Decides e.name name).1 (ap (λ (f : Dependency). f.name) (sym is) ∙ sym same)) ∙ t)))
    by false t (inr here) more = let further = more here in (inr further.0, further.1)

pub left_from : (name : List ℕ) (w : List Dependency) (x : Dependency) → IsIn x w → name ≢ x.name → IsIn x (world_without_name name w)
left_from name [] x here other = absurd here
left_from name (e ∷ rest) x here other = by (bytes_eq e.name name) refl here (λ more. left_from name rest x more other)
  where
    by : (b : Bool) → bytes_eq e.name name ≡ b → IsIn x (e ∷ rest) → (IsIn x rest → IsIn x (world_without_name name rest)) → IsIn x (cond (not b) (e ∷ world_without_name name rest) (world_without_name name rest))
    by true t (inl is) more = absurd (other (sym ((bytes_eq-Decides e.name name).0 t) ∙ ap (λ (f : Dependency). f.name) (sym is)))
    by true t (inr here) more = more here
    by false t (inl is) more = inl is
    by false t (inr here) more = inr (more here)

-- ---- `add`, operand by operand

-- an operand is the dependency, and none behind it is one of the same name
abbrev AddedIn : List Operand → Dependency → Type 0
AddedIn [] d = ⊥
AddedIn (o ∷ os) d = ((dependency_of o.text ≡ Some d) × IsDependencyOfNoOperand d.name os) ⊎ AddedIn os d

added_to : (os : List Operand) (d : Dependency) → AddedIn os d → IsAddedDependency os d
added_to [] d none = absurd none
added_to (o ∷ os) d (inl here) = record {
  front = [];
  operand = o;
  behind = os;
  located = refl;
  says = here.0;
  last = here.1;
}
added_to (o ∷ os) d (inr more) =
    let further = added_to os d more in
    record {
      front = o ∷ further.front;
      operand = further.operand;
      behind = further.behind;
      located = ap (λ (l : List Operand). o ∷ l) further.located;
      says = further.says;
      last = further.last;
    }

added_at : (front : List Operand) (o : Operand) (behind : List Operand) (d : Dependency) → dependency_of o.text ≡ Some d → IsDependencyOfNoOperand d.name behind → AddedIn (front ++ o ∷ behind) d
added_at [] o behind d says last = inl (says, last)
added_at (f ∷ front) o behind d says last = inr (added_at front o behind d says last)

added_from : (os : List Operand) (d : Dependency) → IsAddedDependency os d → AddedIn os d
added_from os d a = subst (λ (l : List Operand). AddedIn l d) (sym a.located) (added_at a.front a.operand a.behind d a.says a.last)

-- what stands after `add`
abbrev StandsAfter : List Operand → List Dependency → Dependency → Type 0
StandsAfter os w x = AddedIn os x ⊎ (IsIn x w × IsDependencyOfNoOperand x.name os)

abbrev put_in : Option Dependency → List Dependency → List Dependency
put_in said w = option_map_or (λ d. world_with_dependency_put_in_name_order d w) said w

said_by : (o p : Operand) (d : Dependency) (said : Option Dependency) → dependency_of o.text ≡ said → p ≡ o → dependency_of p.text ≡ Some d → said ≡ Some d
said_by o p d said e at says = sym e ∙ (ap (λ (q : Operand). dependency_of q.text) (sym at) ∙ says)

none_more : (o : Operand) (os : List Operand) (name : List ℕ) (said : Option Dependency) → dependency_of o.text ≡ said → ((d : Dependency) → said ≡ Some d → d.name ≢ name) → IsDependencyOfNoOperand name os → IsDependencyOfNoOperand name (o ∷ os)
none_more o os name said e first none p d (inl at) says = first d (said_by o p d said e at says)
none_more o os name said e first none p d (inr behind) says = none p d behind says

is_put : (o : Operand) (w : List Dependency) → IsWorldSortedByName w → (said : Option Dependency) → dependency_of o.text ≡ said → IsWorldSortedByName (put_in said w)
is_put o w h None e = h
is_put o w h (Some d) e = IsWorldSortedByName-world_with_dependency_put_in_name_order d w (read-out o.text d e).0 h

pub world_added : (os : List Operand) (w : List Dependency) → IsWorldSortedByName w → IsWorldSortedByName (world_with_operands os w)
world_added [] w h = h
world_added (o ∷ os) w h = world_added os (put_in (dependency_of o.text) w) (is_put o w h (dependency_of o.text) refl)

stands_to : (os : List Operand) (w : List Dependency) (x : Dependency) → IsWorldSortedByName w → IsIn x (world_with_operands os w) → StandsAfter os w x
stands_to [] w x h here = inr (here, λ p d none. absurd none)
stands_to (o ∷ os) w x h here = by (dependency_of o.text) refl here (λ said e. stands_to os (put_in said w) x (is_put o w h said e))
  where
    by : (said : Option Dependency) → dependency_of o.text ≡ said → IsIn x (world_with_operands os (put_in said w))
        → ((said : Option Dependency) → dependency_of o.text ≡ said → IsIn x (world_with_operands os (put_in said w)) → StandsAfter os (put_in said w) x) → StandsAfter (o ∷ os) w x
    by None e here more = elim (more None e here) [
      | inl added ↦ inl (inr added)
      | inr stood ↦ inr (stood.0, none_more o os x.name None e (λ d says. absurd (cc (says))) stood.1)
    ]
    by (Some d) e here more = elim (more (Some d) e here) [
      | inl added ↦ inl (inr added)
      | inr stood ↦ elim (entry_to d w x (in_order w h) stood.0) [
        | inl is ↦ inl (inl (e ∙ ap Some (sym is), stood.1))
        | inr old ↦ inr (old.0, none_more o os x.name (Some d) e (λ f says. let same : d ≡ f = cc in λ alike. old.1 (sym alike ∙ ap (λ (g : Dependency). g.name) (sym same))) stood.1)
      ]
    ]

stands_from : (os : List Operand) (w : List Dependency) (x : Dependency) → StandsAfter os w x → IsIn x (world_with_operands os w)
stands_from [] w x (inl none) = absurd none
stands_from [] w x (inr stood) = stood.0
stands_from (o ∷ os) w x here = by (dependency_of o.text) refl here (λ said. stands_from os (put_in said w) x)
  where
    by : (said : Option Dependency) → dependency_of o.text ≡ said → StandsAfter (o ∷ os) w x
        → ((said : Option Dependency) → StandsAfter os (put_in said w) x → IsIn x (world_with_operands os (put_in said w))) → IsIn x (world_with_operands os (put_in said w))
    by None e (inl (inl (says, last))) more = let both : None ≡ Some x = sym e ∙ says in absurd (cc (both))
    by None e (inl (inr added)) more = more None (inl added)
    by None e (inr (stood, none)) more = more None (inr (stood, λ p d behind. none p d (inr behind)))
    by (Some d) e (inl (inl (says, last))) more =
        let both : Some d ≡ Some x = sym e ∙ says in
        let same : x ≡ d = cc in
        more (Some d) (inr (entry_from d w x (inl same), last))
    by (Some d) e (inl (inr added)) more = more (Some d) (inl added)
    by (Some d) e (inr (stood, none)) more =
        more (Some d) (inr (entry_from d w x (inr (stood, λ same. none o d (inl refl) e (sym same))), λ p f behind. none p f (inr behind)))

-- ---- `del`, operand by operand

pub world_left : (os : List Operand) (w : List Dependency) → IsWorldSortedByName w → IsWorldSortedByName (world_without_operands os w)
world_left [] w h = h
world_left (o ∷ os) w h = world_left os (world_without_name o.text w) (IsWorldSortedByName-without o.text w h)

others_to : (os : List Operand) (w : List Dependency) (x : Dependency) → IsIn x (world_without_operands os w) → IsIn x w × IsNoOperand x.name os
others_to [] w x here = (here, λ p none. absurd none)
others_to (o ∷ os) w x here =
    let further = others_to os (world_without_name o.text w) x here in
    let stood = left_to o.text w x further.0 in
    (stood.0, none stood.1 further.1)
  where
    none : o.text ≢ x.name → IsNoOperand x.name os → IsNoOperand x.name (o ∷ os)
    none first rest p (inl at) same = first (ap (λ (q : Operand). q.text) (sym at) ∙ same)
    none first rest p (inr behind) same = rest p behind same

others_from : (os : List Operand) (w : List Dependency) (x : Dependency) → IsIn x w → IsNoOperand x.name os → IsIn x (world_without_operands os w)
others_from [] w x stood none = stood
others_from (o ∷ os) w x stood none =
    others_from os (world_without_name o.text w) x (left_from o.text w x stood (none o (inl refl))) (λ p behind. none p (inr behind))

-- ---- each applet

holds_added : (os : List Operand) (w : List Dependency) → IsWorldSortedByName w → IsWorldAfterAdd os w (world_with_operands os w)
holds_added os w h = record {
  world = world_added os w h;
  entries = λ d. (
    λ here. elim (stands_to os w d h here) [
      | inl added ↦ inl (added_to os d added)
      | inr stood ↦ inr stood
    ],
    λ asked. elim asked [
      | inl added ↦ stands_from os w d (inl (added_from os d added))
      | inr stood ↦ stands_from os w d (inr stood)
    ],
  );
}

holds_others : (os : List Operand) (w : List Dependency) → IsWorldSortedByName w → IsWorldAfterDel os w (world_without_operands os w)
holds_others os w h = record {
  world = world_left os w h;
  entries = λ d. (λ here. others_to os w d here, λ stood. others_from os w d stood.0 stood.1);
}

pub holds_asked : (applet : Applet) (os : List Operand) (w : List Dependency) → IsWorldSortedByName w → IsWorldAfterApplet applet os w (new_world applet os w)
holds_asked Applets.Add os w h = holds_added os w h
holds_asked Applets.Del os w h = holds_others os w h
holds_asked other os w h = refl
