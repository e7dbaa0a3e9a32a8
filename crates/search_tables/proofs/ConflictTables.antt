-- The conflicts of the choices, listed by name: one more, and the last one taken away.
use Rattle.std.proofs.Common.{◌≡◌, ◌≤◌, inl, inr, ℕ, zero, suc, ◌+◌, Bool, true, false, List, [], ◌∷◌, ◌++◌, map, take, length, length-append, arith, ◌-◌, refl, sym, subst, ap, ◌∙◌, append_assoc, append-nil}
use Rattle.std.specs.Prelude.{Some, None, find, slice_get, ◌&&◌, if◌then◌else◌}
use Rattle.std.specs.List.{filter}
use Rattle.std.proofs.lemmas.List.{length-map, map-append, take_all}
use Rattle.std.specs.Str.{bytes_eq}
use Rattle.std.proofs.lemmas.Bool.{cases_Bool}
use Rattle.dep_core.specs.Dependency.{Dependency}
use Rattle.pool_core.specs.candidate_core.Candidates.{Candidate}
use Rattle.pool_core.specs.candidate_core.Options.{IsIn}
use Rattle.pool_core.specs.candidate_core.Rank.{SelectionProblem}
use Rattle.pool_core.proofs.candidate_core.Steps.{take_one_more}
use Rattle.search_tables.specs.Conflicts.{AreConflictsOf, IsConflictOf, ListedConflictValue, conflicts_among, conflicts_in, conflicts_of_name_in, conflict_without_index}
use Rattle.search_tables.specs.Excluders.{IsConflictTable}
use Rattle.search_tables.specs.NameTable.{items_under_name, without_last}
use Rattle.search_tables.specs.Selection.{depends_at}
use Rattle.search_tables.specs.declared.conflicts.Conflicts.{Conflicts}
use Rattle.search_tables.proofs.Queued.{filtered, flat_more, mapped, take_front}
use Rattle.search_tables.proofs.Theory.{in_append}

abbrev Listed : Type 0
Listed = ℕ × Dependency

pub named_more : (name : List ℕ) (by : ℕ) (xs ys : List Dependency) → conflicts_of_name_in name by (xs ++ ys) ≡ conflicts_of_name_in name by xs ++ conflicts_of_name_in name by ys
named_more name by xs ys =
    ap (map (λ (d : Dependency). (by, d))) (filtered (λ (d : Dependency). d.conflict && bytes_eq name d.name) xs ys)
    ∙ mapped (λ (d : Dependency). (by, d)) (filter (λ (d : Dependency). d.conflict && bytes_eq name d.name) xs) (filter (λ (d : Dependency). d.conflict && bytes_eq name d.name) ys)

-- one that is no conflict
pub none_named : (name : List ℕ) (by : ℕ) (d : Dependency) → d.conflict ≡ false → conflicts_of_name_in name by (d ∷ []) ≡ []
none_named name by d e = rw e refl

-- one that is a conflict
pub one_named : (name : List ℕ) (by : ℕ) (d : Dependency) → d.conflict ≡ true → conflicts_of_name_in name by (d ∷ []) ≡ (if bytes_eq name d.name then (by, d) ∷ [] else [])
one_named name by d e = elim (cases_Bool (bytes_eq name d.name)) [ inl t ↦ rw (e, t) refl | inr t ↦ rw (e, t) refl ]

-- a step of a loop that adds the conflicts of some dependencies
pub listed_on : (name : List ℕ) (by : ℕ) (deps : List Dependency) (i : ℕ) (d : Dependency) (start before after : List Listed) → slice_get deps i ≡ Some d → before ≡ start ++ conflicts_of_name_in name by (take i deps) → after ≡ before ++ conflicts_of_name_in name by (d ∷ []) → after ≡ start ++ conflicts_of_name_in name by (take (i + 1) deps)
listed_on name by deps i d start before after here was is =
    is ∙ (ap (λ (z : List Listed). z ++ conflicts_of_name_in name by (d ∷ [])) was
    ∙ (append_assoc start (conflicts_of_name_in name by (take i deps)) (conflicts_of_name_in name by (d ∷ []))
    ∙ ap (λ (z : List Listed). start ++ z) (sym (named_more name by (take i deps) (d ∷ [])) ∙ ap (conflicts_of_name_in name by) (sym (take_one_more deps i d here)))))

without_last_of : {X : Type 0} (xs : List X) (x : X) → without_last (xs ++ x ∷ []) ≡ xs
without_last_of xs x = take_front xs (x ∷ []) (length (xs ++ x ∷ []) - 1) (omega (arith, length-append xs (x ∷ [])))

map_take : {X Y : Type 0} (f : X → Y) (n : ℕ) (xs : List X) → map f (take n xs) ≡ take n (map f xs)
map_take f zero [] = refl
map_take f zero (x ∷ xs) = refl
map_take f (suc n) [] = refl
map_take {X} {Y} f (suc n) (x ∷ xs) = ap (λ (z : List Y). f x ∷ z) (map_take f n xs)

without_last_map : {X Y : Type 0} (f : X → Y) (xs : List X) → map f (without_last xs) ≡ without_last (map f xs)
without_last_map f xs = map_take f (length xs - 1) xs ∙ ap (λ (n : ℕ). take (n - 1) (map f xs)) (sym (length-map xs f))

-- one conflict more is listed
pub one_listed : (name : List ℕ) (listed : ListedConflictValue) (old new : List (List ℕ × List ListedConflictValue)) → listed.1.conflict ≡ true → items_under_name new name ≡ items_under_name old name ++ (if bytes_eq name listed.1.name then listed ∷ [] else []) → conflicts_in new name ≡ conflicts_in old name ++ conflicts_of_name_in name listed.0 (listed.1 ∷ [])
one_listed name listed old new conflict is =
    ap (map conflict_without_index) is
    ∙ (map-append conflict_without_index (items_under_name old name) (if bytes_eq name listed.1.name then listed ∷ [] else [])
    ∙ ap (λ (z : List Listed). conflicts_in old name ++ z) (alone (bytes_eq name listed.1.name) ∙ sym (one_named name listed.0 listed.1 conflict)))
  where
    alone : (b : Bool) → map conflict_without_index (if b then listed ∷ [] else []) ≡ (if b then (listed.0, listed.1) ∷ [] else [])
    alone true = refl
    alone false = refl

-- one that is no conflict is not
pub none_listed : (name : List ℕ) (by : ℕ) (d : Dependency) (old : List (List ℕ × List ListedConflictValue)) → d.conflict ≡ false → conflicts_in old name ≡ conflicts_in old name ++ conflicts_of_name_in name by (d ∷ [])
none_listed name by d old none = sym (ap (λ (z : List Listed). conflicts_in old name ++ z) (none_named name by d none) ∙ append-nil (conflicts_in old name))

in_take : {X : Type 0} (x : X) (n : ℕ) (xs : List X) → IsIn x (take n xs) → IsIn x xs
in_take x zero [] h = absurd h
in_take x zero (y ∷ ys) h = absurd h
in_take x (suc n) [] h = absurd h
in_take x (suc n) (y ∷ ys) h = elim h [ inl e ↦ inl e | inr g ↦ inr (in_take x n ys g) ]

-- what a table lists is right with one item more, and without the last of a name
module _ (candidates : List Candidate) (old new : List (List ℕ × List ListedConflictValue)) (name : List ℕ) (right : AreConflictsOf candidates old) where
  pub conflicts_more : (item : ListedConflictValue) → IsConflictOf candidates item → ((other : List ℕ) → items_under_name new other ≡ items_under_name old other ++ (if bytes_eq other name then item ∷ [] else [])) → AreConflictsOf candidates new
  conflicts_more item here is other listed h =
      elim (in_append listed (items_under_name old other) (if bytes_eq other name then item ∷ [] else []) (subst (λ (z : List ListedConflictValue). IsIn listed z) (is other) h)) [
        | inl a ↦ right other listed a
        | inr b ↦ added (bytes_eq other name) b
      ]
    where
      added : (t : Bool) → IsIn listed (if t then item ∷ [] else []) → IsConflictOf candidates listed
      added true h = elim h [ inl e ↦ subst (IsConflictOf candidates) (sym e) here | inr bad ↦ absurd bad ]
      added false h = absurd h

  pub conflicts_less : ((other : List ℕ) → items_under_name new other ≡ (if bytes_eq other name then without_last (items_under_name old other) else items_under_name old other)) → AreConflictsOf candidates new
  conflicts_less is other listed h = right other listed (kept (bytes_eq other name) (subst (λ (z : List ListedConflictValue). IsIn listed z) (is other) h))
    where
      kept : (t : Bool) → IsIn listed (if t then without_last (items_under_name old other) else items_under_name old other) → IsIn listed (items_under_name old other)
      kept true h = in_take listed (length (items_under_name old other) - 1) (items_under_name old other) h
      kept false h = h

-- where the last dependency is a conflict, it is taken away
pub taken_away : (d : Dependency) (by : ℕ) (front : List ℕ → List Listed) (old new : List (List ℕ × List ListedConflictValue)) → d.conflict ≡ true → ((name : List ℕ) → conflicts_in old name ≡ front name ++ conflicts_of_name_in name by (d ∷ [])) → ((other : List ℕ) → items_under_name new other ≡ (if bytes_eq other d.name then without_last (items_under_name old other) else items_under_name old other)) → (name : List ℕ) → conflicts_in new name ≡ front name
taken_away d by front old new conflict was is name =
    let found = is name in
    elim (cases_Bool (bytes_eq name d.name)) [
      | inl t ↦
          let there : items_under_name new name ≡ without_last (items_under_name old name) = rw t at found in
          let here : conflicts_in new name ≡ without_last (conflicts_in old name) = ap (map conflict_without_index) there ∙ without_last_map conflict_without_index (items_under_name old name) in
          let one : conflicts_of_name_in name by (d ∷ []) ≡ (by, d) ∷ [] = rw (conflict, t) refl in
          here ∙ (ap without_last (was name ∙ ap (λ (z : List Listed). front name ++ z) one) ∙ without_last_of (front name) (by, d))
      | inr t ↦
          let there : items_under_name new name ≡ items_under_name old name = rw t at found in
          let none : conflicts_of_name_in name by (d ∷ []) ≡ [] = rw (conflict, t) refl in
          ap (map conflict_without_index) there ∙ (was name ∙ (ap (λ (z : List Listed). front name ++ z) none ∙ append-nil (front name)))
    ]

-- if it is none, nothing changes
pub stays : (d : Dependency) (by : ℕ) (front : List ℕ → List Listed) (old : List (List ℕ × List ListedConflictValue)) → d.conflict ≡ false → ((name : List ℕ) → conflicts_in old name ≡ front name ++ conflicts_of_name_in name by (d ∷ [])) → (name : List ℕ) → conflicts_in old name ≡ front name
stays d by front old none was name = was name ∙ (ap (λ (z : List Listed). front name ++ z) (none_named name by d none) ∙ append-nil (front name))

-- the front of a step of a loop that takes conflicts away
pub front_of_last : (name : List ℕ) (by : ℕ) (deps : List Dependency) (i : ℕ) (d : Dependency) (start items : List Listed) → slice_get deps i ≡ Some d → items ≡ start ++ conflicts_of_name_in name by (take (i + 1) deps) → items ≡ (start ++ conflicts_of_name_in name by (take i deps)) ++ conflicts_of_name_in name by (d ∷ [])
front_of_last name by deps i d start items here is =
    is ∙ (ap (λ (z : List Listed). start ++ z) (ap (conflicts_of_name_in name by) (take_one_more deps i d here) ∙ named_more name by (take i deps) (d ∷ []))
    ∙ sym (append_assoc start (conflicts_of_name_in name by (take i deps)) (conflicts_of_name_in name by (d ∷ []))))

-- if none is left to be taken away
pub nothing_left : (name : List ℕ) (by : ℕ) (deps : List Dependency) (i : ℕ) (start items : List Listed) → i ≡ 0 → items ≡ start ++ conflicts_of_name_in name by (take i deps) → items ≡ start
nothing_left name by deps i start items none is =
    is ∙ (ap (λ (z : List Dependency). start ++ conflicts_of_name_in name by z) (ap (λ (k : ℕ). take k deps) none ∙ take_none deps) ∙ append-nil start)
  where
    take_none : (xs : List Dependency) → take 0 xs ≡ []
    take_none [] = refl
    take_none (x ∷ xs) = refl

-- ---- a choice more, and the last one taken back

pub among_more : (pool : SelectionProblem) (t : List ℕ) (c : ℕ) (name : List ℕ) → conflicts_among pool (t ++ c ∷ []) name ≡ conflicts_among pool t name ++ conflicts_of_name_in name c (depends_at pool c)
among_more pool t c name = flat_more (λ k. conflicts_of_name_in name k (depends_at pool k)) t c

pub listed_more : (pool : SelectionProblem) (t : List ℕ) (c : ℕ) (deps : List Dependency) (old new : Conflicts) → deps ≡ depends_at pool c → IsConflictTable pool t old → ((name : List ℕ) → conflicts_in new.by_name name ≡ conflicts_in old.by_name name ++ conflicts_of_name_in name c deps) → IsConflictTable pool (t ++ c ∷ []) new
listed_more pool t c deps old new same was is name =
    is name ∙ (ap (λ (z : List Listed). z ++ conflicts_of_name_in name c deps) (was name)
    ∙ (ap (λ (z : List Dependency). conflicts_among pool t name ++ conflicts_of_name_in name c z) same ∙ sym (among_more pool t c name)))

-- ---- the first conflict of a list that passes a test

module _ {X Y : Type 0} (p : Y → Bool) (f : X → Y) where
  -- none in front of the first
  pub none_yet : (xs : List X) → find p (map f (take 0 xs)) ≡ None
  none_yet [] = refl
  none_yet (x ∷ xs) = refl

  -- one that passes after some that do not
  pub first_at : (xs : List X) (i : ℕ) (x : X) → slice_get xs i ≡ Some x → find p (map f (take i xs)) ≡ None → p (f x) ≡ true → find p (map f xs) ≡ Some (f x)
  first_at [] zero x h none passes = absurd (cc)
  first_at [] (suc i) x h none passes = absurd (cc)
  first_at (y ∷ xs) zero x h none passes =
      let s : y ≡ x = cc in
      let t : p (f y) ≡ true = ap (λ (z : X). p (f z)) s ∙ passes in
      rw t (ap (λ (z : X). Some (f z)) s)
  first_at (y ∷ xs) (suc i) x h none passes = elim (cases_Bool (p (f y))) [
    | inl t ↦ let bad : Some (f y) ≡ None = rw t at none in absurd (cc)
    | inr t ↦ rw t (first_at xs i x h (rw t at none) passes)
  ]

  -- one more that does not pass
  pub none_more : (xs : List X) (i : ℕ) (x : X) → slice_get xs i ≡ Some x → find p (map f (take i xs)) ≡ None → p (f x) ≡ false → find p (map f (take (i + 1) xs)) ≡ None
  none_more xs i x h none fails =
      ap (λ (z : List X). find p (map f z)) (take_one_more xs i x h)
      ∙ (ap (find p) (map-append f (take i xs) (x ∷ [])) ∙ behind (map f (take i xs)) none)
    where
      behind : (ys : List Y) → find p ys ≡ None → find p (ys ++ f x ∷ []) ≡ None
      behind [] h = rw fails refl
      behind (y ∷ ys) h = elim (cases_Bool (p y)) [
        | inl t ↦ let bad : Some y ≡ None = rw t at h in absurd (cc)
        | inr t ↦ rw t (behind ys (rw t at h))
      ]

  -- none of all
  pub none_of_all : (xs : List X) (i : ℕ) → length xs ≤ i → find p (map f (take i xs)) ≡ None → find p (map f xs) ≡ None
  none_of_all xs i past none = ap (λ (z : List X). find p (map f z)) (sym (take_all i xs past)) ∙ none
