-- Where names stand in a table, and what it has after a change.
use Rattle.std.proofs.Common.{◌≡◌, ◌≢◌, ⊎_elim, ℕ, zero, suc, ◌+◌, ◌-◌, ◌<◌, ◌≤◌, Bool, true, false, cond, List, [], ◌∷◌, ◌++◌, length, set, get_or, take, drop, Option, None, Some, IsSome, Result, Ok, Err, IfOk, IfErr, refl, sym, ap, subst, ◌∙◌, arith, add-one}
use Rattle.std.specs.List.{insert, remove}
use Rattle.std.specs.List.Sorted.{IsBinarySearchResult, IsSearchInRange, IsNonDecreasingBy}
use Rattle.std.specs.Ordering.{nat_cmp, ordering_index, ordering_reverse, is_lt}
use Rattle.std.specs.Cmp.Lexicographic.{slice_cmp}
use Rattle.std.specs.Str.{bytes_eq}
use Rattle.std.specs.declared.cmp.Ordering.{Ordering}
use Rattle.std.specs.declared.cmp.Ordering.TheVariants.{Less, Equal, Greater}
use Rattle.std.proofs.lemmas.Cmp.{nat_list_cmp_total, tied_itself}
use Rattle.std.proofs.lemmas.Map.Lookups.{exact_bytes}
use Rattle.std.proofs.lemmas.List.Sorted.{searchable_from_sorted}
use Rattle.std.proofs.lemmas.List.Quantifiers.{all_pairs_remove}
use Rattle.std.proofs.lemmas.List.Edits.{length-insert, get_or-insert_below, get_or-insert_at, get_or-insert_above}
use Rattle.std.proofs.lemmas.Bool.{cases_lt, cases_eq}
use Rattle.base_core.specs.Files.{put_name, drop_name}
use Rattle.base_core.proofs.AtName.{other_name, same_name, name_cases}
use Rattle.base_core.proofs.Options.{none_at}
use Rattle.tree_memory.specs.Table.{IsSortedNameTable, lookup, IsNameAtPlace, IsInsertionPlace}
use Rattle.tree_memory.proofs.AtName.{is_name}
use Rattle.tree_memory.specs.declared.table.NameAndFile.{NameAndFile}

flipped : (p q : List ℕ) (o : Ordering) → slice_cmp nat_cmp p q ≡ o → slice_cmp nat_cmp q p ≡ ordering_reverse o
flipped p q o is = nat_list_cmp_total.antisymm q p ∙ ap ordering_reverse is

-- the names of a table may be searched in halves
pub searchable : (es : List NameAndFile) (x : List ℕ) → IsSortedNameTable es → IsNonDecreasingBy (λ (e : NameAndFile). ordering_index (slice_cmp nat_cmp e.name x)) es
searchable es x table =
    searchable_from_sorted nat_list_cmp_total (λ (e : NameAndFile). e.name) es x (λ k d low high. ap is_lt (flipped (get_or es k d).name (get_or es (k + 1) d).name Less (table k (k + 1) d (omega arith) high)))

pub named_from : (es : List NameAndFile) (name : List ℕ) (r : Result ℕ ℕ) → IsSearchInRange r (length es) → IsBinarySearchResult (λ (e : NameAndFile). slice_cmp nat_cmp e.name name) es r → IfOk r (λ i. IsNameAtPlace es i name)
named_from es name (Ok i) within found = record { within = within; here = λ d. exact_bytes _ _ (found d) }
named_from es name (Err i) within found = tt

pub place_from : (es : List NameAndFile) (name : List ℕ) (r : Result ℕ ℕ) → IsSortedNameTable es → IsSearchInRange r (length es) → IsBinarySearchResult (λ (e : NameAndFile). slice_cmp nat_cmp e.name name) es r → IfErr r (λ i. IsInsertionPlace es i name)
place_from es name (Ok i) table within found = tt
place_from es name (Err i) table within found = let point = found (searchable es name table) in record { within = within; before = point.0; behind = point.1 }

-- no two entries have one name
pub apart : (es : List NameAndFile) → IsSortedNameTable es → (i j : ℕ) (d : NameAndFile) → i < j → j < length es → (get_or es i d).name ≢ (get_or es j d).name
apart es table i j d below within = λ same.
    let less : slice_cmp nat_cmp (get_or es i d).name (get_or es j d).name ≡ Less = table i j d below within in
    let tied : slice_cmp nat_cmp (get_or es j d).name (get_or es j d).name ≡ Equal = tied_itself nat_list_cmp_total (get_or es j d).name in
    let e : Less ≡ Equal = sym less ∙ ap (λ (p : List ℕ). slice_cmp nat_cmp p (get_or es j d).name) same ∙ tied in
    cc

-- ---- what is looked up

lookup_at : (es : List NameAndFile) (i : ℕ) (q : List ℕ) (d : NameAndFile) → i < length es → (get_or es i d).name ≡ q → ((j : ℕ) → j < i → (get_or es j d).name ≡ q → ⊥) → lookup es q ≡ Some (get_or es i d).file
lookup_at [] i q d within here others = absurd (omega arith)
lookup_at (e ∷ es) zero q d within here others = ap (λ b. cond b (Some e.file) (lookup es q)) (same_name q e.name (sym here))
lookup_at (e ∷ es) (suc i) q d within here others =
    ap (λ b. cond b (Some e.file) (lookup es q)) (other_name q e.name (λ is. others 0 (omega arith) (sym is)))
    ∙ lookup_at es i q d (omega arith) here (λ j below. others (suc j) (omega arith))

pub lookup_off : (es : List NameAndFile) (q : List ℕ) (d : NameAndFile) → ((j : ℕ) → j < length es → (get_or es j d).name ≡ q → ⊥) → lookup es q ≡ None
lookup_off [] q d others = refl
lookup_off (e ∷ es) q d others =
    ap (λ b. cond b (Some e.file) (lookup es q)) (other_name q e.name (λ is. others 0 (omega arith) (sym is)))
    ∙ lookup_off es q d (λ j below. others (suc j) (omega arith))

pub lookup_named : (es : List NameAndFile) (i : ℕ) (q : List ℕ) (d : NameAndFile) → IsSortedNameTable es → IsNameAtPlace es i q → lookup es q ≡ Some (get_or es i d).file
lookup_named es i q d table named =
    lookup_at es i q d named.within (named.here d) (λ j below is. apart es table j i d below named.within (is ∙ sym (named.here d)))

off_place : (es : List NameAndFile) (i : ℕ) (q : List ℕ) (d : NameAndFile) → IsInsertionPlace es i q → (j : ℕ) → j < length es → (get_or es j d).name ≡ q → ⊥
off_place es i q d place j within is =
    let tied : slice_cmp nat_cmp (get_or es j d).name q ≡ Equal = ap (λ (p : List ℕ). slice_cmp nat_cmp p q) is ∙ tied_itself nat_list_cmp_total q in
    ⊎_elim (λ below. let less = place.before j d (omega arith) below in cc (tied, less)) (λ above. let greater = place.behind j d above within in cc (tied, greater)) (cases_lt j i)

pub lookup_placed : (es : List NameAndFile) (i : ℕ) (q : List ℕ) → IsInsertionPlace es i q → lookup es q ≡ None
lookup_placed es i q place = let d : NameAndFile = record { name = q; file = 0 } in lookup_off es q d (off_place es i q d place)

-- a name that is looked up stands somewhere
pub located : (es : List NameAndFile) (q : List ℕ) (d : NameAndFile) → IsSome (lookup es q) → (i : ℕ) × (i < length es) × ((get_or es i d).name ≡ q)
located [] q d some = absurd (cc)
located (e ∷ es) q d some =
    ⊎_elim (λ is. (0, omega arith, sym is))
    (λ off. let rest = located es q d (subst IsSome (ap (λ b. cond b (Some e.file) (lookup es q)) off) some) in (suc rest.0, omega (arith, rest.1), rest.2))
    (name_cases q e.name)

-- and one that stands somewhere is looked up
pub looked_up : (es : List NameAndFile) (i : ℕ) (d : NameAndFile) → i < length es → IsSome (lookup es (get_or es i d).name)
looked_up [] i d within = absurd (omega arith)
looked_up (e ∷ es) zero d within = subst IsSome (sym (ap (λ b. cond b (Some e.file) (lookup es e.name)) (same_name e.name e.name refl))) refl
looked_up (e ∷ es) (suc i) d within = here (bytes_eq (get_or es i d).name e.name) (looked_up es i d (omega arith))
  where
    here : (b : Bool) → IsSome (lookup es (get_or es i d).name) → IsSome (cond b (Some e.file) (lookup es (get_or es i d).name))
    here true some = refl
    here false some = some

-- ---- after a change

shadowed : (b c : Bool) (x y r : Option ℕ) → c ≡ b → cond b x r ≡ cond b x (cond c y r)
shadowed true c x y r same = refl
shadowed false c x y r same = sym (ap (λ b. cond b y r) same)

swapped : (a b : Bool) (x y r : Option ℕ) → (a ≡ true → b ≡ true → ⊥) → cond a x (cond b y r) ≡ cond b y (cond a x r)
swapped true true x y r apart = absurd (apart refl refl)
swapped true false x y r apart = refl
swapped false b x y r apart = refl

-- the step behind an entry of another name
after_other : (f e : NameAndFile) (q : List ℕ) (new old : Option ℕ) → f.name ≢ e.name → new ≡ cond (bytes_eq q e.name) (Some e.file) old
    → cond (bytes_eq q f.name) (Some f.file) new ≡ cond (bytes_eq q e.name) (Some e.file) (cond (bytes_eq q f.name) (Some f.file) old)
after_other f e q new old other is =
    ap (cond (bytes_eq q f.name) (Some f.file)) is
    ∙ swapped (bytes_eq q f.name) (bytes_eq q e.name) (Some f.file) (Some e.file) old (λ at here. other (sym (is_name q f.name at) ∙ is_name q e.name here))

lookup_set : (es : List NameAndFile) (i : ℕ) (e d : NameAndFile) → i < length es → (get_or es i d).name ≡ e.name → ((j : ℕ) → j < i → (get_or es j d).name ≡ e.name → ⊥) → (q : List ℕ) → lookup (set es i e) q ≡ put_name (lookup es) e.name e.file q
lookup_set [] i e d within here others q = absurd (omega arith)
lookup_set (f ∷ es) zero e d within here others q = shadowed (bytes_eq q e.name) (bytes_eq q f.name) (Some e.file) (Some f.file) (lookup es q) (ap (bytes_eq q) here)
lookup_set (f ∷ es) (suc i) e d within here others q =
    after_other f e q (lookup (set es i e) q) (lookup es q) (λ is. others 0 (omega arith) is) (lookup_set es i e d (omega arith) here (λ j below. others (suc j) (omega arith)) q)

-- another number at a name that stands
pub lookup-set : (es : List NameAndFile) (i : ℕ) (e d : NameAndFile) → IsSortedNameTable es → IsNameAtPlace es i e.name → (q : List ℕ) → lookup (set es i e) q ≡ put_name (lookup es) e.name e.file q
lookup-set es i e d table named = lookup_set es i e d named.within (named.here d) (λ j below is. apart es table j i d below named.within (is ∙ sym (named.here d)))

pub lookup_insert : (es : List NameAndFile) (i : ℕ) (e : NameAndFile) → lookup es e.name ≡ None → (q : List ℕ) → lookup (take i es ++ e ∷ drop i es) q ≡ put_name (lookup es) e.name e.file q
lookup_insert [] zero e none q = refl
lookup_insert [] (suc i) e none q = refl
lookup_insert (f ∷ es) zero e none q = refl
lookup_insert (f ∷ es) (suc i) e none q =
    let rest = none_at (bytes_eq e.name f.name) f.file (lookup es e.name) none in
    after_other f e q (lookup (take i es ++ e ∷ drop i es) q) (lookup es q) (λ is. let at = same_name e.name f.name (sym is) in cc (at, rest.0)) (lookup_insert es i e rest.1 q)

-- a name that was absent
pub lookup-insert : (es : List NameAndFile) (i : ℕ) (e : NameAndFile) → IsInsertionPlace es i e.name → (q : List ℕ) → lookup (insert es i e) q ≡ put_name (lookup es) e.name e.file q
lookup-insert es i e place = lookup_insert es i e (lookup_placed es i e.name place)

-- a table stays one
pub table-insert : (es : List NameAndFile) (i : ℕ) (e : NameAndFile) → IsSortedNameTable es → IsInsertionPlace es i e.name → IsSortedNameTable (insert es i e)
table-insert es i e table place a b d below within =
    ⊎_elim (λ b_below. ordered _ _ _ _ (at_below a (omega arith)) (at_below b b_below) (table a b d below (omega arith)))
    (λ b_above. ⊎_elim (λ b_here. ordered _ _ _ _ (at_below a (omega arith)) (at_here b b_here) (place.before a d (omega arith) (omega arith)))
    (λ b_after. let above : i ≤ b - 1 = omega arith in let inside : b - 1 < length es = omega (arith, long) in
    ⊎_elim (λ a_below. ordered _ _ _ _ (at_below a a_below) (at_above b (omega arith)) (table a (b - 1) d (omega arith) inside))
    (λ a_above. ⊎_elim (λ a_here. ordered _ _ _ _ (at_here a a_here) (at_above b (omega arith)) (flipped (get_or es (b - 1) d).name e.name Greater (place.behind (b - 1) d above inside)))
    (λ a_after. ordered _ _ _ _ (at_above a (omega arith)) (at_above b (omega arith)) (table (a - 1) (b - 1) d (omega arith) inside))
    (cases_eq a i)) (cases_lt a i))
    (cases_eq b i)) (cases_lt b i)
  where
    long : length (insert es i e) ≡ length es + 1
    long = length-insert es i e place.within

    at_below : (k : ℕ) → k < i → get_or (insert es i e) k d ≡ get_or es k d
    at_below k lt = get_or-insert_below es i e d k lt place.within

    at_here : (k : ℕ) → k ≡ i → get_or (insert es i e) k d ≡ e
    at_here k is = ap (λ n. get_or (insert es i e) n d) is ∙ get_or-insert_at es i e d place.within

    at_above : (k : ℕ) → i < k → get_or (insert es i e) k d ≡ get_or es (k - 1) d
    at_above k lt =
        let more : k ≡ (k - 1) + 1 = omega arith in
        ap (λ n. get_or (insert es i e) n d) more ∙ get_or-insert_above es i e d (k - 1) (omega arith) place.within

    ordered : (f g f' g' : NameAndFile) → f ≡ f' → g ≡ g' → slice_cmp nat_cmp f'.name g'.name ≡ Less → slice_cmp nat_cmp f.name g.name ≡ Less
    ordered f g f' g' is are less = (λ k. slice_cmp nat_cmp (is k).name (are k).name) ∙ less

-- ---- after a name was taken away

dropped : (b c : Bool) (x r : Option ℕ) → c ≡ b → (b ≡ true → r ≡ None) → r ≡ cond b None (cond c x r)
dropped true c x r same none = none refl
dropped false c x r same none = sym (ap (λ b. cond b x r) same)

kept_front : (f : NameAndFile) (name q : List ℕ) (new old : Option ℕ) → f.name ≢ name → new ≡ cond (bytes_eq q name) None old → cond (bytes_eq q f.name) (Some f.file) new ≡ cond (bytes_eq q name) None (cond (bytes_eq q f.name) (Some f.file) old)
kept_front f name q new old other is = ap (cond (bytes_eq q f.name) (Some f.file)) is ∙ by (bytes_eq q f.name) (bytes_eq q name) (λ at here. other (sym (is_name q f.name at) ∙ is_name q name here))
  where
    by : (a b : Bool) → (a ≡ true → b ≡ true → ⊥) → cond a (Some f.file) (cond b None old) ≡ cond b None (cond a (Some f.file) old)
    by true true apart = absurd (apart refl refl)
    by true false apart = refl
    by false b apart = refl

lookup_remove : (es : List NameAndFile) (i : ℕ) (name : List ℕ) (d : NameAndFile) → i < length es → (get_or es i d).name ≡ name → ((j : ℕ) → j < length es → j ≢ i → (get_or es j d).name ≡ name → ⊥)
    → (q : List ℕ) → lookup (take i es ++ drop (suc i) es) q ≡ drop_name (lookup es) name q
lookup_remove [] i name d within here others q = absurd (omega arith)
lookup_remove (f ∷ es) zero name d within here others q =
    dropped (bytes_eq q name) (bytes_eq q f.name) (Some f.file) (lookup es q) (ap (bytes_eq q) here)
    (λ at. ap (lookup es) (is_name q name at) ∙ lookup_off es name d (λ j below. others (suc j) (omega arith) (λ same. omega (arith, same))))
lookup_remove (f ∷ es) (suc i) name d within here others q =
    kept_front f name q (lookup (take i es ++ drop (suc i) es) q) (lookup es q) (λ is. others 0 (omega arith) (λ same. omega (arith, same)) is)
    (lookup_remove es i name d (omega arith) here (λ j below ne. others (suc j) (omega arith) (λ same. ne (omega (arith, same)))) q)

pub lookup-remove : (es : List NameAndFile) (i : ℕ) (name : List ℕ) → IsSortedNameTable es → IsNameAtPlace es i name → (q : List ℕ) → lookup (take i es ++ drop (i + 1) es) q ≡ drop_name (lookup es) name q
lookup-remove es i name table named q =
    let d : NameAndFile = record { name = name; file = 0 } in
    ap (λ n. lookup (take i es ++ drop n es) q) (add-one i)
    ∙ lookup_remove es i name d named.within (named.here d)
    (λ j below ne is. ⊎_elim (λ lower. apart es table j i d lower named.within (is ∙ sym (named.here d)))
    (λ upper. ⊎_elim (λ same. ne same) (λ other. apart es table i j d (omega (arith, upper, other)) below (named.here d ∙ sym is)) (cases_eq j i)) (cases_lt j i))
    q

pub table-remove : (es : List NameAndFile) (i : ℕ) → i < length es → IsSortedNameTable es → IsSortedNameTable (remove es i)
table-remove es i within table = all_pairs_remove (λ (a b : NameAndFile). slice_cmp nat_cmp a.name b.name ≡ Less) es i within table

-- a name that is absent is no news if it is taken away
pub lookup_without : (es : List NameAndFile) (name q : List ℕ) → lookup es name ≡ None → lookup es q ≡ drop_name (lookup es) name q
lookup_without es name q none = by (bytes_eq q name) refl
  where
    by : (b : Bool) → bytes_eq q name ≡ b → lookup es q ≡ cond b None (lookup es q)
    by true at = ap (lookup es) (is_name q name at) ∙ none
    by false off = refl
