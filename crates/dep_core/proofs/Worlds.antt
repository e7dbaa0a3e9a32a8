-- What an entry more or less leaves of the order of a world, and where a name is in it.
use Rattle.std.proofs.Common.{◌≡◌, ℕ, Bool, true, false, not, List, [], ◌∷◌, Ordering, refl, ap, sym, ◌∙◌, cond, subst}
use Rattle.std.specs.List.{list_all, filter}
use Rattle.std.specs.Ordering.{is_lt, is_eq, match_ordering, ordering_reverse}
use Rattle.std.specs.Str.{bytes_eq}
use Rattle.std.specs.Cmp.Lexicographic.{texts_ties, bytes_decides}
use Rattle.std.specs.declared.cmp.Ordering.TheVariants.{Less, Equal, Greater}
use Rattle.std.proofs.lemmas.Bool.{and_parts, and_from}
use Rattle.dep_core.specs.Dependency.{Dependency}
use Rattle.dep_core.specs.DependencyText.{is_dependency}
use Rattle.dep_core.specs.World.{IsWorldSortedByName, is_in_order, world_with_dependency_put_in_name_order, world_without_name}
use Rattle.base_core.specs.ByteOrder.{bytes_cmp}
use Rattle.base_core.proofs.Orderings.{is_less, names_total}

-- ---- names

pub cmp-equal : (a b : List ℕ) → bytes_cmp a b ≡ Equal → a ≡ b
cmp-equal a b h = (bytes_decides a b).0 (texts_ties a b ∙ ap is_eq h)

pub cmp-back : (a b : List ℕ) (o : Ordering) → bytes_cmp a b ≡ o → bytes_cmp b a ≡ ordering_reverse o
cmp-back a b o h = names_total.antisymm b a ∙ ap ordering_reverse h

-- ---- tests of each entry

abbrev pub is_behind : List ℕ → Dependency → Bool
is_behind name e = is_lt (bytes_cmp name e.name)

all-by : (P : Dependency → Bool) (d e : Dependency) (rest more : List Dependency) (o : Ordering) → P d ≡ true → list_all P (e ∷ rest) ≡ true → list_all P more ≡ true → list_all P (match_ordering o (d ∷ (e ∷ rest)) (d ∷ rest) (e ∷ more)) ≡ true
all-by P d e rest more Less pd pw pm = and_from (P d) (list_all P (e ∷ rest)) pd pw
all-by P d e rest more Equal pd pw pm = and_from (P d) (list_all P rest) pd (and_parts (P e) (list_all P rest) pw).1
all-by P d e rest more Greater pd pw pm = and_from (P e) (list_all P more) (and_parts (P e) (list_all P rest) pw).0 pm

pub all-world_with_dependency_put_in_name_order : (P : Dependency → Bool) (d : Dependency) (w : List Dependency) → P d ≡ true → list_all P w ≡ true → list_all P (world_with_dependency_put_in_name_order d w) ≡ true
all-world_with_dependency_put_in_name_order P d [] pd pw = and_from (P d) true pd refl
all-world_with_dependency_put_in_name_order P d (e ∷ rest) pd pw =
    all-by P d e rest (world_with_dependency_put_in_name_order d rest) (bytes_cmp d.name e.name) pd pw (all-world_with_dependency_put_in_name_order P d rest pd (and_parts (P e) (list_all P rest) pw).1)

all-filter : (P q : Dependency → Bool) (w : List Dependency) → list_all P w ≡ true → list_all P (filter q w) ≡ true
all-filter P q [] pw = refl
all-filter P q (e ∷ rest) pw =
    let parts : (P e ≡ true) × (list_all P rest ≡ true) = and_parts (P e) (list_all P rest) pw in
    by (q e) parts.0 (all-filter P q rest parts.1)
  where
    by : (b : Bool) → P e ≡ true → list_all P (filter q rest) ≡ true → list_all P (cond b (e ∷ filter q rest) (filter q rest)) ≡ true
    by true pe pr = and_from (P e) (list_all P (filter q rest)) pe pr
    by false pe pr = pr

pub filter-same : (q : Dependency → Bool) (w : List Dependency) → list_all q w ≡ true → filter q w ≡ w
filter-same q [] h = refl
filter-same q (e ∷ rest) h =
    let parts : (q e ≡ true) × (list_all q rest ≡ true) = and_parts (q e) (list_all q rest) h in
    rw parts.0 (ap (λ more. e ∷ more) (filter-same q rest parts.1))

-- ---- order

behind-trans : (a b : List ℕ) (w : List Dependency) → bytes_cmp a b ≡ Less → list_all (is_behind b) w ≡ true → list_all (is_behind a) w ≡ true
behind-trans a b [] h p = refl
behind-trans a b (e ∷ rest) h p =
    let parts : (is_behind b e ≡ true) × (list_all (is_behind b) rest ≡ true) = and_parts (is_behind b e) (list_all (is_behind b) rest) p in
    and_from (is_behind a e) (list_all (is_behind a) rest) (ap is_lt (names_total.trans a b e.name h (is_less (bytes_cmp b e.name) parts.0))) (behind-trans a b rest h parts.1)

order-by : (d e : Dependency) (rest more : List Dependency) (o : Ordering) → bytes_cmp d.name e.name ≡ o → is_in_order (e ∷ rest) ≡ true → is_in_order more ≡ true → (o ≡ Greater → list_all (is_behind e.name) more ≡ true) → is_in_order (match_ordering o (d ∷ (e ∷ rest)) (d ∷ rest) (e ∷ more)) ≡ true
order-by d e rest more Less h w m b =
    let parts : (list_all (is_behind e.name) rest ≡ true) × (is_in_order rest ≡ true) = and_parts (list_all (is_behind e.name) rest) (is_in_order rest) w in
    and_from (list_all (is_behind d.name) (e ∷ rest)) (is_in_order (e ∷ rest)) (and_from (is_behind d.name e) (list_all (is_behind d.name) rest) (ap is_lt h) (behind-trans d.name e.name rest h parts.0)) w
order-by d e rest more Equal h w m b =
    let parts : (list_all (is_behind e.name) rest ≡ true) × (is_in_order rest ≡ true) = and_parts (list_all (is_behind e.name) rest) (is_in_order rest) w in
    let P : List ℕ → Type 0 = λ name. list_all (is_behind name) rest ≡ true in
    and_from (list_all (is_behind d.name) rest) (is_in_order rest) (subst P (sym (cmp-equal d.name e.name h)) parts.0) parts.1
order-by d e rest more Greater h w m b = and_from (list_all (is_behind e.name) more) (is_in_order more) (b refl) m

order-world_with_dependency_put_in_name_order : (d : Dependency) (w : List Dependency) → is_in_order w ≡ true → is_in_order (world_with_dependency_put_in_name_order d w) ≡ true
order-world_with_dependency_put_in_name_order d [] h = refl
order-world_with_dependency_put_in_name_order d (e ∷ rest) h =
    let parts : (list_all (is_behind e.name) rest ≡ true) × (is_in_order rest ≡ true) = and_parts (list_all (is_behind e.name) rest) (is_in_order rest) h in
    order-by d e rest (world_with_dependency_put_in_name_order d rest) (bytes_cmp d.name e.name) refl h (order-world_with_dependency_put_in_name_order d rest parts.1) (λ g. all-world_with_dependency_put_in_name_order (is_behind e.name) d rest (ap is_lt (cmp-back d.name e.name Greater g)) parts.0)

order-filter : (q : Dependency → Bool) (w : List Dependency) → is_in_order w ≡ true → is_in_order (filter q w) ≡ true
order-filter q [] h = refl
order-filter q (e ∷ rest) h =
    let parts : (list_all (is_behind e.name) rest ≡ true) × (is_in_order rest ≡ true) = and_parts (list_all (is_behind e.name) rest) (is_in_order rest) h in
    by (q e) (all-filter (is_behind e.name) q rest parts.0) (order-filter q rest parts.1)
  where
    by : (b : Bool) → list_all (is_behind e.name) (filter q rest) ≡ true → is_in_order (filter q rest) ≡ true → is_in_order (cond b (e ∷ filter q rest) (filter q rest)) ≡ true
    by true behind rest_in_order = and_from (list_all (is_behind e.name) (filter q rest)) (is_in_order (filter q rest)) behind rest_in_order
    by false behind rest_in_order = rest_in_order

pub IsWorldSortedByName-world_with_dependency_put_in_name_order : (d : Dependency) (w : List Dependency) → is_dependency d ≡ true → IsWorldSortedByName w → IsWorldSortedByName (world_with_dependency_put_in_name_order d w)
IsWorldSortedByName-world_with_dependency_put_in_name_order d w hd hw =
    let parts : (list_all is_dependency w ≡ true) × (is_in_order w ≡ true) = and_parts (list_all is_dependency w) (is_in_order w) hw in
    and_from (list_all is_dependency (world_with_dependency_put_in_name_order d w)) (is_in_order (world_with_dependency_put_in_name_order d w)) (all-world_with_dependency_put_in_name_order is_dependency d w hd parts.0) (order-world_with_dependency_put_in_name_order d w parts.1)

pub IsWorldSortedByName-without : (name : List ℕ) (w : List Dependency) → IsWorldSortedByName w → IsWorldSortedByName (world_without_name name w)
IsWorldSortedByName-without name w hw =
    let parts : (list_all is_dependency w ≡ true) × (is_in_order w ≡ true) = and_parts (list_all is_dependency w) (is_in_order w) hw in
    and_from (list_all is_dependency (world_without_name name w)) (is_in_order (world_without_name name w)) (all-filter is_dependency (λ (d : Dependency). not (bytes_eq d.name name)) w parts.0) (order-filter (λ (d : Dependency). not (bytes_eq d.name name)) w parts.1)
