-- What a table of names leads to.
use Rattle.std.proofs.Common.{◌≡◌, ℕ, ◌+◌, ◌≤◌, Bool, true, false, cond, List, [], ◌∷◌, length, drop, Option, Some, None, Bor, refl, sym, ◌∙◌, ap, subst}
use Rattle.std.specs.Prelude.{bytes_eq, if◌then◌else◌, slice_get}
use Rattle.std.specs.List.{find}
use Rattle.std.specs.Map.{lookup}
use Rattle.std.specs.Option.{option_map_or, option_or}
use Rattle.std.specs.Cmp.Lexicographic.{bytes_decides}
use Rattle.std.proofs.lemmas.List.{drop_all}
use Rattle.indexmap.specs.IndexMap.{insert_entry}
use Rattle.base_core.proofs.AtName.{either_way}
use Rattle.solve_core.specs.candidate_core.Candidates.{Candidate}
use Rattle.package_changes.specs.Changes.{is_candidate_named}
use Rattle.package_changes.specs.SelectedNames.{names_and_places, place_paired_with_name}
use Rattle.package_changes.proofs.Lists.{left_at}

abbrev pub Entries : Type 0
Entries = List (Bor (List ℕ) × ℕ)

abbrev pub is_key : List ℕ → Bor (List ℕ) → Bool
is_key name k = bytes_eq name k.now

pub or_none : (o : Option ℕ) → o ≡ option_or o None
or_none None = refl
or_none (Some n) = refl

pub looked_up : (name : List ℕ) (es : Entries) → lookup (is_key name) es ≡ place_paired_with_name name (names_and_places es)
looked_up name [] = refl
looked_up name (e ∷ es) =
    ap (λ t. if t then Some e.1 else lookup (is_key name) es) (either_way name e.0.now)
    ∙ ap (λ o. if bytes_eq e.0.now name then Some e.1 else o) (looked_up name es)

-- a name that is there stays as it is
pub there_already : (name other : List ℕ) (place x : ℕ) (table : List (List ℕ × ℕ)) → Some x ≡ place_paired_with_name name table → place_paired_with_name other table ≡ option_or (place_paired_with_name other table) (if bytes_eq name other then Some place else None)
there_already name other place x table h = go (bytes_eq name other) refl
  where
    go : (t : Bool) → bytes_eq name other ≡ t → place_paired_with_name other table ≡ option_or (place_paired_with_name other table) (if t then Some place else None)
    go true e =
        subst (λ o. o ≡ option_or o (Some place)) (h ∙ ap (λ z. place_paired_with_name z table) ((bytes_decides name other).0 e)) refl
    go false e = or_none (place_paired_with_name other table)

-- a new name stands behind the others
pub one_more_name : (key : Bor (List ℕ)) (other : List ℕ) (place : ℕ) (es : Entries) → None ≡ lookup (is_key key.now) es → place_paired_with_name other (names_and_places (insert_entry (λ (a b : Bor (List ℕ)). bytes_eq a.now b.now) es key place)) ≡ option_or (place_paired_with_name other (names_and_places es)) (if bytes_eq key.now other then Some place else None)
one_more_name key other place [] h = refl
one_more_name key other place (e ∷ es) h = go (bytes_eq key.now e.0.now) refl (one_more_name key other place es)
  where
    behind : (t : Bool) (o p : Option ℕ) → o ≡ option_or p (if bytes_eq key.now other then Some place else None) → (if t then Some e.1 else o) ≡ option_or (if t then Some e.1 else p) (if bytes_eq key.now other then Some place else None)
    behind true o p is = refl
    behind false o p is = is

    go : (t : Bool) → bytes_eq key.now e.0.now ≡ t
        → (None ≡ lookup (is_key key.now) es → place_paired_with_name other (names_and_places (insert_entry (λ (a b : Bor (List ℕ)). bytes_eq a.now b.now) es key place)) ≡ option_or (place_paired_with_name other (names_and_places es)) (if bytes_eq key.now other then Some place else None))
        → place_paired_with_name other (names_and_places (if t then (e.0, place) ∷ es else e ∷ insert_entry (λ (a b : Bor (List ℕ)). bytes_eq a.now b.now) es key place)) ≡ option_or (place_paired_with_name other (names_and_places (e ∷ es))) (if bytes_eq key.now other then Some place else None)
    go true g more =
        let bad : None ≡ Some e.1 = h ∙ ap (λ t. if t then Some e.1 else lookup (is_key key.now) es) g in absurd (cc)
    go false g more =
        behind (bytes_eq e.0.now other) _ _ (more (h ∙ ap (λ t. if t then Some e.1 else lookup (is_key key.now) es) g))

-- no candidate at a place
pub not_there : (o : Option ℕ) (test : Candidate → Bool) (c : Option Candidate) (place : ℕ) → None ≡ c → o ≡ option_or o (if option_map_or test c false then Some place else None)
not_there o test c place e = subst (λ z. o ≡ option_or o (if option_map_or test z false then Some place else None)) e (or_none o)

-- the candidate at a place
pub one_there : (new old : Option ℕ) (name own : List ℕ) (d : Candidate) (c : Option Candidate) (place : ℕ) → Some d ≡ c → own ≡ d.name → new ≡ option_or old (if bytes_eq own name then Some place else None) → new ≡ option_or old (if option_map_or (is_candidate_named name) c false then Some place else None)
one_there new old name own d c place e n is =
    is
    ∙ (ap (λ z. option_or old (if bytes_eq z name then Some place else None)) n
    ∙ ap (λ z. option_or old (if option_map_or (is_candidate_named name) z false then Some place else None)) e)

-- ---- the first of a list

or_then : (old : Option ℕ) (t : Bool) (x : ℕ) (rest : Option ℕ) → option_or (option_or old (if t then Some x else None)) rest ≡ option_or old (cond t (Some x) rest)
or_then (Some o) t x rest = refl
or_then None true x rest = refl
or_then None false x rest = refl

pub found_further : (test : ℕ → Bool) (old new all : Option ℕ) (xs : List ℕ) (i x : ℕ) → slice_get xs i ≡ Some x → new ≡ option_or old (if test x then Some x else None) → option_or old (find test (drop i xs)) ≡ all → option_or new (find test (drop (i + 1) xs)) ≡ all
found_further test old new all xs i x h is inv =
    ap (λ z. option_or z (find test (drop (i + 1) xs))) is
    ∙ (or_then old (test x) x (find test (drop (i + 1) xs))
    ∙ (ap (λ z. option_or old (find test z)) (sym (left_at xs i x h)) ∙ inv))

pub found_all : (test : ℕ → Bool) (old all : Option ℕ) (xs : List ℕ) (i : ℕ) → length xs ≤ i → option_or old (find test (drop i xs)) ≡ all → old ≡ all
found_all test old all xs i past inv =
    or_none old ∙ (ap (λ z. option_or old (find test z)) (sym (drop_all i xs past)) ∙ inv)
