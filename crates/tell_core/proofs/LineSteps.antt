-- Lines that are added one behind another.
use Rattle.std.proofs.Common.{◌≡◌, ℕ, zero, suc, ◌+◌, ◌<◌, ◌≤◌, List, [], ◌∷◌, ◌++◌, map, length, drop, Option, Some, None, refl, sym, ◌∙◌, ap, arith, append_assoc}
use Rattle.std.specs.Prelude.{codes, slice_get}
use Rattle.adb_view.specs.Plain.{Plain, Plains, none, more}
use Rattle.adb_view.specs.Values.{count_of, nth}
use Rattle.candidate_core.specs.adb_fields.Repeated.{list_of, paths_of_folder_files}
use Rattle.std.specs.List.{cons_option, filter_map, flat_map}
use Rattle.std.specs.Option.{option_map_or}
use Rattle.std.proofs.lemmas.Grind.{flat_map-append}
use Rattle.std.proofs.lemmas.List.{map-append}
use Rattle.base_core.proofs.Texts.{joined}
use Rattle.candidate_core.proofs.adb_fields.Listed.{next_listed}
use Rattle.dep_core.specs.Dependency.{Dependency}
use Rattle.dep_core.specs.DependencyText.{dep_text}
use Rattle.candidate_core.specs.Candidates.{dependencies_among_values, dependency_in}
use Rattle.report_core.specs.Reports.{report_line, report_lines}

pub append_nothing : {X : Type 0} (xs : List X) → xs ++ [] ≡ xs
append_nothing [] = refl
append_nothing (x ∷ xs) = ap (λ z. x ∷ z) (append_nothing xs)

-- some bytes more, and as many less to come
pub told : {X : Type 0} (done new some before after all : List X) → new ≡ done ++ some → before ≡ some ++ after → done ++ before ≡ all → new ++ after ≡ all
told done new some before after all is left inv =
    ap (λ z. z ++ after) is ∙ (append_assoc done some after ∙ (ap (λ z. done ++ z) (sym left) ∙ inv))

-- nothing is to come
pub all_told : {X : Type 0} (done before all : List X) → before ≡ [] → done ++ before ≡ all → done ≡ all
all_told done before all gone inv = sym (append_nothing done) ∙ (ap (λ z. done ++ z) (sym gone) ∙ inv)

-- a heading, one line, and an empty one
pub one_line : (r0 r1 r2 r3 heading text same : List ℕ) → r1 ≡ r0 ++ heading → r2 ≡ r1 ++ report_line text → text ≡ same → r3 ≡ r2 ++ codes "\n" → r3 ≡ r0 ++ (heading ++ report_lines (same ∷ []) ++ codes "\n")
one_line r0 r1 r2 r3 heading text same e1 e2 is e3 =
    joined r0 r2 r3 (heading ++ report_lines (same ∷ [])) (codes "\n")
    (joined r0 r1 r2 heading (report_lines (same ∷ [])) e1 (e2 ∙ ap (λ z. r1 ++ z) (ap report_line is ∙ sym (append_nothing (report_line same))))) e3

-- a path, who owns it, and the end of the line
pub owned : (r0 r1 r2 r3 r4 slash path is_owned owner end : List ℕ) → r1 ≡ r0 ++ slash → r2 ≡ r1 ++ path → r3 ≡ r2 ++ is_owned → r4 ≡ r3 ++ ((owner ++ []) ++ end) → r4 ≡ r0 ++ ((slash ++ path ++ is_owned ++ owner) ++ end)
owned r0 r1 r2 r3 r4 slash path is_owned owner end e1 e2 e3 e4 =
    joined r0 r3 r4 (slash ++ path ++ is_owned) (owner ++ end)
    (joined r0 r2 r3 (slash ++ path) is_owned (joined r0 r1 r2 slash path e1 e2) e3)
    (e4 ∙ ap (λ z. r3 ++ (z ++ end)) (append_nothing owner))
    ∙ ap (λ z. r0 ++ z) (sym (append_assoc (slash ++ path ++ is_owned) owner end))

-- ---- what is left of a list

pub left_at : {X : Type 0} (xs : List X) (i : ℕ) (x : X) → slice_get xs i ≡ Some x → drop i xs ≡ x ∷ drop (i + 1) xs
left_at [] i x e = cc
left_at (y ∷ xs) zero x e = cc
left_at (y ∷ xs) (suc i) x e =
    let next : suc (i + 1) ≡ suc i + 1 = omega arith in left_at xs i x e ∙ ap (λ n. x ∷ drop n (y ∷ xs)) next

-- the elements that are left, each seen by a function
pub mapped_left : {X Y : Type 0} (f : X → Y) (xs : List X) (i : ℕ) (y : Y) → i < length xs → ((x : X) → slice_get xs i ≡ Some x → y ≡ f x) → map f (drop i xs) ≡ y ∷ map f (drop (i + 1) xs)
mapped_left f [] i y h is = absurd (omega arith)
mapped_left f (x ∷ xs) zero y h is = ap (λ z. z ∷ map f xs) (sym (is x refl))
mapped_left f (x ∷ xs) (suc i) y h is =
    let next : suc (i + 1) ≡ suc i + 1 = omega arith in
    mapped_left f xs i y (omega arith) is ∙ ap (λ n. y ∷ map f (drop n (x ∷ xs))) next

-- one more element, seen by a function, and one less to come
pub pushed : {X Y : Type 0} (f : X → Y) (done new : List X) (x : X) (before after all : List Y) → new ≡ done ++ x ∷ [] → before ≡ f x ∷ after → map f done ++ before ≡ all → map f new ++ after ≡ all
pushed f done new x before after all is left inv =
    ap (λ z. map f z ++ after) is
    ∙ (ap (λ z. z ++ after) (map-append f done (x ∷ []))
    ∙ (append_assoc (map f done) (f x ∷ []) after
    ∙ (ap (λ z. map f done ++ z) (sym left) ∙ inv)))

nothing : {X : Type 0} (n : ℕ) → drop {A = X} n [] ≡ []
nothing zero = refl
nothing (suc n) = refl

pub nothing_left : {X : Type 0} (xs : List X) (i : ℕ) → length xs ≤ i → drop i xs ≡ []
nothing_left [] i h = nothing i
nothing_left (x ∷ xs) zero h = absurd (omega arith)
nothing_left (x ∷ xs) (suc i) h = nothing_left xs i (omega arith)

-- ---- the lines of what is left

pub folder_left : (vs : Plains) (i : ℕ) → i < count_of vs → report_lines (flat_map paths_of_folder_files (drop i (list_of vs))) ≡ report_lines (paths_of_folder_files (nth vs i)) ++ report_lines (flat_map paths_of_folder_files (drop (i + 1) (list_of vs)))
folder_left vs i h =
    ap (λ z. report_lines (flat_map paths_of_folder_files z)) (next_listed vs i h)
    ∙ flat_map-append report_line (paths_of_folder_files (nth vs i)) (flat_map paths_of_folder_files (drop (i + 1) (list_of vs)))

-- the lines of the dependencies among some entries
abbrev pub dependency_lines : List Plain → List ℕ
dependency_lines entries = report_lines (map dep_text (filter_map dependency_in entries))

one_dependency : (o : Option Dependency) (ds : List Dependency) → report_lines (map dep_text (cons_option o ds)) ≡ option_map_or (λ d. report_line (dep_text d)) o [] ++ report_lines (map dep_text ds)
one_dependency None ds = refl
one_dependency (Some d) ds = refl

pub dependency_left : (vs : Plains) (i : ℕ) → i < count_of vs → dependency_lines (drop i (list_of vs)) ≡ option_map_or (λ d. report_line (dep_text d)) (dependency_in (nth vs i)) [] ++ dependency_lines (drop (i + 1) (list_of vs))
dependency_left vs i h =
    ap dependency_lines (next_listed vs i h)
    ∙ one_dependency (dependency_in (nth vs i)) (filter_map dependency_in (drop (i + 1) (list_of vs)))

pub dependencies_listed : (vs : Plains) → filter_map dependency_in (list_of vs) ≡ dependencies_among_values vs
dependencies_listed none = refl
dependencies_listed (more v vs) = ap (cons_option (dependency_in v)) (dependencies_listed vs)
