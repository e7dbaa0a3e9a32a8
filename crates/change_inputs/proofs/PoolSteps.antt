-- The candidates, index by index and package by package.
use Rattle.std.proofs.Common.{◌≡◌, ℕ, suc, ◌+◌, ◌-◌, ◌<◌, ◌≤◌, Bool, true, false, List, [], ◌∷◌, ◌++◌, length, drop, Option, Some, None, Result, Ok, Err, refl, sym, ap, ◌∙◌, subst, append_assoc, append-nil, arith, length-append}
use Rattle.std.specs.Prelude.{IfErr, if◌then◌else◌}
use Rattle.std.specs.Result.{IsErrAnd}
use Rattle.std.proofs.Math.ListN.{drop_of_length-le}
use Rattle.std.proofs.lemmas.Bool.{lt-ltb, le-ltb}
use Rattle.std.specs.List.{list_any, slice_get}
use Rattle.std.specs.Option.{option_map}
use Rattle.db_core.specs.adb_fields.Repeated.{list_of}
use Rattle.db_core.proofs.adb_fields.NameLists.{count-listed}
use Rattle.adb_view.specs.Values.{count_of, entries_in, entry_at_index, nth}
use Rattle.adb_view.specs.Plain.{Plain, Plains, none, more}
use Rattle.command_core.proofs.Entries.{left_at}
use Rattle.db_core.proofs.Places.{nth_listed}
use Rattle.dep_core.specs.Repositories.{Repository}
use Rattle.pool_core.proofs.candidate_core.Installed.{counted_once, stands_last}
use Rattle.pool_core.specs.candidate_core.Candidates.{Candidate, candidate_of, candidates_of_index, is_repository_package_same_as_installed, with_installed_marked_or_added}
use Rattle.pool_core.specs.candidate_core.Rank.{SelectionProblem, UpgradedNames, selection_problem_from_parts}
use Rattle.pool_core.specs.candidate_core.Values.{IsPoolFault}
use Rattle.pool_core.specs.candidate_core.declared.candidate_list.PoolFault.{PoolFault}
use Rattle.pool_core.specs.candidate_core.declared.candidate_list.PoolFault.TheVariants as Pools
use Rattle.pool_core.specs.candidate_core.declared.candidate_list.TheConstants.{MOST_CANDIDATES}
use Rattle.pool_core.proofs.candidate_core.Steps.{fault_more}
use Rattle.report_core.specs.declared.refusal.Refusal.TheVariants.{TooMany}
use Rattle.change_inputs.specs.Candidates.{candidates_of_repositories_from, candidates_of, installed_candidate, root_pool, with_all_installed}
use Rattle.change_inputs.specs.Inputs.{Inputs}

pub fault_handed : {A : Type 0} (n : ℕ) (r : Result A PoolFault) (fault : PoolFault) → IsErrAnd r (λ e. e ≡ fault) → IsPoolFault fault n → IfErr r (λ e. IsPoolFault e n)
fault_handed n (Ok a) fault is h = absurd is
fault_handed n (Err e) fault is h = subst (λ f. IsPoolFault f n) (sym is) h

-- ---- the installed packages

one_longer : (cs : List Candidate) (c : Candidate) → length cs ≤ length (with_installed_marked_or_added cs c)
one_longer cs c = go (list_any (is_repository_package_same_as_installed c) cs) refl
  where
    go : (b : Bool) → list_any (is_repository_package_same_as_installed c) cs ≡ b → length cs ≤ length (with_installed_marked_or_added cs c)
    go true is = let same = counted_once cs c is in omega (arith, same)
    go false is = let same = ap length (stands_last cs c is) ∙ length-append cs (c ∷ []) in omega (arith, same)

pub all_longer : (cs : List Candidate) (pkgs : List Plain) → length cs ≤ length (with_all_installed cs pkgs)
all_longer cs [] = omega arith
all_longer cs (pkg ∷ pkgs) =
    let one = one_longer cs (installed_candidate pkg) in
    let rest = all_longer (with_installed_marked_or_added cs (installed_candidate pkg)) pkgs in
    omega (arith, one, rest)

abbrev pub IsInstalledTo : Plains → ℕ → List Candidate → List Candidate → Type 0
IsInstalledTo vs i start now = with_all_installed start (list_of vs) ≡ with_all_installed now (drop i (list_of vs))

listed : (vs : Plains) (i : ℕ) (pkg : Plain) → i < count_of vs → pkg ≡ nth vs (i + 1 - 1) → drop i (list_of vs) ≡ pkg ∷ drop (i + 1) (list_of vs)
listed vs i pkg lt is =
    let here : i + 1 - 1 ≡ i = omega arith in
    left_at (list_of vs) i pkg (nth_listed vs i lt ∙ ap Some (sym (is ∙ ap (nth vs) here)))

pub installed_more : (vs : Plains) (i : ℕ) (pkg info : Plain) (start now next : List Candidate) → i < count_of vs → pkg ≡ nth vs (i + 1 - 1) → info ≡ entry_at_index pkg 0 → next ≡ with_installed_marked_or_added now (candidate_of info None None true) → IsInstalledTo vs i start now → IsInstalledTo vs (i + 1) start next
installed_more vs i pkg info start now next lt is about made so_far =
    so_far
    ∙ (ap (with_all_installed now) (listed vs i pkg lt is)
    ∙ ap (λ (cs : List Candidate). with_all_installed cs (drop (i + 1) (list_of vs))) (sym (made ∙ ap (λ (v : Plain). with_installed_marked_or_added now (candidate_of v None None true)) about)))

pub installed_passes : (vs : Plains) (i : ℕ) (pkg info : Plain) (start now : List Candidate) (fault : PoolFault) → i < count_of vs → pkg ≡ nth vs (i + 1 - 1) → info ≡ entry_at_index pkg 0 → IsPoolFault fault (length (with_installed_marked_or_added now (candidate_of info None None true))) → IsInstalledTo vs i start now → IsPoolFault fault (length (with_all_installed start (list_of vs)))
installed_passes vs i pkg info start now fault lt is about h so_far =
    let whole : with_all_installed start (list_of vs) ≡ with_all_installed (with_installed_marked_or_added now (candidate_of info None None true)) (drop (i + 1) (list_of vs)) =
    so_far ∙ (ap (with_all_installed now) (listed vs i pkg lt is) ∙ ap (λ (v : Plain). with_all_installed (with_installed_marked_or_added now (candidate_of v None None true)) (drop (i + 1) (list_of vs))) (sym about)) in
    let longer = all_longer (with_installed_marked_or_added now (candidate_of info None None true)) (drop (i + 1) (list_of vs)) in
    subst (λ (cs : List Candidate). IsPoolFault fault (length cs)) (sym whole) (fault_more fault _ _ longer h)

pub installed_all : (vs : Plains) (i : ℕ) (start now : List Candidate) → count_of vs ≤ i → IsInstalledTo vs i start now → now ≡ with_all_installed start (list_of vs)
installed_all vs i start now past so_far =
    let few : length (list_of vs) ≤ i = omega (arith, count-listed vs) in
    sym (so_far ∙ ap (with_all_installed now) (drop_of_length-le (list_of vs) few))

-- ---- the indexes

length-candidates_of_index : (n : ℕ) (tag : Option (List ℕ)) (vs : Plains) → length (candidates_of_index n tag vs) ≡ count_of vs
length-candidates_of_index n tag none = refl
length-candidates_of_index n tag (more v vs) = ap suc (length-candidates_of_index n tag vs)

abbrev pub IsIndexedTo : List Repository → List Plain → ℕ → List Candidate → Type 0
IsIndexedTo rs xs i now = candidates_of_repositories_from 1 rs xs ≡ now ++ candidates_of_repositories_from (i + 1) (drop i rs) (drop i xs)

tagged_at : (rs : List Repository) (i : ℕ) (tag : Option (List ℕ)) → option_map (λ (r : Repository). r.tag) (slice_get rs i) ≡ Some tag → (r : Repository) × (slice_get rs i ≡ Some r) × (r.tag ≡ tag)
tagged_at rs i tag is = go (slice_get rs i) refl is
  where
    go : (o : Option Repository) → slice_get rs i ≡ o → option_map (λ (r : Repository). r.tag) o ≡ Some tag → (r : Repository) × (slice_get rs i ≡ Some r) × (r.tag ≡ tag)
    go None at e = absurd (cc)
    go (Some r) at e = (r, at, cc)

module _ (rs : List Repository) (xs : List Plain) (i : ℕ) (tag : Option (List ℕ)) (x : Plain) (now : List Candidate) (repository : option_map (λ (r : Repository). r.tag) (slice_get rs i) ≡ Some tag) (index : slice_get xs i ≡ Some x) (so_far : IsIndexedTo rs xs i now) where
  here : candidates_of_repositories_from 1 rs xs ≡ now ++ (candidates_of_index (i + 1) tag (entries_in (entry_at_index x 1)) ++ candidates_of_repositories_from (i + 1 + 1) (drop (i + 1) rs) (drop (i + 1) xs))
  here =
      let r = tagged_at rs i tag repository in
      so_far
      ∙ ap (λ (cs : List Candidate). now ++ cs)
      (ap (λ (l : List Repository). candidates_of_repositories_from (i + 1) l (drop i xs)) (left_at rs i r.0 r.1)
      ∙ (ap (candidates_of_repositories_from (i + 1) (r.0 ∷ drop (i + 1) rs)) (left_at xs i x index)
      ∙ ap (λ (t : Option (List ℕ)). candidates_of_index (i + 1) t (entries_in (entry_at_index x 1)) ++ candidates_of_repositories_from (i + 1 + 1) (drop (i + 1) rs) (drop (i + 1) xs)) r.2))

  pub indexed_more : (next : List Candidate) → next ≡ now ++ candidates_of_index (i + 1) tag (entries_in (entry_at_index x 1)) → IsIndexedTo rs xs (i + 1) next
  indexed_more next made =
      here
      ∙ (sym (append_assoc now (candidates_of_index (i + 1) tag (entries_in (entry_at_index x 1))) (candidates_of_repositories_from (i + 1 + 1) (drop (i + 1) rs) (drop (i + 1) xs)))
      ∙ ap (λ (cs : List Candidate). cs ++ candidates_of_repositories_from (i + 1 + 1) (drop (i + 1) rs) (drop (i + 1) xs)) (sym made))

  pub indexed_passes : (fault : PoolFault) → IsPoolFault fault (length now + count_of (entries_in (entry_at_index x 1))) → IsPoolFault fault (length (candidates_of_repositories_from 1 rs xs))
  indexed_passes fault h =
      let own = candidates_of_index (i + 1) tag (entries_in (entry_at_index x 1)) in
      let rest = candidates_of_repositories_from (i + 1 + 1) (drop (i + 1) rs) (drop (i + 1) xs) in
      let e1 : length (candidates_of_repositories_from 1 rs xs) ≡ length now + length (own ++ rest) = ap length here ∙ length-append now (own ++ rest) in
      let e2 : length (own ++ rest) ≡ length own + length rest = length-append own rest in
      let e3 : length own ≡ count_of (entries_in (entry_at_index x 1)) = length-candidates_of_index (i + 1) tag (entries_in (entry_at_index x 1)) in
      fault_more fault _ _ (omega (arith, e1, e2, e3)) h

pub indexed_none : (rs : List Repository) (xs : List Plain) (now : List Candidate) → now ≡ [] → IsIndexedTo rs xs 0 now
indexed_none rs xs now is = ap (λ (cs : List Candidate). cs ++ candidates_of_repositories_from 1 rs xs) (sym is)

pub indexed_all : (rs : List Repository) (xs : List Plain) (i : ℕ) (now : List Candidate) → length rs ≤ i → IsIndexedTo rs xs i now → now ≡ candidates_of_repositories_from 1 rs xs
indexed_all rs xs i now past so_far =
    sym (so_far ∙ (ap (λ (l : List Repository). now ++ candidates_of_repositories_from (i + 1) l (drop i xs)) (drop_of_length-le rs past) ∙ append-nil now))

-- ---- the pool

pub pool_is : (inputs : Inputs) (upgraded : UpgradedNames) → length (candidates_of inputs) ≤ MOST_CANDIDATES → root_pool inputs upgraded ≡ Ok (selection_problem_from_parts (candidates_of inputs) inputs.root.new_world upgraded)
unfolding root_pool
pool_is inputs upgraded few =
    ap (λ (b : Bool). if b then Err (TooMany (MOST_CANDIDATES + 1)) else Ok (selection_problem_from_parts (candidates_of inputs) inputs.root.new_world upgraded)) (le-ltb MOST_CANDIDATES (length (candidates_of inputs)) few)

pub pool_is_none : (inputs : Inputs) (upgraded : UpgradedNames) (count : ℕ) → IsPoolFault (Pools.TooMany count) (length (candidates_of inputs)) → root_pool inputs upgraded ≡ Err (TooMany count)
unfolding root_pool
pool_is_none inputs upgraded count h =
    ap (λ (b : Bool). if b then Err (TooMany (MOST_CANDIDATES + 1)) else Ok (selection_problem_from_parts (candidates_of inputs) inputs.root.new_world upgraded)) (lt-ltb MOST_CANDIDATES (length (candidates_of inputs)) h.0)
    ∙ ap (λ (n : ℕ). Err (TooMany n)) (sym h.1)

pub pool_made : (inputs : Inputs) (upgraded : UpgradedNames) (cs : List Candidate) (pool : SelectionProblem) → cs ≡ candidates_of inputs → length cs ≤ MOST_CANDIDATES → pool ≡ selection_problem_from_parts cs inputs.root.new_world upgraded → root_pool inputs upgraded ≡ Ok pool
pool_made inputs upgraded cs pool are few is =
    pool_is inputs upgraded (subst (λ (l : List Candidate). length l ≤ MOST_CANDIDATES) are few)
    ∙ ap Ok (sym (is ∙ ap (λ (l : List Candidate). selection_problem_from_parts l inputs.root.new_world upgraded) are))
