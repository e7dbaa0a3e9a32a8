-- The steps of the loop over the lines of repositories.
use Rattle.std.proofs.Common.{◌≡◌, ℕ, ◌+◌, ◌<◌, ◌≤◌, List, [], ◌++◌, length, get_or, drop, Option, Some, None, Result, Ok, Err, refl, ap, sym, ◌∙◌, append_assoc, append-nil}
use Rattle.std.specs.Option.{option_map}
use Rattle.std.proofs.lemmas.List.{at_drop_more, at_drop_all}
use Rattle.dep_core.specs.Repositories.{Repository, with_repositories_of_line, repositories_from, repositories_on_line}

pub nothing_before : (line : ℕ) (xs : List Repository) (rest : Result (List Repository) ℕ) → xs ≡ [] → with_repositories_of_line line (Some xs) rest ≡ rest
nothing_before line xs (Ok zs) e = ap (λ ys. Ok (ys ++ zs)) e
nothing_before line xs (Err bad) e = refl

joined : (j k : ℕ) (xs found : List Repository) (rest : Result (List Repository) ℕ) → with_repositories_of_line j (Some xs) (with_repositories_of_line k (Some found) rest) ≡ with_repositories_of_line k (Some (xs ++ found)) rest
joined j k xs found (Ok zs) = ap Ok (sym (append_assoc xs found zs))
joined j k xs found (Err bad) = refl

bad-by : (j k : ℕ) (xs : List Repository) (on : Option (List Repository)) (rest : Result (List Repository) ℕ) → option_map (λ found. xs ++ found) on ≡ None → with_repositories_of_line j (Some xs) (with_repositories_of_line k on rest) ≡ Err k
bad-by j k xs None rest h = refl
bad-by j k xs (Some found) rest h = (cc)

good-by : (j k : ℕ) (xs ys : List Repository) (on : Option (List Repository)) (rest : Result (List Repository) ℕ) → option_map (λ found. xs ++ found) on ≡ Some ys → with_repositories_of_line j (Some xs) (with_repositories_of_line k on rest) ≡ with_repositories_of_line k (Some ys) rest
good-by j k xs ys None rest h = (cc)
good-by j k xs ys (Some found) rest h = joined j k xs found rest ∙ ap (λ o. with_repositories_of_line k o rest) h

step : (k : ℕ) (lines : List (List ℕ)) (n : ℕ) (x : List ℕ) → (n < length lines) × (x ≡ get_or lines n x) → repositories_from k (drop n lines) ≡ with_repositories_of_line k (repositories_on_line x) (repositories_from (k + 1) (drop (n + 1) lines))
step k lines n x h =
    at_drop_more (repositories_from k) lines n x h.0
    ∙ ap (λ y. with_repositories_of_line k (repositories_on_line y) (repositories_from (k + 1) (drop (n + 1) lines))) (sym h.1)

pub bad_line : (j k : ℕ) (xs : List Repository) (lines : List (List ℕ)) (n : ℕ) (x : List ℕ) (r : Result (List Repository) ℕ) → (n < length lines) × (x ≡ get_or lines n x) → option_map (λ found. xs ++ found) (repositories_on_line x) ≡ None → with_repositories_of_line j (Some xs) (repositories_from k (drop n lines)) ≡ r → r ≡ Err k
bad_line j k xs lines n x r h b q =
    sym q
    ∙ (ap (with_repositories_of_line j (Some xs)) (step k lines n x h) ∙ bad-by j k xs (repositories_on_line x) (repositories_from (k + 1) (drop (n + 1) lines)) b)

pub good_line : (j k m : ℕ) (xs ys : List Repository) (lines : List (List ℕ)) (n : ℕ) (x : List ℕ) (r : Result (List Repository) ℕ) → (n < length lines) × (x ≡ get_or lines n x) → option_map (λ found. xs ++ found) (repositories_on_line x) ≡ Some ys → m ≡ n + 1 → with_repositories_of_line j (Some xs) (repositories_from k (drop n lines)) ≡ r → with_repositories_of_line k (Some ys) (repositories_from (k + 1) (drop m lines)) ≡ r
good_line j k m xs ys lines n x r h b p q =
    ap (λ i. with_repositories_of_line k (Some ys) (repositories_from (k + 1) (drop i lines))) p
    ∙ (sym (ap (with_repositories_of_line j (Some xs)) (step k lines n x h) ∙ good-by j k xs ys (repositories_on_line x) (repositories_from (k + 1) (drop (n + 1) lines)) b) ∙ q)

pub no_line : (j k : ℕ) (xs : List Repository) (lines : List (List ℕ)) (n : ℕ) (r : Result (List Repository) ℕ) → length lines ≤ n → with_repositories_of_line j (Some xs) (repositories_from k (drop n lines)) ≡ r → r ≡ Ok xs
no_line j k xs lines n r h q =
    sym q
    ∙ (ap (with_repositories_of_line j (Some xs)) (at_drop_all (repositories_from k) lines n h) ∙ ap Ok (append-nil xs))
