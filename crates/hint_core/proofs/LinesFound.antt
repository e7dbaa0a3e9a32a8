-- The steps of the loops over the lines of a text.
use Rattle.std.proofs.Common.{◌≡◌, ◌∙◌, ◌+◌, ◌-◌, ◌<◌, ◌≤◌, ℕ, suc, List, length, drop, get_or, Option, Some, None, sym, ap, cond}
use Rattle.std.specs.List.{slice_get}
use Rattle.std.proofs.lemmas.Bool.{eq-eqb, ne_eqb}
use Rattle.std.proofs.lemmas.List.{at_drop_more, at_drop_all}
use Rattle.dep_core.specs.Repositories.{repositories_of}
use Rattle.hint_core.specs.declared.find.PathAlone.{PathAlone}
use Rattle.hint_core.specs.declared.find.PathAlone.TheVariants.{Path, Skipped, Bad}
use Rattle.hint_core.specs.declared.find.RepositoryLine.{RepositoryLine}
use Rattle.hint_core.specs.Repositories.{repository_from_line, path_alone, repository_at, repository_line_from_parts}

-- the repository that lines from an index on name
abbrev pub at_lines : ℕ → ℕ → List (List ℕ) → ℕ → Option RepositoryLine
at_lines number line lines n = repository_at number line (drop n lines)

pub next_line : (number line : ℕ) (lines : List (List ℕ)) (n : ℕ) (x : List ℕ) → (n < length lines) × (x ≡ get_or lines n x) → repository_at number line (drop n lines) ≡ repository_from_line (path_alone (repositories_of x)) number line (λ left. repository_at left (line + 1) (drop (n + 1) lines))
next_line number line lines n x h =
    at_drop_more (repository_at number line) lines n x h.0
    ∙ ap (λ y. repository_from_line (path_alone (repositories_of y)) number line (λ left. repository_at left (line + 1) (drop (n + 1) lines))) (sym h.1)

pub no_next : (number line : ℕ) (lines : List (List ℕ)) (n : ℕ) → length lines ≤ n → repository_at number line (drop n lines) ≡ None
no_next number line lines n h = at_drop_all (repository_at number line) lines n h

-- the line after some others, of those that are left
pub line_here : (lines : List (List ℕ)) (n : ℕ) (x : List ℕ) → (n < length lines) × (x ≡ get_or lines n x) → slice_get (drop n lines) 0 ≡ Some x
line_here lines n x h = at_drop_more (λ ls. slice_get ls 0) lines n x h.0 ∙ ap Some (sym h.1)

pub line_later : (lines : List (List ℕ)) (n left : ℕ) (x : List ℕ) → (n < length lines) × (x ≡ get_or lines n x) → slice_get (drop n lines) (suc left) ≡ slice_get (drop (n + 1) lines) left
line_later lines n left x h = at_drop_more (λ ls. slice_get ls (suc left)) lines n x h.0

pub line_none : (lines : List (List ℕ)) (n left : ℕ) → length lines ≤ n → slice_get (drop n lines) left ≡ None
line_none lines n left h = at_drop_all (λ ls. slice_get ls left) lines n h

-- ---- a line that was read, of which the repository with a number is left

module _ (number line : ℕ) (lines : List (List ℕ)) (n : ℕ) (x : List ℕ) (r : Option RepositoryLine) (at : (n < length lines) × (x ≡ get_or lines n x)) (left : repository_at number line (drop n lines) ≡ r) where
  abbrev behind : ℕ → Option RepositoryLine
  behind = λ more. repository_at more (line + 1) (drop (n + 1) lines)

  read_as : (found : PathAlone) → path_alone (repositories_of x) ≡ found → repository_from_line found number line behind ≡ r
  read_as found is = ap (λ o. repository_from_line o number line behind) (sym is) ∙ (sym (next_line number line lines n x at) ∙ left)

  pub bad_here : path_alone (repositories_of x) ≡ Bad → None ≡ r
  bad_here is = read_as Bad is

  pub found_here : (path : List ℕ) → path_alone (repositories_of x) ≡ Path path → number ≡ 1 → Some (repository_line_from_parts line path) ≡ r
  found_here path is one =
      ap (λ b. cond b (Some (repository_line_from_parts line path)) (behind (number - 1))) (sym (eq-eqb number 1 one)) ∙ read_as (Path path) is

  pub skipped_here : (m : ℕ) → m ≡ n + 1 → path_alone (repositories_of x) ≡ Skipped → repository_at number (line + 1) (drop m lines) ≡ r
  skipped_here m next is = ap (λ i. repository_at number (line + 1) (drop i lines)) next ∙ read_as Skipped is

  pub later_here : (path : List ℕ) (m less : ℕ) → m ≡ n + 1 → path_alone (repositories_of x) ≡ Path path → (number ≡ 1 → ⊥) → less ≡ number - 1 → repository_at less (line + 1) (drop m lines) ≡ r
  later_here path m less next is other fewer =
      ap (λ i. repository_at less (line + 1) (drop i lines)) next
      ∙ (ap behind fewer
      ∙ (ap (λ b. cond b (Some (repository_line_from_parts line path)) (behind (number - 1))) (sym (ne_eqb number 1 other)) ∙ read_as (Path path) is))
