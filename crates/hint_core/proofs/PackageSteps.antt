-- The lines of a package's file, repository by repository; and what is explained by the file that names
-- the repositories.
use Rattle.std.proofs.Common.{◌≡◌, ◌≤◌, ◌∙◌, ◌+◌, ℕ, zero, suc, List, [], ◌∷◌, ◌++◌, length, take, Option, Some, Result, Ok, Err, refl, sym, subst, ap, arith, append_assoc, append-nil}
use Rattle.std.specs.Prelude.{IfOk, Vec}
use Rattle.std.specs.List.{slice_get}
use Rattle.std.specs.Option.{option_map}
use Rattle.std.proofs.lemmas.List.{take_all}
use Rattle.std.proofs.lemmas.Option.{none-some, same_Some}
use Rattle.std.specs.declared.alloc.Global.{Global}
use Rattle.base_core.specs.Calls.{IfObservable}
use Rattle.base_core.specs.Tree.{TreeState, files_of}
use Rattle.base_core.specs.declared.tree.TreeFault.{TreeFault}
use Rattle.dep_core.specs.Repositories.{Repository, repositories_of}
use Rattle.report_core.specs.declared.refusal.Refusal.{Refusal}
use Rattle.root_names.specs.RootNames.{repositories_name}
use Rattle.hint_core.specs.PackageFile.{ExplainsBeside, ExplainsByText, ExplainsEach, ExplainsPackage}
use Rattle.hint_core.specs.Warnings.{text_of_found}

-- the lines of one more repository
each_more : (name version : List ℕ) (refusal : Refusal) (history : List TreeState) (rs : List Repository) (i : ℕ) (path before one after : List ℕ) → option_map (λ (r : Repository). r.path) (slice_get rs i) ≡ Some path → ExplainsEach name version refusal history (take i rs) before → ExplainsBeside name version refusal history path one → after ≡ before ++ one → ExplainsEach name version refusal history (take (suc i) rs) after
each_more name version refusal history [] i path before one after e h b so = absurd (none-some path e)
each_more name version refusal history (r ∷ rs) zero path before one after e h b so = (
  one,
  [],
  subst (λ (p : List ℕ). ExplainsBeside name version refusal history p one) (sym (same_Some _ _ e)) b,
  refl,
  so ∙ (ap (λ (l : List ℕ). l ++ one) h ∙ sym (append-nil one)),
)
each_more name version refusal history (r ∷ rs) (suc i) path before one after e (first, more, own, others, is) b so = (
  first,
  more ++ one,
  own,
  each_more name version refusal history rs i path more one (more ++ one) e others b refl,
  so ∙ (ap (λ (l : List ℕ). l ++ one) is ∙ append_assoc first more one),
)

-- the lines of the repositories before an index, behind other text
abbrev pub ExplainsSoFar : List ℕ → List ℕ → Refusal → List TreeState → List Repository → ℕ → List ℕ → List ℕ → Type 0
ExplainsSoFar name version refusal history rs i front lines = (each : List ℕ) × ExplainsEach name version refusal history (take i rs) each × (lines ≡ front ++ each)

pub none_so_far : (name version : List ℕ) (refusal : Refusal) (history : List TreeState) (rs : List Repository) (front lines : List ℕ) → lines ≡ front → ExplainsSoFar name version refusal history rs 0 front lines
none_so_far name version refusal history rs front lines is = ([], refl, is ∙ sym (append-nil front))

-- the lines of one more repository, of a tree that was read since
pub so_far_more : (name version : List ℕ) (refusal : Refusal) (old mid : List TreeState) (rs : List Repository) (i : ℕ) (front path before one after : List ℕ) → mid ≡ old → option_map (λ (r : Repository). r.path) (slice_get rs i) ≡ Some path → ExplainsSoFar name version refusal old rs i front before → ExplainsBeside name version refusal mid path one → after ≡ before ++ one → ExplainsSoFar name version refusal old rs (i + 1) front after
so_far_more name version refusal old mid rs i front path before one after same e (each, h, is) b so =
    let next : suc i ≡ i + 1 = omega arith in (
      each ++ one,
      subst (λ (k : ℕ). ExplainsEach name version refusal old (take k rs) (each ++ one)) next
          (each_more name version refusal old rs i path each one (each ++ one) e h (subst (λ (history : List TreeState). ExplainsBeside name version refusal history path one) same b) refl),
      so ∙ (ap (λ (l : List ℕ). l ++ one) is ∙ append_assoc front each one),
    )

-- the lines of all repositories
pub so_far_of_all : (name version : List ℕ) (refusal : Refusal) (history : List TreeState) (rs : List Repository) (i : ℕ) (front lines : List ℕ) → length rs ≤ i → ExplainsSoFar name version refusal history rs i front lines → (each : List ℕ) × ExplainsEach name version refusal history rs each × (lines ≡ front ++ each)
so_far_of_all name version refusal history rs i front lines past (each, h, is) = (each, subst (λ (l : List Repository). ExplainsEach name version refusal history l each) (take_all i rs past) h, is)

-- what is explained by the text of a file is explained by what is found under its name
pub package_explained : (name version : List ℕ) (refusal : Refusal) (old mid : List TreeState) (file text : List ℕ) (found : Option (List ℕ)) (r : Result (Vec ℕ Global) TreeFault) → mid ≡ old → text ≡ text_of_found found → file ≡ repositories_name → IfObservable old (λ v. found ≡ files_of v file)
    → IfOk r (λ lines. ExplainsByText name version refusal (repositories_of text) mid lines.items) → IfOk r (λ lines. ExplainsPackage name version refusal old lines.items)
package_explained name version refusal old mid file text found (Ok lines) same is named seen h = (
  found,
  subst (λ (n : List ℕ). IfObservable old (λ v. found ≡ files_of v n)) named seen,
  subst (λ (history : List TreeState). ExplainsByText name version refusal (repositories_of (text_of_found found)) history lines.items) same
      (subst (λ (t : List ℕ). ExplainsByText name version refusal (repositories_of t) mid lines.items) is h),
)
package_explained name version refusal old mid file text found (Err fault) same is named seen h = tt
