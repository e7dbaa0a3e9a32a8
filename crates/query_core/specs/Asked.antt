-- Which names and candidates a query asks for, in other words than in its definitions. Serves the laws of
-- `src/laws.rt`; the rules are in `docs/commands.md`, "`list`", "`search`" and "`policy`".
use Rattle.std.specs.Prelude.{◌≡◌, ◌⊎◌, ℕ, false, List, [], ◌∷◌, ◌++◌, Option, Some, slice_get}
use Rattle.std.specs.declared.cmp.Ordering.{Ordering}
use Rattle.std.specs.declared.cmp.Ordering.TheVariants.{Less}
use Rattle.pool_core.specs.candidate_core.Candidates.{Candidate}
use Rattle.pool_core.specs.candidate_core.Options.{IsIn}
use Rattle.command_core.specs.declared.operands.Operand.{Operand}
use Rattle.dep_core.specs.Dependency.{Dependency}
use Rattle.star_patterns.specs.Fills.{MatchesByFillingStars}

-- one of the patterns matches the whole name: its stars can be replaced by bytes so that it reads as the name
pub record IsNameMatchedBySomePattern (patterns : List Operand) (name : List ℕ) : Type 0 where
  -- the pattern, which is one of those given
  pub pattern : Operand
  pub given : IsIn pattern patterns
  -- bytes can replace the stars of the pattern so that it reads as the name
  pub filled : MatchesByFillingStars pattern.text name

-- one of the patterns matches a part of the name: its stars can be replaced by bytes so that it reads as this part
pub record HasPartMatchedBySomePattern (patterns : List Operand) (name : List ℕ) : Type 0 where
  -- the pattern, which is one of those given
  pub pattern : Operand
  pub given : IsIn pattern patterns
  -- the name has a part, with bytes before it and after it
  pub before : List ℕ
  pub part : List ℕ
  pub after : List ℕ
  pub name_is : name ≡ before ++ part ++ after
  -- bytes can replace the stars of the pattern so that it reads as this part
  pub filled : MatchesByFillingStars pattern.text part

-- a candidate provides a name: an entry of its provides has the name and is no conflict
pub record ProvidesName (c : Candidate) (name : List ℕ) : Type 0 where
  -- an entry of the candidate's provides
  pub entry : Dependency
  pub provided : IsIn entry c.provides
  -- the entry is no conflict, and has the name
  pub no_conflict : entry.conflict ≡ false
  pub name_is : entry.name ≡ name

-- a candidate has a name: its own, or one that it provides
abbrev pub IsOwnOrProvidedName : Candidate → List ℕ → Type 0
IsOwnOrProvidedName c name = (c.name ≡ name) ⊎ ProvidesName c name

-- one of these candidates has this name of its own, and this version
pub record HasCandidateWithOwnNameAndEqualVersion (candidates : List Candidate) (name : List ℕ)
    (version : Option (List ℕ))
    : Type 0 where
  -- the place of this candidate in the list, counted from 0
  pub place : ℕ
  pub candidate : Candidate
  pub here : slice_get candidates place ≡ Some candidate
  -- its own name is the given name, and its version is the given version
  pub name_is : candidate.name ≡ name
  pub version_is : candidate.version ≡ version

-- each element of a list comes before all elements that follow it, in the order `cmp`
abbrev pub AreStrictlyInOrderBy : {X : Type 0} → (X → X → Ordering) → List X → Type 0
AreStrictlyInOrderBy cmp [] = Unit {0}
AreStrictlyInOrderBy {X} cmp (x ∷ xs) = ((y : X) → IsIn y xs → cmp x y ≡ Less) × AreStrictlyInOrderBy cmp xs
