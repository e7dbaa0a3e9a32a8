-- What `demo` adds and prints. The rules are in `docs/commands.md`, "`demo N`". Serves the laws of
-- `src/demo.rt`.
use Rattle.std.specs.Prelude.{ℕ, ◌≡◌, ◌⊎◌, ◌≤◌, ◌/◌, false, List, [], ◌++◌, codes}
use Rattle.std.specs.List.{list_any}
use Rattle.dep_core.specs.World.{is_line_end}
use Rattle.outcome.specs.DemoLines.{demo_package_name}

-- a text has no line end
abbrev pub HasNoLineEnd : List ℕ → Type 0
HasNoLineEnd text = list_any is_line_end text ≡ false

-- a text consists of whole lines, or is empty
abbrev pub AreWholeLines : List ℕ → Type 0
AreWholeLines text = (text ≡ []) ⊎ ((before : List ℕ) × (text ≡ before ++ codes "\n"))

-- The name is that of one of n packages, on which no other of these packages depends. Package j, from the second on,
-- depends on package j / 2 (rounded down).
pub record IsUnneededAmongFirstDemoPackages (n : ℕ) (name : List ℕ) : Type 0 where
  -- the number of the package, from 1 to n
  pub number : ℕ
  -- the number is at least 1
  pub least : 1 ≤ number
  -- the number is at most n
  pub most : number ≤ n
  -- the name is that of the package with this number
  pub named : name ≡ demo_package_name number
  -- no package from the second on has half its number, rounded down, equal to this number
  pub none : (j : ℕ) → 2 ≤ j → j ≤ n → j / 2 ≡ number → ⊥
