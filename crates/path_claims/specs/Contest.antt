-- The member that beats every other one. In all these definitions, members are given by their indexes, and `beats x y`
-- says whether the member x beats the member y.
-- The rule is in `docs/commands.md`, "Files that several packages list".
use Rattle.std.specs.Prelude.{◌≡◌, ℕ, ◌==◌, Bool, true, false, not, ◌||◌, List, [], ◌∷◌, Option, None, option_map}
use Rattle.std.specs.List.{find, list_all}
use Rattle.path_claims.specs.declared.contest.Rivals.{Rivals}

-- whether the member x beats each other one of `members`
abbrev pub are_all_others_beaten_by : (ℕ → ℕ → Bool) → List ℕ → ℕ → Bool
are_all_others_beaten_by beats members x = list_all (λ y. (x == y) || beats x y) members

-- the member of the list that beats each other one in it, if there is one
unfoldable pub member_beating_all_others : (ℕ → ℕ → Bool) → List ℕ → Option ℕ
member_beating_all_others beats members = find (are_all_others_beaten_by beats members) members

-- two members as rivals: x is the first, y the second
abbrev pub rivals_of : ℕ → ℕ → Rivals
rivals_of x y = record { first = x; second = y }

-- the first member of the list, and the first other one that it does not beat; None if it beats all others
unfoldable pub first_with_unbeaten_rival : (ℕ → ℕ → Bool) → List ℕ → Option Rivals
first_with_unbeaten_rival beats [] = None
first_with_unbeaten_rival beats (x ∷ members) =
    option_map (rivals_of x) (find (λ y. not ((x == y) || beats x y)) (x ∷ members))

-- of any two members at most one beats the other
abbrev pub IsAsymmetric : (ℕ → ℕ → Bool) → Type 0
IsAsymmetric beats = (x y : ℕ) → beats x y ≡ true → beats y x ≡ false
