-- Why options are ruled out, and the state of a search. A reason is a list of candidates that no
-- satisfying selection contains together. The rule is in `docs/selection.md`, "How the search works";
-- the words in `docs/names.md`, "Choosing packages". Serves the contracts of
-- `src/candidate_set.rt`, and in `solve_core` those of `src/search.rt`.
use Rattle.std.specs.Prelude.{◌≡◌, ℕ, true, List, [], ◌∷◌, ◌++◌, Some, None}
use Rattle.pool_core.specs.candidate_core.Candidates.{Need}
use Rattle.pool_core.specs.candidate_core.Rank.{SelectionProblem, is_better, is_eligible_at, meets_at}
use Rattle.pool_core.specs.candidate_core.Options.{IsStrictlySortedBestFirst, IsIn, options_for}
use Rattle.search_tables.specs.Selection.{AreAllMembersOf, AreDistinct, exclude_each_other, needs, next_need}

-- candidates that are compatible: each may be selected, none occurs twice, and no two exclude each
-- other
abbrev pub AreCompatible : SelectionProblem → List ℕ → Type 0
AreCompatible pool chosen =
    AreDistinct chosen × ((c : ℕ) → IsIn c chosen → is_eligible_at pool c ≡ true)
    × ((a b : ℕ) → IsIn a chosen → IsIn b chosen → exclude_each_other pool a b ≡ true → ⊥)

-- a selection that satisfies world, as the search finds it: compatible, and no need is left to be met
abbrev pub IsSolution : SelectionProblem → List ℕ → Type 0
IsSolution pool selection = AreCompatible pool selection × (next_need pool selection ≡ None)

-- the candidates are a reason: no satisfying selection has all of them
abbrev pub IsReason : SelectionProblem → List ℕ → Type 0
IsReason pool reason = (selection : List ℕ) → IsSolution pool selection →
    AreAllMembersOf reason selection → ⊥

-- why a candidate `c` cannot join some choices: `c` and some of the choices, `others`, form a reason
pub record IsRuledOutBy (pool : SelectionProblem) (chosen : List ℕ) (c : ℕ) (others : List ℕ) : Type 0 where
  -- `others` are choices
  pub within : AreAllMembersOf others chosen
  -- no satisfying selection has `c` and all of `others`
  pub dead : IsReason pool (c ∷ others)

-- a frame, in this order: the ruled-out options, each with the other members of its reason; the options that are
-- left; the choices that raised the frame's need
abbrev pub FrameValue : Type 0
FrameValue = List (ℕ × List ℕ) × List ℕ × List ℕ

-- the options that are ruled out, without the other members of their reasons
abbrev pub ruled_out_options : List (ℕ × List ℕ) → List ℕ
ruled_out_options [] = []
ruled_out_options (p ∷ ps) = p.0 ∷ ruled_out_options ps

-- each option of the list is ruled out by a reason whose other members are choices
abbrev pub AreRuledOut : SelectionProblem → List ℕ → List (ℕ × List ℕ) → Type 0
AreRuledOut pool chosen [] = Unit {0}
AreRuledOut pool chosen (p ∷ ps) = IsRuledOutBy pool chosen p.0 p.1 × AreRuledOut pool chosen ps

-- the frame is that of the next need after the choices `chosen`. In their order, the options of this need are those
-- that are ruled out, and then those that are left. World and the choices in `f.2` alone raise the need. Each
-- ruled-out option has a reason whose other members are choices
abbrev pub IsFrameOf : SelectionProblem → List ℕ → FrameValue → Type 0
IsFrameOf pool chosen f =
    (need : Need) × (next_need pool chosen ≡ Some need) × (options_for pool need ≡ ruled_out_options f.0
    ++ f.1)
    × AreAllMembersOf f.2 chosen × IsIn need (needs pool f.2) × AreRuledOut pool chosen f.0

-- the option `c` was just taken from the frame: with `c` put back in front of the options that are left, the frame is
-- that of the next need after the choices `chosen`
abbrev pub IsFrameTaking : SelectionProblem → List ℕ → FrameValue → ℕ → Type 0
IsFrameTaking pool chosen f c = IsFrameOf pool chosen (f.0, c ∷ f.1, f.2)

-- after the choices `chosen`, further choices were made at these turns, in this order: at each turn, the option was
-- taken from the frame of the next need
abbrev pub AreTurnsFrom : SelectionProblem → List ℕ → List (FrameValue × ℕ) → Type 0
AreTurnsFrom pool chosen [] = Unit {0}
AreTurnsFrom pool chosen (turn ∷ turns) =
    IsFrameTaking pool chosen turn.0 turn.1 × AreTurnsFrom pool (chosen ++ turn.1 ∷ []) turns

-- the choices of some turns: the option that each frame took
abbrev pub choices_of_turns : List (FrameValue × ℕ) → List ℕ
choices_of_turns [] = []
choices_of_turns (turn ∷ turns) = turn.1 ∷ choices_of_turns turns

-- the frame is that of the next need after some choices, and no option of it is left
abbrev pub IsExhaustedFrame : SelectionProblem → List ℕ → FrameValue → Type 0
IsExhaustedFrame pool chosen f = IsFrameOf pool chosen f × (f.1 ≡ [])

-- the other members of the reasons against all options that are ruled out, one list after the other
abbrev pub other_members_of_reasons : List (ℕ × List ℕ) → List ℕ
other_members_of_reasons [] = []
other_members_of_reasons (p ∷ ps) = p.1 ++ other_members_of_reasons ps

-- the reason of a dead end, a frame without options that are left: the choices that raised the need, and the other
-- members of the reasons against all its options
abbrev pub dead_end_reason : FrameValue → List ℕ
dead_end_reason f = f.2 ++ other_members_of_reasons f.0

-- each member of one list is a member of the other list; order and repetition make no difference
abbrev pub HasSameMembers : List ℕ → List ℕ → Type 0
HasSameMembers xs ys = AreAllMembersOf xs ys × AreAllMembersOf ys xs

-- the promise of a pool about the options of a need: they are exactly the candidates that may be
-- selected and meet it, each better than those after it
pub record HasOptions (pool : SelectionProblem) (need : Need) : Type 0 where
  -- each option may be selected, and meets the need
  pub those : (c : ℕ) → IsIn c (options_for pool need) → (is_eligible_at pool c ≡ true)
      × (meets_at pool c need ≡ true)
  -- each candidate that may be selected and meets the need is an option
  pub each : (c : ℕ) → is_eligible_at pool c ≡ true → meets_at pool c need ≡ true →
      IsIn c (options_for pool need)
  -- each option is better than those after it
  pub best_first : IsStrictlySortedBestFirst (is_better pool need) (options_for pool need)
