-- The measure of a search, which falls at each step: a number with a digit for each frame, the lowest
-- frame's first. No rule of a document: serves the proof that `solve` ends ("and it ends":
-- `docs/selection.md`, "How the search works"). An option that is taken or ruled out makes its frame's
-- digit smaller, and the digits after it have less weight.
use Rattle.std.specs.Prelude.{Option, None, Some, ℕ, zero, suc, ◌+◌, ◌*◌, ◌^◌, List, [], ◌∷◌, ◌++◌, length}
use Rattle.search_choices.specs.search_tables.Reasons.{FrameValue}

-- the number b to the power n
unfoldable pub power : ℕ → ℕ → ℕ
power b zero = 1
power b (suc n) = b * power b n

-- the base of the numbers, which no digit reaches: a list has less than 2^64 options, and a digit
-- counts one more
unfoldable pub base : ℕ
base = 2 ^ 64 + 2

-- the number of digits: a list has less than 2^64 frames, and each frame has one digit
unfoldable pub most_digits : ℕ
most_digits = 2 ^ 64

-- the digit of a frame: the number of its options that are left, plus one, so that it is never 0
abbrev pub digit : FrameValue → ℕ
digit f = suc (length f.1)

-- the number with these digits in the base `b`. The first digit is the most significant one; the number has
-- `room` digits, and those that are missing at the end count as 0
unfoldable pub weight : ℕ → ℕ → List ℕ → ℕ
weight b room [] = 0
weight b zero (d ∷ ds) = 0
weight b (suc room) (d ∷ ds) = d * power b room + weight b room ds

-- the digits of the frames of these turns, that of the first turn first
abbrev pub digits : List (FrameValue × ℕ) → List ℕ
digits [] = []
digits (turn ∷ turns) = digit turn.0 ∷ digits turns

-- the measure of a search: the number whose digits are those of the frames of all turns, and last that of the topmost
-- frame `top`, which has no choice yet
unfoldable pub search_measure : List (FrameValue × ℕ) → FrameValue → ℕ
search_measure turns top = weight base most_digits (digits turns ++ digit top ∷ [])

-- the measure of a search whose next frame, if a need is left, is `next`
abbrev pub next_measure : List (FrameValue × ℕ) → Option FrameValue → ℕ
next_measure turns None = 0
next_measure turns (Some top) = suc (search_measure turns top)
