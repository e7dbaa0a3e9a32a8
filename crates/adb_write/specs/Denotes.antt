-- Which value a word represents in a payload or in a writer, whatever tables are used. The meaning of a word is defined
-- in `docs/formats.md`, "Values"; the laws over these definitions are in `src/laws.rt`.
use Rattle.std.specs.Prelude.{◌≡◌, ◌≢◌, ℕ, ◌<◌, ◌^◌, false, List, [], ◌∷◌, Ok}
use Rattle.adb_view.specs.Plain.{Plain, null, int, blob, arr, obj, Plains, none, more}
use Rattle.adb_view.specs.Readers.{int_of, blob_of, run_entries_of_kind_in_payload_at_word, ARRAY, OBJECT}
use Rattle.adb_write.specs.Canonical.{Layout, payload_with_root_word_in_head}
use Rattle.adb_write.specs.Writing.{Writing, is_past_limit, layout_of}

-- in the payload `p` the word `w` represents this value: each word in it has the kind of its value
unfoldable mutual
  pub Holds : List ℕ → Plain → ℕ → Type 0
  Holds p null w = w ≡ 0
  Holds p (int n) w = (w ≢ 0) × (int_of p w ≡ Ok n)
  Holds p (blob b) w = (w ≢ 0) × (blob_of p w ≡ Ok b)
  Holds p (arr vs) w =
      (w ≢ 0) × (ws : List ℕ) × (run_entries_of_kind_in_payload_at_word ARRAY p w ≡ Ok ws) × HoldAll p vs ws
  Holds p (obj vs) w =
      (w ≢ 0) × (ws : List ℕ) × (run_entries_of_kind_in_payload_at_word OBJECT p w ≡ Ok ws)
      × HoldAll p vs ws

  -- in the payload `p` the words represent these values, one for one
  pub HoldAll : List ℕ → Plains → List ℕ → Type 0
  HoldAll p none [] = Unit {0}
  HoldAll p none (w ∷ ws) = ⊥
  HoldAll p (more v vs) [] = ⊥
  HoldAll p (more v vs) (w ∷ ws) = Holds p v w × HoldAll p vs ws

-- in the payload of a layout the word represents this value, whatever the root of the payload is
pub record IsWordOf (out : Layout) (v : Plain) (word : ℕ) : Type 0 where
  -- the word has 32 bits
  pub small : word < 2 ^ 32
  -- with any root, the word represents this value in the payload
  pub holds : (root : ℕ) → Holds (payload_with_root_word_in_head root out) v word

-- unless the writer passed a limit, the word represents this value in the writer's payload
abbrev pub Denotes : Writing → Plain → ℕ → Type 0
Denotes w v word = is_past_limit w ≡ false → IsWordOf (layout_of w) v word

-- unless the writer passed a limit, the words represent these values in the writer's payload, one for one
abbrev pub AllDenoteValuesUnlessPastLimit : Writing → Plains → List ℕ → Type 0
AllDenoteValuesUnlessPastLimit w none [] = Unit {0}
AllDenoteValuesUnlessPastLimit w none (x ∷ xs) = ⊥
AllDenoteValuesUnlessPastLimit w (more v vs) [] = ⊥
AllDenoteValuesUnlessPastLimit w (more v vs) (x ∷ xs) =
    Denotes w v x × AllDenoteValuesUnlessPastLimit w vs xs
