-- The long texts of a payload that a draft contains. No rule of a document: serves the contracts of
-- `src/known_texts.rt` and `src/overlaps.rt`; that a blob is stored once is `docs/formats.md`,
-- "Canonical layout".
use Rattle.std.specs.Prelude.{◌≡◌, ℕ, List, Some, All, ◌≤◌, ◌+◌, ◌-◌, ◌%◌, slice_range, take, drop}
use Rattle.std.specs.BTreeMap.{BTreeMap, get}
use Rattle.std.specs.Ordering.{nat_cmp}
use Rattle.adb_view.specs.Values.{text_in, value_at}
use Rattle.adb_view.specs.declared.tables.Kind.TheVariants.{Text}
use Rattle.adb_values.specs.Drafts.{DraftState}
use Rattle.adb_values.specs.Words.{HasBlob}
use Rattle.adb_copy.specs.declared.known_texts.KnownTexts.{KnownTexts}
use Rattle.adb_copy.specs.declared.overlaps.PeriodicRange.{PeriodicRange}
use Rattle.adb_copy.specs.declared.overlaps.TextPlace.{TextPlace}

-- the range has its period in the payload: the bytes of the range without the first period are equal to its bytes
-- without the last period
abbrev pub HasPeriod : List ℕ → PeriodicRange → Type 0
HasPeriod payload range =
    slice_range payload (range.from + range.period) range.end
    ≡ slice_range payload range.from (range.end - range.period)

-- the text is in the range, and `phase` is the distance of its first byte from the beginning of a period
pub record IsPhaseOf (range : PeriodicRange) (text : TextPlace) (phase : ℕ) : Type 0 where
  -- the text begins in the range
  pub behind : range.from ≤ text.from
  -- the text ends in the range
  pub within : text.from + text.len ≤ range.end
  -- the phase is the distance of the text from the start of the range, modulo the period
  pub is : phase ≡ (text.from - range.from) % range.period

-- the range proves that two texts are equal: in each payload in which the range has its period, the bytes at these
-- two places are equal
abbrev pub AreEqualByPeriod : PeriodicRange → TextPlace → TextPlace → Type 0
AreEqualByPeriod range left right = (payload : List ℕ) → HasPeriod payload range
    → take left.len (drop left.from payload) ≡ take right.len (drop right.from payload)

-- `words` maps words of the payload to words of a draft. In it `known` is remembered for a text that equals the
-- text of `word`
pub record IsRememberedTextWord (payload : List ℕ) (words : BTreeMap ℕ ℕ) (word known : ℕ) : Type 0 where
  -- a word of the payload, whose text is remembered
  pub kept : ℕ
  -- `known` is the word of the draft that is remembered for this text
  pub has : get nat_cmp words kept ≡ Some known
  -- this text equals the text of `word`
  pub same : text_in (value_at payload Text kept) ≡ text_in (value_at payload Text word)

-- the remembered texts are blobs of the draft: in the draft, each has the word that is remembered for it. The
-- remembered ranges of the payload have their periods
pub record AreRememberedBlobsOfDraft (payload : List ℕ) (draft : DraftState)
    (texts : KnownTexts) : Type 0 where
  -- each text has in the draft the word that is remembered for it
  pub known : (word known : ℕ) → get nat_cmp texts.words word ≡ Some known
      → HasBlob draft (text_in (value_at payload Text word)) known
  -- each remembered range has its period
  pub periodic : All (HasPeriod payload) texts.overlaps.ranges.items
