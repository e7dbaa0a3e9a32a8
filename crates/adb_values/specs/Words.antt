-- The words of the blobs that a draft has. The rule is in `docs/formats.md`, "Canonical layout" ("Equal
-- values are stored once").
use Rattle.std.specs.Prelude.{ℕ, List}
use Rattle.adb_write.specs.Again.{HasAllItemsUnlessPastLimit, IsWordOfBlob}
use Rattle.adb_values.specs.Drafts.{DraftState}

-- in the draft d, the blob with these bytes has the word `word`, and it has the same word if it is written again
pub record HasBlob (d : DraftState) (bytes : List ℕ) (word : ℕ) : Type 0 where
  -- the writer returns this word if the blob is written again
  pub is : IsWordOfBlob d.writing bytes word
  -- the payload contains all of each written item, so that the blob can be found later
  pub whole : HasAllItemsUnlessPastLimit d.writing
