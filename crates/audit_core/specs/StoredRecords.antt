-- A record as the program keeps it. No rule of a document: serves the model of `Record` in
-- `src/records.rt`.
use Rattle.std.specs.Prelude.{ℕ, List}

-- the record of a file, whose entry is not yet read: the payload of a container, and the word (32-bit reference) that
-- refers to the entry in this payload
pub record StoredRecord : Type 0 where
  -- the path of the file
  pub path : List ℕ
  -- the bytes of the payload that has the entry
  pub payload : List ℕ
  -- the word that refers to the entry in the payload
  pub word : ℕ
