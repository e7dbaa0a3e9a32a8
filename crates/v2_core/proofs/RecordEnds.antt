-- What is read from the end of a record on.
use Rattle.std.proofs.Common.{◌≡◌, ℕ, true, false, cond, List, [], ◌∷◌, Result, Ok, Err, refl, sym, ◌∙◌, ap}
use Rattle.make_info.specs.adb_values.Drafts.{DraftState, draft_with}
use Rattle.v2_core.specs.Database.{record_value}
use Rattle.v2_core.specs.Reading.{records_from_record_end, records_followed_by}
use Rattle.v2_core.specs.Records.{Record, lacks_name_or_version_line}
use Rattle.v2_core.specs.Writing.{draft_with_records}

-- a record without a line is none
pub none_ends : (lines : ℕ) (r : Record) (others : Result (List Record) ℕ) → r.has_line ≡ false → records_from_record_end lines r others ≡ others
none_ends lines r others h =
    ap (λ b. cond b (cond (lacks_name_or_version_line r.info) (Err lines) (records_followed_by (r ∷ []) others)) others) h

pub bad_end : (lines : ℕ) (r : Record) (others : Result (List Record) ℕ) → r.has_line ≡ true → lacks_name_or_version_line r.info ≡ true → records_from_record_end lines r others ≡ Err lines
bad_end lines r others h lacks =
    ap (λ b. cond b (cond (lacks_name_or_version_line r.info) (Err lines) (records_followed_by (r ∷ []) others)) others) h
    ∙ ap (λ b. cond b (Err lines) (records_followed_by (r ∷ []) others)) lacks

pub good_end : (lines : ℕ) (r : Record) (others : Result (List Record) ℕ) → r.has_line ≡ true → lacks_name_or_version_line r.info ≡ false → records_from_record_end lines r others ≡ records_followed_by (r ∷ []) others
good_end lines r others h lacks =
    ap (λ b. cond b (cond (lacks_name_or_version_line r.info) (Err lines) (records_followed_by (r ∷ []) others)) others) h
    ∙ ap (λ b. cond b (Err lines) (records_followed_by (r ∷ []) others)) lacks

-- ---- the same, of what is given

read_one : (r : Record) (others : Result (List Record) ℕ) (old new : DraftState) → new ≡ draft_with (record_value r) old → draft_with_records others new ≡ draft_with_records (records_followed_by (r ∷ []) others) old
read_one r (Ok records) old new one = ap (λ (d : DraftState). draft_with_records (Ok records) d) one
read_one r (Err line) old new one = refl

-- the package of a record is given
pub read_end : (lines : ℕ) (r : Record) (others : Result (List Record) ℕ) (old new : DraftState) → r.has_line ≡ true → lacks_name_or_version_line r.info ≡ false → new ≡ draft_with (record_value r) old
    → draft_with_records others new ≡ draft_with_records (records_from_record_end lines r others) old
read_end lines r others old new h lacks one =
    read_one r others old new one ∙ ap (λ o. draft_with_records o old) (sym (good_end lines r others h lacks))

-- nothing is given of a record without a line
pub read_none : (lines : ℕ) (r : Record) (others : Result (List Record) ℕ) (d : DraftState) → r.has_line ≡ false → draft_with_records others d ≡ draft_with_records (records_from_record_end lines r others) d
read_none lines r others d h = ap (λ o. draft_with_records o d) (sym (none_ends lines r others h))
