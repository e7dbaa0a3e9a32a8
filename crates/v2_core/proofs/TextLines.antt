-- The lines of a text one after the other.
use Rattle.std.proofs.Common.{◌≡◌, ℕ, ◌+◌, ◌-◌, ◌<◌, ◌≤◌, true, false, cond, eqb, List, [], ◌∷◌, length, get_or, drop, Option, Some, None, Result, Ok, Err, IfErr, OnOk, refl, sym, ◌∙◌, ap, subst, arith}
use Rattle.std.specs.Option.{option_map_or}
use Rattle.std.proofs.lemmas.Bool.Decides.{nat_tests}
use Rattle.std.proofs.lemmas.List.{at_drop_more, at_drop_all}
use Rattle.make_info.specs.adb_values.Drafts.{DraftState}
use Rattle.v2_core.specs.Reading.{records_from_record_end, records_from_unfinished_record, record_with_text_line}
use Rattle.v2_core.specs.Records.{Record, empty_record}
use Rattle.v2_core.specs.declared.read.V2Fault.{V2Fault}
use Rattle.v2_core.specs.declared.read.V2Fault.TheVariants.{Bad, TooLarge, Memory}
use Rattle.v2_core.specs.Writing.{IsLineFault, draft_with_records}

-- the next line of a text
next_line : (n : ℕ) (r : Record) (lines : List (List ℕ)) (i : ℕ) (x : List ℕ) → (i < length lines) × (x ≡ get_or lines i x) → records_from_unfinished_record n r (drop i lines) ≡ records_from_unfinished_record n r (x ∷ drop (i + 1) lines)
next_line n r lines i x h =
    at_drop_more (λ ls. records_from_unfinished_record n r ls) lines i x h.0 ∙ ap (λ y. records_from_unfinished_record n r (y ∷ drop (i + 1) lines)) (sym h.1)

-- a line with a byte is not empty
pub not_zero : (b : ℕ) (bs : List ℕ) → eqb (length (b ∷ bs)) 0 ≡ false
not_zero b bs = grind (arith, nat_tests)

-- the text's end ends a record
pub at_end : (n : ℕ) (r : Record) (lines : List (List ℕ)) (i : ℕ) → length lines ≤ i → records_from_unfinished_record n r (drop i lines) ≡ records_from_record_end n r (Ok [])
at_end n r lines i h = at_drop_all (λ ls. records_from_unfinished_record n r ls) lines i h

-- one line more is read
pub turn : (whole : Result DraftState ℕ) (old new : DraftState) (n : ℕ) (r s : Record) (lines : List (List ℕ)) (i j : ℕ) (x : List ℕ) → j ≡ i + 1 → (i < length lines) × (x ≡ get_or lines i x)
    → draft_with_records (records_from_unfinished_record n r (drop i lines)) old ≡ whole
    → ((rest : List (List ℕ)) → draft_with_records (records_from_unfinished_record (n + 1) s rest) new ≡ draft_with_records (records_from_unfinished_record (n + 1 - 1) r (x ∷ rest)) old)
    → draft_with_records (records_from_unfinished_record (n + 1) s (drop j lines)) new ≡ whole
turn whole old new n r s lines i j x more h on step =
    let same : n + 1 - 1 ≡ n = omega arith in
    ap (λ (k : ℕ). draft_with_records (records_from_unfinished_record (n + 1) s (drop k lines)) new) more
    ∙ step (drop (i + 1) lines)
    ∙ ap (λ (k : ℕ). draft_with_records (records_from_unfinished_record k r (x ∷ drop (i + 1) lines)) old) same
    ∙ sym (ap (λ o. draft_with_records o old) (next_line n r lines i x h)) ∙ on

-- what is told of a draft is told of what is read
told_of : (whole : Result (List Record) ℕ) (start : DraftState) (line : ℕ) → draft_with_records whole start ≡ Err line → whole ≡ Err line
told_of (Ok records) start line e = absurd cc
told_of (Err other) start line e = let same : other ≡ line = cc in ap (λ (k : ℕ). Err k) same

-- why the rest is refused, the whole is
whole_fault : (fault : V2Fault) (rest whole : Result (List Record) ℕ) (old start : DraftState) → IsLineFault fault rest → draft_with_records rest old ≡ draft_with_records whole start → IsLineFault fault whole
whole_fault (Bad cause) rest whole old start is on =
    (is.0, is.1, told_of whole start is.0 (sym on ∙ ap (λ o. draft_with_records o old) is.2))
whole_fault (TooLarge bytes values) rest whole old start is on = absurd is
whole_fault Memory rest whole old start is on = is

-- a line is refused
pub fault_at_line : (fault : V2Fault) (whole : Result (List Record) ℕ) (old start : DraftState) (n : ℕ) (r : Record) (lines : List (List ℕ)) (i : ℕ) (x : List ℕ) → (i < length lines) × (x ≡ get_or lines i x)
    → draft_with_records (records_from_unfinished_record n r (drop i lines)) old ≡ draft_with_records whole start → ((rest : List (List ℕ)) → IsLineFault fault (records_from_unfinished_record (n + 1 - 1) r (x ∷ rest))) → IsLineFault fault whole
fault_at_line fault whole old start n r lines i x h on is =
    let same : n + 1 - 1 ≡ n = omega arith in
    whole_fault fault (records_from_unfinished_record n r (x ∷ drop (i + 1) lines)) whole old start
    (subst (λ k. IsLineFault fault (records_from_unfinished_record k r (x ∷ drop (i + 1) lines))) same (is (drop (i + 1) lines)))
    (sym (ap (λ o. draft_with_records o old) (next_line n r lines i x h)) ∙ on)

-- the last record is refused
pub fault_at_end : {T : Type 0} (result : Result T V2Fault) (whole : Result (List Record) ℕ) (old start : DraftState) (n : ℕ) (r : Record) (lines : List (List ℕ)) (i : ℕ) → length lines ≤ i
    → draft_with_records (records_from_unfinished_record n r (drop i lines)) old ≡ draft_with_records whole start → IfErr result (λ fault. (others : Result (List Record) ℕ) → IsLineFault fault (records_from_record_end n r others))
    → IfErr result (λ fault. IsLineFault fault whole)
fault_at_end (Ok done) whole old start n r lines i h on is = is
fault_at_end (Err fault) whole old start n r lines i h on is =
    whole_fault fault (records_from_record_end n r (Ok [])) whole old start (is (Ok [])) (sym (ap (λ o. draft_with_records o old) (at_end n r lines i h)) ∙ on)

-- an empty line ends a record
pub at_empty_line : (n : ℕ) (r : Record) (x : List ℕ) (rest : List (List ℕ)) → eqb (length x) 0 ≡ true → records_from_unfinished_record n r (x ∷ rest) ≡ records_from_record_end n r (records_from_unfinished_record (n + 1) empty_record rest)
at_empty_line n r x rest e =
    ap (λ b. cond b (records_from_record_end n r (records_from_unfinished_record (n + 1) empty_record rest)) (option_map_or (λ next. records_from_unfinished_record (n + 1) next rest) (record_with_text_line r x) (Err (n + 1)))) e

another_line : (n : ℕ) (r : Record) (x : List ℕ) (rest : List (List ℕ)) (o : Option Record) → eqb (length x) 0 ≡ false → record_with_text_line r x ≡ o → records_from_unfinished_record n r (x ∷ rest) ≡ option_map_or (λ next. records_from_unfinished_record (n + 1) next rest) o (Err (n + 1))
another_line n r x rest o e t =
    ap (λ b. cond b (records_from_record_end n r (records_from_unfinished_record (n + 1) empty_record rest)) (option_map_or (λ next. records_from_unfinished_record (n + 1) next rest) (record_with_text_line r x) (Err (n + 1)))) e
    ∙ ap (λ o. option_map_or (λ next. records_from_unfinished_record (n + 1) next rest) o (Err (n + 1))) t

-- a good line belongs to the record
pub at_good_line : (n : ℕ) (r s : Record) (x : List ℕ) (rest : List (List ℕ)) → eqb (length x) 0 ≡ false → record_with_text_line r x ≡ Some s → records_from_unfinished_record n r (x ∷ rest) ≡ records_from_unfinished_record (n + 1) s rest
at_good_line n r s x rest e t = another_line n r x rest (Some s) e t

-- a bad line is told
pub at_bad_line : (n : ℕ) (r : Record) (x : List ℕ) (rest : List (List ℕ)) → eqb (length x) 0 ≡ false → record_with_text_line r x ≡ None → records_from_unfinished_record n r (x ∷ rest) ≡ Err (n + 1)
at_bad_line n r x rest e t = another_line n r x rest None e t

-- the last record is given
pub all_read_at_end : {T E : Type 0} (result : Result T E) (whole : Result (List Record) ℕ) (start old new : DraftState) (n : ℕ) (r : Record) (lines : List (List ℕ)) (i : ℕ) → length lines ≤ i
    → draft_with_records (records_from_unfinished_record n r (drop i lines)) old ≡ draft_with_records whole start
    → OnOk result ((others : Result (List Record) ℕ) → draft_with_records others new ≡ draft_with_records (records_from_record_end n r others) old) → OnOk result (draft_with_records whole start ≡ Ok new)
all_read_at_end (Ok done) whole start old new n r lines i h on step =
    sym (step (Ok []) ∙ sym (ap (λ o. draft_with_records o old) (at_end n r lines i h)) ∙ on)
all_read_at_end (Err fault) whole start old new n r lines i h on step = step

-- an empty line ends a record, and begins one
pub read_empty_line : (n : ℕ) (r s : Record) (x : List ℕ) (rest : List (List ℕ)) (old new : DraftState) → eqb (length x) 0 ≡ true → s ≡ empty_record
    → ((others : Result (List Record) ℕ) → draft_with_records others new ≡ draft_with_records (records_from_record_end n r others) old)
    → draft_with_records (records_from_unfinished_record (n + 1) s rest) new ≡ draft_with_records (records_from_unfinished_record n r (x ∷ rest)) old
read_empty_line n r s x rest old new e fresh step =
    ap (λ t. draft_with_records (records_from_unfinished_record (n + 1) t rest) new) fresh
    ∙ step (records_from_unfinished_record (n + 1) empty_record rest)
    ∙ ap (λ o. draft_with_records o old) (sym (at_empty_line n r x rest e))
