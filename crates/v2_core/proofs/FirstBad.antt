-- The line that is told, by the lines before it.
use Rattle.std.proofs.Common.{◌≡◌, ℕ, ◌+◌, Bool, true, false, eqb, List, [], ◌∷◌, ◌++◌, length, Option, Some, None, Result, Ok, Err, refl, sym, ◌∙◌, ap, arith}
use Rattle.v2_core.specs.Reading.{records_from_record_end, records_from_unfinished_record, records_followed_by, record_with_text_line}
use Rattle.v2_core.specs.Records.{Record, empty_record, lacks_name_or_version_line}
use Rattle.v2_core.proofs.RecordEnds.{bad_end, good_end, none_ends}
use Rattle.v2_core.proofs.TextLines.{at_bad_line, at_empty_line, at_good_line}

-- behind so many lines, with a record that began, this is told whatever follows
pub record ToldFrom (n : ℕ) (r : Record) (lines : List (List ℕ)) (m : ℕ) : Type 0 where
  pub front : List (List ℕ)
  pub rest : List (List ℕ)
  pub located : lines ≡ front ++ rest
  pub up_to : n + length front ≡ m
  pub bad : (more : List (List ℕ)) → records_from_unfinished_record n r (front ++ [] ∷ more) ≡ Err m

pub err_is : (rs : List Record) (o : Result (List Record) ℕ) (m : ℕ) → records_followed_by rs o ≡ Err m → o ≡ Err m
err_is rs (Ok ss) m h = cc
err_is rs (Err k) m h = h

pub same_number : (k m : ℕ) → ◌≡◌ {A = Result (List Record) ℕ} (Err k) (Err m) → k ≡ m
same_number k m h = cc

-- the record ends here, and is bad
told_here : (n : ℕ) (r : Record) (lines : List (List ℕ)) (m : ℕ) → r.has_line ≡ true → lacks_name_or_version_line r.info ≡ true → n ≡ m → ToldFrom n r lines m
told_here n r lines m line lacks p = record {
  front = [];
  rest = lines;
  located = refl;
  up_to = omega (arith, p);
  bad = λ more. at_empty_line n r [] more refl ∙ (bad_end n r (records_from_unfinished_record (n + 1) empty_record more) line lacks ∙ ap Err p);
}

-- one line before what is told
told_after : (n : ℕ) (r s : Record) (x : List ℕ) (lines : List (List ℕ)) (m : ℕ) → ((others : List (List ℕ)) → records_from_unfinished_record (n + 1) s others ≡ Err m → records_from_unfinished_record n r (x ∷ others) ≡ Err m) → ToldFrom (n + 1) s lines m → ToldFrom n r (x ∷ lines) m
told_after n r s x lines m step t = record {
  front = x ∷ t.front;
  rest = t.rest;
  located = ap (λ ls. x ∷ ls) t.located;
  up_to = omega (arith, t.up_to);
  bad = λ more. step (t.front ++ [] ∷ more) (t.bad more);
}

told_end : (n : ℕ) (r : Record) (m : ℕ) (line lacks : Bool) → r.has_line ≡ line → lacks_name_or_version_line r.info ≡ lacks → records_from_record_end n r (Ok []) ≡ Err m → ToldFrom n r [] m
told_end n r m false lacks a b h =
    let no : ◌≡◌ {A = Result (List Record) ℕ} (Ok []) (Err m) = sym (none_ends n r (Ok []) a) ∙ h in cc
told_end n r m true true a b h = told_here n r [] m a b (same_number n m (sym (bad_end n r (Ok []) a b) ∙ h))
told_end n r m true false a b h =
    let no : records_followed_by (r ∷ []) (Ok []) ≡ Err m = sym (good_end n r (Ok []) a b) ∙ h in cc

told_empty : (n : ℕ) (r : Record) (x : List ℕ) (lines : List (List ℕ)) (m : ℕ) (line lacks : Bool) → eqb (length x) 0 ≡ true → r.has_line ≡ line → lacks_name_or_version_line r.info ≡ lacks → ((o : Unit {0}) → records_from_unfinished_record (n + 1) empty_record lines ≡ Err m → ToldFrom (n + 1) empty_record lines m) → records_from_unfinished_record n r (x ∷ lines) ≡ Err m → ToldFrom n r (x ∷ lines) m
told_empty n r x lines m false lacks e a b on h =
    let rest : records_from_unfinished_record (n + 1) empty_record lines ≡ Err m =
    sym (none_ends n r (records_from_unfinished_record (n + 1) empty_record lines) a) ∙ (sym (at_empty_line n r x lines e) ∙ h) in
    told_after n r empty_record x lines m (λ others told. at_empty_line n r x others e ∙ (none_ends n r (records_from_unfinished_record (n + 1) empty_record others) a ∙ told)) (on tt rest)
told_empty n r x lines m true true e a b on h =
    told_here n r (x ∷ lines) m a b (same_number n m (sym (bad_end n r (records_from_unfinished_record (n + 1) empty_record lines) a b) ∙ (sym (at_empty_line n r x lines e) ∙ h)))
told_empty n r x lines m true false e a b on h =
    let rest : records_from_unfinished_record (n + 1) empty_record lines ≡ Err m =
    err_is (r ∷ []) (records_from_unfinished_record (n + 1) empty_record lines) m (sym (good_end n r (records_from_unfinished_record (n + 1) empty_record lines) a b) ∙ (sym (at_empty_line n r x lines e) ∙ h)) in
    told_after n r empty_record x lines m (λ others told. at_empty_line n r x others e ∙ (good_end n r (records_from_unfinished_record (n + 1) empty_record others) a b ∙ ap (records_followed_by (r ∷ [])) told)) (on tt rest)

told_line : (n : ℕ) (r : Record) (x : List ℕ) (lines : List (List ℕ)) (m : ℕ) (o : Option Record) → eqb (length x) 0 ≡ false → record_with_text_line r x ≡ o → ((s : Record) → records_from_unfinished_record (n + 1) s lines ≡ Err m → ToldFrom (n + 1) s lines m) → records_from_unfinished_record n r (x ∷ lines) ≡ Err m → ToldFrom n r (x ∷ lines) m
told_line n r x lines m None e t on h =
    let p : n + 1 ≡ m = same_number (n + 1) m (sym (at_bad_line n r x lines e t) ∙ h) in
    record {
      front = x ∷ [];
      rest = lines;
      located = refl;
      up_to = omega (arith, p);
      bad = λ more. at_bad_line n r x ([] ∷ more) e t ∙ ap Err p;
    }
told_line n r x lines m (Some s) e t on h =
    told_after n r s x lines m (λ others told. at_good_line n r s x others e t ∙ told) (on s (sym (at_good_line n r s x lines e t) ∙ h))

report_for_command : (n : ℕ) (r : Record) (x : List ℕ) (lines : List (List ℕ)) (m : ℕ) (b : Bool) → eqb (length x) 0 ≡ b → ((s : Record) → records_from_unfinished_record (n + 1) s lines ≡ Err m → ToldFrom (n + 1) s lines m) → records_from_unfinished_record n r (x ∷ lines) ≡ Err m → ToldFrom n r (x ∷ lines) m
report_for_command n r x lines m true e on h = told_empty n r x lines m r.has_line (lacks_name_or_version_line r.info) e refl refl (λ _. on empty_record) h
report_for_command n r x lines m false e on h = told_line n r x lines m (record_with_text_line r x) e refl on h

pub told_from : (n : ℕ) (r : Record) (lines : List (List ℕ)) (m : ℕ) → records_from_unfinished_record n r lines ≡ Err m → ToldFrom n r lines m
told_from n r [] m h = told_end n r m r.has_line (lacks_name_or_version_line r.info) refl refl h
told_from n r (x ∷ lines) m h =
    report_for_command n r x lines m (eqb (length x) 0) refl (λ s. told_from (n + 1) s lines m) h
