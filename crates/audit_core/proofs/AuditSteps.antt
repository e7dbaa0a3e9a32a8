-- An audit, file by file.
use Rattle.std.proofs.Common.{◌≡◌, All, ℕ, suc, ◌+◌, ◌<◌, ◌≤◌, List, [], ◌∷◌, ◌++◌, length, get_or, map, take, Option, None, Result, Ok, Err, refl, ap, sym, ◌∙◌, subst, append_assoc, append-nil, arith}
use Rattle.std.specs.Prelude.{IfOk, OnOk}
use Rattle.std.specs.Result.{IsErrAnd}
use Rattle.std.specs.List.{flat_map}
use Rattle.std.proofs.lemmas.Grind.{flat_map-append}
use Rattle.std.proofs.lemmas.List.{length-map, map-append, take_all, take_more}
use Rattle.std.proofs.Math.ListN.{get_or-map}
use Rattle.base_core.specs.Calls.{IfObservable}
use Rattle.base_core.specs.Name.{IsName}
use Rattle.base_core.specs.Tree.{TreeState, files_of}
use Rattle.package_files.specs.make_info.Reads.{Reads}
use Rattle.package_files.specs.Runs.{HoldsOfSomeReadsOfTree}
use Rattle.package_files.proofs.ReadLemmas.{as_told_of, explained, joined, joined_below, joined_from, joined_told, reads_or}
use Rattle.adb_view.specs.Plain.{Plain}
use Rattle.audit_core.specs.Audit.{FileDifference, audit_report, path_difference_if_any, difference_from_entry, difference_line, differences_from}
use Rattle.audit_core.specs.Records.{PathAndEntry, records_by_path}
use Rattle.audit_core.specs.Seen.{record_seen}
use Rattle.audit_core.specs.StoredRecords.{StoredRecord}

-- what a file is found to be: it differs from its record, or not
abbrev pub difference_found : PathAndEntry → Option (List ℕ) → List FileDifference
difference_found r found = path_difference_if_any r.path (difference_from_entry r.entry found)

-- one record more, and one read more
pub differences_more : (read : Reads) (n : ℕ) (rs : List PathAndEntry) (r : PathAndEntry)
    → differences_from read n (rs ++ r ∷ []) ≡ differences_from read n rs ++ difference_found r (read (n + length rs) r.path)
differences_more read n [] r =
    let at : n ≡ n + 0 = omega arith in
    append-nil (difference_found r (read n r.path)) ∙ ap (λ k. difference_found r (read k r.path)) at
differences_more read n (q ∷ rs) r =
    let at : suc n + length rs ≡ n + suc (length rs) = omega arith in
    ap (λ ds. difference_found q (read n q.path) ++ ds) (differences_more read (suc n) rs r ∙ ap (λ k. differences_from read (suc n) rs ++ difference_found r (read k r.path)) at)
    ∙ sym (append_assoc (difference_found q (read n q.path)) (differences_from read (suc n) rs) (difference_found r (read (n + suc (length rs)) r.path)))

-- the differences rest on their own reads
pub differences_same : (read other : Reads) (n : ℕ) (rs : List PathAndEntry)
    → ((k : ℕ) (name : List ℕ) → n ≤ k → k < n + length rs → read k name ≡ other k name)
    → differences_from read n rs ≡ differences_from other n rs
differences_same read other n [] same = refl
differences_same read other n (r ∷ rs) same =
    ap (λ found. difference_found r found ++ differences_from read (suc n) rs) (same n r.path (omega arith) (omega arith))
    ∙ ap (λ ds. difference_found r (other n r.path) ++ ds) (differences_same read other (suc n) rs (λ k name low high. same k name (omega (arith, low)) (omega (arith, high))))

-- what the next read finds, whatever its number
found_next : (history : List TreeState) (path : List ℕ) (found : Option (List ℕ)) (n : ℕ) → IfObservable history (λ v. found ≡ files_of v path)
    → reads_or history (λ k name. found) n path ≡ found
found_next [] path found n located = refl
found_next (v ∷ earlier) path found n located = sym located

-- the report of the records so far, and the line of one more, if it differs
pub one_more : (history : List TreeState) (first : ℕ) (rs : List PathAndEntry) (r : PathAndEntry) (found : Option (List ℕ)) (before after : List ℕ)
    → IfObservable history (λ v. found ≡ files_of v r.path)
    → after ≡ before ++ flat_map difference_line (difference_found r found)
    → HoldsOfSomeReadsOfTree history (λ read. before ≡ flat_map difference_line (differences_from read first rs))
    → HoldsOfSomeReadsOfTree history (λ read. after ≡ flat_map difference_line (differences_from read first (rs ++ r ∷ [])))
one_more history first rs r found before after located is so_far =
    let n = first + length rs in
    let next : Reads = reads_or history (λ k name. found) in
    let read : Reads = joined n so_far.read next in
    let old : differences_from so_far.read first rs ≡ differences_from read first rs =
    differences_same so_far.read read first rs (λ k name low high. sym (joined_below n so_far.read next k name high)) in
    let here : found ≡ read n r.path = sym (joined_from n so_far.read next n r.path (omega arith) ∙ found_next history r.path found n located) in
    record {
      read = read;
      observed = joined_told history n so_far.read next so_far.observed (as_told_of history (λ k name. found));
      is =
          is
          ∙ (ap (λ b. b ++ flat_map difference_line (difference_found r found)) (so_far.is ∙ ap (flat_map difference_line) old)
          ∙ (ap (λ f. flat_map difference_line (differences_from read first rs) ++ flat_map difference_line (difference_found r f)) here
          ∙ (sym (flat_map-append difference_line (differences_from read first rs) (difference_found r (read n r.path)))
          ∙ ap (flat_map difference_line) (sym (differences_more read first rs r)))));
    }

-- ---- the records so far, as they are in the program

-- the report of some records, from any number of reads on
abbrev pub IsReport : List TreeState → List PathAndEntry → List ℕ → Type 0
IsReport history rs report = (first : ℕ) → HoldsOfSomeReadsOfTree history (λ read. report ≡ flat_map difference_line (differences_from read first rs))

-- a report that is made longer by the line of a record, if its file differs
abbrev pub IsLonger : List TreeState → PathAndEntry → List ℕ → List ℕ → Type 0
IsLonger history r before after =
    (found : Option (List ℕ)) × IfObservable history (λ v. found ≡ files_of v r.path)
    × (after ≡ before ++ flat_map difference_line (difference_found r found))

pub nothing_reported : (history : List TreeState) (report : List ℕ) → report ≡ [] → IsReport history [] report
nothing_reported history report is first = explained history (λ read. report ≡ []) (λ read. is)

pub reported_more : (history now : List TreeState) (xs : List StoredRecord) (i : ℕ) (x : StoredRecord) (before after : List ℕ) → now ≡ history → i < length xs → x ≡ get_or xs i x
    → IsReport history (map record_seen (take i xs)) before → IsLonger now (record_seen x) before after → IsReport history (map record_seen (take (i + 1) xs)) after
reported_more history now xs i x before after same l is so_far longer first =
    let here : IsLonger history (record_seen x) before after = subst (λ (h : List TreeState). IsLonger h (record_seen x) before after) same longer in
    let more : map record_seen (take (i + 1) xs) ≡ map record_seen (take i xs) ++ record_seen x ∷ [] =
    ap (map record_seen) (take_more xs i x l ∙ ap (λ y. take i xs ++ y ∷ []) (sym is)) ∙ map-append record_seen (take i xs) (x ∷ []) in
    subst (λ (rs : List PathAndEntry). HoldsOfSomeReadsOfTree history (λ read. after ≡ flat_map difference_line (differences_from read first rs))) (sym more)
    (one_more history first (map record_seen (take i xs)) (record_seen x) here.0 before after here.1 here.2 (so_far first))

pub reported_all : (history : List TreeState) (xs : List StoredRecord) (i : ℕ) (report : List ℕ) → length xs ≤ i → IsReport history (map record_seen (take i xs)) report → IsReport history (map record_seen xs) report
reported_all history xs i report l so_far = subst (λ (ys : List StoredRecord). IsReport history (map record_seen ys) report) (take_all i xs l) so_far

-- the records are those of some packages
pub report_of_packages : (history : List TreeState) (first : ℕ) (packages : List Plain) (rs : List PathAndEntry) (report text : List ℕ) → rs ≡ records_by_path packages → text ≡ report
    → HoldsOfSomeReadsOfTree history (λ read. report ≡ flat_map difference_line (differences_from read first rs)) → HoldsOfSomeReadsOfTree history (λ read. text ≡ audit_report read first packages)
unfolding audit_report
report_of_packages history first packages rs report text are is so =
    record { read = so.read; observed = so.observed; is = is ∙ (so.is ∙ ap (λ qs. flat_map difference_line (differences_from so.read first qs)) are) }

-- nothing is said of a failure
pub nothing_said : {A E : Type 0} (history : List TreeState) (r : Result A E) (P : Reads → A → Type 0) (fault : E) → IsErrAnd r (λ e. e ≡ fault) → HoldsOfSomeReadsOfTree history (λ read. IfOk r (P read))
nothing_said history (Ok x) P fault is = absurd is
nothing_said history (Err e) P fault is = explained history (λ read. Unit {0}) (λ read. tt)

-- nor of a line that was not added
pub not_longer : {A E : Type 0} (history : List TreeState) (r : PathAndEntry) (before after : List ℕ) (result : Result A E) (fault : E) → IsErrAnd result (λ e. e ≡ fault)
    → (found : Option (List ℕ)) × IfObservable history (λ v. found ≡ files_of v r.path) × OnOk result (after ≡ before ++ flat_map difference_line (difference_found r found))
not_longer history r before after (Ok x) fault is = absurd is
not_longer history r before after (Err e) fault is = (reads_or history (λ n name. None) 0 r.path, there history, tt)
  where
    there : (history : List TreeState) → IfObservable history (λ v. reads_or history (λ n name. None) 0 r.path ≡ files_of v r.path)
    there [] = tt
    there (v ∷ earlier) = refl

-- the path of a record is a name, where those of all are
pub named_at : (xs : List StoredRecord) (i : ℕ) (x : StoredRecord) → i < length xs → x ≡ get_or xs i x → All (λ r. IsName r.path) (map record_seen xs) → IsName (record_seen x).path
named_at xs i x l is named =
    subst (λ (r : PathAndEntry). IsName r.path) (get_or-map record_seen xs i x ∙ ap record_seen (sym is))
    (named i (record_seen x) (omega (arith, l, length-map xs record_seen)))
