-- Bytes that were seen in sequence.
use Rattle.std.proofs.Common.{◌≡◌, ℕ, zero, suc, ◌+◌, ◌-◌, ◌≤◌, Bool, true, false, List, [], ◌∷◌, ◌++◌, length, take, drop, replicate, ◌==◌, Option, Some, None, refl, ap, sym, subst, ◌∙◌, arith}
use Rattle.std.specs.Prelude.{IfErr, IfSome, IsErrAnd, IsErrOf, OnOk, Result, Ok, Err}
use Rattle.std.specs.Option.{option_map}
use Rattle.std.proofs.lemmas.List.{length-append, drop-drop, drop-take, take-take, length-replicate, length-take, length-drop}
use Rattle.std.proofs.lemmas.Bool.{eqb-true}
use Rattle.std.proofs.lemmas.Grind.{common_steps}
use Rattle.std.proofs.Math.Seq.{take-append_seam, drop-append_seam}
use Rattle.base_core.specs.Calls.{IfObservable}
use Rattle.base_core.specs.Faults.{Counts, CountsNoNewFaultOrLackOfMemory}
use Rattle.base_core.specs.Tree.{TreeState, CanRead, files_of}
use Rattle.base_core.proofs.Counting.{goes_on_twice, no_fault_twice, cause_later}
use Rattle.pkg_core.specs.Seen.{AreBytesRead, HasBytesAtOffset, IsSeenIn, IsFileOfLength, ReadsFile}

-- ---- a file

pub take_more : (a b : ℕ) (xs : List ℕ) → take (a + b) xs ≡ take a xs ++ take b (drop a xs)
take_more zero b xs = ap (λ n. take n xs) (omega arith)
take_more (suc a) b [] = grind (arith, common_steps)
take_more (suc a) b (x ∷ xs) =
    let e : suc a + b ≡ suc (a + b) = omega arith in
    ap (λ n. take n (x ∷ xs)) e ∙ ap (λ (ys : List ℕ). x ∷ ys) (take_more a b xs)

pub drop_further : (at n : ℕ) (xs : List ℕ) → drop n (drop at xs) ≡ drop (at + n) xs
drop_further at n xs = drop-drop n at xs ∙ ap (λ (k : ℕ). drop k xs) (omega arith)

pub has_both : (file : List ℕ) (at : ℕ) (xs ys : List ℕ) → HasBytesAtOffset file at xs → HasBytesAtOffset file (at + length xs) ys → HasBytesAtOffset file at (xs ++ ys)
has_both file at xs ys h g =
    ap (λ (n : ℕ). take n (drop at file)) (length-append xs ys)
    ∙ (take_more (length xs) (length ys) (drop at file)
    ∙ (ap (λ (zs : List ℕ). zs ++ take (length ys) (drop (length xs) (drop at file))) h
    ∙ ap (λ (zs : List ℕ). xs ++ zs) (ap (take (length ys)) (drop_further at (length xs) file) ∙ g)))

pub has_front : (file : List ℕ) (at : ℕ) (xs ys : List ℕ) → HasBytesAtOffset file at (xs ++ ys) → HasBytesAtOffset file at xs
has_front file at xs ys h =
    let n = length-append xs ys in
    sym (take-take (length xs) (length (xs ++ ys)) (drop at file) (omega arith))
    ∙ (ap (take (length xs)) h ∙ take-append_seam xs ys)

pub has_rest : (file : List ℕ) (at : ℕ) (xs ys : List ℕ) → HasBytesAtOffset file at (xs ++ ys) → HasBytesAtOffset file (at + length xs) ys
has_rest file at xs ys h =
    ap (take (length ys)) (sym (drop_further at (length xs) file))
    ∙ (sym (drop-take (length xs) (length ys) (drop at file))
    ∙ (ap (λ (n : ℕ). drop (length xs) (take n (drop at file))) (sym (length-append xs ys))
    ∙ (ap (drop (length xs)) h ∙ drop-append_seam xs ys)))

-- ---- under a name of a tree

both_in : (found : Option (List ℕ)) (len at : ℕ) (xs ys : List ℕ) → IfSome found (λ file. length file ≡ len → HasBytesAtOffset file at xs) → IfSome found (λ file. length file ≡ len → HasBytesAtOffset file (at + length xs) ys) → IfSome found (λ file. length file ≡ len → HasBytesAtOffset file at (xs ++ ys))
both_in None len at xs ys h g = h
both_in (Some file) len at xs ys h g = λ same. has_both file at xs ys (h same) (g same)

pub seen_both : (history : List TreeState) (name : List ℕ) (len at : ℕ) (xs ys : List ℕ) → AreBytesRead history name len at xs → AreBytesRead history name len (at + length xs) ys → AreBytesRead history name len at (xs ++ ys)
seen_both [] name len at xs ys h g = h
seen_both (v ∷ earlier) name len at xs ys h g = both_in (files_of v name) len at xs ys h g

pub seen_then : (history : List TreeState) (name : List ℕ) (len at to : ℕ) (xs ys : List ℕ) → to ≡ at + length xs → AreBytesRead history name len at xs → AreBytesRead history name len to ys → AreBytesRead history name len at (xs ++ ys)
seen_then history name len at to xs ys e h g = seen_both history name len at xs ys h (subst (λ (n : ℕ). AreBytesRead history name len n ys) e g)

-- what a read filled a buffer with
read_in : (found : Option (List ℕ)) (len at n : ℕ) (bytes : List ℕ) → length bytes ≡ n → IfSome found (λ file. bytes ≡ take n (drop at file)) → IfSome found (λ file. length file ≡ len → HasBytesAtOffset file at bytes)
read_in None len at n bytes e h = h
read_in (Some file) len at n bytes e h = λ same. ap (λ (k : ℕ). take k (drop at file)) e ∙ sym h

pub seen_by_read : (history : List TreeState) (name : List ℕ) (len at n : ℕ) (bytes : List ℕ) → IfObservable history (λ v. IfSome (files_of v name) (λ file. bytes ≡ take n (drop at file))) → length bytes ≡ n → AreBytesRead history name len at bytes
seen_by_read [] name len at n bytes h e = h
seen_by_read (v ∷ earlier) name len at n bytes h e = read_in (files_of v name) len at n bytes e h

-- one read, which gave all the bytes
pub seen_by_one : (history : List TreeState) (name : List ℕ) (len at n : ℕ) (bytes all : List ℕ) → all ≡ bytes → length bytes ≡ n → IfObservable history (λ v. IfSome (files_of v name) (λ file. bytes ≡ take n (drop at file))) → AreBytesRead history name len at all
seen_by_one history name len at n bytes all is long h = subst (λ (xs : List ℕ). AreBytesRead history name len at xs) (sym is) (seen_by_read history name len at n bytes h long)

-- two reads, of which the second begins where the first ended
pub seen_by_two : (history later : List TreeState) (name : List ℕ) (len at n m : ℕ) (xs ys all : List ℕ) → later ≡ history → all ≡ xs ++ ys → length xs ≡ n → length ys ≡ m → IfObservable history (λ v. IfSome (files_of v name) (λ file. xs ≡ take n (drop at file))) → IfObservable later (λ v. IfSome (files_of v name) (λ file. ys ≡ take m (drop (at + n) file))) → AreBytesRead history name len at all
seen_by_two history later name len at n m xs ys all same is first second h g =
    let before = seen_by_read history name len at n xs h first in
    let behind = subst (λ (k : List TreeState). AreBytesRead k name len (at + n) ys) same (seen_by_read later name len (at + n) m ys g second) in
    subst (λ (zs : List ℕ). AreBytesRead history name len at zs) (sym is) (seen_then history name len at (at + n) xs ys (ap (λ (k : ℕ). at + k) (sym first)) before behind)

-- ---- what reads make of a tree

can_read : (name : List ℕ) (at n len : ℕ) (v : TreeState) → IsFileOfLength name len v → at + n ≤ len → CanRead name at n v
can_read name at n len v long h = (long.file, long.present, subst (λ (k : ℕ). at + n ≤ k) (sym long.long) h)

pub proper_where_long : (history : List TreeState) (name : List ℕ) (at n len a b : ℕ) → IfObservable history (λ v. CanRead name at n v → a ≡ b) → at + n ≤ len → IfObservable history (λ v. IsFileOfLength name len v → a ≡ b)
proper_where_long [] name at n len a b h le = h
proper_where_long (v ∷ earlier) name at n len a b h le = λ long. h (can_read name at n len v long le)

-- ---- bytes that nobody read

-- so many further bytes: those of the file, where the tree tells it
pub record IsFilled (history : List TreeState) (name : List ℕ) (len at n : ℕ) (bytes : List ℕ) : Type 0 where
  pub further : List ℕ
  pub long : length further ≡ n
  pub seen : AreBytesRead history name len at (bytes ++ further)

zeros : ℕ → List ℕ
zeros n = replicate n 0

zeros_filled : (n : ℕ) → length (zeros n) ≡ n
unfolding zeros
zeros_filled n = let z : ℕ = 0 in length-replicate n z

file_filled : (file : List ℕ) (at n : ℕ) (bytes : List ℕ) → at + length bytes + n ≤ length file → HasBytesAtOffset file at bytes → HasBytesAtOffset file at (bytes ++ take n (drop (at + length bytes) file))
file_filled file at n bytes le h =
    let rest : List ℕ = drop (at + length bytes) file in
    let few = length-take n rest in
    let left = length-drop (at + length bytes) file in
    let long : length (take n rest) ≡ n = omega arith in
    has_both file at bytes (take n rest) h (ap (λ (k : ℕ). take k rest) long)

fill_in : (found : Option (List ℕ)) (len at n : ℕ) (bytes : List ℕ) → at + length bytes + n ≤ len → IfSome found (λ file. length file ≡ len → HasBytesAtOffset file at bytes) → (further : List ℕ) × (length further ≡ n) × IfSome found (λ file. length file ≡ len → HasBytesAtOffset file at (bytes ++ further))
fill_in None len at n bytes le h = (zeros n, zeros_filled n, h)
fill_in (Some file) len at n bytes le h = by_length (length file == len) refl
  where
    by_length : (b : Bool) → (length file == len) ≡ b → (further : List ℕ) × (length further ≡ n) × (length file ≡ len → HasBytesAtOffset file at (bytes ++ further))
    by_length true e =
        let same : length file ≡ len = eqb-true (length file) len e in
        let few = length-take n (drop (at + length bytes) file) in
        let left = length-drop (at + length bytes) file in
        (take n (drop (at + length bytes) file), omega arith, λ s. file_filled file at n bytes (subst (λ (k : ℕ). at + length bytes + n ≤ k) (sym s) le) (h s))
    by_length false e = (zeros n, zeros_filled n, λ s. absurd (let no : (length file == len) ≡ true = grind arith in (cc)))

pub filled : (history : List TreeState) (name : List ℕ) (len at n : ℕ) (bytes : List ℕ) → AreBytesRead history name len at bytes → at + length bytes + n ≤ len → IsFilled history name len at n bytes
filled [] name len at n bytes h le = record { further = zeros n; long = zeros_filled n; seen = h }
filled (v ∷ earlier) name len at n bytes h le =
    let (further, long, seen) = fill_in (files_of v name) len at n bytes le h in
    record { further = further; long = long; seen = seen }

-- ---- some file

zeros_behind : (len : ℕ) (seen : List ℕ) → length seen ≤ len → length (seen ++ zeros (len - length seen)) ≡ len
zeros_behind len seen le =
    let n = length-append seen (zeros (len - length seen)) in
    let z = zeros_filled (len - length seen) in
    omega arith

begins_so : (seen rest : List ℕ) → HasBytesAtOffset (seen ++ rest) 0 seen
begins_so seen rest = take-append_seam seen rest

-- a file that is so long, and has the bytes that were seen: the one under the name, where the tree
-- tells it
pub record IsSomeFile (history : List TreeState) (name : List ℕ) (len : ℕ) (seen : List ℕ) : Type 0 where
  pub file : List ℕ
  pub told : IfObservable history (λ v. Some file ≡ files_of v name)
  pub long : length file ≡ len
  pub has : HasBytesAtOffset file 0 seen

file_in : (found : Option (List ℕ)) (len : ℕ) (seen : List ℕ) → Some len ≡ option_map length found → IfSome found (λ file. length file ≡ len → HasBytesAtOffset file 0 seen) → (file : List ℕ) × (Some file ≡ found) × (length file ≡ len) × HasBytesAtOffset file 0 seen
file_in None len seen e h = absurd (cc)
file_in (Some file) len seen e h = let long : length file ≡ len = (cc) in (file, refl, long, h long)

pub file_with : (history : List TreeState) (name : List ℕ) (len : ℕ) (seen : List ℕ) → IfObservable history (λ v. Some len ≡ option_map length (files_of v name)) → IsSeenIn history name len 0 seen → IsSomeFile history name len seen
file_with [] name len seen e h =
    record { file = seen ++ zeros (len - length seen); told = tt; long = zeros_behind len seen (omega (arith, h.within)); has = begins_so seen (zeros (len - length seen)) }
file_with (v ∷ earlier) name len seen e h =
    let (file, told, long, has) = file_in (files_of v name) len seen e h.seen in
    record { file = file; told = told; long = long; has = has }

-- ---- calls in a row

proper_both : (history : List TreeState) (name : List ℕ) (len a b c : ℕ) → IfObservable history (λ v. IsFileOfLength name len v → b ≡ a) → IfObservable history (λ v. IsFileOfLength name len v → c ≡ b) → IfObservable history (λ v. IsFileOfLength name len v → c ≡ a)
proper_both [] name len a b c h g = h
proper_both (v ∷ earlier) name len a b c h g = λ long. g long ∙ h long

pub others_both : {B F : Type 0} (e : F) (a b c : Counts) (then : Result B F) → CountsNoNewFaultOrLackOfMemory a b → IfErr then (λ fault. (fault ≡ e → ⊥) → CountsNoNewFaultOrLackOfMemory b c) → IfErr then (λ fault. (fault ≡ e → ⊥) → CountsNoNewFaultOrLackOfMemory a c)
others_both e a b c (Ok value) h g = g
others_both e a b c (Err fault) h g = λ other. no_fault_twice a b c h (g other)

pub kept_both : {B F : Type 0} (a b c : Counts) (then : Result B F) → CountsNoNewFaultOrLackOfMemory a b → OnOk then (CountsNoNewFaultOrLackOfMemory b c) → OnOk then (CountsNoNewFaultOrLackOfMemory a c)
kept_both a b c (Ok value) h g = no_fault_twice a b c h g
kept_both a b c (Err fault) h g = g

pub reads_in_a_row : {A B E F : Type 0} (name : List ℕ) (len : ℕ) (d : E) (e : F) (h0 h1 h2 : List TreeState) (a b c : Counts) (value : A) (then : Result B F) → ReadsFile name len d h0 h1 a b (Ok value) → ReadsFile name len e h1 h2 b c then → ReadsFile name len e h0 h2 a c then
reads_in_a_row name len d e h0 h1 h2 a b c value then first second = record {
  same = second.same ∙ first.same;
  goes_on = goes_on_twice a b c first.goes_on second.goes_on;
  disk = λ failed. cause_later a b c first.goes_on (second.disk failed);
  kept = kept_both a b c then first.kept second.kept;
  others = others_both e a b c then first.kept second.others;
  proper = proper_both h0 name len a.misuses b.misuses c.misuses first.proper (subst (λ (h : List TreeState). IfObservable h (λ v. IsFileOfLength name len v → c.misuses ≡ b.misuses)) first.same second.proper);
}

of_err : {A E : Type 0} (x y : E) → IsErrOf {T = A} {E = E} (Err x) y → x ≡ y
of_err x y e = (cc)

to_err : {A E : Type 0} (x y : E) → x ≡ y → IsErrOf {T = A} {E = E} (Err x) y
to_err x y e = λ j. Err (e j)

ok_not_err : {A E : Type 0} (x : A) (y : E) → IsErrOf {T = A} {E = E} (Ok x) y → ⊥
ok_not_err x y e = (cc)

pub reads_err : {A B F : Type 0} (name : List ℕ) (len : ℕ) (e : F) (h0 h1 : List TreeState) (a b : Counts) (fault : F) (r : Result B F) → IsErrAnd r (λ other. other ≡ fault) → ReadsFile {A = A} {E = F} name len e h0 h1 a b (Err fault) → ReadsFile {A = B} {E = F} name len e h0 h1 a b r
reads_err name len e h0 h1 a b fault (Ok value) is first = absurd is
reads_err name len e h0 h1 a b fault (Err other) is first = record {
  same = first.same;
  goes_on = first.goes_on;
  disk = λ failed. first.disk (to_err fault e (sym is ∙ of_err other e failed));
  kept = tt;
  others = λ not_disk. first.others (λ failed. not_disk (is ∙ failed));
  proper = first.proper;
}

-- a fault of the tree that is told in another type
pub reads_failed : {A B E F : Type 0} (name : List ℕ) (len : ℕ) (e : F) (h0 h1 : List TreeState) (a b : Counts) (fault : E) (r : Result B F) → IsErrAnd r (λ other. other ≡ e) → ReadsFile {A = A} {E = E} name len fault h0 h1 a b (Err fault) → ReadsFile {A = B} {E = F} name len e h0 h1 a b r
reads_failed name len e h0 h1 a b fault (Ok value) is first = absurd is
reads_failed name len e h0 h1 a b fault (Err other) is first = record {
  same = first.same;
  goes_on = first.goes_on;
  disk = λ failed. first.disk refl;
  kept = tt;
  others = λ not_disk. absurd (not_disk is);
  proper = first.proper;
}

pub reads_bad : {A B E F : Type 0} (name : List ℕ) (len : ℕ) (d : E) (e : F) (h0 h1 : List TreeState) (a b : Counts) (value : A) (fault : F) (r : Result B F) → IsErrAnd r (λ other. other ≡ fault) → (fault ≡ e → ⊥) → ReadsFile {A = A} {E = E} name len d h0 h1 a b (Ok value) → ReadsFile {A = B} {E = F} name len e h0 h1 a b r
reads_bad name len d e h0 h1 a b value fault (Ok other) is not_disk first = absurd is
reads_bad name len d e h0 h1 a b value fault (Err other) is not_disk first = record {
  same = first.same;
  goes_on = first.goes_on;
  disk = λ failed. absurd (not_disk (sym is ∙ of_err other e failed));
  kept = tt;
  others = λ no. first.kept;
  proper = first.proper;
}

pub reads_ok : {A B F : Type 0} (name : List ℕ) (len : ℕ) (e : F) (h0 h1 : List TreeState) (a b : Counts) (value : A) (other : B) → ReadsFile {A = A} {E = F} name len e h0 h1 a b (Ok value) → ReadsFile {A = B} {E = F} name len e h0 h1 a b (Ok other)
reads_ok name len e h0 h1 a b value other first = record {
  same = first.same;
  goes_on = first.goes_on;
  disk = λ failed. absurd (ok_not_err other e failed);
  kept = first.kept;
  others = tt;
  proper = first.proper;
}
