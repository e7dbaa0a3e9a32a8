-- Bytes of a file that were read behind others, in one call or in several.
use Rattle.std.proofs.Common.{◌≡◌, ◌∙◌, ◌≤◌, ℕ, ◌+◌, ◌-◌, List, [], ◌∷◌, ◌++◌, length, take, take_all, drop, drop_of_length-le, length-take-le, Option, Some, None, Result, Ok, Err, refl, ap, sym, subst, arith, append_assoc, append-nil}
use Rattle.std.specs.Option.{option_map}
use Rattle.std.specs.Prelude.{IfSome, IsErrAnd, IsErrOf, replicate}
use Rattle.std.proofs.Math.Seq.{take-add, take-append_seam}
use Rattle.std.proofs.lemmas.List.{length-append, length-drop}
use Rattle.base_core.specs.Calls.{IfObservable, IsCounted}
use Rattle.base_core.specs.Faults.{Counts}
use Rattle.base_core.specs.Read.{AppendsReadBytes, OnlyReads}
use Rattle.base_core.specs.Tree.{IsAlwaysAllowed, CanRead, TreeState, files_of}
use Rattle.base_core.specs.declared.tree.Disk.{Disk}
use Rattle.base_core.proofs.Counting.{readings_two}

-- ---- the file

-- what is known of the file under a name as soon as it is known of each file
of_file : (P : List ℕ → Type 0) (found : Option (List ℕ)) → ((file : List ℕ) → found ≡ Some file → P file) → IfSome found P
of_file P None h = tt
of_file P (Some file) h = h file refl

file_has : (P : List ℕ → Type 0) (found : Option (List ℕ)) (file : List ℕ) → found ≡ Some file → IfSome found P → P file
file_has P found file is h = let Q : Option (List ℕ) → Type 0 = λ o. IfSome o P in subst Q is h

nothing_told : (history : List TreeState) (name : List ℕ) → IfObservable history (λ v. IfSome (files_of v name) (λ file. [] ≡ take 0 (drop 0 file)))
nothing_told [] name = tt
nothing_told (v ∷ earlier) name = of_file _ (files_of v name) (λ file is. refl)

pub nothing_after : (history : List TreeState) (name before : List ℕ) → AppendsReadBytes history name 0 0 before before
nothing_after history name before = record { read = []; behind = sym (append-nil before); long = refl; told = nothing_told history name }

told_further : (history later : List TreeState) (name : List ℕ) (at n : ℕ) (first more : List ℕ) → later ≡ history
    → IfObservable history (λ v. IfSome (files_of v name) (λ file. first ≡ take at (drop 0 file)))
    → IfObservable later (λ v. IfSome (files_of v name) (λ file. more ≡ take n (drop at file)))
    → IfObservable history (λ v. IfSome (files_of v name) (λ file. first ++ more ≡ take (at + n) (drop 0 file)))
told_further [] later name at n first more same h k = tt
told_further (v ∷ earlier) later name at n first more same h k =
    of_file _ (files_of v name) (λ file is.
    let told_here = subst (λ (states : List TreeState). IfObservable states (λ w. IfSome (files_of w name) (λ file. more ≡ take n (drop at file)))) same k in
    let first_is : first ≡ take at file = file_has _ (files_of v name) file is h in
    let more_is : more ≡ take n (drop at file) = file_has _ (files_of v name) file is told_here in
    ap (λ (xs : List ℕ). xs ++ more) first_is
    ∙ (ap (λ (xs : List ℕ). take at file ++ xs) more_is ∙ sym (take-add at n file)))

-- a read that goes on where those before it ended
pub read_further : (history later : List TreeState) (name : List ℕ) (at n : ℕ) (before mid now : List ℕ) → later ≡ history
    → AppendsReadBytes history name 0 at before mid → AppendsReadBytes later name at n mid now → AppendsReadBytes history name 0 (at + n) before now
read_further history later name at n before mid now same h k = record {
  read = h.read ++ k.read;
  behind = k.behind ∙ (ap (λ (xs : List ℕ). xs ++ k.read) h.behind ∙ append_assoc before h.read k.read);
  long = length-append h.read k.read ∙ (ap (λ (m : ℕ). m + length k.read) h.long ∙ ap (λ (m : ℕ). at + m) k.long);
  told = told_further history later name at n h.read k.read same h.told k.told;
}

-- as many bytes of a file as it has are the file
of_size : (found : Option (List ℕ)) (read : List ℕ) (n : ℕ) → Some n ≡ option_map length found → IfSome found (λ file. read ≡ take n (drop 0 file)) → Some read ≡ found
of_size None read n sized h = absurd (cc (sized))
of_size (Some file) read n sized h =
    let long : n ≡ length file = cc (sized) in
    ap Some (h ∙ take_all n file (omega arith))

-- a file's size, and then so many of its bytes, are the file
pub whole_read : (told later : List TreeState) (name : List ℕ) (size : Option ℕ) (n : ℕ) (before now : List ℕ)
    → IfObservable told (λ v. size ≡ option_map length (files_of v name)) → size ≡ Some n → later ≡ told
    → (h : AppendsReadBytes later name 0 n before now) → IfObservable told (λ v. Some h.read ≡ files_of v name)
whole_read [] later name size n before now sized is same h = tt
whole_read (v ∷ earlier) later name size n before now sized is same h =
    let told_here : IfSome (files_of v name) (λ file. h.read ≡ take n (drop 0 file)) =
    subst (λ (states : List TreeState). IfObservable states (λ w. IfSome (files_of w name) (λ file. h.read ≡ take n (drop 0 file)))) same h.told in
    of_size (files_of v name) h.read n (sym is ∙ sized) told_here

-- the same where nothing stood in front
pub whole_file : (told later : List TreeState) (name : List ℕ) (size : Option ℕ) (n : ℕ) (before now : List ℕ)
    → IfObservable told (λ v. size ≡ option_map length (files_of v name)) → size ≡ Some n → later ≡ told → before ≡ []
    → AppendsReadBytes later name 0 n before now → IfObservable told (λ v. Some now ≡ files_of v name)
whole_file told later name size n before now sized is same empty h =
    let all : h.read ≡ now = sym (h.behind ∙ ap (λ (xs : List ℕ). xs ++ h.read) empty) in
    subst (λ (bytes : List ℕ). IfObservable told (λ v. Some bytes ≡ files_of v name)) all (whole_read told later name size n before now sized is same h)

-- ---- one call

-- the bytes of which those from a place on were filled
abbrev pub refilled : ℕ → List ℕ → List ℕ → List ℕ
refilled start shown into = take start shown ++ (into ++ drop (length shown - start) (drop start shown))

-- a vector of `n` bytes that was filled from a place on, as it is given back
abbrev pub given_back : ℕ → ℕ → List ℕ → List ℕ → List ℕ → List ℕ
given_back start n shown into items = take n (refilled start shown into ++ drop (length (refilled start shown into)) items)

put_after : (before shown into items : List ℕ) (start n : ℕ) → start ≤ length shown → length into ≡ length shown - start → length shown ≡ n → length items ≡ n → take start shown ≡ before
    → given_back start n shown into items ≡ before ++ into
put_after before shown into items start n within some whole all is =
    let front = length-take-le start shown within in
    let rest = length-drop start shown in
    let none : drop (length shown - start) (drop start shown) ≡ [] = drop_of_length-le (drop start shown) (omega arith) in
    let put : List ℕ = take start shown ++ into in
    let long = length-append (take start shown) into in
    let back : List ℕ → List ℕ = λ l. take n (l ++ drop (length l) items) in
    ap back (ap (λ (l : List ℕ). take start shown ++ (into ++ l)) none ∙ ap (λ (l : List ℕ). take start shown ++ l) (append-nil into))
    ∙ ap (λ (l : List ℕ). take n (put ++ l)) (drop_of_length-le items (omega arith))
    ∙ ap (λ (l : List ℕ). take n l) (append-nil put)
    ∙ take_all n put (omega arith)
    ∙ ap (λ (l : List ℕ). l ++ into) is

-- what stood in a vector stands in front, when it was filled up
front_stays : (before items : List ℕ) (start end some : ℕ) → items ≡ take end before ++ replicate some 0 → start ≡ length before → start ≤ end → take start items ≡ before
front_stays before items start end some filled is le =
    let all : take end before ≡ before = take_all end before (omega arith) in
    ap (take start) (filled ∙ ap (λ (l : List ℕ). l ++ replicate some 0) all)
    ∙ ap (λ (k : ℕ). take k (before ++ replicate some 0)) is
    ∙ take-append_seam before (replicate some 0)

-- what one call read behind the bytes that stood there: `room` is what it was given to fill
pub added_behind : (history : List TreeState) (name : List ℕ) (at len start end some n : ℕ) (before shown room into items : List ℕ)
    → items ≡ take end before ++ replicate some 0 → start ≡ length before → end ≡ start + len → shown ≡ items → length items ≡ end → n ≡ end
    → length into ≡ length shown - start → length room ≡ len
    → IfObservable history (λ v. IfSome (files_of v name) (λ file. into ≡ take (length room) (drop at file)))
    → AppendsReadBytes history name at len before (given_back start n shown into items)
added_behind history name at len start end some n before shown room into items filled is ends shows long count fits full told =
    let shown_long : length shown ≡ end = ap length shows ∙ long in
    let front : take start shown ≡ before = ap (take start) shows ∙ front_stays before items start end some filled is (omega arith) in
    record {
      read = into;
      behind = put_after before shown into items start n (omega arith) fits (omega arith) (omega arith) front;
      long = omega arith;
      told = subst (λ (m : ℕ). IfObservable history (λ v. IfSome (files_of v name) (λ file. into ≡ take m (drop at file)))) full told;
    }

-- ---- where a call is no misuse

can_read_part : (history : List TreeState) (name : List ℕ) (size at n : ℕ) → IfObservable history (λ v. Some size ≡ option_map length (files_of v name)) → at + n ≤ size → IfObservable history (CanRead name at n)
can_read_part [] name size at n sized le = tt
can_read_part (v ∷ earlier) name size at n sized le = by_file (files_of v name) sized
  where
    by_file : (found : Option (List ℕ)) → Some size ≡ option_map length found → (bytes : List ℕ) × (found ≡ Some bytes) × (at + n ≤ length bytes)
    by_file None is = absurd (cc)
    by_file (Some bytes) is = (bytes, refl, let long : length bytes ≡ size = (cc) in omega arith)

pub can_read_here : (told here : List TreeState) (name : List ℕ) (size at n : ℕ) → IfObservable told (λ v. Some size ≡ option_map length (files_of v name)) → here ≡ told → at + n ≤ size → IfObservable here (CanRead name at n)
can_read_here told here name size at n sized same le =
    subst (λ (states : List TreeState). IfObservable states (CanRead name at n)) (sym same) (can_read_part told name size at n sized le)

pub can_read_so_many : (history : List TreeState) (name : List ℕ) (at len n : ℕ) → IfObservable history (CanRead name at len) → n ≡ len → IfObservable history (CanRead name at n)
can_read_so_many history name at len n may is = subst (λ (m : ℕ). IfObservable history (CanRead name at m)) (sym is) may

-- a size that was told is told of a tree that stays
pub sized_here : (told later : List TreeState) (name : List ℕ) (size : Option ℕ) (n : ℕ) → IfObservable told (λ v. size ≡ option_map length (files_of v name)) → size ≡ Some n → later ≡ told
    → IfObservable later (λ v. Some n ≡ option_map length (files_of v name))
sized_here told later name size n sized is same =
    let here = subst (λ (o : Option ℕ). IfObservable told (λ v. o ≡ option_map length (files_of v name))) is sized in
    subst (λ (states : List TreeState). IfObservable states (λ v. Some n ≡ option_map length (files_of v name))) (sym same) here

anywhere : (history : List TreeState) → IfObservable history IsAlwaysAllowed
anywhere [] = tt
anywhere (v ∷ earlier) = tt

-- ---- what a call makes of the tree

proper_where : (history : List TreeState) (can : TreeState → Type 0) (P : Type 0) → IfObservable history (λ v. can v → P) → IfObservable history can → IfObservable history (λ v. P)
proper_where [] can P h may = tt
proper_where (v ∷ earlier) can P h may = h may

-- one call that may be made, and succeeded
pub reading_done : {A B E : Type 0} (disk : E) (can : TreeState → Type 0) (old new : List TreeState) (a b : Counts) (value : A) (other : B)
    → new ≡ old → IsCounted {T = A} {E = Disk} can old a b (Ok value) → IfObservable old can → OnlyReads {A = B} {E = E} disk old new a b (Ok other)
reading_done disk can old new a b value other same counted may = record {
  same = same;
  goes_on = counted.goes_on;
  disk = λ is. absurd (cc);
  kept = counted.kept;
  others = tt;
  proper = proper_where old can (b.misuses ≡ a.misuses) counted.proper may;
}

-- the same of one that failed, told as a fault of the tree
pub reading_failed : {A B E : Type 0} (disk : E) (can : TreeState → Type 0) (old new : List TreeState) (a b : Counts) (off : Disk) (r : Result B E)
    → IsErrAnd r (λ fault. fault ≡ disk) → new ≡ old → IsCounted {T = A} {E = Disk} can old a b (Err off) → IfObservable old can → OnlyReads {A = B} {E = E} disk old new a b r
reading_failed disk can old new a b off (Ok other) is same counted may = absurd is
reading_failed disk can old new a b off (Err fault) is same counted may = record {
  same = same;
  goes_on = counted.goes_on;
  disk = λ failed. counted.cause;
  kept = tt;
  others = λ not_disk. absurd (not_disk is);
  proper = proper_where old can (b.misuses ≡ a.misuses) counted.proper may;
}

-- what was read, told as another value
pub reading_as : {A B E : Type 0} (disk : E) (old new : List TreeState) (a b : Counts) (value : A) (other : B)
    → OnlyReads {A = A} {E = E} disk old new a b (Ok value) → OnlyReads {A = B} {E = E} disk old new a b (Ok other)
reading_as disk old new a b value other h = record {
  same = h.same;
  goes_on = h.goes_on;
  disk = λ is. absurd (cc);
  kept = h.kept;
  others = tt;
  proper = h.proper;
}

-- a fault that is handed on
pub reading_off : {A B E : Type 0} (disk : E) (old new : List TreeState) (a b : Counts) (fault : E) (r : Result B E)
    → IsErrAnd r (λ other. other ≡ fault) → OnlyReads {A = A} {E = E} disk old new a b (Err fault) → OnlyReads {A = B} {E = E} disk old new a b r
reading_off disk old new a b fault (Ok other) is h = absurd is
reading_off disk old new a b fault (Err other) is h = record {
  same = h.same;
  goes_on = h.goes_on;
  disk = λ failed. h.disk (as_err fault disk (sym is ∙ is_err other disk failed));
  kept = tt;
  others = λ not_disk. h.others (λ failed. not_disk (is ∙ failed));
  proper = h.proper;
}
  where
    is_err : {C F : Type 0} (x y : F) → IsErrOf {T = C} {E = F} (Err x) y → x ≡ y
    is_err x y e = (cc)

    as_err : {C F : Type 0} (x y : F) → x ≡ y → IsErrOf {T = C} {E = F} (Err x) y
    as_err x y e = λ j. Err (e j)

-- two reads, the second of which fails, in a call that hands the fault on
pub second_reading_failed : {A B C E : Type 0} (disk : E) (h0 h1 h2 : List TreeState) (a b c : Counts) (value : A) (fault : E) (r : Result C E)
    → IsErrAnd r (λ other. other ≡ fault) → OnlyReads {A = A} {E = E} disk h0 h1 a b (Ok value) → OnlyReads {A = B} {E = E} disk h1 h2 b c (Err fault) → OnlyReads {A = C} {E = E} disk h0 h2 a c r
second_reading_failed {A} {B} {C} disk h0 h1 h2 a b c value fault r is h k =
    reading_off {A = B} {B = C} disk h0 h2 a c fault r is (readings_two {A = A} {B = B} disk h0 h1 h2 a b c value (Err fault) h k)

-- two reads that succeed, in a call that returns what it makes of them
pub both_readings : {A B C E : Type 0} (disk : E) (h0 h1 h2 : List TreeState) (a b c : Counts) (value : A) (other : B) (made : C)
    → OnlyReads {A = A} {E = E} disk h0 h1 a b (Ok value) → OnlyReads {A = B} {E = E} disk h1 h2 b c (Ok other) → OnlyReads {A = C} {E = E} disk h0 h2 a c (Ok made)
both_readings {A} {B} {C} disk h0 h1 h2 a b c value other made h k =
    reading_as {A = B} {B = C} disk h0 h2 a c other made (readings_two {A = A} {B = B} disk h0 h1 h2 a b c value (Ok other) h k)

-- a size that was told, and then reads
pub sized_then : {B E : Type 0} (disk : E) (h0 h1 h2 : List TreeState) (a b c : Counts) (size : Option ℕ) (then : Result B E)
    → h1 ≡ h0 → IsCounted {T = Option ℕ} {E = Disk} IsAlwaysAllowed h0 a b (Ok size) → OnlyReads {A = B} {E = E} disk h1 h2 b c then → OnlyReads {A = B} {E = E} disk h0 h2 a c then
sized_then disk h0 h1 h2 a b c size then same counted h =
    readings_two disk h0 h1 h2 a b c size then (reading_done disk IsAlwaysAllowed h0 h1 a b size size same counted (anywhere h0)) h
