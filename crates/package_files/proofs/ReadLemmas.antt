-- Reads one after the other: what they explain together.
use Rattle.std.proofs.Common.{◌≡◌, ℕ, ◌+◌, ◌<◌, ◌≤◌, Bool, true, false, List, [], ◌∷◌, ◌++◌, Result, Ok, Err, Option, None, refl, sym, ap, ◌∙◌, subst, arith, if◌then◌else◌, nat_lt}
use borrow.Author.Tests.{lt-ltb, le-ltb}
use Rattle.base_core.specs.Calls.{IfObservable}
use Rattle.base_core.specs.Tree.{TreeState, files_of}
use Rattle.package_files.specs.Sources.{and_then, results_from_read}
use Rattle.make_info.specs.Reads.{Reads}
use Rattle.package_files.specs.Runs.{AgreesOrIsFault, AreReadsOfTreeIfObservable, HoldsOfSomeReadsOfTree}
use Rattle.base_core.specs.declared.tree.TreeFault.{TreeFault}
use Rattle.base_core.specs.declared.tree.TreeFault.TheVariants as Trees
use Rattle.std.specs.Result.{IsErrAnd}
use Rattle.make_info.specs.Faults.{IsMakeFaultOf}
use Rattle.make_info.specs.declared.fault.MakeFault.{MakeFault}
use Rattle.make_info.specs.declared.fault.MakeFault.TheVariants.{FileMissing, FileBad, InfoBad, TooLarge, Disk, Memory}

-- ---- two runs of reads, the second from a number on

abbrev pub joined : ℕ → Reads → Reads → Reads
joined k first second n name = if nat_lt n k then first n name else second n name

pub joined_below : (k : ℕ) (first second : Reads) (n : ℕ) (name : List ℕ) → n < k → joined k first second n name ≡ first n name
joined_below k first second n name lt = ap (λ (b : Bool). if b then first n name else second n name) (lt-ltb n k lt)

pub joined_from : (k : ℕ) (first second : Reads) (n : ℕ) (name : List ℕ) → k ≤ n → joined k first second n name ≡ second n name
joined_from k first second n name le = ap (λ (b : Bool). if b then first n name else second n name) (le-ltb n k le)

pub joined_told : (told : List TreeState) (k : ℕ) (first second : Reads) → AreReadsOfTreeIfObservable told first → AreReadsOfTreeIfObservable told second → AreReadsOfTreeIfObservable told (joined k first second)
joined_told [] k first second f s = tt
joined_told (v ∷ vs) k first second f s = λ n name. by (nat_lt n k) n name
  where
    by : (b : Bool) (n : ℕ) (name : List ℕ) → (if b then first n name else second n name) ≡ files_of v name
    by true n name = f n name
    by false n name = s n name

-- the reads of a tree that tells its files, or none
abbrev pub reads_or : List TreeState → Reads → Reads
reads_or [] read n name = read n name
reads_or (v ∷ vs) read n name = files_of v name

pub as_told_of : (told : List TreeState) (read : Reads) → AreReadsOfTreeIfObservable told (reads_or told read)
as_told_of [] read = tt
as_told_of (v ∷ vs) read = λ n name. refl

-- ---- each of a list

abbrev pub total : {X : Type 0} → (X → ℕ) → List X → ℕ
total count [] = 0
total count (x ∷ xs) = count x + total count xs

module _ {X Y : Type 0} (count : X → ℕ) where
  -- what comes of an element rests on its own reads
  abbrev pub RestsOnOwn : (Reads → ℕ → X → Result Y MakeFault) → Type 0
  RestsOnOwn of = (f g : Reads) (n : ℕ) (x : X) → ((m : ℕ) (name : List ℕ) → n ≤ m → m < n + count x → f m name ≡ g m name) → of f n x ≡ of g n x

  pub each_rests : (of : Reads → ℕ → X → Result Y MakeFault) → RestsOnOwn of → (f g : Reads) (n : ℕ) (xs : List X)
      → ((m : ℕ) (name : List ℕ) → n ≤ m → m < n + total count xs → f m name ≡ g m name) → results_from_read count (of f) n xs ≡ results_from_read count (of g) n xs
  each_rests of own f g n [] h = refl
  each_rests of own f g n (x ∷ xs) h =
      let here : of f n x ≡ of g n x = own f g n x (λ m name lo hi. h m name lo (omega arith)) in
      let rest : results_from_read count (of f) (n + count x) xs ≡ results_from_read count (of g) (n + count x) xs = each_rests of own f g (n + count x) xs (λ m name lo hi. h m name (omega arith) (omega arith)) in
      λ i. and_then (here i) (λ y. and_then (rest i) (λ ys. Ok (y ∷ ys)))

module _ {Y : Type 0} where
  more_by : (r : Result Y MakeFault) (e f : Result (List Y) MakeFault) (ys : List Y) (y : Y) → and_then r (λ y0. and_then e (λ l. Ok (y0 ∷ l))) ≡ Ok ys
      → ((l : List Y) → e ≡ Ok l → f ≡ Ok (l ++ y ∷ [])) → and_then r (λ y0. and_then f (λ l. Ok (y0 ∷ l))) ≡ Ok (ys ++ y ∷ [])
  more_by (Ok y0) (Ok l) f ys y e h = let all : ys ≡ y0 ∷ l = cc in ap (λ r. and_then r (λ l. Ok (y0 ∷ l))) (h l refl) ∙ ap (λ l. Ok (l ++ y ∷ [])) (sym all)
  more_by (Ok y0) (Err x) f ys y e h = absurd (cc)
  more_by (Err x) e f ys y i h = absurd (cc)

  stops_by : (r : Result Y MakeFault) (e f : Result (List Y) MakeFault) (ys : List Y) (fault : MakeFault) → and_then r (λ y0. and_then e (λ l. Ok (y0 ∷ l))) ≡ Ok ys
      → ((l : List Y) → e ≡ Ok l → f ≡ Err fault) → and_then r (λ y0. and_then f (λ l. Ok (y0 ∷ l))) ≡ Err fault
  stops_by (Ok y0) (Ok l) f ys fault e h = ap (λ r. and_then r (λ l. Ok (y0 ∷ l))) (h l refl)
  stops_by (Ok y0) (Err x) f ys fault e h = absurd (cc)
  stops_by (Err x) e f ys fault i h = absurd (cc)

module _ {X Y : Type 0} (count : X → ℕ) (of : ℕ → X → Result Y MakeFault) where
  pub each_more : (n m : ℕ) (xs : List X) (x : X) (ys : List Y) (y : Y) → m ≡ n + total count xs → results_from_read count of n xs ≡ Ok ys → of m x ≡ Ok y
      → results_from_read count of n (xs ++ x ∷ []) ≡ Ok (ys ++ y ∷ [])
  each_more n m [] x ys y e so_far here =
      let same : m ≡ n = omega arith in
      let none : ys ≡ [] = cc in
      ap (λ r. and_then r (λ z. Ok (z ∷ []))) (ap (λ k. of k x) (sym same) ∙ here) ∙ ap (λ l. Ok (l ++ y ∷ [])) (sym none)
  each_more n m (z ∷ zs) x ys y e so_far here =
      more_by (of n z) (results_from_read count of (n + count z) zs) (results_from_read count of (n + count z) (zs ++ x ∷ [])) ys y so_far
      (λ l g. each_more (n + count z) m zs x l y (omega arith) g here)

  pub each_stops : (n m : ℕ) (xs : List X) (x : X) (rest : List X) (ys : List Y) (fault : MakeFault) → m ≡ n + total count xs → results_from_read count of n xs ≡ Ok ys → of m x ≡ Err fault
      → results_from_read count of n (xs ++ x ∷ rest) ≡ Err fault
  each_stops n m [] x rest ys fault e so_far here =
      let same : m ≡ n = omega arith in
      ap (λ r. and_then r (λ z. and_then (results_from_read count of (n + count x) rest) (λ l. Ok (z ∷ l)))) (ap (λ k. of k x) (sym same) ∙ here)
  each_stops n m (z ∷ zs) x rest ys fault e so_far here =
      stops_by (of n z) (results_from_read count of (n + count z) zs) (results_from_read count of (n + count z) (zs ++ x ∷ rest)) ys fault so_far
      (λ l g. each_stops (n + count z) m zs x rest l fault (omega arith) g here)

-- ---- a loop over a list

-- what came of the elements so far
abbrev pub IsSoFar : {X Y : Type 0} → List TreeState → (X → ℕ) → (Reads → ℕ → X → Result Y MakeFault) → List X → (List Y → Type 0) → Type 0
IsSoFar {X} {Y} told count of xs R = (n : ℕ) → HoldsOfSomeReadsOfTree told (λ read. (ys : List Y) × (results_from_read count (of read) n xs ≡ Ok ys) × R ys)

-- the answer at the next one
abbrev pub IsNext : {X Y A : Type 0} → List TreeState → (Reads → ℕ → X → Result Y MakeFault) → X → (A → Y → Type 0) → Result A MakeFault → Type 0
IsNext told of x S r = (n : ℕ) → HoldsOfSomeReadsOfTree told (λ read. AgreesOrIsFault S r (of read n x))

module _ {X Y : Type 0} (told : List TreeState) (count : X → ℕ) (of : Reads → ℕ → X → Result Y MakeFault) (own : RestsOnOwn count of) where
  abbrev SoFar : List X → (List Y → Type 0) → Type 0
  SoFar xs R = IsSoFar told count of xs R

  abbrev Next : {A : Type 0} → X → (A → Y → Type 0) → Result A MakeFault → Type 0
  Next x S r = IsNext told of x S r

  pub kept_reads : (n : ℕ) (xs : List X) (f g : Reads) → results_from_read count (of (joined (n + total count xs) f g)) n xs ≡ results_from_read count (of f) n xs
  kept_reads n xs f g = each_rests count of own (joined (n + total count xs) f g) f n xs (λ m name lo hi. joined_below (n + total count xs) f g m name hi)

  next_reads : (k : ℕ) (x : X) (f g : Reads) → of (joined k f g) k x ≡ of g k x
  next_reads k x f g = own (joined k f g) g k x (λ m name lo hi. joined_from k f g m name lo)

  pub so_far_none : (R : List Y → Type 0) → R [] → SoFar [] R
  so_far_none R h n = record { read = reads_or told (λ n name. None); observed = as_told_of told (λ n name. None); is = ([], refl, h) }

  pub so_far_more : {A : Type 0} (xs : List X) (x : X) (R R' : List Y → Type 0) (S : A → Y → Type 0) (a : A) → SoFar xs R → Next x S (Ok a)
      → ((ys : List Y) (y : Y) → R ys → S a y → R' (ys ++ y ∷ [])) → SoFar (xs ++ x ∷ []) R'
  so_far_more xs x R R' S a before next grows n =
      let k : ℕ = n + total count xs in
      let p = before n in
      let q = next k in
      record {
        read = joined k p.read q.read;
        observed = joined_told told k p.read q.read p.observed q.observed;
        is = (
          p.is.0 ++ q.is.0 ∷ [],
          each_more count (of (joined k p.read q.read)) n k xs x p.is.0 q.is.0 refl (kept_reads n xs p.read q.read ∙ p.is.1) (next_reads k x p.read q.read ∙ q.is.1),
          grows p.is.0 q.is.0 p.is.2 q.is.2,
        );
      }

  -- a fault of the next one is that of all
  pub so_far_stops : {A B : Type 0} (xs : List X) (x : X) (rest : List X) (R : List Y → Type 0) (S : A → Y → Type 0) (T : B → List Y → Type 0) (fault : MakeFault)
      → SoFar xs R → Next x S (Err fault) → (n : ℕ) → HoldsOfSomeReadsOfTree told (λ read. AgreesOrIsFault T (Err fault) (results_from_read count (of read) n (xs ++ x ∷ rest)))
  so_far_stops {A} {B} xs x rest R S T fault before next n =
      let k : ℕ = n + total count xs in
      let p = before n in
      let q = next k in
      record {
        read = joined k p.read q.read;
        observed = joined_told told k p.read q.read p.observed q.observed;
        is = by fault q.is (λ h. each_stops count (of (joined k p.read q.read)) n k xs x rest p.is.0 fault refl (kept_reads n xs p.read q.read ∙ p.is.1) (next_reads k x p.read q.read ∙ h));
      }
    where
      by : (fault : MakeFault) {r : Result Y MakeFault} {s : Result (List Y) MakeFault} → AgreesOrIsFault S (Err fault) r → (r ≡ Err fault → s ≡ Err fault) → AgreesOrIsFault T (Err fault) s
      by Disk h f = tt
      by Memory h f = tt
      by (FileMissing p) h f = f h
      by (FileBad p q) h f = f h
      by (InfoBad p) h f = f h
      by (TooLarge p q) h f = f h

-- ---- one read

pub read_explained : (told : List TreeState) (found : Option (List ℕ)) (name : List ℕ) → IfObservable told (λ v. found ≡ files_of v name)
    → (n : ℕ) → HoldsOfSomeReadsOfTree told (λ read. read n name ≡ found)
read_explained [] found name h n = record { read = λ m q. found; observed = tt; is = refl }
read_explained (v ∷ vs) found name h n = record { read = λ m q. files_of v q; observed = λ m q. refl; is = sym h }

pub explained_as : (told : List TreeState) (P Q : Reads → Type 0) → HoldsOfSomeReadsOfTree told P → ((read : Reads) → P read → Q read) → HoldsOfSomeReadsOfTree told Q
explained_as told P Q h f = record { read = h.read; observed = h.observed; is = f h.read h.is }

-- nothing is said of the reads
pub explained : (told : List TreeState) (P : Reads → Type 0) → ((read : Reads) → P read) → HoldsOfSomeReadsOfTree told P
explained told P h = record { read = reads_or told (λ n name. None); observed = as_told_of told (λ n name. None); is = h (reads_or told (λ n name. None)) }

-- a fault of a part is that of the whole
pub fault_of_part : {A B C D : Type 0} (S : A → B → Type 0) (T : C → D → Type 0) (fault : MakeFault) (part : Result B MakeFault) (next : B → Result D MakeFault)
    → AgreesOrIsFault S (Err fault) part → AgreesOrIsFault T (Err fault) (and_then part next)
fault_of_part S T Disk part next h = tt
fault_of_part S T Memory part next h = tt
fault_of_part S T (FileMissing p) part next h = ap (λ r. and_then r next) h
fault_of_part S T (FileBad p q) part next h = ap (λ r. and_then r next) h
fault_of_part S T (InfoBad p) part next h = ap (λ r. and_then r next) h
fault_of_part S T (TooLarge p q) part next h = ap (λ r. and_then r next) h

-- ---- faults that are handed on

module _ {A B : Type 0} (S : A → B → Type 0) (w : Result B MakeFault) where
  answered : (fault : MakeFault) (e : MakeFault) → e ≡ fault → AgreesOrIsFault S (Err fault) w → AgreesOrIsFault S (Err e) w
  answered fault e same h = let P : MakeFault → Type 0 = λ f. AgreesOrIsFault S (Err f) w in subst P (sym same) h

  pub same_fault : (r : Result A MakeFault) (fault : MakeFault) → IsErrAnd r (λ e. e ≡ fault) → AgreesOrIsFault S (Err fault) w → AgreesOrIsFault S r w
  same_fault (Ok x) fault h a = absurd h
  same_fault (Err e) fault h a = answered fault e h a

  pub memory_fault : (r : Result A MakeFault) → IsErrAnd r (λ e. e ≡ Memory) → AgreesOrIsFault S r w
  memory_fault (Ok x) h = absurd h
  memory_fault (Err e) h = answered Memory e h tt

  pub tree_fault : (r : Result A MakeFault) (fault : TreeFault) → IsErrAnd r (IsMakeFaultOf fault) → AgreesOrIsFault S r w
  tree_fault (Ok x) fault h = absurd h
  tree_fault (Err e) Trees.Disk h = answered Disk e h tt
  tree_fault (Err e) Trees.Memory h = answered Memory e h tt

-- what is said of the states before is said of those of now, if they are the same
pub told_as : (t0 t1 : List TreeState) (P : ℕ → Reads → Type 0) → t1 ≡ t0 → ((n : ℕ) → HoldsOfSomeReadsOfTree t1 (P n)) → (n : ℕ) → HoldsOfSomeReadsOfTree t0 (P n)
told_as t0 t1 P e h n = let Q : List TreeState → Type 0 = λ t. HoldsOfSomeReadsOfTree t (P n) in subst Q e (h n)
