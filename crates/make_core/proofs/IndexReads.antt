-- Packages that are read, operand by operand.
use Rattle.std.proofs.Common.{◌≡◌, ℕ, zero, suc, ◌+◌, ◌<◌, ◌==◌, Bool, true, false, if◌then◌else◌, List, [], ◌∷◌, ◌++◌, length, drop, Option, Some, None, IfSome, Result, Ok, Err, refl, sym, ◌∙◌, ap, subst, arith, append_assoc, append-nil, ◌≤◌}
use Rattle.std.proofs.lemmas.Bool.{eq-eqb, ne_eqb}
use Rattle.std.proofs.Math.ListN.{drop_of_length-le}
use Rattle.std.specs.List.{slice_get}
use Rattle.std.specs.Result.{IsErrAnd}
use Rattle.base_core.specs.Calls.{IfObservable}
use Rattle.base_core.specs.Tree.{TreeState, files_of}
use Rattle.adb_view.specs.Plain.{Plain}
use Rattle.std.specs.Option.{option_map}
use Rattle.command_core.specs.Named.{operand_file}
use Rattle.command_core.specs.Files.{without_one_leading_dot_slash}
use Rattle.command_core.specs.declared.operands.Operand.{Operand}
use Rattle.make_core.specs.Index.{entry_before_others_or_fault, found_entries, found_entry}
use Rattle.make_core.specs.Kept.{AgreesUnlessMemory, AgreesUnlessMemoryOrDisk}
use Rattle.make_core.specs.Files.{reads_of, EachOperandReadFindsNoFileOrFileBytes}
use Rattle.base_core.specs.Files.{AreFileBytes}
use Rattle.make_info.specs.declared.fault.MakeFault.{MakeFault}
use Rattle.make_info.specs.declared.fault.MakeFault.TheVariants.{FileMissing, FileBad, InfoBad, TooLarge, Disk, Memory}

pub by_made : {A B : Type 0} (view : A → B) (r : Result A MakeFault) (told : Result B MakeFault) → AgreesUnlessMemory view r told → AgreesUnlessMemoryOrDisk view r told
by_made view (Ok x) told h = h
by_made view (Err (FileMissing p)) told h = h
by_made view (Err (FileBad p c)) told h = h
by_made view (Err (InfoBad p)) told h = h
by_made view (Err (TooLarge b v)) told h = h
by_made view (Err Disk) told h = tt
by_made view (Err Memory) told h = tt

pub found_told : {A : Type 0} (view : A → Plain) (history : List TreeState) (r : Result A MakeFault) (place : ℕ) (name : List ℕ) (found : Option (List ℕ)) → IfObservable history (λ v. found ≡ files_of v name) → AgreesUnlessMemory view r (found_entry place found)
    → IfObservable history (λ v. AgreesUnlessMemoryOrDisk view r (found_entry place (files_of v name)))
found_told view [] r place name found h made = tt
found_told view (v ∷ earlier) r place name found h made =
    by_made view r (found_entry place (files_of v name)) (subst (λ (o : Option (List ℕ)). AgreesUnlessMemory view r (found_entry place o)) h made)

-- the file that an operand names
pub operand_name : (os : List Operand) (i : ℕ) (o : Operand) (name : List ℕ) → slice_get os i ≡ Some o → option_map operand_file (slice_get os i) ≡ Some name → name ≡ without_one_leading_dot_slash o.text
operand_name os i o name at e =
    let both : Some name ≡ Some (without_one_leading_dot_slash o.text) = sym e ∙ ap (option_map operand_file) at in
    cc (both)

pub named_as : {A : Type 0} (view : A → Plain) (history : List TreeState) (r : Result A MakeFault) (place : ℕ) (file name : List ℕ) → file ≡ name
    → IfObservable history (λ v. AgreesUnlessMemoryOrDisk view r (found_entry place (files_of v file))) → IfObservable history (λ v. AgreesUnlessMemoryOrDisk view r (found_entry place (files_of v name)))
named_as view history r place file name e h = let P : List ℕ → Type 0 = λ f. IfObservable history (λ v. AgreesUnlessMemoryOrDisk view r (found_entry place (files_of v f))) in subst P e h

-- ---- the operands

pub left_at : {X : Type 0} (xs : List X) (i : ℕ) (x : X) → slice_get xs i ≡ Some x → drop i xs ≡ x ∷ drop (i + 1) xs
left_at [] i x e = cc
left_at (y ∷ xs) zero x e = cc
left_at (y ∷ xs) (suc i) x e =
    let next : suc (i + 1) ≡ suc i + 1 = omega arith in left_at xs i x e ∙ ap (λ n. x ∷ drop n (y ∷ xs)) next

-- ---- entries in front of those that are left

abbrev pub in_front : List Plain → Result (List Plain) MakeFault → Result (List Plain) MakeFault
in_front es (Ok others) = Ok (es ++ others)
in_front es (Err fault) = Err fault

front_none : (r : Result (List Plain) MakeFault) → r ≡ in_front [] r
front_none (Ok es) = refl
front_none (Err fault) = refl

front_more : (es : List Plain) (e : Plain) (r : Result (List Plain) MakeFault) → in_front es (entry_before_others_or_fault (Ok e) r) ≡ in_front (es ++ e ∷ []) r
front_more es e (Ok others) = ap Ok (sym (append_assoc es (e ∷ []) others))
front_more es e (Err fault) = refl

abbrev pub IsSoFar : (ℕ → List ℕ → Option (List ℕ)) → List Operand → ℕ → List Plain → Type 0
IsSoFar read os i es = found_entries read 0 os ≡ in_front es (found_entries read i (drop i os))

pub so_far_none : (read : ℕ → List ℕ → Option (List ℕ)) (os : List Operand) → IsSoFar read os 0 []
so_far_none read os = front_none (found_entries read 0 os)

here : (read : ℕ → List ℕ → Option (List ℕ)) (os : List Operand) (i : ℕ) (o : Operand) (es : List Plain) → slice_get os i ≡ Some o → IsSoFar read os i es → found_entries read 0 os ≡ in_front es (entry_before_others_or_fault (found_entry o.place (read i (without_one_leading_dot_slash o.text))) (found_entries read (i + 1) (drop (i + 1) os)))
here read os i o es at so = so ∙ ap (λ (l : List Operand). in_front es (found_entries read i l)) (left_at os i o at)

pub so_far_more : (read : ℕ → List ℕ → Option (List ℕ)) (os : List Operand) (i : ℕ) (o : Operand) (es new : List Plain) (e : Plain) → slice_get os i ≡ Some o → IsSoFar read os i es → found_entry o.place (read i (without_one_leading_dot_slash o.text)) ≡ Ok e → new ≡ es ++ e ∷ [] → IsSoFar read os (i + 1) new
so_far_more read os i o es new e at so one is =
    here read os i o es at so ∙ (ap (λ (r : Result Plain MakeFault). in_front es (entry_before_others_or_fault r (found_entries read (i + 1) (drop (i + 1) os)))) one
    ∙ (front_more es e (found_entries read (i + 1) (drop (i + 1) os)) ∙ ap (λ (l : List Plain). in_front l (found_entries read (i + 1) (drop (i + 1) os))) (sym is)))

pub so_far_all : (read : ℕ → List ℕ → Option (List ℕ)) (os : List Operand) (i : ℕ) (es : List Plain) → length os ≤ i → IsSoFar read os i es → found_entries read 0 os ≡ Ok es
so_far_all read os i es past so = so ∙ (ap (λ (l : List Operand). in_front es (found_entries read i l)) (drop_of_length-le os past) ∙ ap Ok (append-nil es))

-- a refusal at an operand is that of all
pub so_far_err : {A : Type 0} (view : A → List Plain) (read : ℕ → List ℕ → Option (List ℕ)) (os : List Operand) (i : ℕ) (o : Operand) (es : List Plain) (fault : MakeFault) (r : Result A MakeFault) → slice_get os i ≡ Some o → IsSoFar read os i es → {B : Type 0} (one : B → Plain) → AgreesUnlessMemoryOrDisk one (Err fault) (found_entry o.place (read i (without_one_leading_dot_slash o.text))) → r ≡ Err fault → AgreesUnlessMemoryOrDisk view r (found_entries read 0 os)
so_far_err view read os i o es fault r at so one made e = subst (λ x. AgreesUnlessMemoryOrDisk view x (found_entries read 0 os)) (sym e) (go fault made)
  where
    told : (f : MakeFault) → found_entry o.place (read i (without_one_leading_dot_slash o.text)) ≡ Err f → found_entries read 0 os ≡ Err f
    told f t = here read os i o es at so ∙ ap (λ (x : Result Plain MakeFault). in_front es (entry_before_others_or_fault x (found_entries read (i + 1) (drop (i + 1) os)))) t

    go : (f : MakeFault) → AgreesUnlessMemoryOrDisk one (Err f) (found_entry o.place (read i (without_one_leading_dot_slash o.text))) → AgreesUnlessMemoryOrDisk view (Err f) (found_entries read 0 os)
    go (FileMissing p) h = told (FileMissing p) h
    go (FileBad p c) h = told (FileBad p c) h
    go (InfoBad p) h = told (InfoBad p) h
    go (TooLarge b v) h = told (TooLarge b v) h
    go Disk h = tt
    go Memory h = tt

-- ---- over a tree that tells nothing

-- by reads so far, and whatever is read later
pub record IsReadTo (os : List Operand) (i : ℕ) (es : List Plain) : Type 0 where
  pub found : ℕ → List ℕ → Option (List ℕ)
  pub files : (k : ℕ) (q : List ℕ) → IfSome (found k q) AreFileBytes
  pub rest : (later : ℕ → List ℕ → Option (List ℕ)) → ((k : ℕ) → k < i → later k ≡ found k) → IsSoFar later os i es

pub read_none : (os : List Operand) → IsReadTo os 0 []
read_none os = record { found = λ k q. None; files = λ k q. tt; rest = λ later agree. so_far_none later os }

found_with : (ℕ → List ℕ → Option (List ℕ)) → ℕ → Option (List ℕ) → ℕ → List ℕ → Option (List ℕ)
found_with found i f k q = if k == i then f else found k q

with_before : (found : ℕ → List ℕ → Option (List ℕ)) (i : ℕ) (f : Option (List ℕ)) (k : ℕ) → k < i → found_with found i f k ≡ found k
unfolding found_with
with_before found i f k lt = λ j q. if ne_eqb k i (λ e. omega (arith, e, lt)) j then f else found k q

with_value_set_at_index : (found : ℕ → List ℕ → Option (List ℕ)) (i : ℕ) (f : Option (List ℕ)) (q : List ℕ) → found_with found i f i q ≡ f
unfolding found_with
with_value_set_at_index found i f q = ap (λ (b : Bool). if b then f else found i q) (eq-eqb i i refl)

with_files : (found : ℕ → List ℕ → Option (List ℕ)) (i : ℕ) (f : Option (List ℕ)) → IfSome f AreFileBytes → ((k : ℕ) (q : List ℕ) → IfSome (found k q) AreFileBytes) → (k : ℕ) (q : List ℕ) → IfSome (found_with found i f k q) AreFileBytes
unfolding found_with
with_files found i f one files k q =
    elim (k == i) as (λ b. IfSome (if b then f else found k q) AreFileBytes) [
      | true ↦ one
      | false ↦ files k q
    ]

files_all : (read : ℕ → List ℕ → Option (List ℕ)) → ((k : ℕ) (q : List ℕ) → IfSome (read k q) AreFileBytes) → (n : ℕ) (os : List Operand) → EachOperandReadFindsNoFileOrFileBytes read n os
files_all read files n [] = tt
files_all read files n (o ∷ os) = (λ file is. subst (λ (x : Option (List ℕ)). IfSome x AreFileBytes) is (files n (without_one_leading_dot_slash o.text)), files_all read files (n + 1) os)

pub read_more : (os : List Operand) (i : ℕ) (o : Operand) (es new : List Plain) (e : Plain) → slice_get os i ≡ Some o → IsReadTo os i es → (f : Option (List ℕ)) → IfSome f AreFileBytes → found_entry o.place f ≡ Ok e → new ≡ es ++ e ∷ [] → IsReadTo os (i + 1) new
read_more os i o es new e at so f file one is = record {
  found = found_with so.found i f;
  files = with_files so.found i f file so.files;
  rest = λ later agree.
      so_far_more later os i o es new e at
      (so.rest later (λ k lt. agree k (omega (lt, arith)) ∙ with_before so.found i f k lt))
      (ap (found_entry o.place) (ap (λ r. r (without_one_leading_dot_slash o.text)) (agree i (omega arith)) ∙ with_value_set_at_index so.found i f (without_one_leading_dot_slash o.text)) ∙ one)
      is;
}

pub read_all_is : (os : List Operand) (i : ℕ) (es : List Plain) → length os ≤ i → IsReadTo os i es → (read : ℕ → List ℕ → Option (List ℕ)) × EachOperandReadFindsNoFileOrFileBytes read 0 os × (found_entries read 0 os ≡ Ok es)
read_all_is os i es past so = (so.found, files_all so.found so.files 0 os, so_far_all so.found os i es past (so.rest so.found (λ k lt. refl)))

pub read_err : {A B : Type 0} (view : A → List Plain) (one : B → Plain) (os : List Operand) (i : ℕ) (o : Operand) (es : List Plain) (fault : MakeFault) (r : Result A MakeFault) → slice_get os i ≡ Some o → IsReadTo os i es → (found : Option (List ℕ)) × IfSome found AreFileBytes × AgreesUnlessMemoryOrDisk one (Err fault) (found_entry o.place found) → r ≡ Err fault → (read : ℕ → List ℕ → Option (List ℕ)) × EachOperandReadFindsNoFileOrFileBytes read 0 os × AgreesUnlessMemoryOrDisk view r (found_entries read 0 os)
read_err view one os i o es fault r at so made e =
    let f : Option (List ℕ) = made.0 in (
      found_with so.found i f,
      files_all (found_with so.found i f) (with_files so.found i f made.1 so.files) 0 os,
      so_far_err view (found_with so.found i f) os i o es fault r at (so.rest (found_with so.found i f) (λ k lt. with_before so.found i f k lt)) one
          (subst (λ x. AgreesUnlessMemoryOrDisk one (Err fault) (found_entry o.place x)) (sym (with_value_set_at_index so.found i f (without_one_leading_dot_slash o.text))) made.2) e,
    )

-- for lack of memory nothing is said of what was found
pub read_stopped : {A : Type 0} (view : A → List Plain) (os : List Operand) (r : Result A MakeFault) → IsErrAnd r (λ e. e ≡ Memory) → (read : ℕ → List ℕ → Option (List ℕ)) × EachOperandReadFindsNoFileOrFileBytes read 0 os × AgreesUnlessMemoryOrDisk view r (found_entries read 0 os)
read_stopped view os (Ok x) e = absurd e
read_stopped view os (Err fault) e =
    let nothing : ℕ → List ℕ → Option (List ℕ) = λ k q. None in
    let P : MakeFault → Type 0 = λ f. AgreesUnlessMemoryOrDisk view (Err f) (found_entries nothing 0 os) in
    (nothing, files_all nothing (λ k q. tt) 0 os, subst P (sym e) tt)

-- ---- over a tree that tells its files

pub told_none : (history : List TreeState) (os : List Operand) → IfObservable history (λ v. IsSoFar (reads_of v) os 0 [])
told_none [] os = tt
told_none (v ∷ earlier) os = so_far_none (reads_of v) os

pub told_more : (old now : List TreeState) (os : List Operand) (i : ℕ) (o : Operand) (es new : List Plain) (e : Plain) → slice_get os i ≡ Some o → now ≡ old → IfObservable old (λ v. IsSoFar (reads_of v) os i es) → IfObservable now (λ v. found_entry o.place (files_of v (without_one_leading_dot_slash o.text)) ≡ Ok e) → new ≡ es ++ e ∷ [] → IfObservable old (λ v. IsSoFar (reads_of v) os (i + 1) new)
told_more [] now os i o es new e at same so one is = tt
told_more (v ∷ earlier) now os i o es new e at same so one is =
    so_far_more (reads_of v) os i o es new e at so (subst (λ (t : List TreeState). IfObservable t (λ w. found_entry o.place (files_of w (without_one_leading_dot_slash o.text)) ≡ Ok e)) same one) is

pub told_err : {A B : Type 0} (view : A → List Plain) (one : B → Plain) (old now : List TreeState) (os : List Operand) (i : ℕ) (o : Operand) (es : List Plain) (fault : MakeFault) (r : Result A MakeFault) → slice_get os i ≡ Some o → now ≡ old → IfObservable old (λ v. IsSoFar (reads_of v) os i es) → IfObservable now (λ v. AgreesUnlessMemoryOrDisk one (Err fault) (found_entry o.place (files_of v (without_one_leading_dot_slash o.text)))) → r ≡ Err fault → IfObservable old (λ v. AgreesUnlessMemoryOrDisk view r (found_entries (reads_of v) 0 os))
told_err view one [] now os i o es fault r at same so made e = tt
told_err view one (v ∷ earlier) now os i o es fault r at same so made e =
    so_far_err view (reads_of v) os i o es fault r at so one (subst (λ (t : List TreeState). IfObservable t (λ w. AgreesUnlessMemoryOrDisk one (Err fault) (found_entry o.place (files_of w (without_one_leading_dot_slash o.text))))) same made) e

-- for lack of memory nothing is said of what the tree tells
pub told_stopped : {A : Type 0} (view : A → List Plain) (history : List TreeState) (os : List Operand) (r : Result A MakeFault) → IsErrAnd r (λ e. e ≡ Memory) → IfObservable history (λ v. AgreesUnlessMemoryOrDisk view r (found_entries (reads_of v) 0 os))
told_stopped view [] os r e = tt
told_stopped view (v ∷ earlier) os (Ok x) e = absurd e
told_stopped view (v ∷ earlier) os (Err fault) e = subst (λ (f : MakeFault). AgreesUnlessMemoryOrDisk view (Err f) (found_entries (reads_of v) 0 os)) (sym e) tt

-- all operands are read
pub told_all : (history : List TreeState) (os : List Operand) (i : ℕ) (es : List Plain) → length os ≤ i → IfObservable history (λ v. IsSoFar (reads_of v) os i es) → IfObservable history (λ v. found_entries (reads_of v) 0 os ≡ Ok es)
told_all [] os i es past so = tt
told_all (v ∷ earlier) os i es past so = so_far_all (reads_of v) os i es past so

pub told_start : (history : List TreeState) (os : List Operand) (es : List Plain) → es ≡ [] → IfObservable history (λ v. IsSoFar (reads_of v) os 0 es)
told_start history os es e = subst (λ (xs : List Plain). IfObservable history (λ v. IsSoFar (reads_of v) os 0 xs)) (sym e) (told_none history os)

pub read_start : (os : List Operand) (es : List Plain) → es ≡ [] → IsReadTo os 0 es
read_start os es e = subst (IsReadTo os 0) (sym e) (read_none os)
