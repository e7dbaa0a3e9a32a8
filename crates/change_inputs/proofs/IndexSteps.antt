-- The indexes of repositories, one after the other.
use Rattle.std.proofs.Common.{◌≡◌, ℕ, zero, suc, ◌+◌, ◌<◌, ◌≤◌, true, ◌&&◌, List, [], ◌∷◌, ◌++◌, map, length, drop, get_or, Option, Some, None, Result, Ok, Err, refl, sym, ap, ◌∙◌, subst, append_assoc, append-nil, arith}
use Rattle.std.proofs.Math.ListN.{drop_of_length-le}
use Rattle.std.proofs.lemmas.List.{length-append, length-map}
use Rattle.std.proofs.lemmas.Option.{slice_get-map, slice_get_read}
use Rattle.std.specs.Prelude.{Vec}
use Rattle.std.specs.List.{slice_get}
use Rattle.std.specs.Option.{option_map}
use Rattle.std.specs.Result.{IsErrAnd}
use Rattle.std.specs.declared.alloc.Global.{Global}
use Rattle.std.proofs.lemmas.Bool.{and_parts}
use Rattle.db_core.specs.adb_schema.Soundness.{container_fault_except_contents}
use Rattle.adb_view.specs.declared.tables.Which.TheVariants.{Index}
use Rattle.adb_view.specs.Plain.{Plain}
use Rattle.base_core.specs.Tree.{TreeState, files_of}
use Rattle.command_core.proofs.Entries.{left_at}
use Rattle.dep_core.specs.Repositories.{Repository}
use Rattle.report_core.specs.declared.refusal.Refusal as Refusals
use Rattle.report_core.specs.declared.refusal.Refusal.TheVariants.{IndexBad}
use Rattle.change_inputs.proofs.Handed.{failure_agrees, handed_on_disk}
use Rattle.db_core.proofs.adb_schema.SoundPayload.{none_of}
use Rattle.change_inputs.specs.Answers.{Agrees, AgreesUnlessDiskOrMemory, IsDiskOrMemoryFailure, AreFilesFoundInTree, IsFileFoundInTree}
use Rattle.change_inputs.specs.Chains.{and_then, unless_cause}
use Rattle.change_inputs.specs.IndexFiles.{are_indexes, bytes_of_each, index_of_file, is_index}
use Rattle.change_inputs.specs.Indexes.{file_or_index_missing, index_files_from, index_in_file, indexes_in_files}
use Rattle.change_inputs.specs.declared.root.Refused.{Refused}
use Rattle.change_inputs.specs.declared.root.Refused.TheVariants.{Disk, Memory, Refusal}

-- ---- what was not looked for

abbrev pub unread : List TreeState → List ℕ → Option (List ℕ)
unread [] name = None
unread (v ∷ earlier) name = files_of v name

pub unread_stands : (history : List TreeState) (name : List ℕ) → IsFileFoundInTree history name (unread history name)
unread_stands [] name = tt
unread_stands (v ∷ earlier) name = refl

abbrev pub all_unread : List TreeState → List Repository → List (Option (List ℕ))
all_unread history [] = []
all_unread history (r ∷ rs) = unread history r.path ∷ all_unread history rs

pub all_unread_stand : (history : List TreeState) (rs : List Repository) → AreFilesFoundInTree history rs (all_unread history rs)
all_unread_stand history [] = tt
all_unread_stand history (r ∷ rs) = (unread_stands history r.path, all_unread_stand history rs)

-- ---- the repository at a place

pub repository_at : (rs : List Repository) (i : ℕ) (path : List ℕ) → option_map (λ (r : Repository). r.path) (slice_get rs i) ≡ Some path → (r : Repository) × (slice_get rs i ≡ Some r) × (r.path ≡ path)
repository_at rs i path is = go (slice_get rs i) refl is
  where
    go : (o : Option Repository) → slice_get rs i ≡ o → option_map (λ (r : Repository). r.path) o ≡ Some path → (r : Repository) × (slice_get rs i ≡ Some r) × (r.path ≡ path)
    go None at e = absurd (cc)
    go (Some r) at e = (r, at, cc)

-- ---- their files

abbrev pub in_front : {X : Type 0} → List X → Result (List X) Refusals.Refusal → Result (List X) Refusals.Refusal
in_front xs r = and_then r (λ ys. Ok (xs ++ ys))

front_none : {X : Type 0} (r : Result (List X) Refusals.Refusal) → r ≡ in_front [] r
front_none (Ok xs) = refl
front_none (Err refusal) = refl

front_more : {X : Type 0} (xs : List X) (x : X) (r : Result (List X) Refusals.Refusal) → in_front xs (and_then r (λ ys. Ok (x ∷ ys))) ≡ in_front (xs ++ x ∷ []) r
front_more xs x (Ok ys) = ap Ok (sym (append_assoc xs (x ∷ []) ys))
front_more xs x (Err refusal) = refl

-- whatever is under the paths that are left, these files stand in front of it
abbrev pub IsReadTo : List TreeState → List Repository → ℕ → List (List ℕ) → Type 0
IsReadTo history rs i files =
    (rest : List (Option (List ℕ))) → AreFilesFoundInTree history (drop i rs) rest
    → (found : List (Option (List ℕ))) × AreFilesFoundInTree history rs found
    × (index_files_from 1 found ≡ in_front files (index_files_from (i + 1) rest))

pub read_none : (history : List TreeState) (rs : List Repository) (files : List (List ℕ)) → files ≡ [] → IsReadTo history rs 0 files
read_none history rs files none rest stand =
    (rest, stand, front_none (index_files_from 1 rest) ∙ ap (λ (fs : List (List ℕ)). in_front fs (index_files_from 1 rest)) (sym none))

module _ (history : List TreeState) (rs : List Repository) (i : ℕ) (r : Repository) (path : List ℕ) (files : List (List ℕ)) (at : slice_get rs i ≡ Some r) (named : r.path ≡ path) (so_far : IsReadTo history rs i files) where
  here : (f : Option (List ℕ)) (rest : List (Option (List ℕ))) → IsFileFoundInTree history path f → AreFilesFoundInTree history (drop (i + 1) rs) rest
      → (found : List (Option (List ℕ))) × AreFilesFoundInTree history rs found
      × (index_files_from 1 found ≡ in_front files (and_then (file_or_index_missing (i + 1) f) (λ file. and_then (index_files_from (i + 1 + 1) rest) (λ others. Ok (file ∷ others)))))
  here f rest located stand =
      so_far (f ∷ rest)
      (subst (λ (l : List Repository). AreFilesFoundInTree history l (f ∷ rest)) (sym (left_at rs i r at))
      (subst (λ (p : List ℕ). IsFileFoundInTree history p f) (sym named) located, stand))

  pub read_more : (f : Option (List ℕ)) (file : List ℕ) (next : List (List ℕ)) → IsFileFoundInTree history path f → file_or_index_missing (i + 1) f ≡ Ok file → next ≡ files ++ file ∷ [] → IsReadTo history rs (i + 1) next
  read_more f file next located is pushed rest stand =
      let h = here f rest located stand in (
        h.0,
        h.1,
        h.2
            ∙ (ap (λ (x : Result (List ℕ) Refusals.Refusal). in_front files (and_then x (λ file. and_then (index_files_from (i + 1 + 1) rest) (λ others. Ok (file ∷ others))))) is
            ∙ (front_more files file (index_files_from (i + 1 + 1) rest) ∙ ap (λ (fs : List (List ℕ)). in_front fs (index_files_from (i + 1 + 1) rest)) (sym pushed))),
      )

  pub read_refused : (f : Option (List ℕ)) (refusal : Refusals.Refusal) → IsFileFoundInTree history path f → file_or_index_missing (i + 1) f ≡ Err refusal
      → (found : List (Option (List ℕ))) × AreFilesFoundInTree history rs found × (index_files_from 1 found ≡ Err refusal)
  read_refused f refusal located is =
      let rest = all_unread history (drop (i + 1) rs) in
      let h = here f rest located (all_unread_stand history (drop (i + 1) rs)) in (
        h.0,
        h.1,
        h.2 ∙ ap (λ (x : Result (List ℕ) Refusals.Refusal). in_front files (and_then x (λ file. and_then (index_files_from (i + 1 + 1) rest) (λ others. Ok (file ∷ others))))) is,
      )

pub read_all_is : (history : List TreeState) (rs : List Repository) (i : ℕ) (files : List (List ℕ)) → length rs ≤ i → IsReadTo history rs i files
    → (found : List (Option (List ℕ))) × AreFilesFoundInTree history rs found × (index_files_from 1 found ≡ Ok files)
read_all_is history rs i files past so_far =
    let h = so_far [] (subst (λ (l : List Repository). AreFilesFoundInTree history l []) (sym (drop_of_length-le rs past)) tt) in
    (h.0, h.1, h.2 ∙ ap Ok (append-nil files))

-- a fault of the next one is that of all
pub read_fault : {A B : Type 0} (view : A → List ℕ) (whole : B → List (List ℕ)) (old now : List TreeState) (rs : List Repository) (i : ℕ) (path : List ℕ) (files : List (List ℕ)) (fault : Refused) → now ≡ old → option_map (λ (r : Repository). r.path) (slice_get rs i) ≡ Some path → IsReadTo old rs i files
    → (f : Option (List ℕ)) × IsFileFoundInTree now path f × AgreesUnlessDiskOrMemory view (Err fault) (file_or_index_missing (i + 1) f)
    → (found : List (Option (List ℕ))) × AreFilesFoundInTree old rs found × AgreesUnlessDiskOrMemory whole (Err fault) (index_files_from 1 found)
read_fault view whole old now rs i path files fault same at so_far one = go fault one.2
  where
    r : (r : Repository) × (slice_get rs i ≡ Some r) × (r.path ≡ path)
    r = repository_at rs i path at

    located : IsFileFoundInTree old path one.0
    located = subst (λ (t : List TreeState). IsFileFoundInTree t path one.0) same one.1

    nothing : (found : List (Option (List ℕ))) × AreFilesFoundInTree old rs found
    nothing = (all_unread old rs, all_unread_stand old rs)

    go : (e : Refused) → AgreesUnlessDiskOrMemory view (Err e) (file_or_index_missing (i + 1) one.0) → (found : List (Option (List ℕ))) × AreFilesFoundInTree old rs found × AgreesUnlessDiskOrMemory whole (Err e) (index_files_from 1 found)
    go (Refusal refusal) h = read_refused old rs i r.0 path files r.1 r.2 so_far one.0 refusal located h
    go Disk h = (nothing.0, nothing.1, tt)
    go Memory h = (nothing.0, nothing.1, tt)

pub read_step : {A : Type 0} (view : A → List ℕ) (a : A) (old now : List TreeState) (rs : List Repository) (i : ℕ) (path : List ℕ) (files next : List (List ℕ)) → now ≡ old → option_map (λ (r : Repository). r.path) (slice_get rs i) ≡ Some path → IsReadTo old rs i files
    → (f : Option (List ℕ)) × IsFileFoundInTree now path f × AgreesUnlessDiskOrMemory view (Ok a) (file_or_index_missing (i + 1) f) → next ≡ files ++ view a ∷ []
    → IsReadTo old rs (i + 1) next
read_step view a old now rs i path files next same at so_far one pushed =
    let r = repository_at rs i path at in
    read_more old rs i r.0 path files r.1 r.2 so_far one.0 (view a) next (subst (λ (t : List TreeState). IsFileFoundInTree t path one.0) same one.1) one.2 pushed

-- an answer that is handed on
pub found_handed : {B : Type 0} (whole : B → List (List ℕ)) (history : List TreeState) (rs : List Repository) (r : Result B Refused) (fault : Refused) → IsErrAnd r (λ e. e ≡ fault)
    → (found : List (Option (List ℕ))) × AreFilesFoundInTree history rs found × AgreesUnlessDiskOrMemory whole (Err fault) (index_files_from 1 found)
    → (found : List (Option (List ℕ))) × AreFilesFoundInTree history rs found × AgreesUnlessDiskOrMemory whole r (index_files_from 1 found)
found_handed whole history rs r fault is h = (h.0, h.1, handed_on_disk whole (index_files_from 1 h.0) r fault is h.2)

pub found_failed : {B : Type 0} (whole : B → List (List ℕ)) (history : List TreeState) (rs : List Repository) (r : Result B Refused) → IsErrAnd r (λ e. e ≡ Memory)
    → (found : List (Option (List ℕ))) × AreFilesFoundInTree history rs found × AgreesUnlessDiskOrMemory whole r (index_files_from 1 found)
found_failed whole history rs r is = (all_unread history rs, all_unread_stand history rs, failure_agrees whole (index_files_from 1 (all_unread history rs)) r Memory is tt)

pub one_found : {A : Type 0} (view : A → List ℕ) (history : List TreeState) (n : ℕ) (name : List ℕ) (r : Result A Refused) (fault : Refused) → IsErrAnd r (λ e. e ≡ fault) → IsDiskOrMemoryFailure fault
    → (f : Option (List ℕ)) × IsFileFoundInTree history name f × AgreesUnlessDiskOrMemory view r (file_or_index_missing n f)
one_found view history n name r fault is failed = (unread history name, unread_stands history name, failure_agrees view (file_or_index_missing n (unread history name)) r fault is failed)

-- ---- their tests

pub in_list : (files : List (Vec ℕ Global)) (i : ℕ) (v : Vec ℕ Global) (bytes : List ℕ) → i < length files → v ≡ get_or files i v → bytes ≡ v.items → slice_get (bytes_of_each files) i ≡ Some bytes
in_list files i v bytes lt at is =
    slice_get-map (λ (file : Vec ℕ Global). file.items) files i
    ∙ (ap (option_map (λ (file : Vec ℕ Global). file.items)) (slice_get_read files (length files) i v refl lt at) ∙ ap Some (sym is))

pub passes_at : (bs : List (List ℕ)) (i : ℕ) (b : List ℕ) → are_indexes bs ≡ true → slice_get bs i ≡ Some b → container_fault_except_contents Index b ≡ None
passes_at [] i b all at = absurd (cc)
passes_at (x ∷ bs) zero b all at =
    let same : x ≡ b = cc in
    subst (λ y. container_fault_except_contents Index y ≡ None) same (none_of (container_fault_except_contents Index x) (and_parts (is_index x) (are_indexes bs) all).0)
passes_at (x ∷ bs) (suc i) b all at = passes_at bs i b (and_parts (is_index x) (are_indexes bs) all).1 at

pub seen_at : (bs : List (List ℕ)) (i : ℕ) (b : List ℕ) → slice_get bs i ≡ Some b → slice_get (map index_of_file bs) i ≡ Some (index_of_file b)
seen_at bs i b at = slice_get-map index_of_file bs i ∙ ap (option_map index_of_file) at

pub few_seen : (files : List (Vec ℕ Global)) (i : ℕ) → i < length (map index_of_file (bytes_of_each files)) → i < length files
few_seen files i lt = subst (λ n. i < n) (length-map (bytes_of_each files) index_of_file ∙ length-map files (λ (file : Vec ℕ Global). file.items)) lt

pub few_bytes : (files : List (Vec ℕ Global)) (i : ℕ) → length files ≤ i → length (bytes_of_each files) ≤ i
few_bytes files i le = subst (λ n. n ≤ i) (sym (length-map files (λ (file : Vec ℕ Global). file.items))) le

pub one_more : (files next : List (Vec ℕ Global)) (b : List ℕ) (i : ℕ) → bytes_of_each next ≡ bytes_of_each files ++ b ∷ [] → length files ≡ i → length next ≡ i + 1
one_more files next b i pushed count =
    let e1 : length (bytes_of_each next) ≡ length (bytes_of_each files) + 1 = ap length pushed ∙ length-append (bytes_of_each files) (b ∷ []) in
    let e2 = length-map files (λ (file : Vec ℕ Global). file.items) in
    let e3 = length-map next (λ (file : Vec ℕ Global). file.items) in
    omega (arith, e1, e2, e3)

-- those behind a place decide
pub record IsTestedTo (bs : List (List ℕ)) (i : ℕ) : Type 0 where
  pub passed : are_indexes bs ≡ are_indexes (drop i bs)
  pub refused : (refusal : Refusals.Refusal) → indexes_in_files (i + 1) (drop i bs) ≡ Err refusal → indexes_in_files 1 bs ≡ Err refusal

pub tested_none : (bs : List (List ℕ)) → IsTestedTo bs 0
tested_none bs = record { passed = refl; refused = λ refusal h. h }

pub tested_more : (bs : List (List ℕ)) (i : ℕ) (b : List ℕ) → slice_get bs i ≡ Some b → is_index b ≡ true → index_in_file (i + 1) b ≡ Ok (index_of_file b) → IsTestedTo bs i → IsTestedTo bs (i + 1)
tested_more bs i b at good is so_far =
    let e : drop i bs ≡ b ∷ drop (i + 1) bs = left_at bs i b at in
    record {
      passed = so_far.passed ∙ (ap are_indexes e ∙ ap (λ t. t && are_indexes (drop (i + 1) bs)) good);
      refused = λ refusal h.
          so_far.refused refusal
          (ap (indexes_in_files (i + 1)) e
          ∙ (ap (λ (r : Result Plain Refusals.Refusal). and_then r (λ index. and_then (indexes_in_files (i + 1 + 1) (drop (i + 1) bs)) (λ indexes. Ok (index ∷ indexes)))) is
          ∙ ap (λ (r : Result (List Plain) Refusals.Refusal). and_then r (λ indexes. Ok (index_of_file b ∷ indexes))) h));
    }

pub tested_refused : {A U : Type 0} (view : A → List Plain) (bs : List (List ℕ)) (i : ℕ) (b : List ℕ) (value : U → Plain) (fault : Refused) → slice_get bs i ≡ Some b → Agrees value (Err fault) (index_in_file (i + 1) b) → IsTestedTo bs i → Agrees view (Err fault) (indexes_in_files 1 bs)
tested_refused view bs i b value (Refusal refusal) at h so_far =
    so_far.refused refusal
    (ap (indexes_in_files (i + 1)) (left_at bs i b at)
    ∙ ap (λ (r : Result Plain Refusals.Refusal). and_then r (λ index. and_then (indexes_in_files (i + 1 + 1) (drop (i + 1) bs)) (λ indexes. Ok (index ∷ indexes)))) h)
tested_refused view bs i b value Disk at h so_far = h
tested_refused view bs i b value Memory at h so_far = tt

pub all_pass : (bs : List (List ℕ)) (i : ℕ) → length bs ≤ i → IsTestedTo bs i → are_indexes bs ≡ true
all_pass bs i past so_far = so_far.passed ∙ ap are_indexes (drop_of_length-le bs past)

pub all_seen : (n : ℕ) (bs : List (List ℕ)) → are_indexes bs ≡ true → indexes_in_files n bs ≡ Ok (map index_of_file bs)
all_seen n [] all = refl
all_seen n (b ∷ bs) all =
    let both = and_parts (is_index b) (are_indexes bs) all in
    ap (λ fault. and_then (unless_cause (IndexBad n) fault (index_of_file b)) (λ index. and_then (indexes_in_files (n + 1) bs) (λ indexes. Ok (index ∷ indexes)))) (none_of (container_fault_except_contents Index b) both.0)
    ∙ ap (λ (r : Result (List Plain) Refusals.Refusal). and_then r (λ indexes. Ok (index_of_file b ∷ indexes))) (all_seen (n + 1) bs both.1)
