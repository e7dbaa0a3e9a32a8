-- Folders above a name, and a walk over its slashes.
use Rattle.std.proofs.Common.{◌≡◌, ⊎_elim, ℕ, ◌+◌, ◌<◌, ◌≤◌, Bool, true, false, List, [], ◌∷◌, ◌++◌, length, get_or, take, drop, Option, Some, None, refl, sym, ap, subst, ◌∙◌, arith, take-append-drop}
use Rattle.std.specs.Prelude.{bytes_eq}
use Rattle.std.proofs.lemmas.Bool.{cases_lt, false_from_ne_true}
use Rattle.std.proofs.lemmas.List.{get_or-take, length-take-le, take-take}
use Rattle.std.specs.Cmp.Lexicographic.{bytes_decides}
use Rattle.base_core.specs.Files.{Files, IsFolderOf}
use Rattle.base_core.specs.ByteOrder.{precedes}
use Rattle.base_core.proofs.Folders.{folder_at, at_folder}
use Rattle.path_clashes.specs.Clash.{NameChange, is_present_after_change}
use Rattle.path_clashes.specs.NearName.{IsShortestFolderOrNone, name_if_holds}
use Rattle.path_clashes.proofs.PairOrder.{precedes_front}

-- ---- a folder is the name up to a slash

-- one above a name is above each other one that shares a longer front with it
pub shared_folder : (before name folder : List ℕ) (len : ℕ) → len ≤ length before → take len before ≡ take len name → IsFolderOf folder name → length folder < len → IsFolderOf folder before
shared_folder before name folder len within same above short =
    subst (λ (f : List ℕ). IsFolderOf f before) whole (folder_at before (length folder) (omega arith) slash)
  where
    at : (length folder < length name) × (get_or name (length folder) 0 ≡ 47) × (take (length folder) name ≡ folder)
    at = at_folder folder name above

    slash : get_or before (length folder) 0 ≡ 47
    slash =
        sym (get_or-take len before (length folder) 0 short)
        ∙ (ap (λ (l : List ℕ). get_or l (length folder) 0) same ∙ (get_or-take len name (length folder) 0 short ∙ at.1))

    whole : take (length folder) before ≡ folder
    whole =
        sym (take-take (length folder) len before (omega arith))
        ∙ (ap (take (length folder)) same ∙ (take-take (length folder) len name (omega arith) ∙ at.2))

-- a folder above two texts is shorter than a number of bytes at which one text ends, or their bytes differ
pub folder_in_front : (one other folder : List ℕ) (n : ℕ) → (n < length one → n < length other → get_or one n 0 ≡ get_or other n 0 → ⊥) → IsFolderOf folder one → IsFolderOf folder other → length folder < n
folder_in_front one other folder n ends above also =
    ⊎_elim (λ short. short) (λ upto. absurd (ends (omega (arith, upto, at.0)) (omega (arith, upto, there.0)) (equal upto))) (cases_lt (length folder) n)
  where
    at : (length folder < length one) × (get_or one (length folder) 0 ≡ 47) × (take (length folder) one ≡ folder)
    at = at_folder folder one above

    there : (length folder < length other) × (get_or other (length folder) 0 ≡ 47) × (take (length folder) other ≡ folder)
    there = at_folder folder other also

    inside : n < length folder → get_or one n 0 ≡ get_or other n 0
    inside l =
        sym (get_or-take (length folder) one n 0 l)
        ∙ (ap (λ (l : List ℕ). get_or l n 0) (at.2 ∙ sym there.2) ∙ get_or-take (length folder) other n 0 l)

    equal : n ≤ length folder → get_or one n 0 ≡ get_or other n 0
    equal upto =
        ⊎_elim inside
        (λ over. let is : length folder ≡ n = omega (arith, upto, over) in ap (λ k. get_or one k 0) (sym is) ∙ ((at.1 ∙ sym there.1) ∙ ap (λ k. get_or other k 0) is))
        (cases_lt n (length folder))

-- of two folders above a name the longer one does not come first
pub longer_folder : (short long name : List ℕ) → IsFolderOf short name → IsFolderOf long name → length short ≤ length long → precedes long short ≡ false
longer_folder short long name above also upto =
    ap (λ (l : List ℕ). precedes l short) begins ∙ precedes_front short (drop (length short) long)
  where
    front : take (length short) long ≡ short
    front =
        ap (take (length short)) (sym (at_folder long name also).2)
        ∙ (take-take (length short) (length long) name upto ∙ (at_folder short name above).2)

    begins : long ≡ short ++ drop (length short) long
    begins = sym (take-append-drop (length short) long) ∙ ap (λ (l : List ℕ). l ++ drop (length short) long) front

-- nor does the name
pub name_behind : (folder name : List ℕ) → IsFolderOf folder name → precedes name folder ≡ false
name_behind folder name (rest, is) = ap (λ (l : List ℕ). precedes l folder) is ∙ precedes_front folder (47 ∷ rest)

pub not_same : (folder name : List ℕ) → IsFolderOf folder name → bytes_eq name folder ≡ false
not_same folder name above =
    false_from_ne_true (bytes_eq name folder) (λ same. let e : name ≡ folder = (bytes_decides name folder).0 same in omega (arith, (at_folder folder name above).0, ap length e))

pub nothing_above : (folder : List ℕ) → IsFolderOf folder [] → ⊥
nothing_above folder above = omega (arith, (at_folder folder [] above).0)

-- ---- the walk: so far no folder that is long enough is there after the change

abbrev pub IsNoneUpto : NameChange → Files → List ℕ → ℕ → ℕ → Type 0
IsNoneUpto change files name len i =
    (other : List ℕ) → IsFolderOf other name → len ≤ length other → length other < i → is_present_after_change change files other ≡ true → ⊥

-- at the start of the walk no folder was passed
pub none_at_start : (change : NameChange) (files : Files) (name : List ℕ) (len : ℕ) → IsNoneUpto change files name len len
none_at_start change files name len = λ other above upto short after. omega (arith, upto, short)

-- the walk goes on where none ends at `i`
none_past : (change : NameChange) (files : Files) (name : List ℕ) (len i : ℕ) → ((other : List ℕ) → IsFolderOf other name → length other ≡ i → is_present_after_change change files other ≡ true → ⊥)
    → IsNoneUpto change files name len i → IsNoneUpto change files name len (i + 1)
none_past change files name len i here none = λ other above upto short after.
    ⊎_elim (λ early. none other above upto early after) (λ late. here other above (omega (arith, late, short)) after) (cases_lt (length other) i)

-- past a byte that is no slash, which ends no folder
pub none_past_byte : (change : NameChange) (files : Files) (name : List ℕ) (len i : ℕ) → (get_or name i 0 ≡ 47 → ⊥) → IsNoneUpto change files name len i → IsNoneUpto change files name len (i + 1)
none_past_byte change files name len i no_slash =
    none_past change files name len i (λ other above ends after. no_slash (ap (λ k. get_or name k 0) (sym ends) ∙ (at_folder other name above).1))

-- past a folder that is not there after the change
pub none_past_folder : (change : NameChange) (files : Files) (name : List ℕ) (len i : ℕ) (found : Option (List ℕ)) → found ≡ None → found ≡ name_if_holds (is_present_after_change change files (take i name)) (take i name)
    → IsNoneUpto change files name len i → IsNoneUpto change files name len (i + 1)
none_past_folder change files name len i found is told = none_past change files name len i here
  where
    off : (b : Bool) → None ≡ name_if_holds b (take i name) → b ≡ true → ⊥
    off true e on = absurd (cc)
    off false e on = absurd (cc)

    here : (other : List ℕ) → IsFolderOf other name → length other ≡ i → is_present_after_change change files other ≡ true → ⊥
    here other above ends after =
        let same : other ≡ take i name = sym (at_folder other name above).2 ∙ ap (λ k. take k name) ends in
        off (is_present_after_change change files (take i name)) (sym is ∙ told) (subst (λ (l : List ℕ). is_present_after_change change files l ≡ true) same after)

-- at the end of the walk there is none
pub none_at_end : (change : NameChange) (files : Files) (name : List ℕ) (len i : ℕ) → length name ≤ i → IsNoneUpto change files name len i → IsShortestFolderOrNone change files name len None
none_at_end change files name len i all none = λ other above upto after. none other above upto (omega (arith, all, (at_folder other name above).0)) after

pub found_at_slash : (change : NameChange) (files : Files) (name : List ℕ) (len i : ℕ) → len ≤ i → i < length name → get_or name i 0 ≡ 47 → is_present_after_change change files (take i name) ≡ true → IsNoneUpto change files name len i → IsShortestFolderOrNone change files name len (Some (take i name))
found_at_slash change files name len i long within slash there none = record {
  above = folder_at name i within slash;
  long = let is : length (take i name) ≡ i = length-take-le i name (omega arith) in omega (arith, is, long);
  after = there;
  shortest = λ other above long after. let is : length (take i name) ≡ i = length-take-le i name (omega arith) in
      ⊎_elim (λ short. absurd (none other above long short after)) (λ upto. omega (arith, is, upto)) (cases_lt (length other) i);
}

-- the same, as the code tells it
pub found_told : (change : NameChange) (files : Files) (name : List ℕ) (len i : ℕ) (found : Option (List ℕ)) (folder : List ℕ) → len ≤ i → i < length name → get_or name i 0 ≡ 47 → found ≡ Some folder
    → IsNoneUpto change files name len i → found ≡ name_if_holds (is_present_after_change change files (take i name)) (take i name) → IsShortestFolderOrNone change files name len (Some folder)
found_told change files name len i found folder long within slash is none told = by (is_present_after_change change files (take i name)) refl (sym is ∙ told)
  where
    by : (b : Bool) → is_present_after_change change files (take i name) ≡ b → Some folder ≡ name_if_holds b (take i name) → IsShortestFolderOrNone change files name len (Some folder)
    by true after e = let same : take i name ≡ folder = cc in subst (λ (l : List ℕ). IsShortestFolderOrNone change files name len (Some l)) same (found_at_slash change files name len i long within slash after none)
    by false off e = absurd (cc)
