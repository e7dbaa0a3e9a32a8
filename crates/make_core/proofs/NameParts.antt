-- Where a name has a slash, names stand before it and behind it; the last one ends the folder.
use Rattle.std.proofs.Common.{◌≡◌, ◌⊎◌, inl, inr, ℕ, suc, zero, ◌+◌, ◌-◌, ◌<◌, ◌≤◌, Bool, true, false, cond, not, ◌==◌, eqb, nat_le, nat_lt, List, [], ◌∷◌, ◌++◌, length, take, drop, get_or, refl, sym, ap, subst, ◌∙◌, append_assoc, arith}
use Rattle.std.specs.Str.{IsUtf8, is_utf8}
use Rattle.std.specs.List.{list_all, list_any, suffix_len}
use Rattle.std.proofs.lemmas.Bool.{and_parts, eqb-true, le-leb, leb-true, lt-ltb, ltb-true, not-true, and_from, or_parts}
use Rattle.std.proofs.lemmas.List.{drop_at, get_or-append-add, length-append, take_at}
use Rattle.std.proofs.lemmas.List.Folds.{list_all-append, list_any-append}
use Rattle.std.proofs.lemmas.List.Sums.{suffix_len_is}
use Rattle.std.proofs.lemmas.Str.{IsCharBoundary-after_ascii, IsCharBoundary-before_ascii, IsUtf8-drop, IsUtf8-from_is_utf8, IsUtf8-take, is_utf8-from_IsUtf8}
use Rattle.base_core.specs.Name.{is_name, is_path_part, path_parts_of}
use Rattle.base_core.proofs.NameParts.{split_slash}
use Rattle.adb_copy.specs.adb_fields.Paths.{path_of}
use Rattle.pkg_core.specs.adb_schema.Rules.{is_valid_file_name_in_folder, is_folder_name, is_one_part}
use Rattle.package_files.specs.Folders.{folder_of, is_slash, last_part_of}

-- ---- what a name is, test by test

pub record IsNamed (bytes : List ℕ) : Type 0 where
  pub some : 0 < length bytes
  pub short : length bytes ≤ 1024
  pub no_zero : list_any (λ b. b == 0) bytes ≡ false
  pub utf8 : is_utf8 bytes ≡ true
  pub parts : list_all is_path_part (path_parts_of bytes) ≡ true

pub named : (bytes : List ℕ) → is_name bytes ≡ true → IsNamed bytes
unfolding is_name
named bytes is =
    let a = and_parts _ (list_all is_path_part (path_parts_of bytes)) is in
    let b = and_parts _ (is_utf8 bytes) a.0 in
    let c = and_parts _ (not (list_any (λ b. b == 0) bytes)) b.0 in
    let d = and_parts (nat_lt 0 (length bytes)) (nat_le (length bytes) 1024) c.0 in
    record { some = ltb-true 0 (length bytes) d.0; short = leb-true (length bytes) 1024 d.1; no_zero = not-true _ c.1; utf8 = b.1; parts = a.1 }

name_of : (bytes : List ℕ) → IsNamed bytes → is_name bytes ≡ true
unfolding is_name
name_of bytes n =
    and_from _ (list_all is_path_part (path_parts_of bytes))
    (and_from _ (is_utf8 bytes)
    (and_from _ (not (list_any (λ b. b == 0) bytes))
    (and_from (nat_lt 0 (length bytes)) (nat_le (length bytes) 1024) (lt-ltb 0 (length bytes) n.some) (le-leb (length bytes) 1024 n.short))
    (ap not n.no_zero))
    n.utf8)
    n.parts

-- ---- both sides are names

-- no part is empty
pub some_bytes : (bytes : List ℕ) → list_all is_path_part (path_parts_of bytes) ≡ true → 0 < length bytes
some_bytes [] e = absurd (cc (e))
some_bytes (b ∷ bs) e = omega arith

utf8_sides : (a b : List ℕ) → is_utf8 (a ++ 47 ∷ b) ≡ true → (is_utf8 a ≡ true) × (is_utf8 b ≡ true)
utf8_sides a b good =
    let all : List ℕ = a ++ 47 ∷ b in
    let is = IsUtf8-from_is_utf8 all good in
    let long : length all ≡ length a + suc (length b) = length-append a (47 ∷ b) in
    let lt : length a < length all = omega arith in
    let seam : get_or all (length a) 0 ≡ 47 = ap (λ n. get_or all n 0) (omega arith) ∙ get_or-append-add a (47 ∷ b) 0 0 in
    let small : get_or all (length a) 0 < 128 = omega (arith, seam) in
    let front = IsUtf8-take all (length a) is (IsCharBoundary-before_ascii all (length a) lt small) in
    let back = IsUtf8-drop all (length a + 1) is (IsCharBoundary-after_ascii all (length a) is lt small) in
    let front_is : take (length a) all ≡ a = take_at a (47 ∷ b) (length a) refl in
    let grouped : (a ++ 47 ∷ []) ++ b ≡ all = append_assoc a (47 ∷ []) b in
    let back_is : drop (length a + 1) all ≡ b = ap (drop (length a + 1)) (sym grouped) ∙ drop_at (a ++ 47 ∷ []) b (length a + 1) (omega (arith, length-append a (47 ∷ []))) in
    (is_utf8-from_IsUtf8 a (subst IsUtf8 front_is front), is_utf8-from_IsUtf8 b (subst IsUtf8 back_is back))

pub sides : (a b : List ℕ) → is_name (a ++ 47 ∷ b) ≡ true → (is_name a ≡ true) × (is_name b ≡ true)
sides a b is =
    let n = named (a ++ 47 ∷ b) is in
    let long : length (a ++ 47 ∷ b) ≡ length a + suc (length b) = length-append a (47 ∷ b) in
    let short = n.short in
    let zero_free = or_parts (list_any (λ b. b == 0) a) (list_any (λ b. b == 0) b) (sym (list_any-append (λ b. b == 0) a (47 ∷ b)) ∙ n.no_zero) in
    let utf8 = utf8_sides a b n.utf8 in
    let parts = and_parts (list_all is_path_part (path_parts_of a)) (list_all is_path_part (path_parts_of b)) (sym (list_all-append is_path_part (path_parts_of a) (path_parts_of b)) ∙ (ap (list_all is_path_part) (sym (split_slash a b)) ∙ n.parts)) in (
      name_of a (record { some = some_bytes a parts.0; short = omega arith; no_zero = zero_free.0; utf8 = utf8.0; parts = parts.0 }),
      name_of b (record { some = some_bytes b parts.1; short = omega arith; no_zero = zero_free.1; utf8 = utf8.1; parts = parts.1 }),
    )

-- ---- the last slash

no_slash_at : (xs : List ℕ) (k d : ℕ) → list_any is_slash xs ≡ false → k < length xs → is_slash (get_or xs k d) ≡ false
no_slash_at [] k d e lt = absurd (omega arith)
no_slash_at (x ∷ xs) zero d e lt = (or_parts (is_slash x) (list_any is_slash xs) e).0
no_slash_at (x ∷ xs) (suc k) d e lt = no_slash_at xs k d (or_parts (is_slash x) (list_any is_slash xs) e).1 (omega arith)

abbrev is_other : ℕ → Bool
is_other b = not (is_slash b)

suffix_whole : (part : List ℕ) → list_any is_slash part ≡ false → suffix_len is_other part ≡ length part
suffix_whole part free =
    suffix_len_is is_other part 0 0 (omega arith) (λ k lo hi. ap not (no_slash_at part k 0 free hi)) (λ lt. absurd (omega arith)) ∙ omega arith

suffix_after : (folder part : List ℕ) → list_any is_slash part ≡ false → suffix_len is_other (folder ++ 47 ∷ part) ≡ length part
suffix_after folder part free =
    let all : List ℕ = folder ++ 47 ∷ part in
    let long : length all ≡ length folder + suc (length part) = length-append folder (47 ∷ part) in
    let n : ℕ = length folder + 1 in
    let passes : (k : ℕ) → n ≤ k → k < length all → is_other (get_or all k 0) ≡ true =
    λ k lo hi.
    let j : ℕ = k - n in
    let at : get_or all k 0 ≡ get_or part j 0 = ap (λ m. get_or all m 0) (omega arith) ∙ get_or-append-add folder (47 ∷ part) (suc j) 0 in
    ap is_other at ∙ ap not (no_slash_at part j 0 free (omega arith)) in
    let stops : 0 < n → is_other (get_or all (n - 1) 0) ≡ false = λ lt. ap is_other (ap (λ m. get_or all m 0) (omega arith) ∙ get_or-append-add folder (47 ∷ part) 0 0) in
    suffix_len_is is_other all n 0 (omega arith) passes stops ∙ omega arith

pub part_alone : (part : List ℕ) → list_any is_slash part ≡ false → (folder_of part ≡ []) × (last_part_of part ≡ part)
part_alone part free =
    let n = suffix_whole part free in
    let none_left : length part - suffix_len is_other part ≡ 0 = omega arith in
    let before : length part - suffix_len is_other part - 1 ≡ 0 = omega arith in
    (ap (λ k. take k part) before, ap (λ k. drop k part) none_left)

pub part_after : (folder part : List ℕ) → list_any is_slash part ≡ false → (folder_of (folder ++ 47 ∷ part) ≡ folder) × (last_part_of (folder ++ 47 ∷ part) ≡ part)
part_after folder part free =
    let all : List ℕ = folder ++ 47 ∷ part in
    let n = suffix_after folder part free in
    let long : length all ≡ length folder + suc (length part) = length-append folder (47 ∷ part) in
    let before : length all - suffix_len is_other all - 1 ≡ length folder = omega arith in
    let behind : length all - suffix_len is_other all ≡ length folder + 1 = omega arith in
    let grouped : (folder ++ 47 ∷ []) ++ part ≡ all = append_assoc folder (47 ∷ []) part in (
      ap (λ k. take k all) before ∙ take_at folder (47 ∷ part) (length folder) refl,
      ap (λ k. drop k all) behind ∙ (ap (drop (length folder + 1)) (sym grouped) ∙ drop_at (folder ++ 47 ∷ []) part (length folder + 1) (omega (arith, length-append folder (47 ∷ [])))),
    )

pub record IsLast (path : List ℕ) : Type 0 where
  pub folder : List ℕ
  pub part : List ℕ
  pub is : path ≡ folder ++ 47 ∷ part
  pub free : list_any is_slash part ≡ false

pub last_slash : (path : List ℕ) → (list_any is_slash path ≡ false) ⊎ IsLast path
last_slash [] = inl refl
last_slash (b ∷ bs) = by_rest (last_slash bs)
  where
    by_byte : (c : Bool) → eqb b 47 ≡ c → list_any is_slash bs ≡ false → (list_any is_slash (b ∷ bs) ≡ false) ⊎ IsLast (b ∷ bs)
    by_byte true e free = inr (record { folder = []; part = bs; is = ap (λ (n : ℕ). n ∷ bs) (eqb-true b 47 e); free = free })
    by_byte false e free = inl (rw (e, free) refl)

    by_rest : (list_any is_slash bs ≡ false) ⊎ IsLast bs → (list_any is_slash (b ∷ bs) ≡ false) ⊎ IsLast (b ∷ bs)
    by_rest (inl free) = by_byte (eqb b 47) refl free
    by_rest (inr last) = inr (record { folder = b ∷ last.folder; part = last.part; is = ap (λ (xs : List ℕ). b ∷ xs) last.is; free = last.free })

-- ---- a path is its last part behind its folder

path_behind : (folder part : List ℕ) → 0 < length folder → path_of folder part ≡ folder ++ 47 ∷ part
path_behind [] part some = absurd (omega arith)
path_behind (b ∷ bs) part some = refl

pub record IsPath (path : List ℕ) : Type 0 where
  pub is : path_of (folder_of path) (last_part_of path) ≡ path
  pub good : is_valid_file_name_in_folder (folder_of path) (last_part_of path) ≡ true

file_by : (path folder part : List ℕ) → folder_of path ≡ folder → last_part_of path ≡ part → path_of folder part ≡ path → is_name part ≡ true → list_any is_slash part ≡ false → length path ≤ 1024 → IsPath path
file_by path folder part f p is name free short =
    let whole : path_of (folder_of path) (last_part_of path) ≡ path = (λ k. path_of (f k) (p k)) ∙ is in
    let one : is_one_part (last_part_of path) ≡ true = ap is_one_part p ∙ and_from (is_name part) (not (list_any (λ b. b == 47) part)) name (ap not free) in
    record {
      is = whole;
      good = and_from (is_one_part (last_part_of path)) (nat_le (length (path_of (folder_of path) (last_part_of path))) 1024) one (ap (λ (xs : List ℕ). nat_le (length xs) 1024) whole ∙ le-leb (length path) 1024 short);
    }

pub path_good : (path : List ℕ) → is_name path ≡ true → IsPath path
path_good path name = by_slash (last_slash path)
  where
    by_slash : (list_any is_slash path ≡ false) ⊎ IsLast path → IsPath path
    by_slash (inl free) =
        let alone = part_alone path free in
        let short = (named path name).short in
        file_by path [] path alone.0 alone.1 refl name free short
    by_slash (inr last) =
        let is = last.is in
        let there = part_after last.folder last.part last.free in
        let both = sides last.folder last.part (ap is_name (sym is) ∙ name) in
        let some = (named last.folder both.0).some in
        let short = (named path name).short in
        file_by path last.folder last.part (ap folder_of is ∙ there.0) (ap last_part_of is ∙ there.1) (path_behind last.folder last.part some ∙ sym is) both.1 last.free short

-- a folder of a name, and the last part of a name below a folder
pub folder_good : (folder rest : List ℕ) → is_name (folder ++ 47 ∷ rest) ≡ true → is_folder_name folder ≡ true
folder_good [] rest name = refl
folder_good (b ∷ bs) rest name = (sides (b ∷ bs) rest name).0

pub same_part : (dir path : List ℕ) → last_part_of (dir ++ 47 ∷ path) ≡ last_part_of path
same_part dir path = by_slash (last_slash path)
  where
    by_slash : (list_any is_slash path ≡ false) ⊎ IsLast path → last_part_of (dir ++ 47 ∷ path) ≡ last_part_of path
    by_slash (inl free) = (part_after dir path free).1 ∙ sym (part_alone path free).1
    by_slash (inr last) =
        let is = last.is in
        let grouped : (dir ++ 47 ∷ last.folder) ++ 47 ∷ last.part ≡ dir ++ 47 ∷ (last.folder ++ 47 ∷ last.part) = append_assoc dir (47 ∷ last.folder) (47 ∷ last.part) in
        ap (λ (xs : List ℕ). last_part_of (dir ++ 47 ∷ xs)) is
        ∙ (ap last_part_of (sym grouped)
        ∙ ((part_after (dir ++ 47 ∷ last.folder) last.part last.free).1
        ∙ (sym (part_after last.folder last.part last.free).1 ∙ ap last_part_of (sym is))))
