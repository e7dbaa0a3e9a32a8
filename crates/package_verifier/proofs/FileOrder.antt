-- Places in the order of the files, and the one with two positions among them.
use Rattle.std.proofs.Common.{◌≡◌, ◌⊎◌, inl, inr, ℕ, zero, suc, ◌+◌, ◌<◌, ◌≤◌, ◌==◌, ◌&&◌, nat_lt, Bool, true, false, cond, List, [], ◌∷◌, ◌++◌, length, get_or, Option, Some, None, refl, ap, sym, subst, ◌∙◌, true≢false, append_assoc, arith}
use Rattle.std.specs.Prelude.{if◌then◌else◌, option_map}
use Rattle.std.specs.List.{find}
use Rattle.std.specs.List.Sorted.{IsPartitionPoint, IsPartitionedBy}
use Rattle.std.proofs.lemmas.Bool.{and_from, cases_eq, cases_lt, eq-eqb, eqb-true, false_from_ne_true, lt-ltb, ltb-true, or_right, and_parts, or_cases, or_left}
use Rattle.adb_view.specs.Plain.{Plain}
use Rattle.package_reader.specs.adb_fields.Repeated.{files_in, folders_in}
use Rattle.package_reader.specs.adb_schema.Texts.{is_file_with_contents}
use Rattle.adb_view.specs.Values.{entry_at_index, int_in, text_in}
use Rattle.package_reader.specs.pkg_core.Contents.{Contents, ExpectedFile, expected_file_if_with_contents, expected_files_of_package, expected_files_of_folder, expected_files_of_folders}
use Rattle.package_reader.specs.pkg_core.GoodContents.{MatchEachExpectedSizeAndKnownDigest, MatchesExpectedSizeAndKnownDigest}
use Rattle.package_verifier.specs.Places.{AreAtPlaces, AreInFileOrder, ArePlacedAfter, IsBeforeFile, is_before_file, is_place_of, offset_of_file}
use Rattle.package_verifier.specs.declared.places.FilePlace.{FilePlace}

-- ---- positions

before_by : (a b c d : ℕ) → is_before_file a b c d ≡ true → IsBeforeFile a b c d
before_by a b c d h = go (or_cases (nat_lt a c) ((a == c) && nat_lt b d) h)
  where
    go : (nat_lt a c ≡ true) ⊎ (((a == c) && nat_lt b d) ≡ true) → IsBeforeFile a b c d
    go (inl less) = inl (ltb-true a c less)
    go (inr same) = let p = and_parts (a == c) (nat_lt b d) same in inr (eqb-true a c p.0, ltb-true b d p.1)

before_is : (a b c d : ℕ) → IsBeforeFile a b c d → is_before_file a b c d ≡ true
before_is a b c d (inl less) = or_left (nat_lt a c) _ (lt-ltb a c less)
before_is a b c d (inr (same, less)) = or_right (nat_lt a c) _ (ap (λ (x : Bool). x && nat_lt b d) (eq-eqb a c same) ∙ lt-ltb b d less)

before_then : (a b c d e f : ℕ) → IsBeforeFile a b c d → IsBeforeFile c d e f → IsBeforeFile a b e f
before_then a b c d e f (inl x) (inl y) = inl (omega (arith, x, y))
before_then a b c d e f (inl x) (inr (same, y)) = inl (omega (arith, x, same))
before_then a b c d e f (inr (same, x)) (inl y) = inl (omega (arith, same, y))
before_then a b c d e f (inr (same, x)) (inr (too, y)) = inr (same ∙ too, omega (arith, x, y))

not_itself : (a b c d : ℕ) → IsBeforeFile a b c d → a ≡ c → b ≡ d → ⊥
not_itself a b c d (inl x) same too = omega (arith, x, same)
not_itself a b c d (inr (is, x)) same too = omega (arith, x, too)

-- ---- places

is_there : (folder file : ℕ) (place : FilePlace) → is_place_of folder file place ≡ true → (place.folder ≡ folder) × (place.file ≡ file)
is_there folder file place h = let p = and_parts (place.folder == folder) (place.file == file) h in (eqb-true place.folder folder p.0, eqb-true place.file file p.1)

pub there_is : (folder file : ℕ) (place : FilePlace) → place.folder ≡ folder → place.file ≡ file → is_place_of folder file place ≡ true
there_is folder file place same too = ap (λ (x : Bool). x && (place.file == file)) (eq-eqb place.folder folder same) ∙ eq-eqb place.file file too

other_place : (folder file : ℕ) (place : FilePlace) → IsBeforeFile place.folder place.file folder file → is_place_of folder file place ≡ false
other_place folder file place before = false_from_ne_true (is_place_of folder file place) (λ h. let p = is_there folder file place h in not_itself place.folder place.file folder file before p.0 p.1)

behind_at : (a b : ℕ) (ps : List FilePlace) (k : ℕ) (d : FilePlace) → ArePlacedAfter a b ps → k < length ps → IsBeforeFile a b (get_or ps k d).folder (get_or ps k d).file
behind_at a b [] k d behind within = absurd (omega (arith, within))
behind_at a b (p ∷ ps) zero d behind within = behind.0
behind_at a b (p ∷ ps) (suc k) d behind within = behind_at a b ps k d behind.1 (omega (arith, within))

in_turn : (ps : List FilePlace) (i j : ℕ) (d : FilePlace) → AreInFileOrder ps → i < j → j < length ps → IsBeforeFile (get_or ps i d).folder (get_or ps i d).file (get_or ps j d).folder (get_or ps j d).file
in_turn [] i j d order less within = absurd (omega (arith, within))
in_turn (p ∷ ps) i zero d order less within = absurd (omega (arith, less))
in_turn (p ∷ ps) zero (suc j) d order less within = behind_at p.folder p.file ps j d order.0 (omega (arith, within))
in_turn (p ∷ ps) (suc i) (suc j) d order less within = in_turn ps i j d order.1 (omega (arith, less)) (omega (arith, within))

pub parted : (folder file : ℕ) (ps : List FilePlace) → AreInFileOrder ps → IsPartitionedBy (λ (p : FilePlace). is_before_file p.folder p.file folder file) ps
parted folder file ps order i j d le within h = go (cases_eq i j)
  where
    go : (i ≡ j) ⊎ (i ≡ j → ⊥) → is_before_file (get_or ps i d).folder (get_or ps i d).file folder file ≡ true
    go (inl e) = ap (λ (k : ℕ). is_before_file (get_or ps k d).folder (get_or ps k d).file folder file) e ∙ h
    go (inr other) =
        before_is (get_or ps i d).folder (get_or ps i d).file folder file
        (before_then (get_or ps i d).folder (get_or ps i d).file (get_or ps j d).folder (get_or ps j d).file folder file (in_turn ps i j d order (omega (arith, le, other)) within) (before_by (get_or ps j d).folder (get_or ps j d).file folder file h))

-- ---- the one that is looked for

abbrev IsPointFor : ℕ → ℕ → List FilePlace → ℕ → Type 0
IsPointFor folder file ps n = IsPartitionPoint (λ (p : FilePlace). is_before_file p.folder p.file folder file ≡ true) (λ (p : FilePlace). is_before_file p.folder p.file folder file ≡ false) ps n

find_at : (folder file : ℕ) (ps : List FilePlace) (k : ℕ) (d : FilePlace) → AreInFileOrder ps → k < length ps → is_place_of folder file (get_or ps k d) ≡ true → find (is_place_of folder file) ps ≡ Some (get_or ps k d)
find_at folder file [] k d order within here = absurd (omega (arith, within))
find_at folder file (p ∷ ps) zero d order within here = ap (λ (b : Bool). cond b (Some p) (find (is_place_of folder file) ps)) here
find_at folder file (p ∷ ps) (suc k) d order within here =
    let at = is_there folder file (get_or ps k d) here in
    let before : IsBeforeFile p.folder p.file folder file = subst (λ (x : ℕ). IsBeforeFile p.folder p.file x file) at.0 (subst (λ (x : ℕ). IsBeforeFile p.folder p.file (get_or ps k d).folder x) at.1 (behind_at p.folder p.file ps k d order.0 (omega (arith, within)))) in
    ap (λ (b : Bool). cond b (Some p) (find (is_place_of folder file) ps)) (other_place folder file p before)
    ∙ find_at folder file ps k d order.1 (omega (arith, within)) here

find_off : (folder file : ℕ) (ps : List FilePlace) → ((k : ℕ) (d : FilePlace) → k < length ps → is_place_of folder file (get_or ps k d) ≡ false) → find (is_place_of folder file) ps ≡ None
find_off folder file [] others = refl
find_off folder file (p ∷ ps) others =
    ap (λ (b : Bool). cond b (Some p) (find (is_place_of folder file) ps)) (others 0 p (omega arith))
    ∙ find_off folder file ps (λ k d within. others (suc k) d (omega (arith, within)))

pub offset_there : (folder file : ℕ) (ps : List FilePlace) (k : ℕ) (d : FilePlace) → AreInFileOrder ps → k < length ps → (get_or ps k d).folder ≡ folder → (get_or ps k d).file ≡ file → Some (get_or ps k d).at ≡ offset_of_file folder file ps
offset_there folder file ps k d order within same too =
    sym (ap (option_map (λ (p : FilePlace). p.at)) (find_at folder file ps k d order within (there_is folder file (get_or ps k d) same too)))

-- none stands elsewhere than at the point
off_point : (folder file : ℕ) (ps : List FilePlace) (n : ℕ) → AreInFileOrder ps → IsPointFor folder file ps n → ((d : FilePlace) → n < length ps → is_place_of folder file (get_or ps n d) ≡ false) → (k : ℕ) (d : FilePlace) → k < length ps → is_place_of folder file (get_or ps k d) ≡ false
off_point folder file ps n order point there k d within = go (cases_lt k n)
  where
    behind : (n ≡ k) ⊎ (n ≡ k → ⊥) → n ≤ k → is_place_of folder file (get_or ps k d) ≡ false
    behind (inl e) le = subst (λ (i : ℕ). i < length ps → is_place_of folder file (get_or ps i d) ≡ false) e (there d) within
    behind (inr other) le = false_from_ne_true (is_place_of folder file (get_or ps k d)) (λ h.
        let at = is_there folder file (get_or ps k d) h in
        let turn = in_turn ps n k d order (omega (arith, le, other)) within in
        let before : IsBeforeFile (get_or ps n d).folder (get_or ps n d).file folder file = subst (λ (x : ℕ). IsBeforeFile (get_or ps n d).folder (get_or ps n d).file x file) at.0 (subst (λ (x : ℕ). IsBeforeFile (get_or ps n d).folder (get_or ps n d).file (get_or ps k d).folder x) at.1 turn) in
        true≢false (sym (before_is (get_or ps n d).folder (get_or ps n d).file folder file before) ∙ point.1 n d (omega arith) (omega (arith, le, within))))

    go : (k < n) ⊎ (n ≤ k) → is_place_of folder file (get_or ps k d) ≡ false
    go (inl less) = other_place folder file (get_or ps k d) (before_by (get_or ps k d).folder (get_or ps k d).file folder file (point.0 k d (omega arith) less))
    go (inr le) = behind (cases_eq n k) le

none_there : (folder file : ℕ) (ps : List FilePlace) (n : ℕ) → AreInFileOrder ps → IsPointFor folder file ps n → ((d : FilePlace) → n < length ps → is_place_of folder file (get_or ps n d) ≡ false) → None ≡ offset_of_file folder file ps
none_there folder file ps n order point there = sym (ap (option_map (λ (p : FilePlace). p.at)) (find_off folder file ps (off_point folder file ps n order point there)))

pub offset_at_end : (folder file : ℕ) (ps : List FilePlace) (n : ℕ) → AreInFileOrder ps → IsPointFor folder file ps n → n ≡ length ps → None ≡ offset_of_file folder file ps
offset_at_end folder file ps n order point end = none_there folder file ps n order point (λ d within. absurd (omega (arith, end, within)))

pub offset_off : (folder file : ℕ) (ps : List FilePlace) (n : ℕ) (d : FilePlace) → AreInFileOrder ps → IsPointFor folder file ps n → n < length ps → is_place_of folder file (get_or ps n d) ≡ false → None ≡ offset_of_file folder file ps
offset_off folder file ps n d order point within other =
    none_there folder file ps n order point (λ e less. ap (is_place_of folder file) (same_at ps n e d within) ∙ other)
  where
    same_at : (xs : List FilePlace) (i : ℕ) (d e : FilePlace) → i < length xs → get_or xs i d ≡ get_or xs i e
    same_at [] i d e less = absurd (omega (arith, less))
    same_at (x ∷ xs) zero d e less = refl
    same_at (x ∷ xs) (suc i) d e less = same_at xs i d e (omega (arith, less))

pub other_folder : (folder file : ℕ) (place : FilePlace) → (place.folder ≡ folder → ⊥) → is_place_of folder file place ≡ false
other_folder folder file place other = false_from_ne_true (is_place_of folder file place) (λ h. other (is_there folder file place h).0)

pub other_file : (folder file : ℕ) (place : FilePlace) → (place.file ≡ file → ⊥) → is_place_of folder file place ≡ false
other_file folder file place other = false_from_ne_true (is_place_of folder file place) (λ h. other (is_there folder file place h).1)

-- ---- the files of a package are in this order

abbrev AreExpectedAfter : ℕ → ℕ → List ExpectedFile → Type 0
AreExpectedAfter folder file [] = Unit {0}
AreExpectedAfter folder file (e ∷ es) = IsBeforeFile folder file e.folder e.file × AreExpectedAfter folder file es

abbrev pub AreExpectedInOrder : List ExpectedFile → Type 0
AreExpectedInOrder [] = Unit {0}
AreExpectedInOrder (e ∷ es) = AreExpectedAfter e.folder e.file es × AreExpectedInOrder es

after_joined : (a b : ℕ) (xs ys : List ExpectedFile) → AreExpectedAfter a b xs → AreExpectedAfter a b ys → AreExpectedAfter a b (xs ++ ys)
after_joined a b [] ys first second = second
after_joined a b (x ∷ xs) ys first second = (first.0, after_joined a b xs ys first.1 second)

abbrev expected_file : ℕ → ℕ → Plain → ExpectedFile
expected_file folder i f = record { folder = folder; file = i; size = int_in (entry_at_index f 2); hash = text_in (entry_at_index f 4) }

one_after : (x : Bool) (a b : ℕ) (e : ExpectedFile) → IsBeforeFile a b e.folder e.file → AreExpectedAfter a b (if x then e ∷ [] else [])
one_after true a b e before = (before, tt)
one_after false a b e before = tt

files_after_first_block : (a b folder i : ℕ) (files : List Plain) → ((j : ℕ) → i ≤ j → IsBeforeFile a b folder j) → AreExpectedAfter a b (expected_files_of_folder folder i files)
files_after_first_block a b folder i [] before = tt
files_after_first_block a b folder i (f ∷ fs) before =
    after_joined a b (expected_file_if_with_contents folder i f) (expected_files_of_folder folder (i + 1) fs) (one_after (is_file_with_contents f) a b (expected_file folder i f) (before i (omega arith)))
    (files_after_first_block a b folder (i + 1) fs (λ j le. before j (omega (arith, le))))

folders_behind : (a b i : ℕ) (folders : List Plain) → a < i → AreExpectedAfter a b (expected_files_of_folders i folders)
folders_behind a b i [] less = tt
folders_behind a b i (d ∷ ds) less =
    after_joined a b (expected_files_of_folder i 1 (files_in d)) (expected_files_of_folders (i + 1) ds) (files_after_first_block a b i 1 (files_in d) (λ j le. inl less))
    (folders_behind a b (i + 1) ds (omega (arith, less)))

one_in_order : (x : Bool) (e : ExpectedFile) (rest : List ExpectedFile) → AreExpectedAfter e.folder e.file rest → AreExpectedInOrder rest → AreExpectedInOrder ((if x then e ∷ [] else []) ++ rest)
one_in_order true e rest behind order = (behind, order)
one_in_order false e rest behind order = order

files_in_order : (folder i : ℕ) (files : List Plain) (rest : List ExpectedFile) → ((j : ℕ) → AreExpectedAfter folder j rest) → AreExpectedInOrder rest → AreExpectedInOrder (expected_files_of_folder folder i files ++ rest)
files_in_order folder i [] rest behind order = order
files_in_order folder i (f ∷ fs) rest behind order =
    let others : List ExpectedFile = expected_files_of_folder folder (i + 1) fs in
    subst AreExpectedInOrder (sym (append_assoc (expected_file_if_with_contents folder i f) others rest))
    (one_in_order (is_file_with_contents f) (expected_file folder i f) (others ++ rest)
    (after_joined folder i others rest (files_after_first_block folder i folder (i + 1) fs (λ j le. inr (refl, omega (arith, le)))) (behind i))
    (files_in_order folder (i + 1) fs rest behind order))

folders_in_order : (i : ℕ) (folders : List Plain) → AreExpectedInOrder (expected_files_of_folders i folders)
folders_in_order i [] = tt
folders_in_order i (d ∷ ds) = files_in_order i 1 (files_in d) (expected_files_of_folders (i + 1) ds) (λ j. folders_behind i j (i + 1) ds (omega arith)) (folders_in_order (i + 1) ds)

pub expected_in_order : (v : Plain) → AreExpectedInOrder (expected_files_of_package v)
expected_in_order v = folders_in_order 1 (folders_in v)

-- ---- and so are their places

placed_after : (pkg : List ℕ) (a b : ℕ) (ps : List FilePlace) (cs : List Contents) (es : List ExpectedFile) → AreAtPlaces pkg ps cs → MatchEachExpectedSizeAndKnownDigest es cs → AreExpectedAfter a b es → ArePlacedAfter a b ps
placed_after pkg a b [] cs es at are behind = tt
placed_after pkg a b (p ∷ ps) [] es at are behind = absurd at
placed_after pkg a b (p ∷ ps) (c ∷ cs) [] at are behind = absurd are
placed_after pkg a b (p ∷ ps) (c ∷ cs) (e ∷ es) at are behind = (
  subst (λ (x : ℕ). IsBeforeFile a b x p.file) (sym (at.0.folder ∙ are.0.folder)) (subst (λ (x : ℕ). IsBeforeFile a b e.folder x) (sym (at.0.file ∙ are.0.file)) behind.0),
  placed_after pkg a b ps cs es at.1 are.1 behind.1,
)

pub placed_in_order : (pkg : List ℕ) (ps : List FilePlace) (cs : List Contents) (es : List ExpectedFile) → AreAtPlaces pkg ps cs → MatchEachExpectedSizeAndKnownDigest es cs → AreExpectedInOrder es → AreInFileOrder ps
placed_in_order pkg [] cs es at are order = tt
placed_in_order pkg (p ∷ ps) [] es at are order = absurd at
placed_in_order pkg (p ∷ ps) (c ∷ cs) [] at are order = absurd are
placed_in_order pkg (p ∷ ps) (c ∷ cs) (e ∷ es) at are order = (
  subst (λ (x : ℕ). ArePlacedAfter x p.file ps) (sym (at.0.folder ∙ are.0.folder)) (subst (λ (x : ℕ). ArePlacedAfter e.folder x ps) (sym (at.0.file ∙ are.0.file)) (placed_after pkg e.folder e.file ps cs es at.1 are.1 order.0)),
  placed_in_order pkg ps cs es at.1 are.1 order.1,
)
