-- Going over a list of values and adding their names.
use Rattle.std.proofs.Common.{◌≡◌, ℕ, suc, zero, ◌+◌, ◌<◌, ◌≤◌, true, List, [], ◌∷◌, ◌++◌, map, length, get_or, drop, refl, ap, sym, ◌∙◌, subst, arith, append_assoc, append-nil}
use Rattle.adb_view.specs.Plain.{Plain, null, Plains, none, more}
use Rattle.adb_view.specs.Values.{value_at, entry_at_index, entries_in, count_of, nth}
use Rattle.adb_fields.specs.Fields.{are_all_sound, array_at}
use Rattle.adb_fields.specs.Pairs.{NameWithPosition}
use Rattle.adb_fields.specs.Repeated.{list_of, numbered_from, names_all_at_position, names_with_list_positions, name_of, paths_of_folder_files, paths_of_package_files}
use Rattle.adb_fields.specs.Paths.{path_of}
use Rattle.std.specs.List.{flat_map}
use Rattle.adb_fields.specs.NamedTexts.{plains_of_array_words, name_with_position}
use Rattle.adb_view.specs.declared.tables.Kind.{Kind}
use Rattle.adb_fields.proofs.FieldReads.{entry_value, entry_count}

nth-listed : (vs : Plains) (i : ℕ) → nth vs i ≡ get_or (list_of vs) i null
nth-listed none i = refl
nth-listed (more v vs) zero = refl
nth-listed (more v vs) (suc i) = nth-listed vs i

pub count-listed : (vs : Plains) → count_of vs ≡ length (list_of vs)
count-listed none = refl
count-listed (more v vs) = ap suc (count-listed vs)

pub plain_count : (p : List ℕ) (k : Kind) (ws : List ℕ) → are_all_sound p k ws ≡ true → length (plains_of_array_words p k ws) ≡ length ws
plain_count p k ws h = sym (entry_count p k ws h ∙ count-listed (entries_in (array_at p k ws)))

pub plain_is : (p : List ℕ) (k : Kind) (ws : List ℕ) (i : ℕ) → are_all_sound p k ws ≡ true → i < length ws → value_at p k (get_or ws i 0) ≡ get_or (plains_of_array_words p k ws) i null
plain_is p k ws i h l = entry_value p k ws i h l ∙ nth-listed (entries_in (array_at p k ws)) i

-- ---- names by position

more_names : (f : Plain → List ℕ) (values : List Plain) (i m : ℕ) → i < length values → numbered_from m (map f (drop i values)) ≡ name_with_position (f (get_or values i null)) m ∷ numbered_from (m + 1) (map f (drop (i + 1) values))
more_names f [] i m h = absurd (omega arith)
more_names f (v ∷ vs) zero m h = refl
more_names f (v ∷ vs) (suc i) m h =
    let e : suc i + 1 ≡ suc (i + 1) = omega arith in
    let P : ℕ → Type 0 = λ n. numbered_from m (map f (drop i vs)) ≡ name_with_position (f (get_or vs i null)) m ∷ numbered_from (m + 1) (map f (drop n (v ∷ vs))) in
    subst P (sym e) (more_names f vs i m (omega arith))

no_names : (f : Plain → List ℕ) (values : List Plain) (i m : ℕ) → length values ≤ i → numbered_from m (map f (drop i values)) ≡ []
no_names f [] zero m h = refl
no_names f [] (suc i) m h = refl
no_names f (v ∷ vs) zero m h = absurd (omega arith)
no_names f (v ∷ vs) (suc i) m h = no_names f vs i m (omega arith)

-- after m names, the next one
pub one_more : (f : Plain → List ℕ) (values : List Plain) (i m k : ℕ) (x : List ℕ) (done next all : List NameWithPosition) → i < length values → x ≡ f (get_or values i null) → next ≡ done ++ (name_with_position x (m + 1) ∷ []) → k ≡ m + 1 → done ++ numbered_from (m + 1) (map f (drop i values)) ≡ all → next ++ numbered_from (k + 1) (map f (drop (i + 1) values)) ≡ all
one_more f values i m k x done next all h e n l so =
    let left : List NameWithPosition = numbered_from (m + 1 + 1) (map f (drop (i + 1) values)) in
    (λ j. n j ++ numbered_from (l j + 1) (map f (drop (i + 1) values)))
    ∙ (append_assoc done (name_with_position x (m + 1) ∷ []) left
    ∙ (ap (λ y. done ++ (name_with_position y (m + 1) ∷ left)) e
    ∙ (ap (λ rest. done ++ rest) (sym (more_names f values i (m + 1) h)) ∙ so)))

-- and none after the last
pub no_more : (f : Plain → List ℕ) (values : List Plain) (i m : ℕ) (done all : List NameWithPosition) → length values ≤ i → done ++ numbered_from m (map f (drop i values)) ≡ all → done ≡ all
no_more f values i m done all h so = sym (append-nil done) ∙ (ap (λ rest. done ++ rest) (sym (no_names f values i m h)) ∙ so)

-- the same by the words of an array
pub one_word : (p : List ℕ) (kind : Kind) (f : Plain → List ℕ) (ws : List ℕ) (i m k w : ℕ) (x : List ℕ) (done next all : List NameWithPosition) → are_all_sound p kind ws ≡ true → i < length ws → w ≡ get_or ws i 0 → x ≡ f (value_at p kind w) → next ≡ done ++ (name_with_position x (m + 1) ∷ []) → k ≡ m + 1 → done ++ numbered_from (m + 1) (map f (drop i (plains_of_array_words p kind ws))) ≡ all → next ++ numbered_from (k + 1) (map f (drop (i + 1) (plains_of_array_words p kind ws))) ≡ all
one_word p kind f ws i m k w x done next all sound lt word e n l so =
    let c : length (plains_of_array_words p kind ws) ≡ length ws = plain_count p kind ws sound in
    let here : value_at p kind w ≡ get_or (plains_of_array_words p kind ws) i null = ap (value_at p kind) word ∙ plain_is p kind ws i sound lt in
    one_more f (plains_of_array_words p kind ws) i m k x done next all (omega arith) (e ∙ ap f here) n l so

pub no_word : (p : List ℕ) (kind : Kind) (f : Plain → List ℕ) (ws : List ℕ) (i m : ℕ) (done all : List NameWithPosition) → are_all_sound p kind ws ≡ true → length ws ≤ i → done ++ numbered_from m (map f (drop i (plains_of_array_words p kind ws))) ≡ all → done ≡ all
no_word p kind f ws i m done all sound past so =
    let c : length (plains_of_array_words p kind ws) ≡ length ws = plain_count p kind ws sound in
    no_more f (plains_of_array_words p kind ws) i m done all (omega arith) so

-- ---- names at one position

pub names_all_at_position-append : (n : ℕ) (xs ys : List (List ℕ)) → names_all_at_position n (xs ++ ys) ≡ names_all_at_position n xs ++ names_all_at_position n ys
names_all_at_position-append n [] ys = refl
names_all_at_position-append n (x ∷ xs) ys = ap (λ rest. name_with_position x n ∷ rest) (names_all_at_position-append n xs ys)

-- the piece of the value at a place, and those after
pub pieces : {X : Type 0} (piece : Plain → List X) (values : List Plain) (i : ℕ) → i < length values → flat_map piece (drop i values) ≡ piece (get_or values i null) ++ flat_map piece (drop (i + 1) values)
pieces piece [] i h = absurd (omega arith)
pieces piece (v ∷ vs) zero h = refl
pieces piece (v ∷ vs) (suc i) h =
    let e : suc i + 1 ≡ suc (i + 1) = omega arith in
    let P : ℕ → Type 0 = λ n. flat_map piece (drop i vs) ≡ piece (get_or vs i null) ++ flat_map piece (drop n (v ∷ vs)) in
    subst P (sym e) (pieces piece vs i (omega arith))

no_pieces : {X : Type 0} (piece : Plain → List X) (values : List Plain) (i : ℕ) → length values ≤ i → flat_map piece (drop i values) ≡ []
no_pieces piece [] zero h = refl
no_pieces piece [] (suc i) h = refl
no_pieces piece (v ∷ vs) zero h = absurd (omega arith)
no_pieces piece (v ∷ vs) (suc i) h = no_pieces piece vs i (omega arith)

-- a step of a loop that adds the piece of each value
pub one_piece : {X : Type 0} (p : List ℕ) (kind : Kind) (piece : Plain → List X) (ws : List ℕ) (i w : ℕ) (done next all : List X) → are_all_sound p kind ws ≡ true → i < length ws → w ≡ get_or ws i 0 → next ≡ done ++ piece (value_at p kind w) → done ++ flat_map piece (drop i (plains_of_array_words p kind ws)) ≡ all → next ++ flat_map piece (drop (i + 1) (plains_of_array_words p kind ws)) ≡ all
one_piece p kind piece ws i w done next all sound lt word n so =
    let c : length (plains_of_array_words p kind ws) ≡ length ws = plain_count p kind ws sound in
    let here : value_at p kind w ≡ get_or (plains_of_array_words p kind ws) i null = ap (value_at p kind) word ∙ plain_is p kind ws i sound lt in
    ap (λ front. front ++ flat_map piece (drop (i + 1) (plains_of_array_words p kind ws))) (n ∙ ap (λ v. done ++ piece v) here)
    ∙ (append_assoc done (piece (get_or (plains_of_array_words p kind ws) i null)) (flat_map piece (drop (i + 1) (plains_of_array_words p kind ws)))
    ∙ (ap (λ rest. done ++ rest) (sym (pieces piece (plains_of_array_words p kind ws) i (omega arith))) ∙ so))

pub no_piece : {X : Type 0} (p : List ℕ) (kind : Kind) (piece : Plain → List X) (ws : List ℕ) (i : ℕ) (done all : List X) → are_all_sound p kind ws ≡ true → length ws ≤ i → done ++ flat_map piece (drop i (plains_of_array_words p kind ws)) ≡ all → done ≡ all
no_piece p kind piece ws i done all sound past so =
    let c : length (plains_of_array_words p kind ws) ≡ length ws = plain_count p kind ws sound in
    sym (append-nil done) ∙ (ap (λ rest. done ++ rest) (sym (no_pieces piece (plains_of_array_words p kind ws) i (omega arith))) ∙ so)

-- a list of single pieces is a map
pub map_pieces : {X : Type 0} (f : Plain → X) (values : List Plain) → flat_map (λ v. f v ∷ []) values ≡ map f values
map_pieces f [] = refl
map_pieces f (v ∷ vs) = ap (λ rest. f v ∷ rest) (map_pieces f vs)

pub names_all_at_position-pieces : (n : ℕ) (piece : Plain → List (List ℕ)) (values : List Plain) → flat_map (λ v. names_all_at_position n (piece v)) values ≡ names_all_at_position n (flat_map piece values)
names_all_at_position-pieces n piece [] = refl
names_all_at_position-pieces n piece (v ∷ vs) = ap (λ rest. names_all_at_position n (piece v) ++ rest) (names_all_at_position-pieces n piece vs) ∙ sym (names_all_at_position-append n (piece v) (flat_map piece vs))

pub names_all_at_position-map : (n : ℕ) (f : Plain → List ℕ) (values : List Plain) → flat_map (λ v. name_with_position (f v) n ∷ []) values ≡ names_all_at_position n (map f values)
names_all_at_position-map n f [] = refl
names_all_at_position-map n f (v ∷ vs) = ap (λ rest. name_with_position (f v) n ∷ rest) (names_all_at_position-map n f vs)

-- ---- lists of names, each at the position of its value

more_lists : (f : Plain → List (List ℕ)) (values : List Plain) (i m : ℕ) → i < length values → names_with_list_positions m (map f (drop i values)) ≡ names_all_at_position m (f (get_or values i null)) ++ names_with_list_positions (m + 1) (map f (drop (i + 1) values))
more_lists f [] i m h = absurd (omega arith)
more_lists f (v ∷ vs) zero m h = refl
more_lists f (v ∷ vs) (suc i) m h =
    let e : suc i + 1 ≡ suc (i + 1) = omega arith in
    let P : ℕ → Type 0 = λ n. names_with_list_positions m (map f (drop i vs)) ≡ names_all_at_position m (f (get_or vs i null)) ++ names_with_list_positions (m + 1) (map f (drop n (v ∷ vs))) in
    subst P (sym e) (more_lists f vs i m (omega arith))

no_lists : (f : Plain → List (List ℕ)) (values : List Plain) (i m : ℕ) → length values ≤ i → names_with_list_positions m (map f (drop i values)) ≡ []
no_lists f [] zero m h = refl
no_lists f [] (suc i) m h = refl
no_lists f (v ∷ vs) zero m h = absurd (omega arith)
no_lists f (v ∷ vs) (suc i) m h = no_lists f vs i m (omega arith)

pub one_list : (p : List ℕ) (kind : Kind) (f : Plain → List (List ℕ)) (ws : List ℕ) (i w : ℕ) (done next all : List NameWithPosition) → are_all_sound p kind ws ≡ true → i < length ws → w ≡ get_or ws i 0 → next ≡ done ++ names_all_at_position (i + 1) (f (value_at p kind w)) → done ++ names_with_list_positions (i + 1) (map f (drop i (plains_of_array_words p kind ws))) ≡ all → next ++ names_with_list_positions (i + 1 + 1) (map f (drop (i + 1) (plains_of_array_words p kind ws))) ≡ all
one_list p kind f ws i w done next all sound lt word n so =
    let c : length (plains_of_array_words p kind ws) ≡ length ws = plain_count p kind ws sound in
    let here : value_at p kind w ≡ get_or (plains_of_array_words p kind ws) i null = ap (value_at p kind) word ∙ plain_is p kind ws i sound lt in
    let left : List NameWithPosition = names_with_list_positions (i + 1 + 1) (map f (drop (i + 1) (plains_of_array_words p kind ws))) in
    ap (λ front. front ++ left) (n ∙ ap (λ v. done ++ names_all_at_position (i + 1) (f v)) here)
    ∙ (append_assoc done (names_all_at_position (i + 1) (f (get_or (plains_of_array_words p kind ws) i null))) left
    ∙ (ap (λ rest. done ++ rest) (sym (more_lists f (plains_of_array_words p kind ws) i (i + 1) (omega arith))) ∙ so))

pub no_list : (p : List ℕ) (kind : Kind) (f : Plain → List (List ℕ)) (ws : List ℕ) (i m : ℕ) (done all : List NameWithPosition) → are_all_sound p kind ws ≡ true → length ws ≤ i → done ++ names_with_list_positions m (map f (drop i (plains_of_array_words p kind ws))) ≡ all → done ≡ all
no_list p kind f ws i m done all sound past so =
    let c : length (plains_of_array_words p kind ws) ≡ length ws = plain_count p kind ws sound in
    sym (append-nil done) ∙ (ap (λ rest. done ++ rest) (sym (no_lists f (plains_of_array_words p kind ws) i m (omega arith))) ∙ so)

-- ---- the paths of a folder, and of a package

pub under_folder : (n : ℕ) (name : List ℕ) (folder files : Plain) → name ≡ name_of folder → files ≡ entry_at_index folder 2 → flat_map (λ file. name_with_position (path_of name (name_of file)) n ∷ []) (list_of (entries_in files)) ≡ names_all_at_position n (paths_of_folder_files folder)
under_folder n name folder files e v =
    names_all_at_position-map n (λ file. path_of name (name_of file)) (list_of (entries_in files))
    ∙ (λ i. names_all_at_position n (map (λ file. path_of (e i) (name_of file)) (list_of (entries_in (v i)))))

pub in_package : (n : ℕ) (pkg folders : Plain) → folders ≡ entry_at_index pkg 1 → flat_map (λ folder. names_all_at_position n (paths_of_folder_files folder)) (list_of (entries_in folders)) ≡ names_all_at_position n (paths_of_package_files pkg)
in_package n pkg folders v = names_all_at_position-pieces n paths_of_folder_files (list_of (entries_in folders)) ∙ (λ i. names_all_at_position n (flat_map paths_of_folder_files (list_of (entries_in (v i)))))
