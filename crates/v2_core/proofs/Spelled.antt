-- The lines of records are read as these records.
use Rattle.std.proofs.Common.{◌≡◌, ℕ, suc, ◌+◌, Bool, true, false, not, cond, eqb, List, [], ◌∷◌, ◌++◌, length, get_or, Option, Some, None, Result, Ok, refl, sym, ◌∙◌, ap, append-nil, append_assoc, arith}
use Rattle.std.specs.Prelude.{◌&&◌, ◌||◌}
use Rattle.std.specs.List.{All, flat_map}
use Rattle.std.specs.Option.{option_and_then, option_map}
use Rattle.std.proofs.lemmas.Bool.{and_parts, not-true}
use Rattle.std.proofs.lemmas.List.Splits.{slice_split_at}
use Rattle.std.proofs.lemmas.List.Sums.{AllPass-from_list_all}
use Rattle.dep_core.specs.World.{is_line_end, lines_of}
use Rattle.v2_core.specs.Accesses.{Access}
use Rattle.v2_core.specs.InfoFields.{is_list_info_field}
use Rattle.v2_core.specs.Lines.{RecordLine, info_line, folder_access_line, file_line, file_access_line, file_hash_line, record_line_of}
use Rattle.v2_core.specs.Reading.{records_from_unfinished_record, records_of, records_followed_by}
use Rattle.v2_core.specs.Records.{InfoLine, ListedFile, ListedFolder, Record, empty_record, listed_file_from_parts, file_with_access, file_with_hash, listed_folder_from_parts, folder_with_access, folder_with_file, folder_with_last_file_changed, has_line_of_field, lacks_name_or_version_line, record_from_parts, record_if_both_parts, list_with_last_changed, with_record_line}
use Rattle.v2_core.specs.Spelling.{AreLines, SpellsRecord, SpellsText, access_lines, file_lines, folder_lines, hash_lines, info_lines, is_one_line, lines_text_before, record_lines, have_no_repeated_single_field}
use Rattle.v2_core.proofs.Lists.{with_last-push}
use Rattle.v2_core.proofs.RecordEnds.{good_end}
use Rattle.v2_core.proofs.TextLines.{at_empty_line, at_good_line, not_zero}

-- ---- a record with several lines more

abbrev after : Record → List RecordLine → Option Record
after r [] = Some r
after r (l ∷ ls) = option_and_then (λ s. after s ls) (with_record_line r l)

after_both_by : (o : Option Record) (s : Record) (xs ys : List RecordLine) → ((q : Record) → after q xs ≡ Some s → after q (xs ++ ys) ≡ after s ys) → option_and_then (λ q. after q xs) o ≡ Some s → option_and_then (λ q. after q (xs ++ ys)) o ≡ after s ys
after_both_by None s xs ys on h = cc
after_both_by (Some q) s xs ys on h = on q h

after_both : (r s : Record) (xs ys : List RecordLine) → after r xs ≡ Some s → after r (xs ++ ys) ≡ after s ys
after_both r s [] ys h = ap (option_and_then (λ q. after q ys)) h
after_both r s (x ∷ xs) ys h = after_both_by (with_record_line r x) s xs ys (λ q g. after_both q s xs ys g) h

after_more : (r s : Record) (l : RecordLine) (ls : List RecordLine) → with_record_line r l ≡ Some s → after r (l ∷ ls) ≡ after s ls
after_more r s l ls h = ap (option_and_then (λ q. after q ls)) h

-- ---- files

-- the last folder of some is changed
at_folder : (info : List InfoLine) (done : List ListedFolder) (f g : ListedFolder) (change : ListedFolder → Option ListedFolder) → change f ≡ Some g → record_if_both_parts (Some info) (list_with_last_changed change (done ++ f ∷ [])) ≡ Some (record_from_parts true info (done ++ g ∷ []))
at_folder info done f g change h =
    ap (record_if_both_parts (Some info)) (with_last-push change done f ∙ ap (option_map (λ y. done ++ y ∷ [])) h)

-- the last file of a folder is changed
at_file : (folder : ListedFolder) (before : List ListedFile) (f g : ListedFile) (change : ListedFile → Option ListedFile) → folder.files ≡ before ++ f ∷ [] → change f ≡ Some g → folder_with_last_file_changed change folder ≡ Some (listed_folder_from_parts folder.name folder.access (before ++ g ∷ []))
at_file folder before f g change is h =
    ap (option_map (λ files. listed_folder_from_parts folder.name folder.access files))
    (ap (list_with_last_changed change) is ∙ (with_last-push change before f ∙ ap (option_map (λ y. before ++ y ∷ [])) h))

abbrev with_files : List InfoLine → List ListedFolder → List ℕ → Option Access → List ListedFile → Record
with_files info done name access files =
    record_from_parts true info (done ++ listed_folder_from_parts name access files ∷ [])

after_access : (info : List InfoLine) (done : List ListedFolder) (name : List ℕ) (access : Option Access) (before : List ListedFile) (file : List ℕ) (a : Option Access) → after (with_files info done name access (before ++ listed_file_from_parts file None None ∷ [])) (access_lines file_access_line a) ≡ Some (with_files info done name access (before ++ listed_file_from_parts file a None ∷ []))
after_access info done name access before file None = refl
after_access info done name access before file (Some a) =
    let folder : ListedFolder = listed_folder_from_parts name access (before ++ listed_file_from_parts file None None ∷ []) in
    after_more (with_files info done name access (before ++ listed_file_from_parts file None None ∷ [])) (with_files info done name access (before ++ listed_file_from_parts file (Some a) None ∷ [])) (file_access_line a) []
    (at_folder info done folder _ (folder_with_last_file_changed (file_with_access a)) (at_file folder before _ _ (file_with_access a) refl refl))

after_hash : (info : List InfoLine) (done : List ListedFolder) (name : List ℕ) (access : Option Access) (before : List ListedFile) (file : List ℕ) (a : Option Access) (hash : Option (List ℕ)) → after (with_files info done name access (before ++ listed_file_from_parts file a None ∷ [])) (hash_lines hash) ≡ Some (with_files info done name access (before ++ listed_file_from_parts file a hash ∷ []))
after_hash info done name access before file a None = refl
after_hash info done name access before file a (Some hash) =
    let folder : ListedFolder = listed_folder_from_parts name access (before ++ listed_file_from_parts file a None ∷ []) in
    after_more (with_files info done name access (before ++ listed_file_from_parts file a None ∷ [])) (with_files info done name access (before ++ listed_file_from_parts file a (Some hash) ∷ [])) (file_hash_line hash) []
    (at_folder info done folder _ (folder_with_last_file_changed (file_with_hash hash)) (at_file folder before _ _ (file_with_hash hash) refl refl))

after_file : (info : List InfoLine) (done : List ListedFolder) (name : List ℕ) (access : Option Access) (before : List ListedFile) (f : ListedFile) → after (with_files info done name access before) (file_lines f) ≡ Some (with_files info done name access (before ++ f ∷ []))
after_file info done name access before f =
    after_more (with_files info done name access before) (with_files info done name access (before ++ listed_file_from_parts f.name None None ∷ [])) (file_line f.name) (access_lines file_access_line f.access ++ hash_lines f.hash) (at_folder info done (listed_folder_from_parts name access before) _ (folder_with_file f.name) refl)
    ∙ (after_both (with_files info done name access (before ++ listed_file_from_parts f.name None None ∷ [])) (with_files info done name access (before ++ listed_file_from_parts f.name f.access None ∷ [])) (access_lines file_access_line f.access) (hash_lines f.hash) (after_access info done name access before f.name f.access)
    ∙ after_hash info done name access before f.name f.access f.hash)

after_files : (info : List InfoLine) (done : List ListedFolder) (name : List ℕ) (access : Option Access) (before files : List ListedFile) → after (with_files info done name access before) (flat_map file_lines files) ≡ Some (with_files info done name access (before ++ files))
after_files info done name access before [] =
    ap (λ fs. Some (with_files info done name access fs)) (sym (append-nil before))
after_files info done name access before (f ∷ fs) =
    after_both (with_files info done name access before) (with_files info done name access (before ++ f ∷ [])) (file_lines f) (flat_map file_lines fs) (after_file info done name access before f)
    ∙ (after_files info done name access (before ++ f ∷ []) fs
    ∙ ap (λ fs. Some (with_files info done name access fs)) (append_assoc before (f ∷ []) fs))

-- ---- folders

after_folder_access : (info : List InfoLine) (done : List ListedFolder) (name : List ℕ) (a : Option Access) → after (with_files info done name None []) (access_lines folder_access_line a) ≡ Some (with_files info done name a [])
after_folder_access info done name None = refl
after_folder_access info done name (Some a) =
    after_more (with_files info done name None []) (with_files info done name (Some a) []) (folder_access_line a) []
    (at_folder info done (listed_folder_from_parts name None []) _ (folder_with_access a) refl)

after_folder : (info : List InfoLine) (done : List ListedFolder) (f : ListedFolder) → after (record_from_parts true info done) (folder_lines f) ≡ Some (record_from_parts true info (done ++ f ∷ []))
after_folder info done f =
    after_both (with_files info done f.name None []) (with_files info done f.name f.access []) (access_lines folder_access_line f.access) (flat_map file_lines f.files) (after_folder_access info done f.name f.access)
    ∙ after_files info done f.name f.access [] f.files

after_folders : (info : List InfoLine) (done folders : List ListedFolder) → after (record_from_parts true info done) (flat_map folder_lines folders) ≡ Some (record_from_parts true info (done ++ folders))
after_folders info done [] = ap (λ fs. Some (record_from_parts true info fs)) (sym (append-nil done))
after_folders info done (f ∷ fs) =
    after_both (record_from_parts true info done) (record_from_parts true info (done ++ f ∷ [])) (folder_lines f) (flat_map folder_lines fs) (after_folder info done f)
    ∙ (after_folders info (done ++ f ∷ []) fs
    ∙ ap (λ fs. Some (record_from_parts true info fs)) (append_assoc done (f ∷ []) fs))

-- ---- the package's information

taken : (many has : Bool) (info more : List InfoLine) → (many || not has) ≡ true → cond (not many && has) None (Some more) ≡ Some more
taken true has info more h = refl
taken false false info more h = refl
taken false true info more h = cc

with_info_line : (has_line : Bool) (info : List InfoLine) (folders : List ListedFolder) (l : InfoLine) → (is_list_info_field l.field || not (has_line_of_field l.field info)) ≡ true → with_record_line (record_from_parts has_line info folders) (info_line l.field l.values) ≡ Some (record_from_parts true (info ++ l ∷ []) folders)
with_info_line has_line info folders l h =
    ap (λ i. record_if_both_parts i (Some folders)) (taken (is_list_info_field l.field) (has_line_of_field l.field info) info (info ++ l ∷ []) h)

after_info : (done info : List InfoLine) → have_no_repeated_single_field done info ≡ true → after (record_from_parts true done []) (info_lines info) ≡ Some (record_from_parts true (done ++ info) [])
after_info done [] h = ap (λ i. Some (record_from_parts true i [])) (sym (append-nil done))
after_info done (l ∷ ls) h =
    let once = and_parts (is_list_info_field l.field || not (has_line_of_field l.field done)) (have_no_repeated_single_field (done ++ l ∷ []) ls) h in
    after_more (record_from_parts true done []) (record_from_parts true (done ++ l ∷ []) []) (info_line l.field l.values) (info_lines ls) (with_info_line true done [] l once.0)
    ∙ (after_info (done ++ l ∷ []) ls once.1
    ∙ ap (λ i. Some (record_from_parts true i [])) (append_assoc done (l ∷ []) ls))

after_first : (info : List InfoLine) → lacks_name_or_version_line info ≡ false → have_no_repeated_single_field [] info ≡ true → after empty_record (info_lines info) ≡ Some (record_from_parts true info [])
after_first [] complete h = cc
after_first (l ∷ ls) complete h =
    let once = and_parts (is_list_info_field l.field || not (has_line_of_field l.field [])) (have_no_repeated_single_field (l ∷ []) ls) h in
    after_more empty_record (record_from_parts true (l ∷ []) []) (info_line l.field l.values) (info_lines ls) (with_info_line false [] [] l once.0)
    ∙ after_info (l ∷ []) ls once.1

-- ---- texts

not_empty : (t : List ℕ) (l : RecordLine) → record_line_of t ≡ Some l → eqb (length t) 0 ≡ false
not_empty [] l h = cc
not_empty (b ∷ bs) l h = not_zero b bs

same_record : (r s : Record) → ◌≡◌ {A = Option Record} (Some r) (Some s) → r ≡ s
same_record r s h = cc

read_on_by : (n : ℕ) (r s : Record) (o : Option Record) (t : List ℕ) (ts : List (List ℕ)) (l : RecordLine) (ls : List RecordLine) (rest : List (List ℕ)) → record_line_of t ≡ Some l → with_record_line r l ≡ o → ((q : Record) → after q ls ≡ Some s → records_from_unfinished_record (n + 1) q (ts ++ rest) ≡ records_from_unfinished_record (n + 1 + length ts) s rest) → option_and_then (λ q. after q ls) o ≡ Some s → records_from_unfinished_record n r (t ∷ (ts ++ rest)) ≡ records_from_unfinished_record (n + suc (length ts)) s rest
read_on_by n r s None t ts l ls rest says is on h = cc
read_on_by n r s (Some q) t ts l ls rest says is on h =
    let count : n + 1 + length ts ≡ n + suc (length ts) = omega arith in
    at_good_line n r q t (ts ++ rest) (not_empty t l says) (ap (option_and_then (with_record_line r)) says ∙ is)
    ∙ (on q h ∙ ap (λ k. records_from_unfinished_record k s rest) count)

read_on : (n : ℕ) (r s : Record) (ts : List (List ℕ)) (ls : List RecordLine) (rest : List (List ℕ)) → AreLines ts ls → after r ls ≡ Some s → records_from_unfinished_record n r (ts ++ rest) ≡ records_from_unfinished_record (n + length ts) s rest
read_on n r s [] [] rest lines h =
    let count : n ≡ n + 0 = omega arith in
    ap (λ q. records_from_unfinished_record n q rest) (same_record r s h) ∙ ap (λ k. records_from_unfinished_record k s rest) count
read_on n r s [] (l ∷ ls) rest lines h = absurd lines
read_on n r s (t ∷ ts) [] rest lines h = absurd lines
read_on n r s (t ∷ ts) (l ∷ ls) rest lines h =
    read_on_by n r s (with_record_line r l) t ts l ls rest lines.1 refl (λ q g. read_on (n + 1) q s ts ls rest lines.2 g) h

whole : (r : Record) → r.has_line ≡ true → record_from_parts true r.info r.folders ≡ r
whole r h = ap (λ b. record_from_parts b r.info r.folders) (sym h)

read_record : (n : ℕ) (r : Record) (texts rest : List (List ℕ)) → SpellsRecord texts r → records_from_unfinished_record n empty_record (texts ++ rest) ≡ records_from_unfinished_record (n + length texts) r rest
read_record n r texts rest spells =
    read_on n empty_record r texts (record_lines r) rest spells.lines_say
    (after_both empty_record (record_from_parts true r.info []) (info_lines r.info) (flat_map folder_lines r.folders) (after_first r.info spells.complete spells.once)
    ∙ (after_folders r.info [] r.folders ∙ ap Some (whole r spells.begun)))

-- ---- the lines of a text

no_line_ends : (t : List ℕ) → is_one_line t ≡ true → All (λ b. is_line_end b ≡ false) t
no_line_ends t h = λ k d l. not-true (is_line_end (get_or t k d)) (AllPass-from_list_all (λ b. not (is_line_end b)) t h k d l)

split_lines : (ts : List (List ℕ)) (ls : List RecordLine) (rest : List ℕ) → AreLines ts ls → lines_of (lines_text_before ts rest) ≡ ts ++ lines_of rest
split_lines [] ls rest lines = refl
split_lines (t ∷ ts) [] rest lines = absurd lines
split_lines (t ∷ ts) (l ∷ ls) rest lines =
    slice_split_at is_line_end t 10 (lines_text_before ts rest) (no_line_ends t lines.0) refl
    ∙ ap (λ more. t ∷ more) (split_lines ts ls rest lines.2)

read_back : (n : ℕ) (text : List ℕ) (rs : List Record) → SpellsText text rs → records_from_unfinished_record n empty_record (lines_of text) ≡ Ok rs
read_back n text [] spelled = ap (λ t. records_from_unfinished_record n empty_record (lines_of t)) spelled
read_back n text (r ∷ rs) spelled =
    let lines = spelled.0 in
    let rest = spelled.1 in
    let spells : SpellsRecord lines r = spelled.3 in
    let m = n + length lines in
    ap (λ t. records_from_unfinished_record n empty_record (lines_of t)) spelled.2
    ∙ (ap (records_from_unfinished_record n empty_record) (split_lines lines (record_lines r) (10 ∷ rest) spells.lines_say)
    ∙ (read_record n r lines ([] ∷ lines_of rest) spells
    ∙ (at_empty_line m r [] (lines_of rest) refl
    ∙ (good_end m r (records_from_unfinished_record (m + 1) empty_record (lines_of rest)) spells.begun spells.complete
    ∙ ap (records_followed_by (r ∷ [])) (read_back (m + 1) rest rs spelled.4)))))

pub text_read_back : (text : List ℕ) (rs : List Record) → SpellsText text rs → records_of text ≡ Ok rs
unfolding records_of
text_read_back text rs spelled = read_back 0 text rs spelled

same_records : (rs ss : List Record) → ◌≡◌ {A = Result (List Record) ℕ} (Ok rs) (Ok ss) → rs ≡ ss
same_records rs ss h = cc

pub one_reading : (text : List ℕ) (rs ss : List Record) → SpellsText text rs → SpellsText text ss → rs ≡ ss
one_reading text rs ss a b = same_records rs ss (sym (text_read_back text rs a) ∙ text_read_back text ss b)
