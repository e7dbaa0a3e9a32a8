-- The folders and files that the lines of a record list.
use Rattle.std.proofs.Common.{◌≡◌, ◌∙◌, ℕ, List, [], ◌∷◌, ◌++◌, map, Option, Some, None, refl, ap, sym, append_assoc}
use Rattle.std.specs.Prelude.{if◌then◌else◌, is_some, option_map}
use Rattle.std.specs.Option.{option_and_then, option_or}
use Rattle.change_outcome.specs.make_info.Fields.{TextNumberOrDependency}
use Rattle.change_outcome.proofs.v2_core.Lists.{with_last-push}
use Rattle.change_outcome.specs.v2_core.Reading.{record_with_text_line}
use Rattle.change_outcome.specs.v2_core.Records.{ListedFile, ListedFolder, Record, empty_record, listed_file_from_parts, file_with_access, file_with_hash, listed_folder_from_parts, folder_with_access, folder_with_file, folder_with_files, folder_with_last_file_changed, list_with_last_changed, with_path_line}
use Rattle.change_outcome.specs.v2_core.Accesses.{Access}
use Rattle.change_outcome.specs.v2_core.declared.field.InfoField.{InfoField}
use Rattle.change_outcome.specs.v2_core.Lines.{RecordLine, file_access_line, file_hash_line, file_line, folder_access_line, folder_line, info_line, other_line, record_line_of}
use Rattle.definition_laws.specs.answers.TextFiles.{file_access_in, file_hash_in, files_listed, folder_access_in, folders_of_record_lines, lines_up_to_file, lines_up_to_folder}
use Rattle.definition_laws.specs.answers.TextLetters.{record_with_lines}
use Rattle.definition_laws.proofs.answers.RecordFields.{accepted}

-- ---- a folder and a file after more lines

grown_file : ListedFile → List RecordLine → ListedFile
grown_file x lines = listed_file_from_parts x.name (option_or x.access (file_access_in lines)) (option_or x.hash (file_hash_in lines))

grown_files : List ListedFile → List RecordLine → List ListedFile
grown_files [] lines = files_listed lines
grown_files (x ∷ []) lines = grown_file x (lines_up_to_file lines) ∷ files_listed lines
grown_files (x ∷ y ∷ rest) lines = x ∷ grown_files (y ∷ rest) lines

grown : ListedFolder → List RecordLine → ListedFolder
grown f lines = listed_folder_from_parts f.name (option_or f.access (folder_access_in lines)) (grown_files f.files lines)

or_none : {A : Type 0} (o : Option A) → option_or o None ≡ o
or_none None = refl
or_none (Some a) = refl

file_as_it_is : (x : ListedFile) → grown_file x [] ≡ x
unfolding grown_file
file_as_it_is x = ap (λ (o : Option Access). listed_file_from_parts x.name o (option_or x.hash None)) (or_none x.access) ∙ ap (listed_file_from_parts x.name x.access) (or_none x.hash)

files_as_they_are : (files : List ListedFile) → grown_files files [] ≡ files
unfolding grown_files
files_as_they_are [] = refl
files_as_they_are (x ∷ []) = ap (λ (y : ListedFile). y ∷ []) (file_as_it_is x)
files_as_they_are (x ∷ y ∷ rest) = ap (λ (l : List ListedFile). x ∷ l) (files_as_they_are (y ∷ rest))

as_it_is : (f : ListedFolder) → grown f [] ≡ f
unfolding grown
as_it_is f = ap (λ (o : Option Access). listed_folder_from_parts f.name o (grown_files f.files [])) (or_none f.access) ∙ ap (listed_folder_from_parts f.name f.access) (files_as_they_are f.files)

-- ---- lines that are not of files

files_past_info : (g : InfoField) (values : List TextNumberOrDependency) (files : List ListedFile) (lines : List RecordLine) → grown_files files (info_line g values ∷ lines) ≡ grown_files files lines
unfolding grown_files grown_file
files_past_info g values [] lines = refl
files_past_info g values (x ∷ []) lines = refl
files_past_info g values (x ∷ y ∷ rest) lines = ap (λ (l : List ListedFile). x ∷ l) (files_past_info g values (y ∷ rest) lines)

files_past_access : (a : Access) (files : List ListedFile) (lines : List RecordLine) → grown_files files (folder_access_line a ∷ lines) ≡ grown_files files lines
unfolding grown_files grown_file
files_past_access a [] lines = refl
files_past_access a (x ∷ []) lines = refl
files_past_access a (x ∷ y ∷ rest) lines = ap (λ (l : List ListedFile). x ∷ l) (files_past_access a (y ∷ rest) lines)

files_past_other : (files : List ListedFile) (lines : List RecordLine) → grown_files files (other_line ∷ lines) ≡ grown_files files lines
unfolding grown_files grown_file
files_past_other [] lines = refl
files_past_other (x ∷ []) lines = refl
files_past_other (x ∷ y ∷ rest) lines = ap (λ (l : List ListedFile). x ∷ l) (files_past_other (y ∷ rest) lines)

-- ---- lines of files

files_with_new : (name : List ℕ) (files : List ListedFile) (lines : List RecordLine) → grown_files (files ++ listed_file_from_parts name None None ∷ []) lines ≡ grown_files files (file_line name ∷ lines)
unfolding grown_files grown_file
files_with_new name [] lines = refl
files_with_new name (x ∷ []) lines = ap (λ (y : ListedFile). y ∷ files_listed (file_line name ∷ lines)) (sym (file_as_it_is x))
files_with_new name (x ∷ y ∷ rest) lines = ap (λ (l : List ListedFile). x ∷ l) (files_with_new name (y ∷ rest) lines)

-- what the change of the last file makes of it, if more lines follow
abbrev Keeps : (ListedFile → Option ListedFile) → RecordLine → Type 0
Keeps change l = (x y : ListedFile) (lines : List RecordLine) → change x ≡ Some y → grown_file y lines ≡ grown_file x (l ∷ lines)

access_keeps : (a : Access) → Keeps (file_with_access a) (file_access_line a)
unfolding grown_file
access_keeps a x y lines e = go x.access refl e
  where
    go : (o : Option Access) → x.access ≡ o → (if is_some o then None else Some (listed_file_from_parts x.name (Some a) x.hash)) ≡ Some y → grown_file y lines ≡ grown_file x (file_access_line a ∷ lines)
    go (Some b) is e = absurd cc
    go None is e =
        let same : listed_file_from_parts x.name (Some a) x.hash ≡ y = cc in
        ap (λ (z : ListedFile). grown_file z lines) (sym same)
        ∙ ap (λ (p : Option Access). listed_file_from_parts x.name (option_or p (Some a)) (option_or x.hash (file_hash_in lines))) (sym is)

hash_keeps : (hash : List ℕ) → Keeps (file_with_hash hash) (file_hash_line hash)
unfolding grown_file
hash_keeps hash x y lines e = go x.hash refl e
  where
    go : (o : Option (List ℕ)) → x.hash ≡ o → (if is_some o then None else Some (listed_file_from_parts x.name x.access (Some hash))) ≡ Some y → grown_file y lines ≡ grown_file x (file_hash_line hash ∷ lines)
    go (Some b) is e = absurd cc
    go None is e =
        let same : listed_file_from_parts x.name x.access (Some hash) ≡ y = cc in
        ap (λ (z : ListedFile). grown_file z lines) (sym same)
        ∙ ap (λ (p : Option (List ℕ)). listed_file_from_parts x.name (option_or x.access (file_access_in lines)) (option_or p (Some hash))) (sym is)

mapped : {A B : Type 0} (f : A → B) (o : Option A) (b : B) → option_map f o ≡ Some b → (a : A) × (o ≡ Some a) × (f a ≡ b)
mapped f None b e = absurd cc
mapped f (Some a) b e = (a, refl, cc)

-- a list whose last element was changed is not empty
not_empty : (change : ListedFile → Option ListedFile) (x : ListedFile) (xs more : List ListedFile) → list_with_last_changed change (x ∷ xs) ≡ Some more → (y : ListedFile) × (ys : List ListedFile) × (more ≡ y ∷ ys)
not_empty change x [] more e =
    let (y, is, same) = mapped (λ (z : ListedFile). z ∷ []) (change x) more e in
    (y, [], sym same)
not_empty change x (z ∷ rest) more e =
    let (l, is, same) = mapped (λ (l : List ListedFile). x ∷ l) (list_with_last_changed change (z ∷ rest)) more e in
    (x, l, sym same)

one_more : (x : ListedFile) (files : List ListedFile) (lines : List RecordLine) (y : ListedFile) (ys : List ListedFile) → files ≡ y ∷ ys → grown_files (x ∷ files) lines ≡ x ∷ grown_files files lines
unfolding grown_files
one_more x files lines y ys is =
    ap (λ (l : List ListedFile). grown_files (x ∷ l) lines) is ∙ ap (λ (l : List ListedFile). x ∷ grown_files l lines) (sym is)

last_keeps : (change : ListedFile → Option ListedFile) (l : RecordLine) → Keeps change l → ((lines : List RecordLine) → lines_up_to_file (l ∷ lines) ≡ l ∷ lines_up_to_file lines) → ((lines : List RecordLine) → files_listed (l ∷ lines) ≡ files_listed lines)
    → (files more : List ListedFile) (lines : List RecordLine) → list_with_last_changed change files ≡ Some more → grown_files more lines ≡ grown_files files (l ∷ lines)
unfolding grown_files
last_keeps change l keeps up listed [] more lines e = absurd cc
last_keeps change l keeps up listed (x ∷ []) more lines e =
    let (y, is, same) = mapped (λ (z : ListedFile). z ∷ []) (change x) more e in
    ap (λ (m : List ListedFile). grown_files m lines) (sym same)
    ∙ ap (λ (z : ListedFile). z ∷ files_listed lines) (keeps x y (lines_up_to_file lines) is)
    ∙ ap (λ (p : List RecordLine). grown_file x p ∷ files_listed lines) (sym (up lines))
    ∙ ap (λ (m : List ListedFile). grown_file x (lines_up_to_file (l ∷ lines)) ∷ m) (sym (listed lines))
last_keeps change l keeps up listed (x ∷ z ∷ rest) more lines e =
    let (m, is, same) = mapped (λ (m : List ListedFile). x ∷ m) (list_with_last_changed change (z ∷ rest)) more e in
    let (y, ys, some) = not_empty change z rest m is in
    ap (λ (k : List ListedFile). grown_files k lines) (sym same)
    ∙ one_more x m lines y ys some
    ∙ ap (λ (k : List ListedFile). x ∷ k) (last_keeps change l keeps up listed (z ∷ rest) m lines is)

-- ---- a folder after one more line

-- what the change of the last folder makes of it, if more lines follow
abbrev FolderKeeps : (ListedFolder → Option ListedFolder) → RecordLine → Type 0
FolderKeeps change l = (f g : ListedFolder) (lines : List RecordLine) → change f ≡ Some g → grown g lines ≡ grown f (l ∷ lines)

folder_access_keeps : (a : Access) → FolderKeeps (folder_with_access a) (folder_access_line a)
unfolding grown
folder_access_keeps a f g lines e = go f.access refl e
  where
    go : (o : Option Access) → f.access ≡ o → (if is_some o then None else Some (listed_folder_from_parts f.name (Some a) f.files)) ≡ Some g → grown g lines ≡ grown f (folder_access_line a ∷ lines)
    go (Some b) is e = absurd cc
    go None is e =
        let same : listed_folder_from_parts f.name (Some a) f.files ≡ g = cc in
        ap (λ (h : ListedFolder). grown h lines) (sym same)
        ∙ ap (λ (p : Option Access). listed_folder_from_parts f.name (option_or p (Some a)) (grown_files f.files lines)) (sym is)
        ∙ ap (listed_folder_from_parts f.name (option_or f.access (Some a))) (sym (files_past_access a f.files lines))

file_keeps : (name : List ℕ) → FolderKeeps (folder_with_file name) (file_line name)
unfolding grown
file_keeps name f g lines e =
    let same : folder_with_files f (f.files ++ listed_file_from_parts name None None ∷ []) ≡ g = cc in
    ap (λ (h : ListedFolder). grown h lines) (sym same)
    ∙ ap (listed_folder_from_parts f.name (option_or f.access (folder_access_in lines))) (files_with_new name f.files lines)

last_file_keeps : (change : ListedFile → Option ListedFile) (l : RecordLine) → Keeps change l → ((lines : List RecordLine) → lines_up_to_file (l ∷ lines) ≡ l ∷ lines_up_to_file lines) → ((lines : List RecordLine) → files_listed (l ∷ lines) ≡ files_listed lines)
    → ((lines : List RecordLine) → folder_access_in (l ∷ lines) ≡ folder_access_in lines) → FolderKeeps (folder_with_last_file_changed change) l
unfolding grown
last_file_keeps change l keeps up listed access f g lines e =
    let (files, is, same) = mapped (folder_with_files f) (list_with_last_changed change f.files) g e in
    ap (λ (h : ListedFolder). grown h lines) (sym same)
    ∙ ap (listed_folder_from_parts f.name (option_or f.access (folder_access_in lines))) (last_keeps change l keeps up listed f.files files lines is)
    ∙ ap (λ (o : Option Access). listed_folder_from_parts f.name (option_or f.access o) (grown_files f.files (l ∷ lines))) (sym (access lines))

-- ---- all folders after more lines

folders_after : List ListedFolder → List RecordLine → Option (List ListedFolder)
folders_after folders [] = Some folders
folders_after folders (l ∷ lines) = option_and_then (λ next. folders_after next lines) (with_path_line l folders)

-- the last folder was changed
record LastChanged (change : ListedFolder → Option ListedFolder) (done : List ListedFolder) (f : ListedFolder) (lines : List RecordLine) (all : List ListedFolder) : Type 0 where
  changed : ListedFolder
  is : change f ≡ Some changed
  after : folders_after (done ++ changed ∷ []) lines ≡ Some all

last_of : (change : ListedFolder → Option ListedFolder) (done : List ListedFolder) (f : ListedFolder) (lines : List RecordLine) (all : List ListedFolder)
    → option_and_then (λ next. folders_after next lines) (list_with_last_changed change (done ++ f ∷ [])) ≡ Some all → LastChanged change done f lines all
last_of change done f lines all e = go (change f) refl (sym (ap (option_and_then (λ next. folders_after next lines)) (with_last-push change done f)) ∙ e)
  where
    go : (o : Option ListedFolder) → change f ≡ o → option_and_then (λ next. folders_after next lines) (option_map (λ g. done ++ g ∷ []) o) ≡ Some all → LastChanged change done f lines all
    go None is e = absurd cc
    go (Some g) is e = record { changed = g; is = is; after = e }

grown_past_info : (g : InfoField) (values : List TextNumberOrDependency) (f : ListedFolder) (lines : List RecordLine) → grown f lines ≡ grown f (info_line g values ∷ lines)
unfolding grown
grown_past_info g values f lines = ap (listed_folder_from_parts f.name (option_or f.access (folder_access_in lines))) (sym (files_past_info g values f.files lines))

grown_past_other : (f : ListedFolder) (lines : List RecordLine) → grown f lines ≡ grown f (other_line ∷ lines)
unfolding grown
grown_past_other f lines = ap (listed_folder_from_parts f.name (option_or f.access (folder_access_in lines))) (sym (files_past_other f.files lines))

new_folder : (name : List ℕ) (lines : List RecordLine) → grown (listed_folder_from_parts name None []) lines ≡ listed_folder_from_parts name (folder_access_in lines) (files_listed lines)
unfolding grown grown_files
new_folder name lines = refl

abbrev placed : List ListedFolder → ListedFolder → List RecordLine → List ListedFolder
placed done f lines = done ++ f ∷ folders_of_record_lines lines

after_folder : (lines : List RecordLine) (done : List ListedFolder) (f : ListedFolder) (all : List ListedFolder) → folders_after (done ++ f ∷ []) lines ≡ Some all → all ≡ placed done (grown f (lines_up_to_folder lines)) lines
unfolding folders_after
after_folder [] done f all e =
    let same : done ++ f ∷ [] ≡ all = cc in
    sym same ∙ ap (λ (g : ListedFolder). done ++ g ∷ []) (sym (as_it_is f))
after_folder (info_line g values ∷ lines) done f all e =
    after_folder lines done f all e ∙ ap (λ (h : ListedFolder). placed done h lines) (grown_past_info g values f (lines_up_to_folder lines))
after_folder (folder_line name ∷ lines) done f all e =
    after_folder lines (done ++ f ∷ []) (listed_folder_from_parts name None []) all e
    ∙ ap (λ (h : ListedFolder). (done ++ f ∷ []) ++ h ∷ folders_of_record_lines lines) (new_folder name (lines_up_to_folder lines))
    ∙ append_assoc done (f ∷ []) (folders_of_record_lines (folder_line name ∷ lines))
    ∙ ap (λ (h : ListedFolder). done ++ h ∷ folders_of_record_lines (folder_line name ∷ lines)) (sym (as_it_is f))
after_folder (folder_access_line a ∷ lines) done f all e =
    let t = last_of (folder_with_access a) done f lines all e in
    after_folder lines done t.changed all t.after
    ∙ ap (λ (h : ListedFolder). placed done h lines) (folder_access_keeps a f t.changed (lines_up_to_folder lines) t.is)
after_folder (file_line name ∷ lines) done f all e =
    let t = last_of (folder_with_file name) done f lines all e in
    after_folder lines done t.changed all t.after
    ∙ ap (λ (h : ListedFolder). placed done h lines) (file_keeps name f t.changed (lines_up_to_folder lines) t.is)
after_folder (file_access_line a ∷ lines) done f all e =
    let t = last_of (folder_with_last_file_changed (file_with_access a)) done f lines all e in
    after_folder lines done t.changed all t.after
    ∙ ap (λ (h : ListedFolder). placed done h lines)
    (last_file_keeps (file_with_access a) (file_access_line a) (access_keeps a) (λ ls. refl) (λ ls. refl) (λ ls. refl) f t.changed (lines_up_to_folder lines) t.is)
after_folder (file_hash_line hash ∷ lines) done f all e =
    let t = last_of (folder_with_last_file_changed (file_with_hash hash)) done f lines all e in
    after_folder lines done t.changed all t.after
    ∙ ap (λ (h : ListedFolder). placed done h lines)
    (last_file_keeps (file_with_hash hash) (file_hash_line hash) (hash_keeps hash) (λ ls. refl) (λ ls. refl) (λ ls. refl) f t.changed (lines_up_to_folder lines) t.is)
after_folder (other_line ∷ lines) done f all e =
    after_folder lines done f all e ∙ ap (λ (h : ListedFolder). placed done h lines) (grown_past_other f (lines_up_to_folder lines))

from_none : (lines : List RecordLine) (all : List ListedFolder) → folders_after [] lines ≡ Some all → all ≡ folders_of_record_lines lines
unfolding folders_after
from_none [] all e = let same : [] ≡ all = cc in sym same
from_none (info_line g values ∷ lines) all e = from_none lines all e
from_none (folder_line name ∷ lines) all e =
    after_folder lines [] (listed_folder_from_parts name None []) all e
    ∙ ap (λ (h : ListedFolder). h ∷ folders_of_record_lines lines) (new_folder name (lines_up_to_folder lines))
from_none (folder_access_line a ∷ lines) all e = absurd cc
from_none (file_line name ∷ lines) all e = absurd cc
from_none (file_access_line a ∷ lines) all e = absurd cc
from_none (file_hash_line hash ∷ lines) all e = absurd cc
from_none (other_line ∷ lines) all e = from_none lines all e

-- ---- the folders of a record

same_meaning : (o : Option RecordLine) (l m : RecordLine) → o ≡ Some l → o ≡ Some m → m ≡ l
same_meaning o l m e f = let both : Some m ≡ Some l = sym f ∙ e in cc

folders_of_record : (lines : List (List ℕ)) (meanings : List RecordLine) (r s : Record) → map record_line_of lines ≡ map Some meanings → record_with_lines r lines ≡ Some s → folders_after r.folders meanings ≡ Some s.folders
unfolding folders_after
folders_of_record [] [] r s are e = let same : r ≡ s = cc in ap (λ (x : Record). Some x.folders) same
folders_of_record [] (l ∷ meanings) r s are e = absurd cc
folders_of_record (line ∷ lines) [] r s are e = absurd cc
folders_of_record (line ∷ lines) (l ∷ meanings) r s are e =
    let first : record_line_of line ≡ Some l = cc in
    let others : map record_line_of lines ≡ map Some meanings = cc in
    go (record_with_text_line r line) refl e first (λ next. folders_of_record lines meanings next s others)
  where
    go : (o : Option Record) → record_with_text_line r line ≡ o → option_and_then (λ next. record_with_lines next lines) o ≡ Some s → record_line_of line ≡ Some l
        → ((next : Record) → record_with_lines next lines ≡ Some s → folders_after next.folders meanings ≡ Some s.folders)
        → option_and_then (λ next. folders_after next meanings) (with_path_line l r.folders) ≡ Some s.folders
    go None is e first more = absurd cc
    go (Some next) is e first more =
        let a = accepted r next line is in
        ap (λ (m : RecordLine). option_and_then (λ next. folders_after next meanings) (with_path_line m r.folders)) (sym (same_meaning (record_line_of line) l a.meaning first a.means))
        ∙ ap (option_and_then (λ next. folders_after next meanings)) a.folders
        ∙ more next e

pub record_lists : (lines : List (List ℕ)) (meanings : List RecordLine) (r : Record) → map record_line_of lines ≡ map Some meanings → record_with_lines empty_record lines ≡ Some r → r.folders ≡ folders_of_record_lines meanings
record_lists lines meanings r are e = from_none meanings r.folders (folders_of_record lines meanings empty_record r are e)
