-- Names that are in order, each once, and what stands twice among them: nothing.
use Rattle.std.proofs.Common.{◌≡◌, ◌≢◌, ◌⊎◌, inl, inr, ℕ, suc, ◌+◌, List, [], ◌∷◌, map, Option, Some, None, AllPairs, refl, sym, ap, subst, ◌∙◌, arith}
use Rattle.std.specs.Ordering.{nat_cmp, ordering_reverse}
use Rattle.std.specs.Cmp.Lexicographic.{slice_cmp}
use Rattle.std.specs.List.{flat_map}
use Rattle.std.specs.declared.cmp.Ordering.{Ordering}
use Rattle.std.specs.declared.cmp.Ordering.TheVariants.{Less, Equal, Greater}
use Rattle.std.proofs.lemmas.Cmp.{nat_list_cmp_total}
use Rattle.std.proofs.lemmas.List.Concat.{flat_map-cons}
use Rattle.std.proofs.lemmas.List.{append-nil}
use Rattle.base_core.proofs.Listed.{at_index}
use Rattle.base_core.proofs.Rising.{not_itself}
use Rattle.adb_view.specs.Plain.{Plain}
use Rattle.adb_copy.specs.adb_fields.Pairs.{NameWithPosition}
use Rattle.adb_copy.specs.adb_fields.FirstPair.{IsLeastPairIfAny}
use Rattle.adb_copy.specs.adb_fields.FirstPair.{IsPairOfEqualNames}
use Rattle.adb_copy.specs.adb_fields.FirstPair.{IsIn}
use Rattle.adb_copy.specs.adb_fields.Repeated.{positions_of_file_repeated_in_a_folder, files_in, positions_of_folder_repeated_in_a_package, folders_in, name_of, numbered_from, repeated_fault, least_positions_of_name_twice_in_one_list}
use Rattle.adb_copy.specs.adb_fields.FirstPair.{ArePositionsOfNameTwiceInOneList}
use Rattle.adb_view.specs.declared.tables.Which.TheVariants.{Package}
use Rattle.package_files.specs.Folders.{sorted_folders_with_names_inserted, sorted_names_without_repeats, with_folder_inserted, with_folder_inserted_by_cmp_with_first}
use Rattle.package_files.specs.Package.{Script, SourceFileNameAndBytes, SourceFolder, value_of_file, value_of_folder, value_of_package, kind_of_file}
use Rattle.make_core.proofs.PackageFiles.{files_stand, folder_name_stands, folders_stand, name_stands}

abbrev pub cmp : List ℕ → List ℕ → Ordering
cmp = slice_cmp nat_cmp

-- each is less than all behind it
abbrev pub Rises : List (List ℕ) → Type 0
Rises [] = Unit {0}
Rises (x ∷ xs) = ((q : List ℕ) → IsIn q xs → cmp x q ≡ Less) × Rises xs

-- no name stands twice
abbrev pub IsApart : List (List ℕ) → Type 0
IsApart [] = Unit {0}
IsApart (x ∷ xs) = ((q : List ℕ) → IsIn q xs → x ≢ q) × IsApart xs

less_apart : (x y : List ℕ) → cmp x y ≡ Less → x ≢ y
less_apart x y e same = not_itself x (subst (λ (z : List ℕ). cmp x z ≡ Less) (sym same) e)

pub rises_apart : (xs : List (List ℕ)) → Rises xs → IsApart xs
rises_apart [] r = tt
rises_apart (x ∷ xs) r = (λ q here. less_apart x q (r.0 q here), rises_apart xs r.1)

pub rises_from_pairs : (xs : List (List ℕ)) → AllPairs (λ a b. cmp a b ≡ Less) xs → Rises xs
rises_from_pairs [] pairs = tt
rises_from_pairs (x ∷ xs) pairs = (
  λ q here. (let (i, lt, is) = at_index q xs here in subst (λ (z : List ℕ). cmp x z ≡ Less) is (pairs 0 (suc i) q (omega arith) (omega arith))),
  rises_from_pairs xs (λ i j d before below. pairs (suc i) (suc j) d (omega arith) (omega arith)),
)

-- ---- placed one by one

placed_in : (q name : List ℕ) (xs : List (List ℕ)) → IsIn q (with_folder_inserted name xs) → (q ≡ name) ⊎ IsIn q xs
placed_in q name [] h = h
placed_in q name (x ∷ xs) h = by_order (cmp name x) (placed_in q name xs) h
  where
    by_order : (o : Ordering) → (IsIn q (with_folder_inserted name xs) → (q ≡ name) ⊎ IsIn q xs) → IsIn q (with_folder_inserted_by_cmp_with_first o name x xs (with_folder_inserted name xs)) → (q ≡ name) ⊎ IsIn q (x ∷ xs)
    by_order Less further h = h
    by_order Equal further h = inr h
    by_order Greater further (inl is) = inr (inl is)
    by_order Greater further (inr more) = shift (further more)
      where
        shift : (q ≡ name) ⊎ IsIn q xs → (q ≡ name) ⊎ IsIn q (x ∷ xs)
        shift (inl is) = inl is
        shift (inr more) = inr (inr more)

below_placed : (x name : List ℕ) (xs : List (List ℕ)) → cmp x name ≡ Less → ((q : List ℕ) → IsIn q xs → cmp x q ≡ Less) → (q : List ℕ) → (q ≡ name) ⊎ IsIn q xs → cmp x q ≡ Less
below_placed x name xs less all q (inl is) = subst (λ (z : List ℕ). cmp x z ≡ Less) (sym is) less
below_placed x name xs less all q (inr here) = all q here

all_behind : (name x : List ℕ) (xs : List (List ℕ)) → cmp name x ≡ Less → ((q : List ℕ) → IsIn q xs → cmp x q ≡ Less) → (q : List ℕ) → IsIn q (x ∷ xs) → cmp name q ≡ Less
all_behind name x xs less all q (inl is) = subst (λ (z : List ℕ). cmp name z ≡ Less) (sym is) less
all_behind name x xs less all q (inr here) = nat_list_cmp_total.trans name x q less (all q here)

placed_rises : (name : List ℕ) (xs : List (List ℕ)) → Rises xs → Rises (with_folder_inserted name xs)
placed_rises name [] r = (λ q h. absurd h, tt)
placed_rises name (x ∷ xs) r = by_order (cmp name x) refl (placed_rises name xs r.1)
  where
    by_order : (o : Ordering) → cmp name x ≡ o → Rises (with_folder_inserted name xs) → Rises (with_folder_inserted_by_cmp_with_first o name x xs (with_folder_inserted name xs))
    by_order Less e further = (all_behind name x xs e r.0, r)
    by_order Equal e further = r
    by_order Greater e further = (λ q here. below_placed x name xs (nat_list_cmp_total.antisymm x name ∙ ap ordering_reverse e) r.0 q (placed_in q name xs here), further)

all_placed_rises : (so_far names : List (List ℕ)) → Rises so_far → Rises (sorted_folders_with_names_inserted so_far names)
all_placed_rises so_far [] r = r
all_placed_rises so_far (name ∷ names) r = all_placed_rises (with_folder_inserted name so_far) names (placed_rises name so_far r)

pub in_order_rises : (names : List (List ℕ)) → Rises (sorted_names_without_repeats names)
in_order_rises names = all_placed_rises [] names tt

either_in : (q name : List ℕ) (so_far names : List (List ℕ)) → IsIn q (with_folder_inserted name so_far) ⊎ IsIn q names → IsIn q so_far ⊎ IsIn q (name ∷ names)
either_in q name so_far names (inr here) = inr (inr here)
either_in q name so_far names (inl here) = shift (placed_in q name so_far here)
  where
    shift : (q ≡ name) ⊎ IsIn q so_far → IsIn q so_far ⊎ IsIn q (name ∷ names)
    shift (inl is) = inr (inl is)
    shift (inr more) = inl more

all_placed_in : (q : List ℕ) (so_far names : List (List ℕ)) → IsIn q (sorted_folders_with_names_inserted so_far names) → IsIn q so_far ⊎ IsIn q names
all_placed_in q so_far [] h = inl h
all_placed_in q so_far (name ∷ names) h = either_in q name so_far names (all_placed_in q (with_folder_inserted name so_far) names h)

right_in : (q : List ℕ) (names : List (List ℕ)) → IsIn q [] ⊎ IsIn q names → IsIn q names
right_in q names (inl h) = absurd h
right_in q names (inr h) = h

pub in_order_in : (q : List ℕ) (names : List (List ℕ)) → IsIn q (sorted_names_without_repeats names) → IsIn q names
in_order_in q names h = right_in q names (all_placed_in q [] names h)

-- ---- nothing stands twice

numbered_in : (n : ℕ) (names : List (List ℕ)) (m : NameWithPosition) → IsIn m (numbered_from n names) → IsIn m.name names
numbered_in n [] m h = absurd h
numbered_in n (x ∷ xs) m (inl is) = inl (ap (λ (k : NameWithPosition). k.name) is)
numbered_in n (x ∷ xs) m (inr h) = inr (numbered_in (n + 1) xs m h)

one_position : (n : ℕ) (names : List (List ℕ)) (a b : NameWithPosition) → IsApart names → IsIn a (numbered_from n names) → IsIn b (numbered_from n names) → a.name ≡ b.name → a.position ≡ b.position
one_position n [] a b apart h k e = absurd h
one_position n (x ∷ xs) a b apart (inl h) (inl k) e = ap (λ (m : NameWithPosition). m.position) (h ∙ sym k)
one_position n (x ∷ xs) a b apart (inl h) (inr k) e = absurd (apart.0 b.name (numbered_in (n + 1) xs b k) (sym (ap (λ (m : NameWithPosition). m.name) h) ∙ e))
one_position n (x ∷ xs) a b apart (inr h) (inl k) e = absurd (apart.0 a.name (numbered_in (n + 1) xs a h) (sym (ap (λ (m : NameWithPosition). m.name) k) ∙ sym e))
one_position n (x ∷ xs) a b apart (inr h) (inr k) e = one_position (n + 1) xs a b apart.1 h k e

no_pair : (names : List (List ℕ)) (p : _) → IsApart names → IsPairOfEqualNames (numbered_from 1 names) p → ⊥
no_pair names p apart pair =
    let same = one_position 1 names pair.one pair.other apart pair.one_in pair.other_in pair.alike in
    let first = pair.first in
    let second = pair.second in
    let rises = pair.rises in
    omega arith

abbrev pub Tells : Type 0
Tells = (lists : List (List (List ℕ))) → IsLeastPairIfAny (ArePositionsOfNameTwiceInOneList lists) (least_positions_of_name_twice_in_one_list lists)

none_by : (lists : List (List (List ℕ))) (o : Option _) → ((names : List (List ℕ)) → IsIn names lists → IsApart names) → IsLeastPairIfAny (ArePositionsOfNameTwiceInOneList lists) o → o ≡ None
none_by lists None apart told = refl
none_by lists (Some p) apart told = let one = told.is_one in absurd (no_pair one.names p (apart one.names one.names_in) one.is_pair)

none_twice : Tells → (lists : List (List (List ℕ))) → ((names : List (List ℕ)) → IsIn names lists → IsApart names) → least_positions_of_name_twice_in_one_list lists ≡ None
none_twice tells lists apart = none_by lists (least_positions_of_name_twice_in_one_list lists) apart (tells lists)

-- ---- in a package

abbrev pub source_names : List SourceFileNameAndBytes → List (List ℕ)
source_names files = map (λ (file : SourceFileNameAndBytes). file.name) files

abbrev pub folder_names_of : List SourceFolder → List (List ℕ)
folder_names_of folders = map (λ (folder : SourceFolder). folder.name) folders

abbrev pub AreApartFiles : List SourceFolder → Type 0
AreApartFiles [] = Unit {0}
AreApartFiles (folder ∷ folders) = IsApart (source_names folder.files) × AreApartFiles folders

names_of_files : (files : List SourceFileNameAndBytes) → map name_of (map value_of_file files) ≡ source_names files
names_of_files [] = refl
names_of_files (file ∷ files) = λ k. (name_stands file.name (kind_of_file file.bytes)) k ∷ (names_of_files files) k

names_of_folders : (folders : List SourceFolder) → map name_of (map value_of_folder folders) ≡ folder_names_of folders
names_of_folders [] = refl
names_of_folders (folder ∷ folders) = λ k. (folder_name_stands folder) k ∷ (names_of_folders folders) k

abbrev names_by_folder : List Plain → List (List (List ℕ))
names_by_folder folders = map (λ folder. map name_of (files_in folder)) folders

apart_by_folder : (folders : List SourceFolder) → AreApartFiles folders → (names : List (List ℕ)) → IsIn names (names_by_folder (map value_of_folder folders)) → IsApart names
apart_by_folder [] apart names h = absurd h
apart_by_folder (folder ∷ folders) apart names (inl is) =
    subst IsApart (sym (is ∙ (ap (map name_of) (files_stand folder) ∙ names_of_files folder.files))) apart.0
apart_by_folder (folder ∷ folders) apart names (inr h) = apart_by_folder folders apart.1 names h

module _ (info : Plain) (folders : List SourceFolder) (scripts : List Script) (triggers : List (List ℕ)) (priority : Option ℕ) where
  abbrev value : Plain
  value = value_of_package info folders scripts triggers priority

  folders_none : Tells → IsApart (folder_names_of folders) → positions_of_folder_repeated_in_a_package (value ∷ []) ≡ None
  folders_none tells apart = none_twice tells (map name_of (folders_in value) ∷ []) (λ names h. one names h)
    where
      one : (names : List (List ℕ)) → IsIn names (map name_of (folders_in value) ∷ []) → IsApart names
      one names (inl is) = subst IsApart (sym (is ∙ (ap (map name_of) (folders_stand info folders scripts triggers priority) ∙ names_of_folders folders))) apart
      one names (inr h) = absurd h

  files_none : Tells → AreApartFiles folders → positions_of_file_repeated_in_a_folder (value ∷ []) ≡ None
  files_none tells apart =
      let lists : List (List (List ℕ)) = names_by_folder (map value_of_folder folders) in
      let same : flat_map (λ (pkg : Plain). names_by_folder (folders_in pkg)) (value ∷ []) ≡ lists =
      flat_map-cons (λ (pkg : Plain). names_by_folder (folders_in pkg)) value []
      ∙ (append-nil (names_by_folder (folders_in value)) ∙ ap names_by_folder (folders_stand info folders scripts triggers priority)) in
      ap least_positions_of_name_twice_in_one_list same ∙ none_twice tells lists (apart_by_folder folders apart)

  pub package_once : Tells → IsApart (folder_names_of folders) → AreApartFiles folders → repeated_fault Package value ≡ None
  unfolding repeated_fault
  package_once tells folders_apart files_apart = rw (folders_none tells folders_apart, files_none tells files_apart) refl
