-- Files that leave room for a stage leave it after a change too.
use Rattle.std.proofs.Common.{◌≡◌, ◌⊎◌, inl, inr, ◌∙◌, ℕ, Bool, true, false, List, [], ◌∷◌, ◌++◌, get_or, codes, eqb, Option, Some, None, refl, sym, ap, subst, arith, true≢false}
use Rattle.std.specs.Prelude.{IsSome, not, ◌&&◌, ◌||◌, is_some, option_and_then}
use Rattle.std.specs.Str.{bytes_eq}
use Rattle.std.specs.List.{list_any}
use Rattle.std.specs.Fmt.{decimal}
use Rattle.std.proofs.lemmas.Bool.{and_parts, or_cases, or_left, or_right, false_from_ne_true}
use Rattle.std.proofs.lemmas.Slice.Eq.{bytes_eq-Decides}
use Rattle.db_core.specs.adb_schema.Reserved.{is_at_or_below, is_reserved}
use Rattle.base_core.specs.Files.{Files, IsFolderOf}
use Rattle.base_core.proofs.Rising.{IsIn}
use Rattle.package_changes.specs.own_core.FileChange.{FileChange}
use Rattle.package_changes.specs.own_core.FilesAfter.{DatabaseAndWorldAfter, bytes_after_write_or_removal, files_after_change, database_name, is_removed, listing_written_as_apk_new_beside, path_of_apk_new_name, text_database_name, world_name, listing_written_under_name, listing_written_in_place}
use Rattle.std.specs.Option.{option_or}
use Rattle.package_changes.specs.own_core.NamesAfter.{added_paths, counts_as_written, name_change}
use Rattle.package_changes.specs.own_core.PlanLists.{first_reserved_added_path_in_byte_order}
use Rattle.package_changes.specs.own_core.Touched.{is_old_or_new_database_or_world_name}
use Rattle.package_changes.proofs.own_core.AfterNames.{names_after}
use Rattle.package_changes.proofs.own_core.Reserved.{unreserved_path, written_unreserved}
use Rattle.package_changes.proofs.own_core.Untouched.{changed_so}
use Rattle.db_core.specs.Members.{Listing}
use Rattle.journal_core.specs.Staged.{AreIntentAndStagedPathsFree, HasEmptyStageAndFreeJournalPaths, HasNoStagedNames, IsPresentOrOfJournal}
use Rattle.journal_core.specs.journal_intent.FreeNames.{IsIntentNameOrNumberedStageName}
use Rattle.journal_core.specs.journal_intent.Intent.{intent_name, is_staged, stage_name}
use Rattle.package_changes.specs.path_clashes.Clash.{HasNoClash, is_present_after_change}
use Rattle.package_changes.proofs.path_clashes.FolderLike.{folder_like}
use Rattle.change_outcome.proofs.FreeNames.{name_of_any}

-- ---- folders of names that a stage takes

-- a folder of a text is one of its front, or has the whole front
cut : (front a b p rest : List ℕ) → front ++ a ≡ p ++ 47 ∷ rest
    → ((r : List ℕ) × (front ++ b ≡ p ++ 47 ∷ r)) ⊎ ((q : List ℕ) × (p ≡ front ++ q) × (a ≡ q ++ 47 ∷ rest))
cut [] a b p rest e = inr (p, refl, e)
cut (c ∷ cs) a b [] rest e = let slash : c ≡ 47 = cc in inl (cs ++ b, ap (λ (x : ℕ). x ∷ (cs ++ b)) slash)
cut (c ∷ cs) a b (x ∷ p) rest e =
    let same : c ≡ x = cc in
    let tail : cs ++ a ≡ p ++ 47 ∷ rest = cc in
    elim (cut cs a b p rest tail) [
      | inl found ↦ inl (found.0, ap (λ (y : ℕ). y ∷ (cs ++ b)) same ∙ ap (λ (ys : List ℕ). x ∷ ys) found.1)
      | inr found ↦ inr (found.0, ap (λ (y : ℕ). y ∷ p) (sym same) ∙ ap (λ (ys : List ℕ). c ∷ ys) found.1, found.2)
    ]

has_slash_at : (q rest : List ℕ) → list_any (λ b. eqb b 47) (q ++ 47 ∷ rest) ≡ true
has_slash_at [] rest = refl
has_slash_at (x ∷ q) rest = or_right (eqb x 47) (list_any (λ b. eqb b 47) (q ++ 47 ∷ rest)) (has_slash_at q rest)

no_slash : (text q rest : List ℕ) → list_any (λ b. eqb b 47) text ≡ false → text ≡ q ++ 47 ∷ rest → ⊥
no_slash text q rest none is = true≢false (sym (has_slash_at q rest) ∙ (ap (list_any (λ b. eqb b 47)) (sym is) ∙ none))

in_stage : (p q : List ℕ) (k : ℕ) (rest : List ℕ) → p ≡ codes "lib/apk/" ++ q → codes "stage" ++ (codes "/" ++ decimal k) ≡ q ++ 47 ∷ rest → is_reserved p ≡ true
in_stage p q k rest p_is e =
    elim (cut (codes "stage") (codes "/" ++ decimal k) [] q rest e) [
      | inl found ↦ absurd (no_slash (codes "stage") q found.0 refl found.1)
      | inr found ↦ behind found.0 found.1 found.2
    ]
  where
    behind : (t : List ℕ) → q ≡ codes "stage" ++ t → codes "/" ++ decimal k ≡ t ++ 47 ∷ rest → is_reserved p ≡ true
    behind [] q_is f = ap is_reserved (p_is ∙ ap (λ (x : List ℕ). codes "lib/apk/" ++ x) q_is)
    behind (x ∷ t) q_is f = let slash : 47 ≡ x = cc in ap is_reserved (p_is ∙ (ap (λ (y : List ℕ). codes "lib/apk/" ++ y) q_is ∙ ap (λ (y : ℕ). codes "lib/apk/" ++ (codes "stage" ++ y ∷ t)) (sym slash)))

pub above_taken : (p q : List ℕ) → IsIntentNameOrNumberedStageName q → IsFolderOf p q → IsFolderOf p database_name ⊎ (is_reserved p ≡ true)
above_taken p q (inl is) (rest, e) =
    elim (cut (codes "lib/apk/") (codes "intent") (codes "db/installed.adb") p rest (sym is ∙ e)) [
      | inl found ↦ inl found
      | inr found ↦ absurd (no_slash (codes "intent") found.0 rest refl found.2)
    ]
above_taken p q (inr (k, is)) (rest, e) =
    elim (cut (codes "lib/apk/") (codes "stage" ++ (codes "/" ++ decimal k)) (codes "db/installed.adb") p rest (sym is ∙ e)) [
      | inl found ↦ inl found
      | inr found ↦ inr (in_stage p found.0 k rest found.1 found.2)
    ]

pub below_taken : (p q : List ℕ) → IsIntentNameOrNumberedStageName p → IsFolderOf p q → is_reserved q ≡ true
below_taken p q (inl is) (rest, e) = ap is_reserved (e ∙ ap (λ (x : List ℕ). x ++ 47 ∷ rest) is)
below_taken p q (inr (k, is)) (rest, e) = ap is_reserved (e ∙ ap (λ (x : List ℕ). x ++ 47 ∷ rest) is) ∙ in_stage_folder k rest
  where
    in_stage_folder : (k : ℕ) (rest : List ℕ) → is_reserved (stage_name k ++ 47 ∷ rest) ≡ true
    in_stage_folder k rest = refl

-- ---- names that count as written

beside_written : (change : FileChange) (files : Files) (name : List ℕ) → is_some (option_and_then (listing_written_as_apk_new_beside change files) (path_of_apk_new_name name)) ≡ true → (l : Listing) × (listing_written_under_name change files name ≡ Some l)
unfolding listing_written_under_name
beside_written change files name there = by_both (listing_written_in_place change files name) (option_and_then (listing_written_as_apk_new_beside change files) (path_of_apk_new_name name)) there
  where
    by_both : (a b : Option Listing) → is_some b ≡ true → (l : Listing) × (option_or a b ≡ Some l)
    by_both None None e = absurd (true≢false (sym e))
    by_both None (Some l) e = (l, refl)
    by_both (Some l) b e = (l, refl)

-- the database, world, or a name that is not reserved
pub counted_is : (change : FileChange) (files : Files) (name : List ℕ) → first_reserved_added_path_in_byte_order change.members ≡ None → counts_as_written change files name ≡ true
    → (name ≡ database_name) ⊎ ((name ≡ world_name) ⊎ (is_reserved name ≡ false))
unfolding counts_as_written
counted_is change files name none counts =
    elim (or_cases (list_any (bytes_eq name) (database_name ∷ world_name ∷ added_paths change.members)) (is_some (option_and_then (listing_written_as_apk_new_beside change files) (path_of_apk_new_name name))) counts) [
      | inl listed ↦ by_place (name_of_any name (database_name ∷ world_name ∷ added_paths change.members) listed)
      | inr beside ↦ inr (inr (let l = beside_written change files name beside in written_unreserved change files name l.0 none l.1))
    ]
  where
    by_place : IsIn name (database_name ∷ world_name ∷ added_paths change.members) → (name ≡ database_name) ⊎ ((name ≡ world_name) ⊎ (is_reserved name ≡ false))
    by_place (inl is) = inl is
    by_place (inr (inl is)) = inr (inl is)
    by_place (inr (inr path)) = inr (inr (unreserved_path change name none path))

database_counts : (change : FileChange) (files : Files) → counts_as_written change files database_name ≡ true
unfolding counts_as_written
database_counts change files = refl

-- ---- apart by their bytes

database_no_folder : (q : List ℕ) → IsIntentNameOrNumberedStageName q → IsFolderOf database_name q → ⊥
database_no_folder q (inl is) (rest, e) = let same : 105 ≡ 100 = ap (λ (x : List ℕ). get_or x 8 0) (sym is ∙ e) in omega (arith, same)
database_no_folder q (inr (k, is)) (rest, e) = let same : 115 ≡ 100 = ap (λ (x : List ℕ). get_or x 8 0) (sym is ∙ e) in omega (arith, same)

world_no_folder : (q : List ℕ) → IsIntentNameOrNumberedStageName q → IsFolderOf world_name q → ⊥
world_no_folder q (inl is) (rest, e) = let same : 108 ≡ 101 = ap (λ (x : List ℕ). get_or x 0 0) (sym is ∙ e) in omega (arith, same)
world_no_folder q (inr (k, is)) (rest, e) = let same : 108 ≡ 101 = ap (λ (x : List ℕ). get_or x 0 0) (sym is ∙ e) in omega (arith, same)

no_folder_of_database : (p : List ℕ) → IsIntentNameOrNumberedStageName p → IsFolderOf p database_name → ⊥
no_folder_of_database p (inl is) (rest, e) = let same : 100 ≡ 105 = ap (λ (x : List ℕ). get_or x 8 0) (e ∙ ap (λ (x : List ℕ). x ++ 47 ∷ rest) is) in omega (arith, same)
no_folder_of_database p (inr (k, is)) (rest, e) = let same : 100 ≡ 115 = ap (λ (x : List ℕ). get_or x 8 0) (e ∙ ap (λ (x : List ℕ). x ++ 47 ∷ rest) is) in omega (arith, same)

no_folder_of_world : (p : List ℕ) → IsIntentNameOrNumberedStageName p → IsFolderOf p world_name → ⊥
no_folder_of_world p (inl is) (rest, e) = let same : 101 ≡ 108 = ap (λ (x : List ℕ). get_or x 0 0) (e ∙ ap (λ (x : List ℕ). x ++ 47 ∷ rest) is) in omega (arith, same)
no_folder_of_world p (inr (k, is)) (rest, e) = let same : 101 ≡ 108 = ap (λ (x : List ℕ). get_or x 0 0) (e ∙ ap (λ (x : List ℕ). x ++ 47 ∷ rest) is) in omega (arith, same)

-- ---- reserved names

staged_reserved : (q : List ℕ) → is_staged q ≡ true → is_reserved q ≡ true
staged_reserved q staged = third (is_at_or_below (codes "etc/apk/world") q) (is_at_or_below (codes "lib/apk/intent") q) (bytes_eq q (codes "lib/apk/stage")) (is_staged q) (is_at_or_below (codes "lib/apk/db") q) staged
  where
    third : (a b c d e : Bool) → d ≡ true → (a || (b || ((c || d) || (e || false)))) ≡ true
    third true b c d e t = refl
    third false true c d e t = refl
    third false false true d e t = refl
    third false false false true e t = refl
    third false false false false e t = absurd (true≢false (sym t))

-- a name of which a test is true that is false of the three is none of them
unlike_records : (test : List ℕ → Bool) (records : DatabaseAndWorldAfter) (q : List ℕ) → test database_name ≡ false → test world_name ≡ false → test text_database_name ≡ false → test q ≡ true → is_old_or_new_database_or_world_name records q ≡ false
unlike_records test records q database world text passes = false_from_ne_true (is_old_or_new_database_or_world_name records q) (λ is. by_name (or_cases (bytes_eq q database_name) (bytes_eq q world_name || (records.takes_text_over && bytes_eq q text_database_name)) is))
  where
    never : (name : List ℕ) → test name ≡ false → bytes_eq q name ≡ true → ⊥
    never name fails same = true≢false (sym passes ∙ (ap test ((bytes_eq-Decides q name).0 same) ∙ fails))

    by_name : (bytes_eq q database_name ≡ true) ⊎ ((bytes_eq q world_name || (records.takes_text_over && bytes_eq q text_database_name)) ≡ true) → ⊥
    by_name (inl same) = never database_name database same
    by_name (inr other) =
        elim (or_cases (bytes_eq q world_name) (records.takes_text_over && bytes_eq q text_database_name) other) [
          | inl same ↦ never world_name world same
          | inr both ↦ never text_database_name text (and_parts records.takes_text_over (bytes_eq q text_database_name) both).1
        ]

no_record : (records : DatabaseAndWorldAfter) (q : List ℕ) → is_staged q ≡ true → is_old_or_new_database_or_world_name records q ≡ false
no_record records q staged = unlike_records is_staged records q refl refl refl staged

intent_no_record : (records : DatabaseAndWorldAfter) → is_old_or_new_database_or_world_name records intent_name ≡ false
intent_no_record records = unlike_records (λ q. bytes_eq q intent_name) records intent_name refl refl refl refl

-- a reserved name that is absent stays so
module _ (change : FileChange) (bytes_of : Listing → List ℕ) (records : DatabaseAndWorldAfter) (files : Files) (none : first_reserved_added_path_in_byte_order change.members ≡ None) where
  unwritten : (q : List ℕ) → is_reserved q ≡ true → (o : Option Listing) → listing_written_under_name change files q ≡ o → o ≡ None
  unwritten q reserved None is = refl
  unwritten q reserved (Some l) is = absurd (true≢false (sym reserved ∙ written_unreserved change files q l none is))

  stays_absent : (b : Bool) (o : Option (List ℕ)) → o ≡ None → bytes_after_write_or_removal bytes_of None b o ≡ None
  stays_absent true o absent = refl
  stays_absent false o absent = absent

  reserved_absent : (q : List ℕ) → is_reserved q ≡ true → is_old_or_new_database_or_world_name records q ≡ false → files q ≡ None → files_after_change change bytes_of records files q ≡ None
  reserved_absent q reserved other absent =
      changed_so change bytes_of records files q other
      ∙ (ap (λ (o : Option Listing). bytes_after_write_or_removal bytes_of o (is_removed change files q) (files q)) (unwritten q reserved (listing_written_under_name change files q) refl)
      ∙ stays_absent (is_removed change files q) (files q) absent)

  pub no_intent : files intent_name ≡ None → files_after_change change bytes_of records files intent_name ≡ None
  no_intent absent = reserved_absent intent_name refl (intent_no_record records) absent

module _ (change : FileChange) (bytes_of : Listing → List ℕ) (records : DatabaseAndWorldAfter) (files : Files) (none : first_reserved_added_path_in_byte_order change.members ≡ None) (stage : HasEmptyStageAndFreeJournalPaths files) (apart : HasNoClash (name_change change files) files) where
  abbrev after : Files
  after = files_after_change change bytes_of records files

  abbrev is_after : List ℕ → Bool
  is_after = is_present_after_change (name_change change files) files

  -- a name after the change stands, or counts as written
  stands_or_counts : (q : List ℕ) → is_after q ≡ true → IsSome (files q) ⊎ (counts_as_written change files q ≡ true)
  stands_or_counts q there =
      elim (or_cases (is_some (files q) && not ((name_change change files).does_release q)) (counts_as_written change files q) there) [
        | inl present_files ↦ inl (and_parts (is_some (files q)) (not ((name_change change files).does_release q)) present_files).0
        | inr counts ↦ inr counts
      ]

  after_there : (q : List ℕ) → IsSome (after q) → is_after q ≡ true
  after_there q there = names_after change bytes_of records files q there

  no_folder : (p q : List ℕ) → IsFolderOf p q → IsSome (after p) → IsIntentNameOrNumberedStageName q → ⊥
  no_folder p q above there taken =
      elim (stands_or_counts p (after_there p there)) [
        | inl located ↦ stage.beside.folders p q above (inl located) (inr taken)
        | inr counts ↦ elim (counted_is change files p none counts) [
          | inl is ↦ database_no_folder q taken (subst (λ (x : List ℕ). IsFolderOf x q) is above)
          | inr (inl is) ↦ world_no_folder q taken (subst (λ (x : List ℕ). IsFolderOf x q) is above)
          | inr (inr unreserved) ↦ elim (above_taken p q taken above) [
            | inl database ↦ apart (record { path = p; other = database_name }) (record {
              folder = database;
              path_after = after_there p there;
              other_after = or_right (is_some (files database_name) && not ((name_change change files).does_release database_name)) (counts_as_written change files database_name) (database_counts change files);
              written = or_left (counts_as_written change files p) (counts_as_written change files database_name) counts;
            })
            | inr reserved ↦ true≢false (sym reserved ∙ unreserved)
          ]
        ]
      ]

  nothing_below : (p q : List ℕ) → IsFolderOf p q → IsIntentNameOrNumberedStageName p → IsSome (after q) → ⊥
  nothing_below p q above taken there =
      elim (stands_or_counts q (after_there q there)) [
        | inl located ↦ stage.beside.folders p q above (inr taken) (inl located)
        | inr counts ↦ elim (counted_is change files q none counts) [
          | inl is ↦ no_folder_of_database p taken (subst (λ (x : List ℕ). IsFolderOf p x) is above)
          | inr (inl is) ↦ no_folder_of_world p taken (subst (λ (x : List ℕ). IsFolderOf p x) is above)
          | inr (inr unreserved) ↦ true≢false (sym (below_taken p q taken above) ∙ unreserved)
        ]
      ]

  beside : AreIntentAndStagedPathsFree after
  beside = record { folders = apart_names }
    where
      apart_names : (p q : List ℕ) → IsFolderOf p q → IsPresentOrOfJournal after p → IsPresentOrOfJournal after q → ⊥
      apart_names p q above (inl there_p) (inl there_q) =
          folder_like (name_change change files) files after (λ a b over there_a there_b. stage.beside.folders a b over (inl there_a) (inl there_b)) apart after_there p q above there_p there_q
      apart_names p q above (inl there) (inr taken) = no_folder p q above there taken
      apart_names p q above (inr taken) (inl there) = nothing_below p q above taken there
      apart_names p q above (inr taken_p) (inr taken_q) = stage.beside.folders p q above (inr taken_p) (inr taken_q)

  empty : HasNoStagedNames after
  empty q staged = reserved_absent change bytes_of records files none q (staged_reserved q staged) (no_record records q staged) (stage.empty q staged)

  pub room : HasEmptyStageAndFreeJournalPaths after
  room = record { empty = empty; beside = beside }
