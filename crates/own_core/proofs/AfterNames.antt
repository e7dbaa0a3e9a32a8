-- Each file after a change stands under one of the names after.
use Rattle.std.proofs.Common.{◌≡◌, inl, inr, ◌∙◌, ℕ, Bool, true, false, List, ◌∷◌, Option, Some, None, is_some, refl, ap, sym, subst, true≢false}
use Rattle.std.specs.Prelude.{not, ◌&&◌, ◌||◌, if◌then◌else◌, option_and_then}
use Rattle.std.specs.List.{list_any}
use Rattle.std.specs.Str.{bytes_eq}
use Rattle.std.proofs.lemmas.Bool.{and_from, false_from_ne_true, not_from_false, or_from, or_left, or_right}
use Rattle.base_core.specs.Files.{Files}
use Rattle.base_core.proofs.Rising.{IsIn}
use Rattle.base_core.proofs.AtName.{is_name}
use Rattle.file_owners.specs.db_core.Members.{Listing}
use Rattle.path_clashes.specs.Clash.{is_present_after_change}
use Rattle.own_core.specs.FileChange.{FileChange, is_listed_after_change, old_file_entry, was_listed}
use Rattle.own_core.specs.FilesAfter.{DatabaseAndWorldAfter, bytes_after_write_or_removal, files_after_change, database_name, is_left_over_modified_file_kept, is_removed, is_listing_written_under_name, listing_written_as_apk_new_beside, is_modified_config_to_keep, path_of_apk_new_name, text_database_name, new_world_bytes_unless_empty_and_absent, world_name, listing_written_under_name}
use Rattle.own_core.specs.NamesAfter.{added_paths, is_released, counts_as_written, name_change}
use Rattle.own_core.specs.Touched.{is_old_or_new_database_or_world_name}
use Rattle.own_core.proofs.Lists.{any_name}
use Rattle.own_core.proofs.OwnedFiles.{in_coming_paths, is_beside, written_is}
use Rattle.own_core.proofs.Untouched.{changed_so, is_gone}

-- ---- what counts as written

counted : (change : FileChange) (files : Files) (name : List ℕ) → counts_as_written change files name ≡ true → is_present_after_change (name_change change files) files name ≡ true
counted change files name written = or_right (is_some (files name) && not (is_released change files name)) (counts_as_written change files name) written

counts_path : (change : FileChange) (files : Files) (name : List ℕ) → IsIn name (database_name ∷ world_name ∷ added_paths change.members) → counts_as_written change files name ≡ true
unfolding counts_as_written
counts_path change files name among =
    or_left (list_any (bytes_eq name) (database_name ∷ world_name ∷ added_paths change.members)) (is_some (option_and_then (listing_written_as_apk_new_beside change files) (path_of_apk_new_name name)))
    (any_name name (database_name ∷ world_name ∷ added_paths change.members) among)

counts_beside : (change : FileChange) (files : Files) (name : List ℕ) → is_some (option_and_then (listing_written_as_apk_new_beside change files) (path_of_apk_new_name name)) ≡ true → counts_as_written change files name ≡ true
unfolding counts_as_written
counts_beside change files name beside =
    or_right (list_any (bytes_eq name) (database_name ∷ world_name ∷ added_paths change.members)) (is_some (option_and_then (listing_written_as_apk_new_beside change files) (path_of_apk_new_name name))) beside

counts_written : (change : FileChange) (files : Files) (name : List ℕ) (l : Listing) → listing_written_under_name change files name ≡ Some l → counts_as_written change files name ≡ true
counts_written change files name l e =
    let written = written_is change files name l e in
    elim written.under [
      | inl own ↦ counts_path change files name
          (inr (inr (subst (λ (q : List ℕ). IsIn q (added_paths change.members)) (sym own.0) (in_coming_paths change l.path l written.comes))))
      | inr beside ↦ counts_beside change files name
          (ap (λ (q : List ℕ). is_some (option_and_then (listing_written_as_apk_new_beside change files) (path_of_apk_new_name q))) beside.0
          ∙ (ap (λ (o : Option (List ℕ)). is_some (option_and_then (listing_written_as_apk_new_beside change files) o)) (is_beside l.path)
          ∙ ap is_some beside.1))
    ]

-- ---- what stays

gone_by : (listed claimed written may : Bool) → written ≡ false → (listed && not (claimed || ((listed && (not claimed && not written)) && may))) ≡ true
    → ((listed && (not claimed && not written)) && not may) ≡ true
gone_by false claimed written may w e = absurd (true≢false (sym e))
gone_by true true written may w e = absurd (true≢false (sym e))
gone_by true false true may w e = absurd (true≢false w)
gone_by true false false true w e = absurd (true≢false (sym e))
gone_by true false false false w e = refl

-- a name that is let go, and not written, is removed
let_go_removed : (change : FileChange) (files : Files) (name : List ℕ) → is_released change files name ≡ true → is_listing_written_under_name change files name ≡ false → is_removed change files name ≡ true
unfolding is_released is_left_over_modified_file_kept is_removed
let_go_removed change files name goes unwritten =
    gone_by (was_listed change name) (is_listed_after_change change name) (is_listing_written_under_name change files name) (is_modified_config_to_keep change name (files name) (old_file_entry change name)) unwritten goes

still_there : (change : FileChange) (bytes_of : Listing → List ℕ) (files : Files) (name : List ℕ) → is_listing_written_under_name change files name ≡ false → is_some (bytes_after_write_or_removal bytes_of None (is_removed change files name) (files name)) ≡ true
    → is_present_after_change (name_change change files) files name ≡ true
still_there change bytes_of files name unwritten there =
    or_left (is_some (files name) && not (is_released change files name)) (counts_as_written change files name) (by_removed (is_removed change files name) refl there)
  where
    by_removed : (b : Bool) → is_removed change files name ≡ b → is_some (bytes_after_write_or_removal bytes_of None b (files name)) ≡ true → (is_some (files name) && not (is_released change files name)) ≡ true
    by_removed true e there = absurd (true≢false (sym there))
    by_removed false e there =
        and_from (is_some (files name)) (not (is_released change files name)) there
        (not_from_false (is_released change files name)
        (false_from_ne_true (is_released change files name) (λ goes. true≢false (sym (let_go_removed change files name goes unwritten) ∙ e))))

by_written : (change : FileChange) (bytes_of : Listing → List ℕ) (files : Files) (name : List ℕ) → is_some (bytes_after_write_or_removal bytes_of (listing_written_under_name change files name) (is_removed change files name) (files name)) ≡ true
    → is_present_after_change (name_change change files) files name ≡ true
by_written change bytes_of files name there = by_listing (listing_written_under_name change files name) refl there
  where
    by_listing : (o : Option Listing) → listing_written_under_name change files name ≡ o → is_some (bytes_after_write_or_removal bytes_of o (is_removed change files name) (files name)) ≡ true → is_present_after_change (name_change change files) files name ≡ true
    by_listing None e there = still_there change bytes_of files name (ap is_some e) there
    by_listing (Some l) e there = counted change files name (counts_written change files name l e)

-- ---- all of them

-- a text database that was taken over is absent
text_gone : (change : FileChange) (bytes_of : Listing → List ℕ) (records : DatabaseAndWorldAfter) (files : Files) (name : List ℕ) → bytes_eq name database_name ≡ false → bytes_eq name world_name ≡ false
    → (records.takes_text_over && bytes_eq name text_database_name) ≡ true → files_after_change change bytes_of records files name ≡ None
unfolding files_after_change
text_gone change bytes_of records files name database world text =
    let after : Option (List ℕ) = bytes_after_write_or_removal bytes_of (listing_written_under_name change files name) (is_removed change files name) (files name) in
    ap (λ (b : Bool). if b then Some records.database else (if bytes_eq name world_name then new_world_bytes_unless_empty_and_absent records.world (files name) else (if records.takes_text_over && bytes_eq name text_database_name then None else after))) database
    ∙ (ap (λ (b : Bool). if b then new_world_bytes_unless_empty_and_absent records.world (files name) else (if records.takes_text_over && bytes_eq name text_database_name then None else after)) world
    ∙ ap (λ (b : Bool). if b then None else after) text)

pub names_after : (change : FileChange) (bytes_of : Listing → List ℕ) (records : DatabaseAndWorldAfter) (files : Files) (name : List ℕ) → is_some (files_after_change change bytes_of records files name) ≡ true
    → is_present_after_change (name_change change files) files name ≡ true
names_after change bytes_of records files name there = by_database (bytes_eq name database_name) refl
  where
    by_text : (b : Bool) → (records.takes_text_over && bytes_eq name text_database_name) ≡ b → bytes_eq name database_name ≡ false → bytes_eq name world_name ≡ false → is_present_after_change (name_change change files) files name ≡ true
    by_text true text database world = absurd (true≢false (sym there ∙ ap is_some (text_gone change bytes_of records files name database world text)))
    by_text false text database world =
        let other : is_old_or_new_database_or_world_name records name ≡ false =
        or_from (bytes_eq name database_name) (bytes_eq name world_name || (records.takes_text_over && bytes_eq name text_database_name)) database
        (or_from (bytes_eq name world_name) (records.takes_text_over && bytes_eq name text_database_name) world text) in
        by_written change bytes_of files name (sym (ap is_some (changed_so change bytes_of records files name other)) ∙ there)

    by_world : (b : Bool) → bytes_eq name world_name ≡ b → bytes_eq name database_name ≡ false → is_present_after_change (name_change change files) files name ≡ true
    by_world true world database = counted change files name (counts_path change files name (inr (inl (is_name name world_name world))))
    by_world false world database = by_text (records.takes_text_over && bytes_eq name text_database_name) refl database world

    by_database : (b : Bool) → bytes_eq name database_name ≡ b → is_present_after_change (name_change change files) files name ≡ true
    by_database true database = counted change files name (counts_path change files name (inl (is_name name database_name database)))
    by_database false database = by_world (bytes_eq name world_name) refl database

-- ---- what stands, and what is gone

let_go_by : (listed claimed written may : Bool) → ((listed && (not claimed && not written)) && not may) ≡ true
    → (listed && not (claimed || ((listed && (not claimed && not written)) && may))) ≡ true
let_go_by false claimed written may e = absurd (true≢false (sym e))
let_go_by true true written may e = absurd (true≢false (sym e))
let_go_by true false true may e = absurd (true≢false (sym e))
let_go_by true false false true e = absurd (true≢false (sym e))
let_go_by true false false false e = refl

removed_let_go : (change : FileChange) (files : Files) (name : List ℕ) → is_removed change files name ≡ true → is_released change files name ≡ true
unfolding is_released is_left_over_modified_file_kept is_removed
removed_let_go change files name removed =
    let_go_by (was_listed change name) (is_listed_after_change change name) (is_listing_written_under_name change files name) (is_modified_config_to_keep change name (files name) (old_file_entry change name)) removed

pub name_stands : (change : FileChange) (bytes_of : Listing → List ℕ) (records : DatabaseAndWorldAfter) (files : Files) (name : List ℕ) → is_some (files name) ≡ true → is_released change files name ≡ false → is_old_or_new_database_or_world_name records name ≡ false
    → is_some (files_after_change change bytes_of records files name) ≡ true
name_stands change bytes_of records files name there stays other = ap is_some (changed_so change bytes_of records files name other) ∙ by_listing (listing_written_under_name change files name)
  where
    unremoved : is_removed change files name ≡ false
    unremoved = false_from_ne_true (is_removed change files name) (λ removed. true≢false (sym (removed_let_go change files name removed) ∙ stays))

    by_listing : (o : Option Listing) → is_some (bytes_after_write_or_removal bytes_of o (is_removed change files name) (files name)) ≡ true
    by_listing (Some l) = refl
    by_listing None = ap (λ (b : Bool). is_some (bytes_after_write_or_removal bytes_of None b (files name))) unremoved ∙ there

pub name_goes : (change : FileChange) (bytes_of : Listing → List ℕ) (records : DatabaseAndWorldAfter) (files : Files) (name : List ℕ) → is_released change files name ≡ true → is_listing_written_under_name change files name ≡ false → is_old_or_new_database_or_world_name records name ≡ false
    → files_after_change change bytes_of records files name ≡ None
name_goes change bytes_of records files name goes unwritten other =
    is_gone change bytes_of records files name (let_go_removed change files name goes unwritten) other
