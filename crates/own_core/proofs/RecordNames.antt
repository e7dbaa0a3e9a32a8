-- What is under the names of the database, the world and a text database after a change.
use Rattle.std.proofs.Common.{◌≡◌, ◌≢◌, ◌⊎◌, inl, inr, ◌∙◌, ℕ, Bool, true, List, [], ◌∷◌, Option, Some, None, refl, ap, sym, true≢false}
use Rattle.std.specs.Prelude.{◌&&◌, if◌then◌else◌, IsSome}
use Rattle.std.specs.Str.{bytes_eq}
use Rattle.base_core.specs.Files.{Files}
use Rattle.file_owners.specs.db_core.Members.{Listing}
use Rattle.own_core.specs.FileChange.{FileChange}
use Rattle.own_core.specs.FilesAfter.{DatabaseAndWorldAfter, bytes_after_write_or_removal, files_after_change, database_name, is_removed, text_database_name, new_world_bytes_unless_empty_and_absent, world_name, listing_written_under_name}

pub database_after : (change : FileChange) (bytes_of : Listing → List ℕ) (records : DatabaseAndWorldAfter) (files : Files) → files_after_change change bytes_of records files database_name ≡ Some records.database
unfolding files_after_change
database_after change bytes_of records files = refl

world_written : (world : List ℕ) (old : Option (List ℕ)) → (world ≢ []) ⊎ IsSome old → new_world_bytes_unless_empty_and_absent world old ≡ Some world
world_written [] None (inl full) = absurd (full refl)
world_written [] None (inr there) = absurd (true≢false (sym there))
world_written [] (Some old) h = refl
world_written (b ∷ world) old h = refl

pub world_after : (change : FileChange) (bytes_of : Listing → List ℕ) (records : DatabaseAndWorldAfter) (files : Files) → (records.world ≢ []) ⊎ IsSome (files world_name)
    → files_after_change change bytes_of records files world_name ≡ Some records.world
unfolding files_after_change
world_after change bytes_of records files h = world_written records.world (files world_name) h

pub no_world_after : (change : FileChange) (bytes_of : Listing → List ℕ) (records : DatabaseAndWorldAfter) (files : Files) → records.world ≡ [] → files world_name ≡ None
    → files_after_change change bytes_of records files world_name ≡ None
unfolding files_after_change
no_world_after change bytes_of records files empty none =
    ap (λ (world : List ℕ). new_world_bytes_unless_empty_and_absent world (files world_name)) empty ∙ ap (new_world_bytes_unless_empty_and_absent []) none

pub no_text_after : (change : FileChange) (bytes_of : Listing → List ℕ) (records : DatabaseAndWorldAfter) (files : Files) → records.takes_text_over ≡ true
    → files_after_change change bytes_of records files text_database_name ≡ None
unfolding files_after_change
no_text_after change bytes_of records files taken =
    let after : Option (List ℕ) = bytes_after_write_or_removal bytes_of (listing_written_under_name change files text_database_name) (is_removed change files text_database_name) (files text_database_name) in
    ap (λ (b : Bool). if b && bytes_eq text_database_name text_database_name then None else after) taken
