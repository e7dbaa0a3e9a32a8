-- A change leads to the files that its definition says.
use Rattle.std.proofs.Common.{◌≡◌, ◌≢◌, ◌⊎◌, inl, inr, ◌∙◌, ◌<◌, ◌^◌, ℕ, suc, arith, Bool, true, false, List, [], ◌∷◌, length, Option, Some, None, refl, sym, ap, true≢false}
use Rattle.std.specs.Prelude.{IsSome, not, ◌&&◌, ◌||◌, ◌==◌, is_some}
use Rattle.std.specs.Str.{bytes_eq}
use Rattle.std.specs.List.{list_any}
use Rattle.std.proofs.lemmas.Bool.{eqb-true, and_parts, or_from, or_parts, false_from_ne_true, not-false}
use Rattle.std.proofs.lemmas.Slice.Eq.{bytes_eq-Decides}
use Rattle.db_core.specs.adb_schema.Reserved.{is_reserved}
use Rattle.base_core.specs.Files.{Files}
use Rattle.base_core.proofs.Rising.{IsIn}
use Rattle.base_core.proofs.Listed.{in_both}
use Rattle.base_core.proofs.AtName.{name_cases}
use Rattle.package_changes.specs.own_core.FileChange.{FileChange}
use Rattle.package_changes.specs.own_core.FilesAfter.{DatabaseAndWorldAfter, bytes_after_write_or_removal, files_after_change, database_name, is_removed, is_listing_written_under_name, text_database_name, new_world_bytes_unless_empty_and_absent, world_name, listing_written_under_name}
use Rattle.package_changes.specs.own_core.Touched.{is_old_or_new_database_or_world_name}
use Rattle.package_changes.proofs.own_core.InOrder.{in_left, in_right}
use Rattle.package_changes.proofs.own_core.RecordNames.{database_after, no_text_after, world_after}
use Rattle.package_changes.proofs.own_core.Reserved.{records_reserved}
use Rattle.package_changes.proofs.own_core.Untouched.{changed_so, is_gone, takes_its_path, not_some}
use Rattle.change_inputs.specs.Inputs.{Inputs}
use Rattle.change_inputs.specs.World.{found_text_or_empty}
use Rattle.change_outcome.specs.ChangeOutcome.{intent_of_change, has_actions, is_absent_or_different, name_if_needed, database_and_world_after_change, names_of_written_database_and_world}
use Rattle.db_core.specs.Members.{Listing}
use Rattle.journal_core.specs.Staged.{HasNoStagedNames}
use Rattle.journal_core.specs.journal_intent.FreeNames.{IsNoneOf, IsOneOf}
use Rattle.journal_core.specs.journal_intent.Intent.{Intent}
use Rattle.change_outcome.specs.Leading.{CanStageActionsLeadingToFiles}
use Rattle.change_outcome.specs.Premises.{OldAndAddedPackagesListNoReservedPath, AreDatabaseAndWorldReadFromFiles}
use Rattle.change_outcome.proofs.ActionNames.{free_names, from_removals, from_writes, if_needed, needed, none_removed, none_written, removed_free, written_free}

some_there : (o : Option (List ℕ)) (bytes : List ℕ) → o ≡ Some bytes → IsSome o
some_there o bytes is = ap is_some is

-- a file that is not written again has these bytes
same_file : (o : Option (List ℕ)) (bytes : List ℕ) → is_absent_or_different o bytes ≡ false → o ≡ Some bytes
same_file None bytes e = absurd (true≢false e)
same_file (Some old) bytes e = ap (λ (b : List ℕ). Some b) ((bytes_eq-Decides old bytes).0 (not-false (bytes_eq old bytes) e))

-- so has world
same_world : (o : Option (List ℕ)) (world : List ℕ) → found_text_or_empty o ≡ world → new_world_bytes_unless_empty_and_absent world o ≡ o
same_world None [] e = refl
same_world None (b ∷ world) e = absurd (cc (e))
same_world (Some old) [] e = ap (λ (b : List ℕ). Some b) (sym e)
same_world (Some old) (b ∷ world) e = ap (λ (b : List ℕ). Some b) (sym e)

-- and one that is written has something to say, or was there
other_world : (o : Option (List ℕ)) (world text : List ℕ) → text ≡ found_text_or_empty o → not (bytes_eq text world) ≡ true → (world ≢ []) ⊎ IsSome o
other_world None [] text is other = absurd (true≢false (sym other ∙ ap (λ (t : List ℕ). not (bytes_eq t [])) is))
other_world None (b ∷ world) text is other = inl (λ e. cc (e))
other_world (Some old) world text is other = inr refl

module _ (inputs : Inputs) (change : FileChange) (bytes_of : Listing → List ℕ) (database : List ℕ) (files : Files) (root : AreDatabaseAndWorldReadFromFiles files inputs.root) where
  abbrev records : DatabaseAndWorldAfter
  records = database_and_world_after_change inputs database

  abbrev actions : Intent
  actions = intent_of_change inputs change files records

  abbrev database_write : List (List ℕ)
  database_write = name_if_needed (is_absent_or_different inputs.root.database.file records.database) database_name

  abbrev world_write : List (List ℕ)
  world_write = name_if_needed (not (bytes_eq inputs.root.world_text records.world)) world_name

  abbrev after : Files
  after = files_after_change change bytes_of records files

  -- ---- all else stays

  kept_database : (q : List ℕ) → (IsIn q (names_of_written_database_and_world inputs records) → ⊥) → q ≡ database_name → after q ≡ files q
  kept_database q none is =
      ap after is ∙ (database_after change bytes_of records files
      ∙ (sym (sym root.database ∙ same_file inputs.root.database.file records.database (false_from_ne_true (is_absent_or_different inputs.root.database.file records.database) (λ other. none (in_left q database_write world_write (if_needed (is_absent_or_different inputs.root.database.file records.database) database_name q is other)))))
      ∙ sym (ap files is)))

  world_by : after world_name ≡ new_world_bytes_unless_empty_and_absent records.world (files world_name)
  unfolding files_after_change
  world_by = refl

  kept_world : (q : List ℕ) → (IsIn q (names_of_written_database_and_world inputs records) → ⊥) → q ≡ world_name → after q ≡ files q
  kept_world q none is =
      ap after is ∙ (world_by
      ∙ (same_world (files world_name) records.world (sym root.world ∙ (bytes_eq-Decides inputs.root.world_text records.world).0 (same (bytes_eq inputs.root.world_text records.world) refl))
      ∙ sym (ap files is)))
    where
      same : (b : Bool) → bytes_eq inputs.root.world_text records.world ≡ b → b ≡ true
      same true e = refl
      same false e = absurd (none (in_right q database_write world_write (if_needed (not (bytes_eq inputs.root.world_text records.world)) world_name q is (ap not e))))

  kept_other : (q : List ℕ) → is_old_or_new_database_or_world_name records q ≡ false → is_listing_written_under_name change files q ≡ false → is_removed change files q ≡ false → after q ≡ files q
  kept_other q other unwritten stays =
      changed_so change bytes_of records files q other
      ∙ (ap (λ (o : Option Listing). bytes_after_write_or_removal bytes_of o (is_removed change files q) (files q)) (not_some (listing_written_under_name change files q) unwritten)
      ∙ ap (λ (b : Bool). bytes_after_write_or_removal bytes_of None b (files q)) stays)

  kept_by : (q : List ℕ) → (q ≡ text_database_name → records.takes_text_over ≡ true → ⊥) → bytes_eq q database_name ≡ false → bytes_eq q world_name ≡ false → is_old_or_new_database_or_world_name records q ≡ false
  kept_by q no_text database world =
      or_from (bytes_eq q database_name) (bytes_eq q world_name || (records.takes_text_over && bytes_eq q text_database_name)) database
      (or_from (bytes_eq q world_name) (records.takes_text_over && bytes_eq q text_database_name) world
      (false_from_ne_true (records.takes_text_over && bytes_eq q text_database_name) (λ both.
      (let parts = and_parts records.takes_text_over (bytes_eq q text_database_name) both in no_text ((bytes_eq-Decides q text_database_name).0 parts.1) parts.0))))

  pub keeps : (q : List ℕ) → IsNoneOf q actions.removals → IsNoneOf q actions.writes → after q ≡ files q
  keeps q stays unwritten =
      let gone = none_removed inputs change files records q stays in
      let wrote = none_written inputs change files records q unwritten in
      elim (name_cases q database_name) [
        | inl is ↦ kept_database q wrote.1 is
        | inr no_database ↦ elim (name_cases q world_name) [
          | inl is ↦ kept_world q wrote.1 is
          | inr no_world ↦ kept_other q (kept_by q gone.1 no_database no_world) wrote.0 gone.0
        ]
      ]

  -- ---- a change that does nothing

  no_names : (names : List (List ℕ)) → not (length names == 0) ≡ false → names ≡ []
  no_names [] e = refl
  no_names (x ∷ xs) e = absurd (let none : suc (length xs) ≡ 0 = eqb-true (suc (length xs)) 0 (not-false (suc (length xs) == 0) e) in omega (arith, none))

  pub does_nothing : has_actions actions ≡ false → after ≡ files
  does_nothing nothing i q =
      let parts = or_parts (not (length actions.removals == 0)) (not (length actions.writes == 0)) nothing in
      keeps q (ap (λ (names : List (List ℕ)). list_any (bytes_eq q) names) (no_names actions.removals parts.0)) (ap (λ (names : List (List ℕ)). list_any (bytes_eq q) names) (no_names actions.writes parts.1)) i

  module _ (free : OldAndAddedPackagesListNoReservedPath change) where
    unreserved_no_record : (q : List ℕ) → is_reserved q ≡ false → is_old_or_new_database_or_world_name records q ≡ false
    unreserved_no_record q unreserved = false_from_ne_true (is_old_or_new_database_or_world_name records q) (λ is. true≢false (sym (records_reserved records q is) ∙ unreserved))

    -- ---- what is written is there

    written_there : (q : List ℕ) → is_listing_written_under_name change files q ≡ true → IsSome (after q)
    written_there q written = by_listing (listing_written_under_name change files q) refl written
      where
        by_listing : (o : Option Listing) → listing_written_under_name change files q ≡ o → is_some o ≡ true → IsSome (after q)
        by_listing None is e = absurd (true≢false (sym e))
        by_listing (Some l) is e =
            some_there (after q) (bytes_of l) (takes_its_path change bytes_of records files q l is (unreserved_no_record q (written_free inputs change files records free q written)))

    record_there : (q : List ℕ) → IsIn q (names_of_written_database_and_world inputs records) → IsSome (after q)
    record_there q here =
        elim (in_both q database_write world_write here) [
          | inl own ↦ (let is = needed (is_absent_or_different inputs.root.database.file records.database) database_name q own in some_there (after q) records.database (ap after is.0 ∙ database_after change bytes_of records files))
          | inr own ↦ (let is = needed (not (bytes_eq inputs.root.world_text records.world)) world_name q own in
              some_there (after q) records.world (ap after is.0 ∙ world_after change bytes_of records files (other_world (files world_name) records.world inputs.root.world_text root.world is.1)))
        ]

    pub gives : (q : List ℕ) → IsOneOf q actions.writes → IsSome (after q)
    gives q among = elim (from_writes inputs change files records q among) [ inl written ↦ written_there q written | inr own ↦ record_there q own ]

    -- ---- what is removed is absent

    pub removes : (q : List ℕ) → IsOneOf q actions.removals → after q ≡ None
    removes q among =
        elim (from_removals inputs change files records q among) [
          | inl removed ↦ is_gone change bytes_of records files q removed (unreserved_no_record q (removed_free inputs change files records free q removed))
          | inr text ↦ ap after text.0 ∙ no_text_after change bytes_of records files text.1
        ]

    pub leads : HasNoStagedNames files → length actions.writes < 2 ^ 63 → CanStageActionsLeadingToFiles actions.removals actions.writes files after
    leads empty few = record {
      free = free_names inputs change files records free;
      few = few;
      empty = empty;
      gives = gives;
      removes = removes;
      keeps = keeps;
    }
