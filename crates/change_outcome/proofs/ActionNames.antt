-- The names that a change removes and writes.
use Rattle.std.proofs.Common.{◌≡◌, ◌⊎◌, inl, inr, ◌∙◌, ℕ, Bool, true, false, List, ◌++◌, map, refl, sym, ap, true≢false}
use Rattle.std.specs.Prelude.{not}
use Rattle.std.specs.Str.{bytes_eq}
use Rattle.std.proofs.lemmas.Bool.{false_from_ne_true}
use Rattle.std.proofs.lemmas.Slice.Eq.{bytes_eq-Decides}
use Rattle.db_core.specs.adb_schema.Reserved.{is_intent_or_stage_name, is_reserved}
use Rattle.base_core.specs.Files.{Files}
use Rattle.base_core.proofs.Rising.{IsIn, contains_from_in, in_from_contains}
use Rattle.base_core.proofs.Listed.{in_both}
use Rattle.package_changes.specs.own_core.FileChange.{FileChange}
use Rattle.package_changes.specs.own_core.FilesAfter.{DatabaseAndWorldAfter, database_name, is_removed, is_listing_written_under_name, text_database_name, world_name, listing_written_under_name}
use Rattle.package_changes.specs.own_core.PlanLists.{removals_of, file_writes_of}
use Rattle.package_changes.proofs.own_core.InOrder.{from_order, in_left, in_order, in_right, order_rises}
use Rattle.package_changes.proofs.own_core.LeftOver.{removed_unreserved}
use Rattle.package_changes.proofs.own_core.Lists.{any_name}
use Rattle.package_changes.proofs.own_core.PlanNames.{removals_hold, written_or_removed, writes_hold, some_listing}
use Rattle.package_changes.proofs.own_core.Reserved.{written_unreserved}
use Rattle.change_inputs.specs.Inputs.{Inputs}
use Rattle.change_outcome.specs.ChangeOutcome.{intent_of_change, is_absent_or_different, name_if_needed, names_of_written_database_and_world}
use Rattle.journal_core.specs.journal_intent.FreeNames.{HasFreeNamesAndUnrepeatedWrites, IsNoneOf, IsOneOf}
use Rattle.journal_core.specs.journal_intent.Intent.{Intent}
use Rattle.journal_core.specs.journal_intent.IntentValue.{intent_of_lists}
use Rattle.change_outcome.specs.Premises.{OldAndAddedPackagesListNoReservedPath}
use Rattle.change_outcome.proofs.FreeNames.{free_outside, frees, name_of_any, none_of, once_rising, outside_unreserved}

pub needed : (b : Bool) (name q : List ℕ) → IsIn q (name_if_needed b name) → (q ≡ name) × (b ≡ true)
needed true name q (inl is) = (is, refl)
needed true name q (inr none) = absurd none
needed false name q none = absurd none

pub if_needed : (b : Bool) (name q : List ℕ) → q ≡ name → b ≡ true → IsIn q (name_if_needed b name)
if_needed true name q is t = inl is
if_needed false name q is t = absurd (true≢false (sym t))

not_in : (q : List ℕ) (names : List (List ℕ)) → IsNoneOf q names → IsIn q names → ⊥
not_in q names none here = true≢false (sym (any_name q names here) ∙ none)

module _ (inputs : Inputs) (change : FileChange) (files : Files) (records : DatabaseAndWorldAfter) where
  abbrev actions : Intent
  actions = intent_of_change inputs change files records

  abbrev plan_writes : List (List ℕ)
  plan_writes = map (λ w. w.name) (file_writes_of change files)

  abbrev database_write : List (List ℕ)
  database_write = name_if_needed (is_absent_or_different inputs.root.database.file records.database) database_name

  abbrev world_write : List (List ℕ)
  world_write = name_if_needed (not (bytes_eq inputs.root.world_text records.world)) world_name

  abbrev own_writes : List (List ℕ)
  own_writes = names_of_written_database_and_world inputs records

  abbrev text_removal : List (List ℕ)
  text_removal = name_if_needed records.takes_text_over text_database_name

  -- ---- what is written

  pub from_writes : (q : List ℕ) → IsOneOf q actions.writes → (is_listing_written_under_name change files q ≡ true) ⊎ IsIn q own_writes
  from_writes q among =
      elim (in_both q plan_writes own_writes (from_order q (plan_writes ++ own_writes) (name_of_any q actions.writes among))) [
        | inl here ↦ inl ((writes_hold change files q).0 (contains_from_in plan_writes q here))
        | inr here ↦ inr here
      ]

  pub none_written : (q : List ℕ) → IsNoneOf q actions.writes → (is_listing_written_under_name change files q ≡ false) × (IsIn q own_writes → ⊥)
  none_written q none = (
    false_from_ne_true (is_listing_written_under_name change files q) (λ written.
        not_in q actions.writes none (in_order q (plan_writes ++ own_writes) (in_left q plan_writes own_writes (in_from_contains plan_writes q ((writes_hold change files q).1 written))))),
    λ here. not_in q actions.writes none (in_order q (plan_writes ++ own_writes) (in_right q plan_writes own_writes here)),
  )

  -- ---- what is removed

  pub from_removals : (q : List ℕ) → IsOneOf q actions.removals → (is_removed change files q ≡ true) ⊎ ((q ≡ text_database_name) × (records.takes_text_over ≡ true))
  from_removals q among =
      elim (in_both q (removals_of change files) text_removal (from_order q (removals_of change files ++ text_removal) (name_of_any q actions.removals among))) [
        | inl here ↦ inl ((removals_hold change files q).0 (contains_from_in (removals_of change files) q here))
        | inr here ↦ inr (needed records.takes_text_over text_database_name q here)
      ]

  pub none_removed : (q : List ℕ) → IsNoneOf q actions.removals → (is_removed change files q ≡ false) × (q ≡ text_database_name → records.takes_text_over ≡ true → ⊥)
  none_removed q none = (
    false_from_ne_true (is_removed change files q) (λ removed.
        not_in q actions.removals none (in_order q (removals_of change files ++ text_removal) (in_left q (removals_of change files) text_removal (in_from_contains (removals_of change files) q ((removals_hold change files q).1 removed))))),
    λ is taken. not_in q actions.removals none (in_order q (removals_of change files ++ text_removal) (in_right q (removals_of change files) text_removal (if_needed records.takes_text_over text_database_name q is taken))),
  )

  -- ---- they are free, and each stands once

  pub database_and_world_names : (q : List ℕ) → IsIn q own_writes → (q ≡ database_name) ⊎ (q ≡ world_name)
  database_and_world_names q here =
      elim (in_both q database_write world_write here) [
        | inl database ↦ inl (needed (is_absent_or_different inputs.root.database.file records.database) database_name q database).0
        | inr world ↦ inr (needed (not (bytes_eq inputs.root.world_text records.world)) world_name q world).0
      ]

  module _ (free : OldAndAddedPackagesListNoReservedPath change) where
    pub written_free : (q : List ℕ) → is_listing_written_under_name change files q ≡ true → is_reserved q ≡ false
    written_free q written = let l = some_listing (listing_written_under_name change files q) written in written_unreserved change files q l.0 free.coming l.1

    pub removed_free : (q : List ℕ) → is_removed change files q ≡ true → is_reserved q ≡ false
    removed_free q removed = removed_unreserved change files q free.before removed

    record_outside : (q : List ℕ) → (q ≡ database_name) ⊎ (q ≡ world_name) → is_intent_or_stage_name q ≡ false
    record_outside q (inl is) = ap is_intent_or_stage_name is
    record_outside q (inr is) = ap is_intent_or_stage_name is

    pub write_outside : (q : List ℕ) → IsOneOf q actions.writes → is_intent_or_stage_name q ≡ false
    write_outside q among =
        elim (from_writes q among) [ inl written ↦ outside_unreserved q (written_free q written) | inr own ↦ record_outside q (database_and_world_names q own) ]

    pub removal_outside : (q : List ℕ) → IsOneOf q actions.removals → is_intent_or_stage_name q ≡ false
    removal_outside q among =
        elim (from_removals q among) [ inl removed ↦ outside_unreserved q (removed_free q removed) | inr text ↦ ap is_intent_or_stage_name text.0 ]

    not_removed : (q : List ℕ) → (q ≡ database_name) ⊎ (q ≡ world_name) → IsOneOf q actions.removals → ⊥
    not_removed q (inl is) among =
        elim (from_removals q among) [
          | inl removed ↦ true≢false (sym (ap is_reserved is) ∙ removed_free q removed)
          | inr text ↦ true≢false (sym ((bytes_eq-Decides database_name text_database_name).1 (sym is ∙ text.0)))
        ]
    not_removed q (inr is) among =
        elim (from_removals q among) [
          | inl removed ↦ true≢false (sym (ap is_reserved is) ∙ removed_free q removed)
          | inr text ↦ true≢false (sym ((bytes_eq-Decides world_name text_database_name).1 (sym is ∙ text.0)))
        ]

    pub never_both : (q : List ℕ) → IsOneOf q actions.writes → IsOneOf q actions.removals → ⊥
    never_both q wrote gone =
        elim (from_writes q wrote) [
          | inl written ↦ elim (from_removals q gone) [
            | inl removed ↦ written_or_removed change files q written removed
            | inr text ↦ true≢false (sym (ap is_reserved text.0) ∙ written_free q written)
          ]
          | inr own ↦ not_removed q (database_and_world_names q own) gone
        ]

    pub free_names : HasFreeNamesAndUnrepeatedWrites (intent_of_lists actions.removals actions.writes)
    free_names = record {
      removals = frees actions.removals (λ q at. free_outside q (removal_outside q (any_name q actions.removals at)));
      writes = frees actions.writes (λ q at. free_outside q (write_outside q (any_name q actions.writes at)));
      once = once_rising actions.writes (order_rises (plan_writes ++ own_writes));
      apart = λ q wrote. none_of q actions.removals (λ gone. never_both q wrote (any_name q actions.removals gone));
    }
