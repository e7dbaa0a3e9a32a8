-- What a change writes, file by file.
use Rattle.std.proofs.Common.{◌≡◌, ◌∙◌, inl, inr, ◌+◌, ◌≤◌, ℕ, List, [], ◌∷◌, ◌++◌, All, Bor, Option, Some, None, length, map, take, take_all, refl, ap, sym, subst, append_assoc, arith}
use Rattle.std.specs.Prelude.{is_some, slice_get}
use Rattle.std.specs.Ordering.{on}
use Rattle.std.proofs.lemmas.List.{length-map}
use Rattle.change_report.specs.own_core.PlanLists.{FileWrite, sorted_distinct_names}
use Rattle.change_report.specs.change_outcome.ChangeOutcome.{name_if_needed}
use Rattle.change_report.specs.db_core.Members.{Member}
use Rattle.change_report.specs.journal_intent.FreeNames.{HaveNoRepeats}
use Rattle.base_core.specs.ByteOrder.{bytes_cmp}
use Rattle.base_core.specs.Sorted.{sorted_by}
use Rattle.base_core.proofs.Sorting.{Each}
use Rattle.change_report.specs.own_core.Planned.{written_names}
use Rattle.change_report.specs.own_core.WritesSeen.{writes_in}
use Rattle.change_report.specs.own_core.declared.planning.FilePlan.{FilePlan}
use Rattle.journal_staging.specs.declared.writes.StagedWrite.{StagedWrite}
use Rattle.engine_core.specs.Writing.{IsFileWrite, IsWriteOfRecord, IsSourceOfWrite, IsWriteOfChange, PackagesRead, database_and_world_names, record_writes, name_of_write}
use Rattle.engine_core.specs.declared.writes.RecordWrites.{RecordWrites}
use Rattle.engine_core.proofs.Elements.{all_each, contains_at, each_all, each_both, each_weaker, mapped_at}
use Rattle.engine_core.proofs.Lists.{map_both, map_more, take_next}
use Rattle.engine_core.proofs.Once.{each_sorted, names_sorted, once_ordered}

-- ---- the planned files

-- the first so many are added to others
abbrev pub Wrote : List Member → PackagesRead → FilePlan → List StagedWrite → ℕ → List StagedWrite → Type 0
Wrote members packages plan base i now =
    (files : List StagedWrite)
    × (now ≡ base ++ files)
    × (map name_of_write files ≡ take i (written_names plan))
    × Each (IsFileWrite members packages (writes_in plan.writes)) files

module _ (members : List Member) (packages : PackagesRead) (plan : FilePlan) (base : List StagedWrite) where
  pub none_wrote : Wrote members packages plan base 0 base
  none_wrote = ([], sym (nothing base), refl, tt)
    where
      nothing : (xs : List StagedWrite) → xs ++ [] ≡ xs
      nothing [] = refl
      nothing (x ∷ xs) = ap (λ l. x ∷ l) (nothing xs)

  pub one_wrote : (i : ℕ) (before after : List StagedWrite) (w : StagedWrite) (f : FileWrite)
      → after ≡ before ++ w ∷ [] → slice_get (writes_in plan.writes) i ≡ Some f → name_of_write w ≡ f.name → IsSourceOfWrite members packages f w.source
      → Wrote members packages plan base i before → Wrote members packages plan base (i + 1) after
  one_wrote i before after w f more at named source (files, is, names, each) = (
    files ++ w ∷ [],
    more ∙ ap (λ l. l ++ w ∷ []) is ∙ append_assoc base files (w ∷ []),
    map_more name_of_write files w ∙ ap (λ l. l ++ name_of_write w ∷ []) names ∙ ap (λ (n : List ℕ). take i (written_names plan) ++ n ∷ []) named
        ∙ sym (take_next (written_names plan) i f.name (mapped_at (λ (x : FileWrite). x.name) (writes_in plan.writes) i f at)),
    each_both (IsFileWrite members packages (writes_in plan.writes)) files (w ∷ []) each
        (record { file = f; planned_file = contains_at (writes_in plan.writes) i f at; named = named; source = source }, tt),
  )

  pub all_wrote : (i : ℕ) (now : List StagedWrite) → length (writes_in plan.writes) ≤ i → Wrote members packages plan base i now
      → (files : List StagedWrite) × (now ≡ base ++ files) × (map name_of_write files ≡ written_names plan) × All (IsFileWrite members packages (writes_in plan.writes)) files
  all_wrote i now past (files, is, names, each) = (
    files,
    is,
    names ∙ take_all i (written_names plan) (omega (arith, past, length-map (writes_in plan.writes) (λ (x : FileWrite). x.name))),
    each_all (IsFileWrite members packages (writes_in plan.writes)) files each,
  )

-- ---- the database and world

record_named : (name : Bor (List ℕ)) (bytes : Option (Bor (List ℕ))) → map name_of_write (record_writes name bytes) ≡ name_if_needed (is_some bytes) name.now
record_named name None = refl
record_named name (Some bytes) = refl

record_each : (Q : StagedWrite → Type 0) (name : Bor (List ℕ)) (bytes : Option (Bor (List ℕ))) → ((w : StagedWrite) → IsWriteOfRecord name.now bytes w → Q w) → Each Q (record_writes name bytes)
record_each Q name None each = tt
record_each Q name (Some bytes) each = (each _ (record { named = refl; source = refl }), tt)

-- ---- all of them

module _ (members : List Member) (packages : PackagesRead) (plan : FilePlan) (r : RecordWrites) where
  abbrev pub Gathered : List StagedWrite → Type 0
  Gathered items =
      (files : List StagedWrite)
      × (items ≡ (files ++ record_writes r.database_name r.database) ++ record_writes r.world_name r.world)
      × (map name_of_write files ≡ written_names plan)
      × All (IsFileWrite members packages (writes_in plan.writes)) files

  gathered_names : (items : List StagedWrite) → Gathered items → map name_of_write items ≡ written_names plan ++ database_and_world_names r
  gathered_names items (files, is, names, all) =
      let one = record_writes r.database_name r.database in
      let two = record_writes r.world_name r.world in
      ap (map name_of_write) is
      ∙ map_both name_of_write (files ++ one) two
      ∙ ap (λ l. l ++ map name_of_write two) (map_both name_of_write files one)
      ∙ append_assoc (map name_of_write files) (map name_of_write one) (map name_of_write two)
      ∙ ap (λ l. l ++ (map name_of_write one ++ map name_of_write two)) names
      ∙ ap (λ l. written_names plan ++ (l ++ map name_of_write two)) (record_named r.database_name r.database)
      ∙ ap (λ l. written_names plan ++ (name_if_needed (is_some r.database) r.database_name.now ++ l)) (record_named r.world_name r.world)

  pub names_gathered : (items sorted : List StagedWrite) → Gathered items → HaveNoRepeats (written_names plan ++ database_and_world_names r) → sorted ≡ sorted_by (on name_of_write bytes_cmp) items
      → map name_of_write sorted ≡ sorted_distinct_names (written_names plan ++ database_and_world_names r)
  names_gathered items sorted gathered once is =
      ap (map name_of_write) is ∙ names_sorted name_of_write items ∙ ap (sorted_by bytes_cmp) (gathered_names items gathered) ∙ once_ordered (written_names plan ++ database_and_world_names r) once

  pub each_gathered : (items sorted : List StagedWrite) → Gathered items → sorted ≡ sorted_by (on name_of_write bytes_cmp) items
      → All (IsWriteOfChange members packages (writes_in plan.writes) r) sorted
  each_gathered items sorted (files, is, names, all) sorts =
      let Q : StagedWrite → Type 0 = IsWriteOfChange members packages (writes_in plan.writes) r in
      let one = record_writes r.database_name r.database in
      let two = record_writes r.world_name r.world in
      let ours : Each Q files = each_weaker (IsFileWrite members packages (writes_in plan.writes)) Q (λ w h. inl h) files (all_each (IsFileWrite members packages (writes_in plan.writes)) files all) in
      let records : Each Q ((files ++ one) ++ two) =
      each_both Q (files ++ one) two (each_both Q files one ours (record_each Q r.database_name r.database (λ w h. inr (inl h)))) (record_each Q r.world_name r.world (λ w h. inr (inr h))) in
      each_all Q sorted (subst (Each Q) (sym sorts) (each_sorted (on name_of_write bytes_cmp) Q items (subst (Each Q) (sym is) records)))
