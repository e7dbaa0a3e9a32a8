-- The lists of a plan, given the files of a change divided by what is done with them (`Parts`).
-- No document has a rule for this: it serves the contract of `lists_of` in `src/planning.rt`; the parts
-- are those of `Parts`, and *ArePlanLists* of `Planned` defines the lists by the rule.
use Rattle.std.specs.Prelude.{◌≡◌, Bool, List, ◌++◌, map}
use Rattle.base_core.specs.Sorted.{sorted_by}
use Rattle.own_core.specs.Parts.{apk_new_claims_of, kept_claims_of, removed_claims_of, written_claims_of}
use Rattle.own_core.specs.WritesSeen.{apk_new_write, claim_write, write_cmp, writes_in}
use Rattle.own_core.specs.declared.planning.FilePlan.{FilePlan}
use Rattle.own_core.specs.declared.parts.Parts.{Parts}

-- the lists of the plan are the names of the files in `parts`, and its flags are `flags`. Only the writes are sorted,
-- since they join two lists of `parts`
pub record AreListsOfParts (parts : Parts) (flags : List Bool) (plan : FilePlan) : Type 0 where
  -- the removed names are the paths of the removed files
  pub removals : plan.removals ≡ map (λ c. c.path) (removed_claims_of parts)
  -- the writes are those of the files written under their own paths, and of the files written aside
  pub writes : writes_in plan.writes
      ≡ sorted_by write_cmp (map claim_write (written_claims_of parts)
      ++ map apk_new_write (apk_new_claims_of parts))
  -- the flags say of each listed file whether its package owns it
  pub owned : plan.owned ≡ flags
  -- the paths beside which a file is written aside
  pub aside : plan.aside ≡ map (λ c. c.path) (apk_new_claims_of parts)
  -- the paths of the kept files
  pub kept : plan.kept ≡ map (λ c. c.path) (kept_claims_of parts)
