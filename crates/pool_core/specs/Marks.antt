-- Marks of candidates, one for each, and the effects of entries of world on candidates. The rules are
-- in `docs/selection.md`: "What there is to choose from" (*barred*), and "Which selection is taken",
-- key 1 of the table (pinned). Serves the contracts of `src/marks.rt`, which sets marks by one entry of
-- world after another. *is_barred_by_world* and *is_pinned* are about all entries.
use Rattle.std.specs.Prelude.{ℕ, zero, suc, Bool, false, ◌&&◌, ◌||◌, List, [], ◌∷◌}
use Rattle.std.specs.Option.{option_map_or}
use Rattle.std.specs.List.{list_any}
use Rattle.std.specs.Str.{bytes_eq}
use Rattle.dep_core.specs.Dependency.{Dependency}
use Rattle.pool_core.specs.declared.marks.Effect.{Effect}
use Rattle.pool_core.specs.declared.marks.Effect.TheVariants.{Bar, Pin}
use Rattle.option_ranks.specs.candidate_core.Candidates.{Candidate, meets_dependency}

-- whether an entry of world has this effect on a candidate. A conflict bars the candidates that meet it. An entry
-- with a tag pins the candidates that have its name and its tag
abbrev pub affects : Effect → Dependency → Candidate → Bool
affects Bar d c = d.conflict && meets_dependency d c
affects Pin d c =
    option_map_or (λ tag. bytes_eq c.name d.name && option_map_or (bytes_eq tag) d.tag false) c.tag
    false

-- whether one of these entries of world has this effect on a candidate
abbrev pub is_affected : Effect → List Dependency → Candidate → Bool
is_affected effect entries c = list_any (λ (d : Dependency). affects effect d c) entries

-- the marks, one for each candidate, after those of the candidates that pass the test were set. A mark that was set
-- stays set
abbrev pub with_marks_set : (Candidate → Bool) → List Bool → List Candidate → List Bool
with_marks_set test [] cs = []
with_marks_set test (m ∷ ms) [] = m ∷ ms
with_marks_set test (m ∷ ms) (c ∷ cs) = (m || test c) ∷ with_marks_set test ms cs

-- the marks, one for each candidate, after that of the candidate at a place was set if the candidate passes the test.
-- A mark that was set stays set
abbrev pub with_mark_set_at : (Candidate → Bool) → ℕ → List Bool → List Candidate → List Bool
with_mark_set_at test place [] cs = []
with_mark_set_at test place (m ∷ ms) [] = m ∷ ms
with_mark_set_at test zero (m ∷ ms) (c ∷ cs) = (m || test c) ∷ ms
with_mark_set_at test (suc place) (m ∷ ms) (c ∷ cs) = m ∷ with_mark_set_at test place ms cs
