use Rattle.std.proofs.Common.{◌≡◌, ◌∙◌, ◌+◌, ◌++◌, ◌∷◌, [], List, ℕ, Bool, length, map, take, sym, ap, arith}
use Rattle.std.proofs.lemmas.List.{take_more}
use Rattle.dep_core.specs.Dependency.{Dependency}
use Rattle.dep_core.specs.Meets.{dependency}
use Rattle.option_ranks.specs.candidate_core.Candidates.{Candidate}
use Rattle.pool_core.specs.Marks.{affects, is_affected, with_marks_set}
use Rattle.option_ranks.specs.candidate_core.Packages.{candidates_of_packages}
use Rattle.pool_core.proofs.MarksThroughTable.{length-with_marks_set, map-snoc, no_entry, one_entry_more}
use Rattle.pool_core.proofs.marks.mark_affected.Goals as goal

pub loop-entry-init : goal.loop-entry-init
loop-entry-init c = sym (no_entry c.args.effect c.args.marks.now.items (candidates_of_packages c.args.packages.now))

pub mark_among-requires-clause-each : goal.mark_among-requires-clause-each
mark_among-requires-clause-each c =
    let before : List Dependency = map dependency (take c.loop-entry.entry-index c.args.entries.now) in
    ap length c.loop-entry.invariant ∙ (length-with_marks_set (is_affected c.args.effect before) c.args.marks.now.items (candidates_of_packages c.args.packages.now) ∙ c.requires.each)

pub loop-entry-preserved : goal.loop-entry-preserved
loop-entry-preserved c =
    let cs : List Candidate = candidates_of_packages c.args.packages.now in
    let ms : List Bool = c.args.marks.now.items in
    let i : ℕ = c.loop-entry.entry-index in
    let d : Dependency = dependency c.entry-item.result in
    let before : List Dependency = map dependency (take i c.args.entries.now) in
    let more : map dependency (take (i + 1) c.args.entries.now) ≡ before ++ d ∷ [] =
    ap (map dependency) (take_more c.args.entries.now i c.entry-item.result (omega arith)) ∙ (map-snoc dependency (take i c.args.entries.now) _ ∙ ap (λ (e : Dependency). before ++ e ∷ []) (sym (ap dependency c.entry-item.is))) in
    c.in_ok-mark_among.ensures
    ∙ (ap (λ (z : List Bool). with_marks_set (affects c.args.effect d) z cs) c.loop-entry.invariant
    ∙ (one_entry_more c.args.effect before d ms cs
    ∙ ap (λ (ds : List Dependency). with_marks_set (is_affected c.args.effect ds) ms cs) (sym more)))
