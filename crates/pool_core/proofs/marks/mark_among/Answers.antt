use Rattle.std.proofs.Common.{◌≡◌, ◌∙◌, ◌≤◌, ◌+◌, ◌++◌, ◌∷◌, [], List, ℕ, Bool, length, take, refl, sym, ap, subst, arith}
use Rattle.std.proofs.lemmas.List.{take_all, take_more}
use Rattle.dep_core.specs.Dependency.{Dependency}
use Rattle.dep_core.specs.Meets.{dependency}
use Rattle.option_ranks.specs.candidate_core.Candidates.{Candidate, offers_name}
use Rattle.pool_core.specs.Marks.{affects, with_mark_set_at}
use Rattle.option_ranks.specs.candidate_core.Options.{IsIn}
use Rattle.option_ranks.specs.candidate_core.Packages.{candidates_of_packages}
use Rattle.option_ranks.specs.candidate_core.VersionTexts.{source_text}
use Rattle.pool_core.proofs.MarksThroughTable.{length-marks_among, marks_among, marks_among-snoc, marks_at_offers}
use Rattle.option_ranks.proofs.candidate_core.OfferLists.{places_below}
use Rattle.option_ranks.proofs.candidate_core.Steps.{member_at}
use Rattle.pool_core.proofs.marks.mark_among.Goals as goal

pub loop-id-init : goal.loop-id-init
loop-id-init c = record {
  marks = refl;
  known = c.new-known.ensures (source_text c.args.packages.now.sources.items) (dependency c.args.entry.now);
}

pub mark_one-requires-clause-within : goal.mark_one-requires-clause-within
mark_one-requires-clause-within c =
    let cs : List Candidate = candidates_of_packages c.args.packages.now in
    let d : Dependency = dependency c.args.entry.now in
    let there = member_at c.args.ids.now c.loop-id.id-index c.id-item.result (omega arith) c.id-item.is in
    let below = places_below 0 (offers_name d.name) cs c.id-item.result (subst (λ (z : List ℕ). IsIn c.id-item.result z) c.requires.offers there) in
    omega (arith, below)

pub mark_one-requires-clause-each : goal.mark_one-requires-clause-each
mark_one-requires-clause-each c =
    let d : Dependency = dependency c.args.entry.now in
    ap length c.loop-id.invariant.marks ∙ (length-marks_among (affects c.args.effect d) (take c.loop-id.id-index c.args.ids.now) c.args.marks.now.items (candidates_of_packages c.args.packages.now) ∙ c.requires.each)

pub loop-id-preserved : goal.loop-id-preserved
loop-id-preserved c =
    let cs : List Candidate = candidates_of_packages c.args.packages.now in
    let d : Dependency = dependency c.args.entry.now in
    let ids : List ℕ = c.args.ids.now in
    let i : ℕ = c.loop-id.id-index in
    let id : ℕ = c.id-item.result in
    let more : take (i + 1) ids ≡ take i ids ++ id ∷ [] = take_more ids i id (omega arith) ∙ ap (λ (k : ℕ). take i ids ++ k ∷ []) (sym c.id-item.is) in
    record {
      marks = c.in_ok-mark_one.ensures.marks
          ∙ (ap (λ (ms : List Bool). with_mark_set_at (affects c.args.effect d) id ms cs) c.loop-id.invariant.marks
          ∙ (sym (marks_among-snoc (affects c.args.effect d) (take i ids) id c.args.marks.now.items cs)
          ∙ ap (λ (ks : List ℕ). marks_among (affects c.args.effect d) ks c.args.marks.now.items cs) (sym more)));
      known = c.in_ok-mark_one.ensures.known;
    }

pub returns : goal.returns
returns c =
    let cs : List Candidate = candidates_of_packages c.args.packages.now in
    let d : Dependency = dependency c.args.entry.now in
    let past : length c.args.ids.now ≤ c.loop-id.id-index = omega arith in
    c.loop-id.invariant.marks
    ∙ (ap (λ (ks : List ℕ). marks_among (affects c.args.effect d) ks c.args.marks.now.items cs) (take_all c.loop-id.id-index c.args.ids.now past ∙ c.requires.offers)
    ∙ marks_at_offers c.args.effect d c.args.marks.now.items cs c.requires.each)
