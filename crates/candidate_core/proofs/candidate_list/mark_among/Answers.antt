use Rattle.std.proofs.Common.{◌≡◌, ◌∙◌, ◌≤◌, ◌+◌, ◌++◌, ◌∷◌, [], List, ℕ, Bool, length, take, sym, ap, subst, arith}
use Rattle.std.specs.Prelude.{◌||◌}
use Rattle.std.specs.List.{list_any}
use Rattle.std.proofs.lemmas.List.{take_all, take_more}
use Rattle.candidate_core.specs.Candidates.{Candidate, offers_name}
use Rattle.candidate_core.specs.CandidateList.{is_installed_package_at, marked_installed_if_same_at}
use Rattle.candidate_core.specs.Options.{IsIn}
use Rattle.candidate_core.specs.Packages.{candidates_of_packages}
use Rattle.candidate_core.proofs.Installed.{any_same, length-marked_among, marked_all, marked_among, marked_more, same_among_still}
use Rattle.candidate_core.proofs.OfferLists.{places_below}
use Rattle.candidate_core.proofs.Steps.{any_snoc, member_at}
use Rattle.candidate_core.proofs.candidate_list.mark_among.Goals as goal

pub mark_one-found-requires : goal.mark_one-found-requires
mark_one-found-requires c =
    let cs : List Candidate = candidates_of_packages c.args.packages.now in
    let installed : Candidate = c.args.installed.now in
    let there = member_at c.args.ids.now c.loop-id.id-index c.id-item.result (omega arith) c.id-item.is in
    let below = places_below 0 (offers_name installed.name) cs c.id-item.result (subst (λ (z : List ℕ). IsIn c.id-item.result z) c.requires there) in
    let same : length (candidates_of_packages c.loop-id.packages) ≡ length cs = ap length c.loop-id.invariant.0 ∙ length-marked_among installed (take c.loop-id.id-index c.args.ids.now) cs in
    omega (arith, below, same)

pub loop-id-preserved : goal.loop-id-preserved
loop-id-preserved c =
    let cs : List Candidate = candidates_of_packages c.args.packages.now in
    let installed : Candidate = c.args.installed.now in
    let ids : List ℕ = c.args.ids.now in
    let i : ℕ = c.loop-id.id-index in
    let id : ℕ = c.id-item.result in
    let done : List ℕ = take i ids in
    let more : take (i + 1) ids ≡ done ++ id ∷ [] = take_more ids i id (omega arith) ∙ ap (λ (k : ℕ). done ++ k ∷ []) (sym c.id-item.is) in
    let same : c.mark_one-found.result ≡ is_installed_package_at installed cs id =
    c.mark_one-found.ensures.same ∙ (ap (λ (z : List Candidate). is_installed_package_at installed z id) c.loop-id.invariant.0 ∙ same_among_still installed done cs id) in (
      c.mark_one-found.ensures.marked ∙ (ap (marked_installed_if_same_at installed id) c.loop-id.invariant.0 ∙ (sym (marked_more installed done id cs) ∙ ap (λ (ks : List ℕ). marked_among installed ks cs) (sym more))),
      ap (λ (b : Bool). b || c.mark_one-found.result) c.loop-id.invariant.1 ∙ (ap (λ (b : Bool). list_any (is_installed_package_at installed cs) done || b) same ∙ (sym (any_snoc (is_installed_package_at installed cs) done id) ∙ ap (list_any (is_installed_package_at installed cs)) (sym more))),
    )

pub returns-clause-some : goal.returns-clause-some
returns-clause-some c =
    let cs : List Candidate = candidates_of_packages c.args.packages.now in
    let installed : Candidate = c.args.installed.now in
    let past : length c.args.ids.now ≤ c.loop-id.id-index = omega arith in
    c.loop-id.invariant.1 ∙ (ap (list_any (is_installed_package_at installed cs)) (take_all c.loop-id.id-index c.args.ids.now past ∙ c.requires) ∙ any_same installed cs)

pub returns-clause-same : goal.returns-clause-same
returns-clause-same c =
    let cs : List Candidate = candidates_of_packages c.args.packages.now in
    let installed : Candidate = c.args.installed.now in
    let past : length c.args.ids.now ≤ c.loop-id.id-index = omega arith in
    c.loop-id.invariant.0 ∙ (ap (λ (ks : List ℕ). marked_among installed ks cs) (take_all c.loop-id.id-index c.args.ids.now past ∙ c.requires) ∙ marked_all installed cs)
