use Rattle.std.proofs.Common.{◌≡◌, ◌∙◌, ◌+◌, ◌++◌, ◌∷◌, [], List, ℕ, length, length-append, ap, sym, subst, arith}
use Rattle.std.specs.Prelude.{Option}
use Rattle.candidate_core.specs.Candidates.{Candidate, offers_name}
use Rattle.candidate_core.specs.Packages.{candidate_in_source, candidates_of_packages}
use Rattle.candidate_core.specs.Table.{HasPlacesOfEachName, places_of_name, with_place_if_added}
use Rattle.candidate_core.specs.declared.packages.Source.{Source}
use Rattle.candidate_core.proofs.StoredPackages.{word_at}
use Rattle.candidate_core.proofs.TableAdding.{leads_on}
use Rattle.candidate_core.proofs.candidate_list.CandidateList.push.Goals as goal

pub returns-clause-list : goal.returns-clause-list
returns-clause-list c =
    let old : List Candidate = candidates_of_packages c.args.self.now.packages in
    let new : List Candidate = candidates_of_packages c.push.new.self in
    let d : Candidate = c.of.result in
    let pushed : new ≡ old ++ d ∷ [] =
    c.in_ok-push.ensures.pushed
    ∙ (ap (λ (o : Option Source). old ++ candidate_in_source o c.args.word c.args.installed ∷ []) c.requires.source
    ∙ ap (λ (e : Candidate). old ++ e ∷ []) (sym c.of.ensures)) in
    let place : c.len-place.result ≡ length old = c.len-place.ensures in
    let len : length new ≡ length old + 1 = ap length pushed ∙ length-append old (d ∷ []) in
    record {
      leads = subst (λ (z : List Candidate). HasPlacesOfEachName c.add_all.new.self z) (sym pushed)
          (leads_on c.args.self.now.table c.add_all.new.self old d c.requires.list.leads
          (λ name. c.in_ok-add_all.ensures name ∙ ap (λ (n : ℕ). with_place_if_added (offers_name name d) (places_of_name c.args.self.now.table name) n) place));
      fits = omega (arith, len, place);
    }

pub of-requires : goal.of-requires
of-requires c = c.requires.word

pub push-requires : goal.push-requires
push-requires c = word_at c.args.self.now.packages.sources.items c.args.source_place c.args.word c.args.source.now c.requires.source c.requires.word

pub returns-clause-pushed : goal.returns-clause-pushed
returns-clause-pushed c =
    c.in_ok-push.ensures.pushed
    ∙ ap (λ (o : Option Source). candidates_of_packages c.args.self.now.packages ++ candidate_in_source o c.args.word c.args.installed ∷ []) c.requires.source

pub returns-clause-sources : goal.returns-clause-sources
returns-clause-sources c = c.in_ok-push.ensures.sources
