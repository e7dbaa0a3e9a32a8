use Rattle.std.proofs.Common.{◌≡◌, ◌∙◌, List, length, sym, ap, arith}
use Rattle.candidate_core.specs.Candidates.{Candidate}
use Rattle.candidate_core.specs.Options.{places_offering}
use Rattle.candidate_core.specs.Packages.{candidates_of_packages}
use Rattle.candidate_core.proofs.Installed.{length-marked_installed_where_same_as, places_still}
use Rattle.candidate_core.proofs.candidate_list.CandidateList.mark_same.Goals as goal

pub returns-clause-list : goal.returns-clause-list
returns-clause-list c =
    let old : List Candidate = candidates_of_packages c.args.self.now.packages in
    let installed : Candidate = c.args.installed.now in
    let same : length (candidates_of_packages c.mark_among.new.packages) ≡ length old = ap length c.mark_among.ensures.same ∙ length-marked_installed_where_same_as installed old in
    record {
      leads = λ name. c.requires.leads name ∙ sym (ap (places_offering name) c.mark_among.ensures.same ∙ places_still name installed 0 old);
      fits = omega (arith, same, c.requires.fits);
    }
