use Rattle.std.proofs.Common.{◌≡◌, ◌∙◌, ap, sym}
use Rattle.dep_core.specs.Dependency.{Dependency}
use Rattle.dep_core.specs.Meets.{dependency}
use Rattle.candidate_core.specs.Matches.{dependency_accepts}
use Rattle.candidate_core.proofs.WantedVersions.{answer_inserted, read_text, wanted_by_name}
use Rattle.candidate_core.proofs.matches.KnownMatches.answer.Goals as goal

pub returns : goal.returns
returns c = λ text read known.
    let d : Dependency = dependency c.args.dep.now in
    let is : c.is_version_wanted-answer.result ≡ dependency_accepts d c.args.found.now.version = c.is_version_wanted-answer.ensures ∙ wanted_by_name d c.args.found.now.version in (
      is,
      answer_inserted d text c.args.self.now.answers c.insert.new.self (c.args.found.now.source, c.args.found.now.word) c.is_version_wanted-answer.result known c.in_ok-insert.ensures.updates.0
          (is ∙ ap (dependency_accepts d) (sym (read_text text c.args.found.now c.requires read))),
    )
