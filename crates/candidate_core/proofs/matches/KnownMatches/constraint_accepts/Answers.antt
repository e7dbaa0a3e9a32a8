use Rattle.std.proofs.Common.{◌∙◌, ap}
use Rattle.dep_core.specs.Dependency.{Dependency}
use Rattle.dep_core.specs.Meets.{dependency}
use Rattle.candidate_core.specs.Matches.{dependency_accepts}
use Rattle.candidate_core.proofs.WantedVersions.{read_text, wanted_by_name}
use Rattle.candidate_core.proofs.matches.KnownMatches.constraint_accepts.Goals as goal

pub returns-then-not-is_long : goal.returns-then-not-is_long
returns-then-not-is_long c = λ text read known.
    (c.is_version_wanted.ensures ∙ wanted_by_name (dependency c.args.dep.now) c.args.found.now.version, known)

pub returns-in-Some : goal.returns-in-Some
returns-in-Some c = λ text read known.
    let d : Dependency = dependency c.args.dep.now in (
      known c.args.found.now.source c.args.found.now.word c.in-Some.answer c.in-Some.ensures
          ∙ ap (dependency_accepts d) (read_text text c.args.found.now (c.is_long.ensures c.if-not-is_long.false) read),
      known,
    )
