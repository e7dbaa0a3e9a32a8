use Rattle.std.proofs.Common.{◌≡◌, ℕ, List, ap, subst, sym}
use Rattle.std.specs.Prelude.{IfOk, option_copied}
use Rattle.candidate_core.specs.Candidates.{Candidate, Need, candidate_of, meets_dependency_or_has_package_name}
use Rattle.candidate_core.specs.Matches.{AreMatchesFor, GivesTextsOfSource}
use Rattle.candidate_core.specs.PackageWords.{info_in_source}
use Rattle.candidate_core.specs.Values.{need_of_ref}
use Rattle.candidate_core.proofs.versions.meets_dependency_or_has_package_name.Goals as goal

pub returns-in-Entry : goal.returns-in-Entry
returns-in-Entry c =
    let own : Candidate = candidate_of (info_in_source c.args.source.now c.args.kept.word) c.args.source.now.repo (option_copied c.args.source.now.tag) c.args.kept.installed in
    subst (λ (need : Need). IfOk c.meets.result (λ meets. (text : ℕ → ℕ → List ℕ) → GivesTextsOfSource c.args.source.now c.args.kept.source text → AreMatchesFor text need c.args.known.now → (meets ≡ meets_dependency_or_has_package_name need own) × AreMatchesFor text need c.meets.new.known))
    (ap need_of_ref (sym c.in-Entry.is)) c.meets.ensures
