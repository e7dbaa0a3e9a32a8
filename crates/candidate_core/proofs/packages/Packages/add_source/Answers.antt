use Rattle.std.proofs.Common.{◌∙◌, ◌++◌, ◌∷◌, [], List, ap, map}
use Rattle.std.specs.Prelude.{slice_get}
use Rattle.candidate_core.specs.Packages.{candidate_among}
use Rattle.candidate_core.specs.declared.packages.Source.{Source}
use Rattle.candidate_core.proofs.PackageLists.{last_there, with_source, words_with_source}
use Rattle.candidate_core.proofs.packages.Packages.add_source.Goals as goal

pub invariant_of-self : goal.invariant_of-self
invariant_of-self c =
    let own = c.args.self.now in
    record { sound = words_with_source c.push.result own.sources.items c.push.new.self.items c.args.source own.words.items c.push.ensures.items own.sound }

pub returns-clause-place : goal.returns-clause-place
returns-clause-place c =
    let own = c.args.self.now in
    ap (λ (ss : List Source). slice_get ss c.len-place.result) c.in_ok-push.ensures.items
    ∙ (ap (slice_get (own.sources.items ++ c.args.source ∷ [])) (c.len-place.ensures ∙ own.sources.ok.0) ∙ last_there own.sources.items c.args.source)

pub returns-clause-same : goal.returns-clause-same
returns-clause-same c =
    let own = c.args.self.now in
    ap (λ (ss : List Source). map (candidate_among ss) own.words.items) c.in_ok-push.ensures.items ∙ with_source own.sources.items c.args.source own.words.items own.sound
