use Rattle.std.proofs.Common.{◌∙◌, ◌++◌, ◌∷◌, [], ℕ, ap, map, sym, subst}
use Rattle.std.specs.Prelude.{OnErr, Result, Ok, Err, slice_get}
use Rattle.std.proofs.lemmas.List.{map-append}
use Rattle.candidate_core.specs.PackageWords.{IsPackageWordAt}
use Rattle.candidate_core.specs.Packages.{candidate_among, candidate_in_source, candidates_of_packages}
use Rattle.candidate_core.specs.declared.packages.PackageWord.{PackageWord}
use Rattle.candidate_core.proofs.PackageLists.{words_with_word}
use Rattle.candidate_core.proofs.packages.Packages.push.Goals as goal

-- what holds, holds also after an error
on_err : {X E : Type 0} (r : Result X E) (P : Type 0) → P → OnErr r P
on_err (Ok x) P h = tt
on_err (Err e) P h = h

pub invariant_of-self : goal.invariant_of-self
invariant_of-self c =
    let own = c.args.self.now in
    let kept : PackageWord = record { word = c.word.result; source = c.args.source; installed = c.args.installed } in
    record {
      sound = words_with_word c.push.result own.sources.items own.words.items c.push.new.self.items kept c.push.ensures.items
          (subst (IsPackageWordAt own.sources.items c.args.source) (sym c.word.ensures) c.requires) own.sound;
    }

pub returns-clause-pushed : goal.returns-clause-pushed
returns-clause-pushed c =
    let own = c.args.self.now in
    let kept : PackageWord = record { word = c.word.result; source = c.args.source; installed = c.args.installed } in
    ap (map (candidate_among own.sources.items)) c.in_ok-push.ensures.items
    ∙ (map-append (candidate_among own.sources.items) own.words.items (kept ∷ [])
    ∙ ap (λ (word : ℕ). candidates_of_packages own ++ candidate_in_source (slice_get own.sources.items c.args.source) word c.args.installed ∷ []) c.word.ensures)

pub returns-in_err-push-clause-same : goal.returns-in_err-push-clause-same
returns-in_err-push-clause-same c = on_err c.from_residual.result _ (ap (map (candidate_among c.args.self.now.sources.items)) c.in_err-push.ensures.items)
