use Rattle.std.proofs.Common.{◌≡◌, ◌∙◌, ◌+◌, ◌≤◌, ◌<◌, All, ℕ, List, [], ◌∷◌, ◌++◌, length, take, get_or, ap, sym, subst, arith}
use Rattle.std.specs.Prelude.{Option, Some, Vec, slice_get}
use Rattle.std.specs.declared.alloc.Global.{Global}
use Rattle.std.proofs.lemmas.List.{map-append, take_all}
use Rattle.std.proofs.lemmas.List.Elements.{All-push}
use Rattle.candidate_core.specs.VersionTexts.{HasVersionTextFrom}
use Rattle.option_ranks.specs.Ranking.{Ranking}
use Rattle.option_ranks.specs.VersionRanks.{IsVersionAmong, version_of, version_with_rank, versions_in}
use Rattle.candidate_core.specs.declared.versions.RankedVersion.{RankedVersion}
use Rattle.candidate_core.specs.declared.versions.VersionKind.{VersionKind}
use Rattle.option_ranks.proofs.RankedVersions.{all_at, all_next, last_listed, listed_before, still_listed}
use Rattle.candidate_core.proofs.Steps.{get_at}
use Rattle.option_ranks.proofs.version_ranks.distinct_versions.Goals as goal
use Rattle.option_ranks.proofs.version_ranks.distinct_versions.Goals.{then-not-reads_the_text_before+in_ok-push, else-not-reads_the_text_before}

pub loop-i-preserved : goal.loop-i-preserved
loop-i-preserved c =
    let rs : List Ranking = c.args.options.now in
    let i : ℕ = c.loop-i.i in
    let kind : VersionKind = c.args.kind in
    let was : List RankedVersion = c.loop-i.versions.items in
    let texts : List (Option (List ℕ)) = versions_in was in
    let here : i < length rs = omega arith in
    elim c.if-not-reads_the_text_before.branch [
      | then-not-reads_the_text_before+in_ok-push w ↦
          let v : RankedVersion = w.version_to_rank.result in
          let x : Ranking = w.index-options-i.result in
          let at : slice_get rs i ≡ Some x = get_at rs i x here ∙ ap Some (sym w.index-options-i.is) in
          let is : version_with_rank x.under.rank (version_of kind x) ≡ v = sym w.version_to_rank.ensures in
          let grown : c.if-not-reads_the_text_before.versions.items ≡ was ++ v ∷ [] = ap (λ (vs : Vec RankedVersion Global). vs.items) w.versions-is ∙ w.in_ok-push.ensures.items in
          let texts_grown : versions_in (was ++ v ∷ []) ≡ texts ++ v.version ∷ [] = map-append (λ (v : RankedVersion). v.version) was (v ∷ []) in
          record {
            listed =
                subst (λ (ts : List (Option (List ℕ))). All (IsVersionAmong kind ts) (take (i + 1) rs)) (sym (ap versions_in grown ∙ texts_grown))
                (all_next (IsVersionAmong kind (texts ++ v.version ∷ [])) rs i x at (last_listed (version_of kind x).version v.version texts (ap (λ (r : RankedVersion). r.version) is)) (λ k d h. still_listed _ v.version texts (c.loop-i.invariant.listed k d h)));
            read = λ text each.
                subst (λ (vs : List RankedVersion). All (HasVersionTextFrom text) vs) (sym grown)
                (All-push (HasVersionTextFrom text) was v (c.loop-i.invariant.read text each) (subst (HasVersionTextFrom text) is (all_at (λ (r : Ranking). HasVersionTextFrom text (version_of kind r)) rs i x each at)));
          }
      | else-not-reads_the_text_before w ↦ record {
        listed =
            subst (λ (vs : Vec RankedVersion Global). All (IsVersionAmong kind (versions_in vs.items)) (take (i + 1) rs)) (sym w.versions-is)
            (λ k d h. all_next (IsVersionAmong kind texts) rs i (get_or rs i d) (get_at rs i d here)
            (listed_before kind texts rs i d c.requires (c.reads_the_text_before.ensures.first w.if-not-reads_the_text_before.false) here (c.reads_the_text_before.ensures.same w.if-not-reads_the_text_before.false) c.loop-i.invariant.listed) c.loop-i.invariant.listed k d h);
        read = λ text each. subst (λ (vs : Vec RankedVersion Global). All (HasVersionTextFrom text) vs.items) (sym w.versions-is) (c.loop-i.invariant.read text each);
      }
    ]

pub returns-clause-listed : goal.returns-clause-listed
returns-clause-listed c =
    let rs : List Ranking = c.args.options.now in
    let past : length rs ≤ c.loop-i.i = omega arith in
    subst (λ (xs : List Ranking). All (IsVersionAmong c.args.kind (versions_in c.loop-i.versions.items)) xs) (take_all c.loop-i.i rs past) c.loop-i.invariant.listed
