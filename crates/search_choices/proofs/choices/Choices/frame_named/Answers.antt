use Rattle.std.proofs.Common.{◌≡◌, ◌∙◌, ℕ, List, [], true, sym, ap}
use Rattle.search_needs.specs.candidate_core.Candidates.{named}
use Rattle.search_needs.specs.candidate_core.Options.{options_for}
use Rattle.search_needs.specs.TriggeredInstallIf.{all_met}
use Rattle.search_choices.specs.Choices.{choices_of, pool_of}
use Rattle.search_choices.proofs.Asking.{asks_all, least_within, open_asked}
use Rattle.search_choices.proofs.choices.Choices.frame_named.Goals as goal

pub details-details-requires : goal.details-details-requires
details-details-requires c = least_within (pool_of c.args.self.now) (choices_of c.args.self.now) c.args.id c.requires.least

pub returns-clause-frame : goal.returns-clause-frame
returns-clause-frame c =
    let pool = pool_of c.args.self.now in
    let t : List ℕ = choices_of c.args.self.now in
    let details = c.details-details.result in
    let by : List ℕ = c.in_ok-by.by.items in
    let deps : c.install_if.result ≡ details.install_if = c.install_if.ensures in
    let all : all_met pool by details.install_if ≡ true =
    ap (all_met pool by) (sym deps) ∙ c.in_ok-by.ensures.met (ap (all_met pool t) deps ∙ asks_all pool t c.args.id details c.requires.least c.details-details.ensures) in
    let options : c.into_ids.result.items ≡ options_for pool (named details.name) =
    c.into_ids.ensures ∙ (c.in_ok-options.ensures ∙ ap (λ (n : List ℕ). options_for pool (named n)) c.name.ensures) in
    open_asked pool t c.args.id details by c.new.result c.requires.met c.requires.least c.details-details.ensures c.in_ok-by.ensures.within all
    (c.new.ensures.value ∙ ap (λ (o : List ℕ). ([], o, by)) options)
