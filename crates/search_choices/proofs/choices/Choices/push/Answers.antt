use Rattle.std.proofs.Common.{◌≡◌, ◌∙◌, List, ℕ, [], false, sym, subst, ap, refl, arith}
use Rattle.std.specs.Prelude.{Option}
use Rattle.std.specs.Option.{option_map_or}
use Rattle.dep_core.specs.Dependency.{Dependency}
use Rattle.search_needs.specs.candidate_core.Candidates.{Candidate}
use Rattle.search_needs.specs.TriggeredInstallIf.{is_install_if_triggered_at_rank}
use Rattle.search_needs.specs.search_tables.Selection.{depends_at}
use Rattle.search_choices.specs.Choices.{choices_of, install_ifs_of, pool_of}
use Rattle.search_choices.proofs.Asking.{unasked_more}
use Rattle.search_choices.proofs.Consistency.{consistent_more}
use Rattle.search_choices.proofs.choices.Choices.push.Goals as goal

pub returns-clause-consistent : goal.returns-clause-consistent
returns-clause-consistent c =
    let pool = pool_of c.args.self.now in
    let order : List ℕ = install_ifs_of c.args.self.now in
    let details : Candidate = c.details-details.result in
    let deps : List Dependency = c.depends-depends.result in
    let is : deps ≡ depends_at pool c.args.id = c.depends-depends.ensures ∙ sym (ap (λ (o : Option Candidate). option_map_or (λ (k : Candidate). k.depends) o []) c.details-details.ensures) in
    let unasked = unasked_more pool (choices_of c.args.self.now) c.args.id details order c.args.self.now.install_ifs.waiting c.args.self.now.asking_cursor c.least_rank_asking-self.result
    c.requires.consistent.install_ifs c.details-details.ensures c.requires.consistent.unasked c.least_rank_asking-self.ensures.less
    (λ name rank offers waits low. subst (λ (z : List ℕ). is_install_if_triggered_at_rank pool z order rank ≡ false) c.in_ok-push-2.ensures (c.least_rank_asking-self.ensures.unasked name rank offers waits low)) in
    consistent_more c.args.self.now _ c.args.id deps _ c.requires.consistent c.requires.within is (record { pool = refl; choices = c.in_ok-push-2.ensures; install_ifs = refl }) c.in_ok-queue_all.ensures refl c.in_ok-push.ensures.items
    (omega (arith, c.len.ensures, c.args.self.now.queue.ok)) refl refl unasked c.in_ok-add.ensures.conflicts c.in_ok-add.ensures.listed
