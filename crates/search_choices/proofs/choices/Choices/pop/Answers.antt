use Rattle.std.proofs.Common.{◌≡◌, ◌∙◌, ℕ, List, [], ◌∷◌, take, subst, sym, ap, arith}
use Rattle.search_needs.specs.search_tables.Queue.{queue_of, raised_deps_at}
use Rattle.search_choices.specs.Choices.{AreCheckpointsOfLaterChoices, choices_of, install_ifs_of, pool_of}
use Rattle.search_choices.specs.declared.choices.Choices.{Choices}
use Rattle.search_needs.specs.search_tables.declared.queue.Checkpoint.{Checkpoint}
use Rattle.search_needs.proofs.search_tables.Theory.{in_left}
use Rattle.search_needs.proofs.search_tables.Places.{empty_list}
use Rattle.search_needs.proofs.search_tables.Queued.{queue_more, take_front}
use Rattle.search_choices.proofs.Consistency.{never_empty, checkpoints_less, checkpoints_none, consistent_by}
use Rattle.search_needs.specs.candidate_core.Options.{IsIn}
use Rattle.search_choices.proofs.choices.Choices.pop.Goals as goal

pub returns-in-Some-clause-consistent : goal.returns-in-Some-clause-consistent
returns-in-Some-clause-consistent c =
    let pool = pool_of c.args.self.now in
    let order = install_ifs_of c.args.self.now in
    let old : List ℕ = choices_of c.args.self.now in
    let before = c.in-Some.before in
    let less = checkpoints_less pool order [] old c.pop.new.self.items before (subst (λ (z : List Checkpoint). AreCheckpointsOfLaterChoices pool order [] old z) c.in-Some.ensures.items c.requires.checkpoints) in
    let rest = less.0 in
    let others = c.take_conflicts_away.ensures.others in
    let is : c.pop-in-Some.new.self ≡ rest = c.pop-in-Some.ensures.last rest less.1 (ap choices_of others ∙ less.2) in
    let queue : c.truncate.new.self.items ≡ queue_of pool rest =
    c.truncate.ensures.items ∙ (ap (take before.queue_len) (ap (λ (z : Choices). z.queue.items) others ∙ (c.requires.queue ∙ (ap (queue_of pool) less.2 ∙ queue_more pool rest less.1))) ∙ take_front (queue_of pool rest) (raised_deps_at pool less.1) before.queue_len less.4.0) in
    let front : (k : ℕ) → IsIn k rest → IsIn k old = λ k h. subst (λ (z : List ℕ). IsIn k z) (sym less.2) (in_left k rest (less.1 ∷ []) h) in
    consistent_by c.args.self.now _ rest (record { pool = ap pool_of others; choices = is; install_ifs = ap (λ (z : Choices). z.install_ifs) others }) c.requires.install_ifs
    (λ k h. c.requires.within k (front k h)) queue less.4.1 less.4.2 (c.take_conflicts_away.ensures.listed rest less.1 less.2) (c.take_conflicts_away.ensures.conflicts pool.candidates c.requires.conflicts)
    (subst (λ (z : List Checkpoint). AreCheckpointsOfLaterChoices pool order [] rest z) (sym (ap (λ (z : Choices). z.checkpoints.items) others)) less.3)

pub returns-in-Some-clause-pool : goal.returns-in-Some-clause-pool
returns-in-Some-clause-pool c = ap pool_of c.take_conflicts_away.ensures.others

pub returns-in-Some-clause-choices : goal.returns-in-Some-clause-choices
returns-in-Some-clause-choices c = λ rest last e. c.pop-in-Some.ensures.last rest last (ap choices_of c.take_conflicts_away.ensures.others ∙ e)

pub returns-in_default-clause-choices : goal.returns-in_default-clause-choices
returns-in_default-clause-choices c = λ rest last e.
    let pool = pool_of c.args.self.now in
    let order = install_ifs_of c.args.self.now in
    let old : List ℕ = choices_of c.args.self.now in
    let none : c.args.self.now.checkpoints.items ≡ [] = empty_list c.args.self.now.checkpoints.items (omega (arith, c.in_default.ensures.cases.0, c.args.self.now.checkpoints.ok)) in
    absurd (never_empty rest last (sym (checkpoints_none pool order [] old (subst (λ (z : List Checkpoint). AreCheckpointsOfLaterChoices pool order [] old z) none c.requires.checkpoints)) ∙ e))
