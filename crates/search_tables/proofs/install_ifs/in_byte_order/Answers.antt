use Rattle.std.proofs.Common.{◌≡◌, ℕ, List, ap, refl, rules, subst, sym, ◌∙◌}
use Rattle.std.specs.Ordering.{is_lt}
use Rattle.std.specs.List.Sorted.{IsSortedBy}
use Rattle.pool_core.specs.candidate_core.Options.{IsIn}
use Rattle.pool_core.specs.candidate_core.Rank.{SelectionProblem, bytes_cmp}
use Rattle.pool_core.proofs.candidate_core.Answering.{answers_while}
use Rattle.search_tables.specs.InstallIf.{has_lesser_name, name_at}
use Rattle.search_tables.proofs.ByteOrder.{in_sorted, names_rise, names_weak, sorted_in, there_usable, usable_there}
use Rattle.search_tables.proofs.install_ifs.in_byte_order.Goals as goal

pub returns-clause-those : goal.returns-clause-those
returns-clause-those c = λ k h.
    let before : IsIn k c.in_ok-ids.ids.items = sorted_in c.in_ok-ids.ids.items c.sort_by.new.self.items c.in_ok-sort_by.ensures.permutation k h in
    usable_there c.args.pool.now k (subst (λ (z : List ℕ). IsIn k z) (c.in_ok-ids.ensures.items ∙ c.install_ifs.ensures) before)

pub returns-clause-each : goal.returns-clause-each
returns-clause-each c = λ k h.
    in_sorted c.in_ok-ids.ids.items c.sort_by.new.self.items c.in_ok-sort_by.ensures.permutation k
    (subst (λ (z : List ℕ). IsIn k z) (sym (c.in_ok-ids.ensures.items ∙ c.install_ifs.ensures)) (there_usable c.args.pool.now k h))

pub returns-clause-rising : goal.returns-clause-rising
returns-clause-rising c =
    let pool : SelectionProblem = c.args.pool.now in
    let always = answers_while _ (λ a r. is_lt r ≡ has_lesser_name pool a.0.now a.1.0.now) (λ f. f.0.now ≡ pool) (λ f a r f' call keeps.
    let h : r ≡ bytes_cmp (name_at f.0.now a.0.now) (name_at f.0.now a.1.0.now) = search rules in
    let same : f'.0.now ≡ f.0.now = search rules in
    (ap is_lt (h ∙ ap (λ (p : SelectionProblem). bytes_cmp (name_at p a.0.now) (name_at p a.1.0.now)) keeps), same ∙ keeps)) _ refl in
    let up : IsSortedBy (has_lesser_name pool) c.sort_by.new.self.items = c.in_ok-sort_by.ensures.sorted (has_lesser_name pool) (names_weak pool) always in
    names_rise pool c.sort_by.new.self.items up
