-- The second read begins where the first ended.
use Rattle.std.proofs.Common.{◌≡◌, ◌+◌, ◌≤◌, ℕ, List, length, sym, subst, ◌∙◌, arith, rules}
use Rattle.adb_block.specs.Frames.{IsHeadPrefix, head_len}
use Rattle.pkg_core.specs.Seen.{tree_fault}
use Rattle.pkg_core.proofs.Heads.{holds_both, holds_four, holds_none, not_short, short_both, short_four}
use Rattle.pkg_core.proofs.ReadCalls.{done_within, failed_within, nothing_read, read_within}
use Rattle.pkg_core.proofs.SeenBytes.{reads_in_a_row, seen_by_one, seen_by_two}
use Rattle.pkg_core.proofs.head.HeadBytes.read.Goals as goal

pub returns-then-left-lt4-clause-holds : goal.returns-then-left-lt4-clause-holds
returns-then-left-lt4-clause-holds g c = subst (λ (bytes : List ℕ). IsHeadPrefix bytes c.args.left) (sym c.no_head.ensures) (holds_none _ c.if-left-lt4.true)

pub returns-then-left-lt4-clause-tree : goal.returns-then-left-lt4-clause-tree
returns-then-left-lt4-clause-tree g c = λ file_len fits. nothing_read _ _ _ _ _ _

pub returns-in_err-read_at-clause-tree : goal.returns-in_err-read_at-clause-tree
returns-in_err-read_at-clause-tree g c = λ file_len fits. failed_within c.args.name.now file_len c.args.at 4 _ _ _ _ c.in_err-read_at.field-0.0 tree_fault _ c.from_residual.ensures.1 (omega arith) c.in_err-read_at.ensures.same c.in_err-read_at.ensures.counts

pub returns-then-len-eq4-clause-seen : goal.returns-then-len-eq4-clause-seen
returns-then-len-eq4-clause-seen g c = λ file_len. seen_by_one (g.T.Tree.history c.args.tree.now) c.args.name.now file_len c.args.at 4 _ _ c.head_of_four.ensures c.read_at.auto.into c.in_ok-read_at.ensures.value

pub returns-then-len-eq4-clause-holds : goal.returns-then-len-eq4-clause-holds
returns-then-len-eq4-clause-holds g c = subst (λ (bytes : List ℕ). IsHeadPrefix bytes c.args.left) (sym c.head_of_four.ensures) (holds_four _ _ _ c.read_at.auto.into c.if-left-lt4.false c.head_len-len.ensures.value c.then-len-eq4.either)

pub returns-then-len-eq4-clause-short : goal.returns-then-len-eq4-clause-short
returns-then-len-eq4-clause-short g c = subst (λ (bytes : List ℕ). length bytes ≤ head_len bytes) (sym c.head_of_four.ensures) (short_four _ _ c.read_at.auto.into c.head_len-len.ensures.value c.head_len-len.ensures.either)

pub returns-then-len-eq4-clause-tree : goal.returns-then-len-eq4-clause-tree
returns-then-len-eq4-clause-tree g c = λ file_len fits. done_within c.args.name.now file_len c.args.at 4 _ _ _ _ _ tree_fault _ (omega arith) c.in_ok-read_at.ensures.same c.in_ok-read_at.ensures.counts

pub returns-in_err-read_at-2-clause-tree : goal.returns-in_err-read_at-2-clause-tree
returns-in_err-read_at-2-clause-tree g c =
    let sixteen : c.head_len-len.result ≡ 16 = not_short _ c.head_len-len.ensures.either c.if-len-eq4.false in
    λ file_len fits. reads_in_a_row _ _ tree_fault tree_fault _ _ _ _ _ _ _ _ (read_within c.args.name.now file_len c.args.at 4 _ _ _ _ _ (omega arith) c.in_ok-read_at.ensures.same c.in_ok-read_at.ensures.counts) (failed_within c.args.name.now file_len (c.args.at + 4) 12 _ _ _ _ c.in_err-read_at-2.field-0.0 tree_fault _ c.from_residual-in_err-read_at-2.ensures.1 (omega arith) c.in_err-read_at-2.ensures.same c.in_err-read_at-2.ensures.counts)

pub returns-clause-seen : goal.returns-clause-seen
returns-clause-seen g c = λ file_len. seen_by_two _ _ _ file_len c.args.at 4 12 _ _ _ c.read_at.ensures.same c.head_of_sixteen.ensures (search rules) (search rules) c.in_ok-read_at.ensures.value c.in_ok-read_at-2.ensures.value

pub returns-clause-holds : goal.returns-clause-holds
returns-clause-holds g c =
    let sixteen : c.head_len-len.result ≡ 16 = not_short _ c.head_len-len.ensures.either c.if-len-eq4.false in
    subst (λ (bytes : List ℕ). IsHeadPrefix bytes c.args.left) (sym c.head_of_sixteen.ensures) (holds_both _ _ _ c.read_at.auto.into c.read_at-2.auto.into (sym c.head_len-len.ensures.value ∙ sixteen) (omega arith))

pub returns-clause-short : goal.returns-clause-short
returns-clause-short g c =
    let sixteen : c.head_len-len.result ≡ 16 = not_short _ c.head_len-len.ensures.either c.if-len-eq4.false in
    subst (λ (bytes : List ℕ). length bytes ≤ head_len bytes) (sym c.head_of_sixteen.ensures) (short_both _ _ c.read_at.auto.into c.read_at-2.auto.into (sym c.head_len-len.ensures.value ∙ sixteen))

pub returns-clause-tree : goal.returns-clause-tree
returns-clause-tree g c =
    let sixteen : c.head_len-len.result ≡ 16 = not_short _ c.head_len-len.ensures.either c.if-len-eq4.false in
    λ file_len fits. reads_in_a_row _ _ tree_fault tree_fault _ _ _ _ _ _ _ _ (read_within c.args.name.now file_len c.args.at 4 _ _ _ _ _ (omega arith) c.in_ok-read_at.ensures.same c.in_ok-read_at.ensures.counts) (done_within c.args.name.now file_len (c.args.at + 4) 12 _ _ _ _ _ tree_fault _ (omega arith) c.in_ok-read_at-2.ensures.same c.in_ok-read_at-2.ensures.counts)
