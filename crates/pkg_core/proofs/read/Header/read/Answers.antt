-- By its one read, which fills the first bytes of the buffer.
use Rattle.std.proofs.Common.{◌≡◌, ◌∙◌, ℕ, length, replicate, arith}
use Rattle.std.proofs.lemmas.List.{length-take-le, take_at}
use Rattle.pkg_core.specs.declared.front.FrontFault.TheVariants.{Disk as DiskFault}
use Rattle.pkg_core.proofs.ReadCalls.{done_within, failed_within}
use Rattle.pkg_core.proofs.SeenBytes.{seen_by_one}
use Rattle.pkg_core.proofs.read.Header.read.Goals as goal

pub returns-in_err-read_at-clause-tree : goal.returns-in_err-read_at-clause-tree
returns-in_err-read_at-clause-tree g c =
    let room = length-take-le {A = ℕ} c.min-some.result (replicate 8 0) (omega arith) in
    failed_within c.args.name.now c.args.len 0 _ _ _ _ _ c.in_err-read_at.field-0.0 DiskFault _ c.from_residual.ensures.1 (omega (arith, room)) c.in_err-read_at.ensures.same c.in_err-read_at.ensures.counts

pub returns-clause-seen : goal.returns-clause-seen
returns-clause-seen g c =
    let room = length-take-le {A = ℕ} c.min-some.result (replicate 8 0) (omega arith) in
    let filled : length c.read_at.new.into ≡ c.min-some.result = c.read_at.auto.into ∙ room in
    λ file_len. seen_by_one (g.T.Tree.history c.args.tree.now) c.args.name.now file_len 0 _ c.read_at.new.into _ (take_at _ _ _ filled) c.read_at.auto.into c.in_ok-read_at.ensures.value

pub returns-clause-tree : goal.returns-clause-tree
returns-clause-tree g c =
    let room = length-take-le {A = ℕ} c.min-some.result (replicate 8 0) (omega arith) in
    done_within c.args.name.now c.args.len 0 _ _ _ _ _ _ DiskFault _ (omega (arith, room)) c.in_ok-read_at.ensures.same c.in_ok-read_at.ensures.counts
