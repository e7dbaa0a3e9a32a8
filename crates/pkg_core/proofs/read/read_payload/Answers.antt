-- By its one read, which fills the whole buffer.
use Rattle.std.proofs.Common.{◌≡◌, ◌∙◌, ap, length, arith}
use Rattle.std.proofs.lemmas.List.{take_at}
use Rattle.pkg_core.specs.declared.front.FrontFault.TheVariants.{Disk as DiskFault, Memory}
use Rattle.pkg_core.proofs.ReadCalls.{done_within, failed_within, nothing_failed}
use Rattle.pkg_core.proofs.SeenBytes.{seen_by_one}
use Rattle.pkg_core.proofs.read.read_payload.Goals as goal

pub returns-in_err-payload-clause-tree : goal.returns-in_err-payload-clause-tree
returns-in_err-payload-clause-tree g c = λ file_len fits. nothing_failed _ _ DiskFault Memory _ _ _ c.from_residual.ensures.1 (λ e. (cc))

pub returns-in_err-read_at-clause-tree : goal.returns-in_err-read_at-clause-tree
returns-in_err-read_at-clause-tree g c = λ file_len fits. failed_within c.args.name.now file_len c.args.at _ _ _ _ _ c.in_err-read_at.field-0.0 DiskFault _ c.from_residual-in_err-read_at.ensures.1 (omega (arith, c.in_ok-payload.ensures.len)) c.in_err-read_at.ensures.same c.in_err-read_at.ensures.counts

pub returns-clause-len : goal.returns-clause-len
returns-clause-len g c =
    let filled : length c.read_at.new.into ≡ c.in_ok-payload.payload.len = omega (arith, c.read_at.auto.into) in
    let all : length c.read_at.new.into ≡ c.args.len = omega (arith, c.read_at.auto.into, c.in_ok-payload.ensures.len) in
    ap length (take_at _ _ _ filled) ∙ all

pub returns-clause-seen : goal.returns-clause-seen
returns-clause-seen g c =
    let filled : length c.read_at.new.into ≡ c.in_ok-payload.payload.len = omega (arith, c.read_at.auto.into) in
    λ file_len. seen_by_one (g.T.Tree.history c.args.tree.now) c.args.name.now file_len c.args.at _ c.read_at.new.into _ (take_at _ _ _ filled) c.read_at.auto.into c.in_ok-read_at.ensures.value

pub returns-clause-tree : goal.returns-clause-tree
returns-clause-tree g c = λ file_len fits. done_within c.args.name.now file_len c.args.at _ _ _ _ _ _ DiskFault _ (omega (arith, c.in_ok-payload.ensures.len)) c.in_ok-read_at.ensures.same c.in_ok-read_at.ensures.counts
