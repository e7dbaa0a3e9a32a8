use Rattle.std.proofs.Common.{◌≡◌, ◌∙◌, ◌+◌, ◌<◌, Some, arith, drop, ap, refl, sym}
use Rattle.std.specs.Prelude.{fold, option_map}
use Rattle.std.proofs.lemmas.List.{drop_all}
use Rattle.change_outcome.specs.db_core.Members.{Member}
use Rattle.change_outcome.specs.db_core.Seen.{members_of}
use Rattle.change_outcome.specs.ChangeOutcome.{member_installed_size}
use Rattle.change_report.proofs.Loops.{left_at, placed_at}
use Rattle.change_report.proofs.reporting.installed_bytes.Goals as goal

pub loop-i-init : goal.loop-i-init
loop-i-init c = record { total = refl; small = omega arith }

pub loop-i-preserved : goal.loop-i-preserved
loop-i-preserved c =
    let here = placed_at (members_of c.args.members.now) c.loop-i.i (omega (arith, c.len-i-end.ensures.value, c.loop-i-test.true)) in
    let mapped : Some (member_installed_size here.item) ≡ Some c.size_at.result = sym (ap (option_map member_installed_size) here.is) ∙ c.size_at.ensures in
    let size : c.size_at.result ≡ member_installed_size here.item = cc in
    record {
      total =
          ap (λ n. fold (λ a (m : Member). a + member_installed_size m) (c.loop-i.sum + n) (drop (c.loop-i.i + 1) (members_of c.args.members.now))) size
          ∙ (sym (ap (fold (λ a (m : Member). a + member_installed_size m) c.loop-i.sum) (left_at (members_of c.args.members.now) c.loop-i.i here.item here.is))
          ∙ c.loop-i.invariant.total);
      small = omega arith;
    }

pub overflow_add-sum : goal.overflow_add-sum
overflow_add-sum c =
    let low : c.loop-i.i < 65536 = omega (arith, c.len-i-end.ensures.few, c.loop-i-test.true) in
    omega (arith, c.loop-i.invariant.small)

pub returns : goal.returns
returns c =
    ap (fold (λ a (m : Member). a + member_installed_size m) c.loop-i.sum) (sym (drop_all c.loop-i.i (members_of c.args.members.now) (omega (arith, c.len-i-end.ensures.value, c.loop-i-test.false))))
    ∙ c.loop-i.invariant.total
