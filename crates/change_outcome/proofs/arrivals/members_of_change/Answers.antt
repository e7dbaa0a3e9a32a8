use Rattle.std.proofs.Common.{◌≡◌, ◌<◌, ◌≤◌, ◌∙◌, ◌++◌, length, take, ap, sym, subst, arith, List}
use Rattle.std.specs.Prelude.{option_to_list}
use Rattle.db_core.specs.Members.{is_after_members, member_name}
use Rattle.adb_view.specs.Plain.{Plain}
use Rattle.db_core.specs.Seen.{members_of, packages_of_old_database, packages_of}
use Rattle.db_core.specs.declared.members.TheConstants.{MOST_MEMBERS}
use Rattle.change_outcome.specs.Arrivals.{HavePlacesIfKept, CanBeMembers, HasPlaceIfKept, member_of_read_package, members_by_packages_before_and_reads}
use Rattle.change_outcome.specs.declared.arrivals.MemberRead.{MemberRead}
use Rattle.change_outcome.proofs.Behind.{all_taken, next_behind, next_few, next_placed, one_more}
use Rattle.change_outcome.proofs.arrivals.members_of_change.Goals as goal

pub loop-read-init : goal.loop-read-init
loop-read-init c = record {
  read = c.new-members.ensures.none;
  before = c.new-members.ensures.before;
}

pub push_read-requires : goal.push_read-requires
push_read-requires c =
    let before = packages_of c.args.db.now in
    let reads = c.deref-read-items.result.now in
    let i = c.loop-read.read-index in
    let read = c.read-item.result in
    let same : packages_of_old_database c.loop-read.members ≡ before = c.loop-read.invariant.before in
    let can : CanBeMembers before reads = subst (CanBeMembers before) (sym c.deref-read-items.ensures.value) c.requires in
    record {
      behind = λ m is. ap (is_after_members (member_name m)) c.loop-read.invariant.read
          ∙ next_behind before reads i read c.loop-read-test.true can m
          (ap (member_of_read_package before) (sym c.read-item.is) ∙ (sym (ap (λ (b : List Plain). member_of_read_package b read) same) ∙ is));
      placed = subst (λ (b : List Plain). HasPlaceIfKept b read) (sym same) (subst (HasPlaceIfKept before) (sym c.read-item.is) (next_placed before reads i read c.loop-read-test.true can.placed));
      few =
          (let few = next_few before reads i c.loop-read-test.true can.few in
          let count = ap (λ z. length z) c.loop-read.invariant.read in
          omega (arith, few, count));
    }

pub loop-read-preserved : goal.loop-read-preserved
loop-read-preserved c =
    let before = packages_of c.args.db.now in
    let same : packages_of_old_database c.loop-read.members ≡ before = c.loop-read.invariant.before in
    record {
      read =
          c.in_ok-push_read.ensures.added
          ∙ (ap (λ (b : List Plain). members_of c.loop-read.members ++ option_to_list (member_of_read_package b c.read-item.result)) same
          ∙ (ap (λ z. z ++ option_to_list (member_of_read_package before c.read-item.result)) c.loop-read.invariant.read
          ∙ (ap (λ r. members_by_packages_before_and_reads before (take c.loop-read.read-index c.deref-read-items.result.now) ++ option_to_list (member_of_read_package before r)) c.read-item.is
          ∙ sym (one_more before c.deref-read-items.result.now c.loop-read.read-index c.read-item.result c.loop-read-test.true))));
      before = c.in_ok-push_read.ensures.before ∙ same;
    }

pub returns : goal.returns
returns c =
    c.loop-read.invariant.read
    ∙ (all_taken (packages_of c.args.db.now) c.deref-read-items.result.now c.loop-read.read-index c.loop-read-test.false
    ∙ ap (members_by_packages_before_and_reads (packages_of c.args.db.now)) c.deref-read-items.ensures.value)
