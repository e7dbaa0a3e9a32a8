use Rattle.std.proofs.Common.{arith, refl}
use Rattle.adb_view.specs.Plain.{array_or_null}
use Rattle.adb_copy.proofs.adb_values.Lists.{closed}
use Rattle.adb_copy.proofs.Known.{known_opened}
use Rattle.db_core.specs.Seen.{members_of, payload_of_old_database}
use Rattle.db_core.specs.NewDatabase.{member_file_count, package_in_new_database, packages_in_new_database}
use Rattle.db_core.proofs.Listed.{member_there}
use Rattle.db_core.proofs.Segments.{all_given, given_more}
use Rattle.db_core.proofs.packages.write_packages.Goals as goal

pub loop-i-init : goal.loop-i-init
loop-i-init c =
    let p = payload_of_old_database c.args.members.now in
    record {
      left = refl;
      known = known_opened p c.new-known.result c.args.draft.now c.open_list.new.self (c.new-known.ensures p c.args.draft.now) c.in_ok-open_list.ensures.ok;
    }

pub write_member-requires-clause-known : goal.write_member-requires-clause-known
write_member-requires-clause-known c = c.loop-i.invariant.known

pub loop-i-preserved : goal.loop-i-preserved
loop-i-preserved c =
    let members = members_of c.args.members.now in
    let at = member_there members c.loop-i.i (omega (arith, c.len-i-end.ensures.value, c.loop-i-test.true)) in
    record {
      left =
          given_more member_file_count package_in_new_database members c.loop-i.i at.0 c.loop-i.left.now _ _ _ _
          at.1 c.loop-i.invariant.left (c.in_ok-write_member.ensures.value at.0 at.1) (c.flags_after_member-left.ensures at.0 at.1);
      known = c.in_ok-write_member.ensures.known;
    }

pub returns : goal.returns
returns c =
    closed array_or_null (packages_in_new_database (members_of c.args.members.now) c.args.flags.now) c.args.draft.now _ _ c.close_array.result c.close_array.ensures.ok
    (all_given member_file_count package_in_new_database (members_of c.args.members.now) c.args.flags.now c.loop-i.left.now c.loop-i.i _ _ _
    (omega (arith, c.len-i-end.ensures.value, c.loop-i-test.false, c.loop-i.auto.i-end)) c.loop-i.invariant.left c.in_ok-open_list.ensures.ok)
