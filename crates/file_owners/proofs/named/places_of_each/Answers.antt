use Rattle.std.proofs.Common.{◌∙◌, ap, map, arith}
use Rattle.std.proofs.lemmas.List.{map_push}
use Rattle.db_core.specs.adb_schema.Views.{package_value}
use Rattle.db_core.specs.Seen.{members_of}
use Rattle.file_owners.proofs.NamedPlaces.{all_gathered, member_gathered}
use Rattle.file_owners.proofs.SoundMembers.{replaced_sound}
use Rattle.file_owners.proofs.named.places_of_each.Goals as goal

pub loop-i-preserved : goal.loop-i-preserved
loop-i-preserved c =
    member_gathered (members_of c.args.members.now) _ _ c.in_ok-places.places.items c.loop-i.i (package_value c.view.result.now) (ap (map (λ v. v.items)) c.in_ok-push.ensures.items ∙ map_push (λ v. v.items) c.loop-i.named.items c.in_ok-places.places) c.view.ensures.value c.in_ok-places.ensures c.loop-i.invariant

pub returns : goal.returns
returns c =
    all_gathered (members_of c.args.members.now) (map (λ v. v.items) c.loop-i.named.items) c.loop-i.i
    (omega (arith, c.len-i-end.ensures.value, c.loop-i-test.false, c.loop-i.auto.i-end)) c.loop-i.invariant

pub places_named-requires : goal.places_named-requires
places_named-requires c =
    replaced_sound (members_of c.args.members.now) c.loop-i.i (package_value c.view.result.now)
    (omega (arith, c.len-i-end.ensures.value, c.loop-i-test.true)) c.view.ensures.value c.packages_are_sound.ensures
