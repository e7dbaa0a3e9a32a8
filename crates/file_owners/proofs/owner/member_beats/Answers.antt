use Rattle.std.proofs.Common.{◌≡◌, ◌<◌, List, ℕ, Some, map, length, arith, ap, sym, ◌∙◌}
use Rattle.std.specs.Prelude.{slice_get}
use Rattle.std.proofs.lemmas.List.{length-map}
use Rattle.db_core.specs.adb_schema.Views.{package_value}
use Rattle.db_core.specs.Seen.{members_of}
use Rattle.file_owners.proofs.NamedPlaces.{by_preference, kept_at, not_back, not_named, rising_at}
use Rattle.file_owners.proofs.owner.member_beats.Goals as goal

pub is_among-requires : goal.is_among-requires
is_among-requires c =
    let named : List (List ℕ) = map (λ v. v.items) c.args.named.now in
    let long : c.args.one < length c.args.named.now = omega (arith, c.requires.one, c.requires.each.long, length-map c.args.named.now (λ v. v.items)) in
    let at : slice_get named c.args.one ≡ Some c.deref.result.now = kept_at (λ v. v.items) c.args.named.now c.args.one _ long c.index-named-one.is ∙ ap Some (sym c.deref.ensures.value) in
    rising_at (members_of c.args.members.now) named c.requires.each c.args.one c.args.other c.requires.one c.requires.other c.args.one c.deref.result.now c.requires.one at

pub is_among-requires-2 : goal.is_among-requires-2
is_among-requires-2 c =
    let named : List (List ℕ) = map (λ v. v.items) c.args.named.now in
    let long : c.args.other < length c.args.named.now = omega (arith, c.requires.other, c.requires.each.long, length-map c.args.named.now (λ v. v.items)) in
    let at : slice_get named c.args.other ≡ Some c.deref-2.result.now = kept_at (λ v. v.items) c.args.named.now c.args.other _ long c.index-named-other.is ∙ ap Some (sym c.deref-2.ensures.value) in
    rising_at (members_of c.args.members.now) named c.requires.each c.args.one c.args.other c.requires.one c.requires.other c.args.other c.deref-2.result.now c.requires.other at

pub returns-then-not-is_among : goal.returns-then-not-is_among
returns-then-not-is_among c =
    let named : List (List ℕ) = map (λ v. v.items) c.args.named.now in
    let long : c.args.one < length c.args.named.now = omega (arith, c.requires.one, c.requires.each.long, length-map c.args.named.now (λ v. v.items)) in
    let at : slice_get named c.args.one ≡ Some c.deref.result.now = kept_at (λ v. v.items) c.args.named.now c.args.one _ long c.index-named-one.is ∙ ap Some (sym c.deref.ensures.value) in
    not_named (members_of c.args.members.now) named c.requires.each c.args.one c.args.other c.requires.one c.requires.other c.deref.result.now c.is_among.result at c.is_among.ensures c.if-not-is_among.true

pub returns-then-not-is_among-2 : goal.returns-then-not-is_among-2
returns-then-not-is_among-2 c =
    let named : List (List ℕ) = map (λ v. v.items) c.args.named.now in
    let long : c.args.one < length c.args.named.now = omega (arith, c.requires.one, c.requires.each.long, length-map c.args.named.now (λ v. v.items)) in
    let at : slice_get named c.args.one ≡ Some c.deref.result.now = kept_at (λ v. v.items) c.args.named.now c.args.one _ long c.index-named-one.is ∙ ap Some (sym c.deref.ensures.value) in
    let back : c.args.other < length c.args.named.now = omega (arith, c.requires.other, c.requires.each.long, length-map c.args.named.now (λ v. v.items)) in
    let there : slice_get named c.args.other ≡ Some c.deref-2.result.now = kept_at (λ v. v.items) c.args.named.now c.args.other _ back c.index-named-other.is ∙ ap Some (sym c.deref-2.ensures.value) in
    not_back (members_of c.args.members.now) named c.requires.each c.args.one c.args.other c.requires.one c.requires.other c.deref.result.now c.deref-2.result.now c.is_among.result c.is_among-2.result at there
    c.is_among.ensures c.if-not-is_among.false c.is_among-2.ensures c.if-not-is_among-2.true

pub returns : goal.returns
returns c =
    let named : List (List ℕ) = map (λ v. v.items) c.args.named.now in
    let long : c.args.one < length c.args.named.now = omega (arith, c.requires.one, c.requires.each.long, length-map c.args.named.now (λ v. v.items)) in
    let at : slice_get named c.args.one ≡ Some c.deref.result.now = kept_at (λ v. v.items) c.args.named.now c.args.one _ long c.index-named-one.is ∙ ap Some (sym c.deref.ensures.value) in
    let back : c.args.other < length c.args.named.now = omega (arith, c.requires.other, c.requires.each.long, length-map c.args.named.now (λ v. v.items)) in
    let there : slice_get named c.args.other ≡ Some c.deref-2.result.now = kept_at (λ v. v.items) c.args.named.now c.args.other _ back c.index-named-other.is ∙ ap Some (sym c.deref-2.ensures.value) in
    by_preference (members_of c.args.members.now) named c.requires.each c.args.one c.args.other c.requires.one c.requires.other c.deref.result.now c.deref-2.result.now c.is_among.result c.is_among-2.result c.is_preferred.result
    (package_value c.view.result.now) (package_value c.view-2.result.now) at there
    c.is_among.ensures c.if-not-is_among.false c.is_among-2.ensures c.if-not-is_among-2.false c.view.ensures.value c.view-2.ensures.value c.is_preferred.ensures
