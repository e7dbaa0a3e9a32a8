use Rattle.std.proofs.Common.{◌≡◌, ◌∙◌, ◌≤◌, List, ℕ, ap, subst, length, arith}
use Rattle.std.specs.Prelude.{not}
use Rattle.own_core.specs.Fate.{apk_new_name}
use Rattle.own_core.specs.FileChange.{is_listed_after_change}
use Rattle.own_core.specs.Sides.{file_change_of}
use Rattle.own_core.proofs.ChangeClaims.{after_sorted, free_there, short_and}
use Rattle.own_core.proofs.fate.is_apk_new_name_free.Goals as goal

pub find_claim-requires : goal.find_claim-requires
find_claim-requires c = after_sorted c.args.change.now c.requires

pub returns : goal.returns
returns c =
    let is : c.in_ok-bytes.bytes.items ≡ apk_new_name c.args.name.now = c.in_ok-bytes.ensures ∙ ap apk_new_name c.as_bytes.ensures.value in
    let there : c.deref.result.now ≡ apk_new_name c.args.name.now = c.deref.ensures.value ∙ is in
    let long : length c.in_ok-bytes.bytes.items ≤ 1024 = omega (arith, c.len.ensures, c.if-len-gt-LONGEST_NAME.false) in
    short_and (length (apk_new_name c.args.name.now)) c.is_none.result (not (is_listed_after_change (file_change_of c.args.change.now) (apk_new_name c.args.name.now)))
    (subst (λ (l : List ℕ). length l ≤ 1024) is long)
    (free_there c.args.change.now c.requires c.deref.result.now c.is_none.result c.find_claim.result c.is_none.ensures c.find_claim.ensures.within c.find_claim.ensures.found
    ∙ ap (λ (l : List ℕ). not (is_listed_after_change (file_change_of c.args.change.now) l)) there)
