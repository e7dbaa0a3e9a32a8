use Rattle.std.proofs.Common.{◌≡◌, ◌∙◌, ℕ, List, [], Option, ap, subst, sym}
use Rattle.std.specs.Prelude.{IfOk}
use Rattle.std.specs.Option.{option_map_or}
use Rattle.adb_view.specs.Values.{entry_at_index, text_in}
use Rattle.change_report.specs.db_core.Members.{Member, member_name}
use Rattle.change_report.specs.db_core.Seen.{members_of}
use Rattle.engine_core.proofs.Members.{at_place}
use Rattle.engine_core.proofs.planning.member_name.Goals as goal

pub returns : goal.returns
returns c =
    let (m, at) = at_place (members_of c.args.members.now) c.args.place c.requires in
    let here = c.info.ensures ∙ ap (λ v. entry_at_index v 0) (c.view-view.ensures.value m at) in
    subst (λ (n : List ℕ). IfOk c.of.result (λ name. name ≡ n))
    (c.name.ensures ∙ ap (λ v. text_in (entry_at_index v 0)) here ∙ ap (λ (o : Option Member). option_map_or member_name o []) (sym at)) c.of.ensures
