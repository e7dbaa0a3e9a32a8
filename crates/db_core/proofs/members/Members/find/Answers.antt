use Rattle.std.proofs.Common.{◌∙◌, ap, sym}
use Rattle.std.specs.Prelude.{bytes_eq}
use Rattle.std.proofs.lemmas.List.{length-map}
use Rattle.pkg_core.specs.adb_fields.Repeated.{name_of}
use Rattle.db_core.specs.EntrySeen.{member_of_entry}
use Rattle.db_core.specs.Members.{member_name}
use Rattle.db_core.proofs.MemberPlaces.{kept_name, none_at_end, none_is_there, one_is_there}
use Rattle.db_core.proofs.NamePlaces.{not_false, not_true}
use Rattle.db_core.proofs.members.Members.find.Goals as goal

pub returns-then-at-len-clause-found : goal.returns-then-at-len-clause-found
returns-then-at-len-clause-found c =
    none_at_end c.args.self.now.entries.items c.args.name.now c.count_before-at.result c.args.self.now.in_order c.count_before-at.ensures.point
    (c.if-at-len.true ∙ (c.len.ensures.value ∙ length-map c.args.self.now.entries.items member_of_entry))

pub returns-then-ne-clause-found : goal.returns-then-ne-clause-found
returns-then-ne-clause-found c =
    let name = c.name.ensures ∙ (ap name_of c.info.ensures ∙ ap (λ e. member_name (member_of_entry e)) c.behind-self.view_is) in
    none_is_there c.args.self.now.entries.items c.args.name.now c.count_before-at.result c.args.self.now.in_order c.count_before-at.ensures.point c.index.result.now
    (ap (λ e. bytes_eq (kept_name e) c.args.name.now) (sym c.index.ensures) ∙ (ap (λ n. bytes_eq n c.args.name.now) (sym name) ∙ not_true _ _ c.ne.ensures c.if-ne.true))

pub returns-clause-found : goal.returns-clause-found
returns-clause-found c =
    let name = c.name.ensures ∙ (ap name_of c.info.ensures ∙ ap (λ e. member_name (member_of_entry e)) c.behind-self.view_is) in
    one_is_there c.args.self.now.entries.items c.args.name.now c.count_before-at.result c.args.self.now.in_order c.count_before-at.ensures.point c.index.result.now
    (ap (λ e. bytes_eq (kept_name e) c.args.name.now) (sym c.index.ensures) ∙ (ap (λ n. bytes_eq n c.args.name.now) (sym name) ∙ not_false _ _ c.ne.ensures c.if-ne.false))
