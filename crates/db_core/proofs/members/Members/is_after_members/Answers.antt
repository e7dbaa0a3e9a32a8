use Rattle.std.proofs.Common.{◌≡◌, suc, ◌-◌, ◌∙◌, ap, arith, length}
use Rattle.std.specs.Ordering.{is_lt}
use Rattle.pkg_core.specs.adb_fields.Repeated.{name_of}
use Rattle.base_core.specs.ByteOrder.{bytes_cmp}
use Rattle.db_core.specs.EntrySeen.{member_of_entry}
use Rattle.db_core.specs.Members.{member_name}
use Rattle.db_core.specs.Seen.{members_of}
use Rattle.db_core.proofs.Ordered.{last_decides}
use Rattle.db_core.proofs.members.Members.is_after_members.Goals as goal

pub returns : goal.returns
returns c =
    let last : suc (c.len-count.result - 1) ≡ length (members_of c.args.self.now) = omega (arith, c.len-count.ensures.value, c.if-count-eq0.false) in
    let name = c.name.ensures ∙ (ap name_of c.info.ensures ∙ ap (λ e. member_name (member_of_entry e)) c.behind-self.view_is) in
    c.is_lt.ensures ∙ (ap is_lt (c.cmp-order.ensures ∙ ap (λ n. bytes_cmp n c.args.name.now) name)
    ∙ last_decides c.args.name.now c.args.self.now.entries.items c.index.result.now (c.len-count.result - 1) last c.index.ensures)
