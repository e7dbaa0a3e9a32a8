use Rattle.std.proofs.Common.{◌∙◌, ap}
use Rattle.db_core.specs.EntrySeen.{member_of_entry, payload_of_database}
use Rattle.db_core.specs.Members.{Member}
use Rattle.db_core.proofs.Lent.{kept_lent, kept_member}
use Rattle.db_core.proofs.ListedNames.{Kept}
use Rattle.db_core.proofs.members.Members.view.Goals as goal

pub returns : goal.returns
returns c = record {
  value = λ m here.
      ap (λ (k : Kept). (member_of_entry k).pkg) c.behind-self.view_is
      ∙ ap (λ (n : Member). n.pkg) (kept_member c.args.self.now.entries.items c.args.i c.index.result.now m c.index.ensures here);
  stays = λ m here stays.
      ap (λ (k : Kept). k.0) c.behind-self.view_is
      ∙ kept_lent (payload_of_database c.args.self.now.db.now.idb) c.args.self.now.entries.items c.args.i c.index.result.now m c.args.self.now.lent c.index.ensures here stays;
}
