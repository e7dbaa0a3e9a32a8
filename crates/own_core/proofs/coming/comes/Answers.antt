use Rattle.std.proofs.Common.{◌∙◌, ap, sym}
use Rattle.std.specs.Prelude.{is_some}
use Rattle.std.proofs.lemmas.Option.{slice_get_within}
use Rattle.file_owners.specs.db_core.Seen.{members_of}
use Rattle.own_core.specs.ClaimEntries.{is_added_if_any}
use Rattle.own_core.proofs.coming.comes.Goals as goal

pub id-requires : goal.id-requires
id-requires c = slice_get_within (members_of c.args.members.now) c.args.claim.now.member c.requires.member c.requires.at

pub returns : goal.returns
returns c = c.is_some.ensures ∙ (ap is_some (c.id.ensures c.requires.member c.requires.at) ∙ sym (ap is_added_if_any c.requires.at))
