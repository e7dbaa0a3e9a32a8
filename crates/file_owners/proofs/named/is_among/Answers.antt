use Rattle.std.proofs.Common.{◌∙◌}
use Rattle.file_owners.proofs.NamedPlaces.{among}
use Rattle.file_owners.proofs.named.is_among.Goals as goal

pub returns : goal.returns
returns c = c.is_ok.ensures.value ∙ among c.args.places.now c.args.place c.binary_search.result c.binary_search.ensures.position c.requires
