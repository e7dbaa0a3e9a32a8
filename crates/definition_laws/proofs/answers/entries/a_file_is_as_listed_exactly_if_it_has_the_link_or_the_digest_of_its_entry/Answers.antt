use Rattle.definition_laws.proofs.answers.EntryFields.{hashed, link, neither}
use Rattle.definition_laws.proofs.answers.entries.a_file_is_as_listed_exactly_if_it_has_the_link_or_the_digest_of_its_entry.Goals as goal

pub returns : goal.returns
returns c = record { link = link; digest = hashed; neither = neither }
