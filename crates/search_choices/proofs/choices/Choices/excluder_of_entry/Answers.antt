use Rattle.std.proofs.Common.{◌∙◌, sym}
use Rattle.dep_core.specs.Meets.{dependency}
use Rattle.search_needs.proofs.search_tables.Excluders.{occupied_by_entry}
use Rattle.search_choices.proofs.choices.Choices.excluder_of_entry.Goals as goal

pub excluder_at-requires-clause-occupied : goal.excluder_at-requires-clause-occupied
excluder_at-requires-clause-occupied c = λ occupied.
    occupied_by_entry c.args.details.now (dependency c.args.entry.now) c.requires.provided c.if-entry.false (sym c.is_some.ensures ∙ occupied)
