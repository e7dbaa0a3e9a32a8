use Rattle.std.proofs.Common.{◌∙◌, Some, ap, arith, refl}
use Rattle.adb_sound.specs.adb_schema.declared.read.TheConstants.{INTENT_WORD}
use Rattle.adb_sound.specs.Root.{IsValidRootValueOfTable}
use Rattle.adb_view.specs.declared.tables.Which.TheVariants as Tables
use Rattle.adb_sound.specs.adb_write.Canonical.{counts_at_first_overflow}
use Rattle.adb_sound.specs.adb_write.Size.{payload_size_of, value_count}
use Rattle.journal_intent.specs.IntentValue.{intent_of_lists, value_of_intent}
use Rattle.journal_intent.proofs.Limits.{fits_of, few_of}
use Rattle.journal_intent.proofs.Sound.{header_is, intent_read, not_package}
use Rattle.journal_intent.proofs.Spelling.{names_few, value_back, value_normal, value_once, value_rules, value_shape}
use Rattle.journal_intent.proofs.container.an_intent_is_read_back.Goals as goal

pub returns-clause-read : goal.returns-clause-read
returns-clause-read c = λ removals writes names none.
    let v = value_of_intent (intent_of_lists removals writes) in
    let normal = value_normal removals writes in
    let over = c.a_value_overflows_exactly_past_a_limit.ensures v normal in
    let fits = fits_of _ _ _ none over in
    let root : IsValidRootValueOfTable Tables.Intent v = record {
      normal = normal;
      shaped = value_shape removals writes;
      fits = fits;
      few = few_of _ _ _ none over;
      texts = (c.no_text_is_bad_where_each_keeps_its_rule.ensures Tables.Intent v).1 (value_rules removals writes names);
      once = (c.no_repeated_name_is_reported_if_there_is_none.ensures Tables.Intent v).1 (value_once removals writes names.once);
    } in
    intent_read v (header_is c.a_file_is_spelled.ensures c.what_is_spelled_is_read.ensures v fits)
    (c.a_container_of_a_good_value_is_sound.ensures Tables.Intent INTENT_WORD v refl not_package root)
    (c.what_a_container_is_made_of_is_read_back.ensures.value Tables.Intent INTENT_WORD v refl root)
    ∙ ap Some (value_back removals writes)

pub returns-clause-few : goal.returns-clause-few
returns-clause-few c = λ removals writes none.
    let v = value_of_intent (intent_of_lists removals writes) in
    let over = c.a_value_overflows_exactly_past_a_limit.ensures v (value_normal removals writes) in
    let most = few_of (counts_at_first_overflow v) (payload_size_of v) (value_count v) none over in
    let names = names_few removals writes in
    omega (arith, most, names)
