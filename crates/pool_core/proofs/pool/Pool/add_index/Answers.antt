use Rattle.std.proofs.Common.{◌≡◌, ◌∙◌, ℕ, ap, sym, subst}
use Rattle.adb_view.specs.Adb.{payload_of}
use Rattle.adb_view.specs.Entries.{array_entries}
use Rattle.adb_view.specs.Plain.{Plain}
use Rattle.adb_view.specs.Shaped.{Each}
use Rattle.adb_view.specs.declared.adb.Adb.{Adb}
use Rattle.option_ranks.specs.adb_fields.Fields.{array_at}
use Rattle.option_ranks.specs.adb_schema.SoundValues.{ObeysTextAndNumberRulesOfInformation}
use Rattle.option_ranks.specs.adb_schema.Views.{index_value}
use Rattle.adb_view.specs.Values.{entries_in, entry_at_index, value_at}
use Rattle.adb_view.specs.declared.tables.Kind.TheVariants as Kinds
use Rattle.adb_view.specs.declared.tables.Which.TheVariants as Tables
use Rattle.pool_core.proofs.pool.Pool.add_index.Goals as goal

pub push_all-added-requires-clause-texts : goal.push_all-added-requires-clause-texts
push_all-added-requires-clause-texts c = λ known i h.
    let list : Plain = array_at (payload_of c.adb-2.result) (Kinds.Obj Tables.PkgInfo) (array_entries c.objects_field-packages.result) in
    let is : list ≡ entry_at_index (index_value c.args.index) 1 =
    ap (λ (a : Adb). array_at (payload_of a) (Kinds.Obj Tables.PkgInfo) (array_entries c.objects_field-packages.result)) (c.adb-2.ensures ∙ sym c.adb.ensures)
    ∙ (c.objects_field-packages.ensures.value
    ∙ (ap (λ (a : Adb). entry_at_index (value_at (payload_of a) (Kinds.Obj Tables.Index) c.word.result) 1) c.adb.ensures
    ∙ ap (λ (w : ℕ). entry_at_index (value_at (payload_of c.args.index.adb) (Kinds.Obj Tables.Index) w) 1) c.word.ensures.is)) in
    let each = c.entries_keep_the_rule_of_their_list.ensures in
    let info : ObeysTextAndNumberRulesOfInformation Tables.Index (entry_at_index list i) =
    each.information Tables.Index list i (subst (λ (l : Plain). Each (ObeysTextAndNumberRulesOfInformation Tables.Index) (entries_in l)) (sym is) c.values_keep_their_rules.ensures.packages) h in
    record {
      version = info.version;
      depends = λ j g. each.dependency (entry_at_index (entry_at_index list i) 14) j info.depends g;
      provides = λ j g. each.dependency (entry_at_index (entry_at_index list i) 15) j info.provides g;
      install_if = λ j g. each.dependency (entry_at_index (entry_at_index list i) 17) j info.install_if g;
    }
