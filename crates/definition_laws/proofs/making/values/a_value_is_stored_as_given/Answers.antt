use Rattle.std.proofs.Common.{refl}
use Rattle.adb_view.proofs.ValueEntries.{nth_obj}
use Rattle.adb_view.specs.Plain.{none, more, blob_or_null}
use Rattle.dep_core.specs.Value.{dep_value}
use Rattle.make_core.specs.make_info.Values.{number_or_null}
use Rattle.definition_laws.proofs.making.values.a_value_is_stored_as_given.Goals as goal

pub returns : goal.returns
returns c =
    record {
      text = λ bytes. refl;
      number = λ n. refl;
      need = λ d.
          let v = dep_value d in
          let fields = more (blob_or_null v.name) (more (blob_or_null v.version) (more (number_or_null v.matching) none)) in
          (nth_obj fields 0, nth_obj fields 1, nth_obj fields 2);
    }
