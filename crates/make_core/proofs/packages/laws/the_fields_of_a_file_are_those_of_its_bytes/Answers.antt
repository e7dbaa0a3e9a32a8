use Rattle.make_core.proofs.FileFields.{link_fields, regular_fields}
use Rattle.std.proofs.Common.{refl}
use Rattle.make_core.proofs.packages.laws.the_fields_of_a_file_are_those_of_its_bytes.Goals as goal

pub returns : goal.returns
returns c =
    record {
      regular = regular_fields;
      link = link_fields;
      named = λ name kind. (refl, refl);
      folder = λ name files. (refl, refl, refl);
    }
