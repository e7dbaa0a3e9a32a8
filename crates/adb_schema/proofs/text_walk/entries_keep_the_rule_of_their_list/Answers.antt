use Rattle.adb_view.specs.Values.{entries_in}
use Rattle.adb_schema.specs.SoundValues.{IsNameAllowedInIntent, ObeysTextAndNumberRulesOfDependency, ObeysTextAndNumberRulesOfFileInFolder, ObeysTextAndNumberRulesOfFolder, ObeysTextAndNumberRulesOfInformation, ObeysTextAndNumberRulesOfPackage}
use Rattle.adb_schema.proofs.SoundLeaves.{each_at}
use Rattle.adb_schema.proofs.text_walk.entries_keep_the_rule_of_their_list.Goals as goal

pub returns : goal.returns
returns c = record {
  dependency = λ list i. each_at ObeysTextAndNumberRulesOfDependency (entries_in list) i;
  information = λ root list i. each_at (ObeysTextAndNumberRulesOfInformation root) (entries_in list) i;
  file = λ root folder list i. each_at (ObeysTextAndNumberRulesOfFileInFolder root folder) (entries_in list) i;
  folder = λ root list i. each_at (ObeysTextAndNumberRulesOfFolder root) (entries_in list) i;
  «package» = λ root list i. each_at (ObeysTextAndNumberRulesOfPackage root) (entries_in list) i;
  change_name = λ list i. each_at IsNameAllowedInIntent (entries_in list) i;
}
