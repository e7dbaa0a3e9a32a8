use Rattle.std.proofs.Common.{sym, subst}
use Rattle.adb_view.specs.declared.tables.Kind.TheVariants.{Obj}
use Rattle.adb_view.specs.declared.tables.Which.{Which}
use Rattle.adb_schema.specs.TextWalk.{AllowsEachValueOfKind}
use Rattle.adb_schema.proofs.NoRule.{acl_free, scripts_free}
use Rattle.adb_schema.proofs.text_walk.has_rule_below.Goals as goal

pub returns-in-Acl : goal.returns-in-Acl
returns-in-Acl c none field_place_in_causes = subst (λ (which : Which). AllowsEachValueOfKind (Obj which) field_place_in_causes) (sym c.in-Acl.is) (acl_free field_place_in_causes)

pub returns-in-Scripts : goal.returns-in-Scripts
returns-in-Scripts c none field_place_in_causes = subst (λ (which : Which). AllowsEachValueOfKind (Obj which) field_place_in_causes) (sym c.in-Scripts.is) (scripts_free field_place_in_causes)
