use Rattle.std.proofs.Common.{sym, subst}
use Rattle.adb_view.specs.declared.tables.Kind.{Kind}
use Rattle.adb_schema.specs.TextWalk.{AllowsEachValueOfKind}
use Rattle.adb_schema.proofs.NoRule.{hash_free, int_free, text_free, texts_free}
use Rattle.adb_schema.proofs.text_walk.has_rule.Goals as goal

pub returns-in-Int : goal.returns-in-Int
returns-in-Int c none = subst (λ (k : Kind). AllowsEachValueOfKind k c.args.field_place_in_causes) (sym c.in-Int.is) (int_free c.args.field_place_in_causes none)

pub returns-in-Text : goal.returns-in-Text
returns-in-Text c none = subst (λ (k : Kind). AllowsEachValueOfKind k c.args.field_place_in_causes) (sym c.in-Text.is) (text_free c.args.field_place_in_causes (c.has_text_rule.ensures none))

pub returns-in-Hash : goal.returns-in-Hash
returns-in-Hash c none = subst (λ (k : Kind). AllowsEachValueOfKind k c.args.field_place_in_causes) (sym c.in-Hash.is) (hash_free c.args.field_place_in_causes (c.has_text_rule-in-Hash.ensures none))

pub returns-in-TextArr : goal.returns-in-TextArr
returns-in-TextArr c none = subst (λ (k : Kind). AllowsEachValueOfKind k c.args.field_place_in_causes) (sym c.in-TextArr.is) (texts_free c.args.field_place_in_causes (c.has_text_rule-in-TextArr.ensures none))

pub returns-in-Obj : goal.returns-in-Obj
returns-in-Obj c none = subst (λ (k : Kind). AllowsEachValueOfKind k c.args.field_place_in_causes) (sym c.in-Obj.is) (c.has_rule_below.ensures none c.args.field_place_in_causes)
