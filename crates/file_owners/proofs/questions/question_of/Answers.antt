use Rattle.std.proofs.Common.{◌≡◌, ◌<◌, ◌∙◌, ℕ, List, length, refl, ap, sym, subst}
use Rattle.std.specs.Prelude.{◌==◌, ◌&&◌, Some, bytes_eq, slice_get}
use Rattle.adb_view.specs.Values.{entry_at_index, int_in, text_in, value_at}
use Rattle.adb_view.specs.declared.tables.Kind.TheVariants as Kinds
use Rattle.adb_view.specs.declared.tables.Which.TheVariants as Tables
use Rattle.adb_view.specs.Adb.{payload_of}
use Rattle.adb_view.specs.Plain.{Plain}
use Rattle.db_core.specs.Members.{Member, is_found_place, member_name}
use Rattle.db_core.specs.Seen.{members_of}
use Rattle.file_owners.specs.Replaces.{does_replaces_entry_name_package}
use Rattle.file_owners.proofs.NamedPlaces.{none_found}
use Rattle.file_owners.proofs.AskedQuestions.{found_asks, named_so}
use Rattle.file_owners.proofs.questions.question_of.Goals as goal

pub returns-in-None-clause-asked : goal.returns-in-None-clause-asked
returns-in-None-clause-asked c =
    let value : Plain = value_at (payload_of c.args.adb) (Kinds.Obj Tables.Dep) c.args.entry in
    none_found value (members_of c.args.members.now)
    (λ i m h. c.in-None.ensures.found i m h ∙ ap (bytes_eq (member_name m)) (c.name.ensures ∙ ap (λ (v : Plain). text_in (entry_at_index v 0)) c.of-view.ensures))

pub returns-in-Some-clause-asked : goal.returns-in-Some-clause-asked
returns-in-Some-clause-asked c = λ y m g.
    let value : Plain = value_at (payload_of c.args.adb) (Kinds.Obj Tables.Dep) c.args.entry in
    ap (λ (k : ℕ). (k == y) && does_replaces_entry_name_package value m.pkg) c.place_of.ensures
    ∙ found_asks value (members_of c.args.members.now) c.in-Some.place
    (λ i m h. c.in-Some.ensures.found i m h ∙ ap (bytes_eq (member_name m)) (c.name.ensures ∙ ap (λ (v : Plain). text_in (entry_at_index v 0)) c.of-view.ensures)) y m g

pub returns-in-Some-clause-question : goal.returns-in-Some-clause-question
returns-in-Some-clause-question c =
    let p : List ℕ = payload_of c.args.adb in
    let members : List Member = members_of c.args.members.now in
    let value : Plain = value_at p (Kinds.Obj Tables.Dep) c.args.entry in
    let called : c.name.result.now ≡ text_in (entry_at_index value 0) = c.name.ensures ∙ ap (λ (v : Plain). text_in (entry_at_index v 0)) c.of-view.ensures in
    let same : text_in (value_at p Kinds.Text c.word.result) ≡ text_in (entry_at_index value 1) =
    ap (λ (w : ℕ). text_in (value_at p Kinds.Text w)) c.word.ensures ∙ ap text_in (c.field_word.ensures Kinds.Text refl).1 in
    record {
      within = subst (λ (k : ℕ). k < length members) (sym c.place_of.ensures) c.in-Some.ensures.within;
      shaped = c.requires.sound;
      sound = c.requires.texts;
      name = λ m g. sym called
          ∙ named_so members c.place_of.result c.name.result.now
          (subst (λ (k : ℕ). (i : ℕ) (m : Member) → slice_get members i ≡ Some m → is_found_place i (Some k) ≡ bytes_eq (member_name m) c.name.result.now) (sym c.place_of.ensures) c.in-Some.ensures.found) m g;
      version = sym same;
      matching = sym (ap (λ (v : Plain). int_in (entry_at_index v 2)) c.of-view.ensures) ∙ sym c.matching.ensures;
    }
