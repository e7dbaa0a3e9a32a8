use Rattle.std.proofs.Common.{◌∙◌, ap, cond, false, sym}
use Rattle.std.specs.Prelude.{◌==◌, slice_get}
use Rattle.db_core.specs.adb_schema.Views.{package_value}
use Rattle.adb_view.specs.Adb.{payload_of}
use Rattle.adb_view.specs.Plain.{Plain}
use Rattle.db_core.specs.Seen.{members_of}
use Rattle.file_owners.specs.Questions.{entry_of_question}
use Rattle.file_owners.specs.Replaces.{does_replaces_entry_name_package}
use Rattle.file_owners.proofs.AskedQuestions.{answered}
use Rattle.file_owners.proofs.SoundMembers.{version_sound}
use Rattle.file_owners.proofs.questions.place_if_named.Goals as goal

pub returns-then-does_replaces_entry_name_package : goal.returns-then-does_replaces_entry_name_package
returns-then-does_replaces_entry_name_package c = λ y m g.
    let q = c.args.question.now in
    let entry : Plain = entry_of_question (payload_of c.args.adb) q in
    ap (λ b. cond b (q.place == y) false) (sym c.if-does_replaces_entry_name_package.true)
    ∙ answered q.place y c.does_replaces_entry_name_package.result (does_replaces_entry_name_package entry m.pkg)
    (λ s. c.does_replaces_entry_name_package.ensures ∙ (ap (λ (v : Plain). does_replaces_entry_name_package v (package_value c.view.result.now)) c.of-entry.ensures
    ∙ ap (does_replaces_entry_name_package entry) (c.view.ensures.value m (ap (slice_get (members_of c.args.members.now)) s ∙ g))))

pub returns-else-does_replaces_entry_name_package : goal.returns-else-does_replaces_entry_name_package
returns-else-does_replaces_entry_name_package c = λ y m g.
    let q = c.args.question.now in
    let entry : Plain = entry_of_question (payload_of c.args.adb) q in
    ap (λ b. cond b (q.place == y) false) (sym c.if-does_replaces_entry_name_package.false)
    ∙ answered q.place y c.does_replaces_entry_name_package.result (does_replaces_entry_name_package entry m.pkg)
    (λ s. c.does_replaces_entry_name_package.ensures ∙ (ap (λ (v : Plain). does_replaces_entry_name_package v (package_value c.view.result.now)) c.of-entry.ensures
    ∙ ap (does_replaces_entry_name_package entry) (c.view.ensures.value m (ap (slice_get (members_of c.args.members.now)) s ∙ g))))

pub does_replaces_entry_name_package-requires-clause-version : goal.does_replaces_entry_name_package-requires-clause-version
does_replaces_entry_name_package-requires-clause-version c =
    version_sound (members_of c.args.members.now) c.args.question.now.place (package_value c.view.result.now)
    c.requires.within c.view.ensures.value c.packages_are_sound.ensures
