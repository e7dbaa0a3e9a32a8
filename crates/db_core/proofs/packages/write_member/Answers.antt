use Rattle.std.proofs.Common.{◌≡◌, ◌∙◌, ℕ, false, List, Option, Some, ap, subst, sym}
use Rattle.std.specs.Prelude.{is_some}
use Rattle.adb_view.specs.Adb.{payload_of}
use Rattle.adb_view.specs.Plain.{Plain}
use Rattle.adb_sound.specs.adb_schema.Views.{package_value}
use Rattle.adb_view.specs.Values.{value_at}
use Rattle.adb_view.specs.declared.tables.Kind.TheVariants as Kinds
use Rattle.adb_view.specs.declared.tables.Which.TheVariants as Tables
use Rattle.adb_copy.specs.adb_values.Drafts.{draft_with}
use Rattle.adb_copy.proofs.adb_values.Lists.{on_ok}
use Rattle.adb_copy.specs.Known.{AreRememberedBlobsOfDraft}
use Rattle.adb_copy.proofs.Known.{known_more}
use Rattle.db_core.specs.Seen.{members_of, payload_of_old_database}
use Rattle.db_core.specs.NewDatabase.{package_in_new_database}
use Rattle.db_core.proofs.Listed.{member_there}
use Rattle.db_core.proofs.packages.write_member.Goals as goal

-- one that stays

pub write_package-requires-clause-known : goal.write_package-requires-clause-known
write_package-requires-clause-known c =
    let at = member_there (members_of c.args.members.now) c.args.i c.requires.within in
    let stays : is_some at.0.id ≡ false = ap (λ (o : Option (List ℕ)). is_some o) (sym (c.id.ensures at.0 at.1) ∙ c.in-None.is) in
    let same : payload_of c.adb-adb.result ≡ payload_of_old_database c.args.members.now = (λ j. payload_of (c.adb-adb.ensures j)) ∙ c.view-view.ensures.stays at.0 at.1 stays in
    subst (λ (p : List ℕ). AreRememberedBlobsOfDraft p c.args.draft.now c.args.known.now) (sym same) c.requires.known

pub returns-in-None : goal.returns-in-None
returns-in-None c =
    let at = member_there (members_of c.args.members.now) c.args.i c.requires.within in
    let stays : is_some at.0.id ≡ false = ap (λ (o : Option (List ℕ)). is_some o) (sym (c.id.ensures at.0 at.1) ∙ c.in-None.is) in
    let same : payload_of c.adb-adb.result ≡ payload_of_old_database c.args.members.now = (λ j. payload_of (c.adb-adb.ensures j)) ∙ c.view-view.ensures.stays at.0 at.1 stays in
    let seen : value_at (payload_of c.adb-adb.result) (Kinds.Obj Tables.Package) c.word-pkg.result ≡ package_value c.view-view.result.now =
    (λ j. value_at (payload_of (c.adb-adb.ensures j)) (Kinds.Obj Tables.Package) (c.word-pkg.ensures.is j)) in
    record {
      value =
          on_ok _ _ (λ e m here. e ∙ (λ j. draft_with (package_in_new_database (record { pkg = (seen ∙ c.view-view.ensures.value m here) j; id = (sym c.in-None.is ∙ c.id.ensures m here) j }) c.args.flags.now) c.args.draft.now))
          c.write_package.result c.write_package.ensures.value;
      known =
          on_ok _ _ (λ known. subst (λ (p : List ℕ). AreRememberedBlobsOfDraft p c.write_package.new.draft c.write_package.new.known) same known)
          c.write_package.result c.write_package.ensures.known;
    }

-- one that comes

pub write_package-requires-in-Some-clause-known : goal.write_package-requires-in-Some-clause-known
write_package-requires-in-Some-clause-known c = c.new-own.ensures (payload_of c.adb-adb.result) c.args.draft.now

pub returns-in-Some : goal.returns-in-Some
returns-in-Some c =
    let v : Plain = value_at (payload_of c.adb-adb.result) (Kinds.Obj Tables.Package) c.word-pkg.result in
    let seen : v ≡ package_value c.view-view.result.now =
    (λ j. value_at (payload_of (c.adb-adb.ensures j)) (Kinds.Obj Tables.Package) (c.word-pkg.ensures.is j)) in
    record {
      value =
          on_ok _ _ (λ e m here. e ∙ (λ j. draft_with (package_in_new_database (record { pkg = (seen ∙ c.view-view.ensures.value m here) j; id = (sym c.in-Some.is ∙ c.id.ensures m here) j }) c.args.flags.now) c.args.draft.now))
          c.write_package-in-Some.result c.write_package-in-Some.ensures.value;
      known =
          on_ok _ _ (λ e. known_more (payload_of_old_database c.args.members.now) c.args.known.now c.args.draft.now c.write_package-in-Some.new.draft c.requires.known
          (package_in_new_database (record { pkg = v; id = Some c.in-Some.id }) c.args.flags.now) e)
          c.write_package-in-Some.result c.write_package-in-Some.ensures.value;
    }
