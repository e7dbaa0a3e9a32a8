use Rattle.std.proofs.Common.{◌≡◌, ◌∙◌, List, ℕ, refl, ap, subst, sym}
use Rattle.std.specs.Prelude.{IfSome, Option}
use Rattle.adb_view.specs.Adb.{payload_of}
use Rattle.adb_view.specs.Plain.{Plain}
use Rattle.adb_view.specs.Values.{entry_at_index, text_in, value_at}
use Rattle.adb_view.specs.declared.tables.Kind.TheVariants as Kinds
use Rattle.adb_view.specs.declared.tables.Which.TheVariants as Tables
use Rattle.dep_core.specs.Meets.{dependency}
use Rattle.candidate_core.proofs.ProvidedVersions.{none_read, provided_text}
use Rattle.candidate_core.proofs.versions.version_of_entry.Goals as goal
use Rattle.candidate_core.proofs.versions.version_of_entry.Goals.{then-is_some, else-is_some}

pub returns : goal.returns
returns c =
    let p : List ℕ = payload_of c.args.source.now.adb in
    let value : Plain = value_at p (Kinds.Obj Tables.Dep) c.args.entry in
    let text : List ℕ = text_in (value_at p Kinds.Text c.if-is_some.word) in
    record {
      version = c.same_version.ensures;
      source = refl;
      text = subst (λ (o : Option (List ℕ)). IfSome o (λ v. v ≡ text)) (sym c.same_version.ensures) (elim c.if-is_some.branch [
        | then-is_some w ↦
            let same : text ≡ text_in (entry_at_index value 1) =
            ap (λ (word : ℕ). text_in (value_at p Kinds.Text word)) (w.word-is ∙ w.word-word.ensures) ∙ ap text_in (w.field_word.ensures Kinds.Text refl).1 in
            provided_text value (dependency c.args.found.now) text c.requires.found same
        | else-is_some w ↦ none_read c.args.found.now.version text (sym c.is_some.ensures ∙ w.if-is_some.false)
      ]);
    }
