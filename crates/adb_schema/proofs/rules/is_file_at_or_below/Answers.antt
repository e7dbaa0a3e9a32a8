use Rattle.std.proofs.Common.{◌∷◌, ◌++◌, None, Some, sym, ap, ◌∙◌}
use Rattle.std.proofs.lemmas.Bool.Decides.{Decides-eqb}
use Rattle.std.proofs.lemmas.Slice.Eq.{strip_prefix_is}
use Rattle.adb_schema.specs.Reserved.{is_at_or_below}
use Rattle.adb_schema.proofs.Below.{is_at_or_below-append, folder_apart, file_path}
use Rattle.adb_schema.proofs.rules.is_file_at_or_below.Goals as goal

pub returns-in-Some : goal.returns-in-Some
returns-in-Some c =
    let split = strip_prefix_is Decides-eqb c.args.top.now c.args.folder.now (Some c.in-Some.rest) c.in-Some.ensures.cases in
    c.is_at_or_below_slash.ensures
    ∙ sym (is_at_or_below-append c.args.folder.now c.in-Some.rest.now (47 ∷ c.args.name.now))
    ∙ ap (λ t. is_at_or_below t (c.args.folder.now ++ (47 ∷ c.args.name.now))) (sym split)
    ∙ ap (is_at_or_below c.args.top.now) (sym (file_path c.args.folder.now c.args.name.now c.if-is_empty.ensures))

pub returns-in-None : goal.returns-in-None
returns-in-None c =
    let apart = strip_prefix_is Decides-eqb c.args.top.now c.args.folder.now None c.in-None.ensures.cases in
    c.is_at_or_below-in-None.ensures
    ∙ sym (folder_apart c.args.top.now c.args.folder.now (47 ∷ c.args.name.now) apart)
    ∙ ap (is_at_or_below c.args.top.now) (sym (file_path c.args.folder.now c.args.name.now c.if-is_empty.ensures))
