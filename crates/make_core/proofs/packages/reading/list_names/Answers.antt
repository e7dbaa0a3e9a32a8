use Rattle.std.proofs.Common.{List, ℕ, sym, ◌∙◌, ap}
use Rattle.std.specs.Option.{option_map}
use Rattle.std.specs.Borrow.{Bor}
use Rattle.base_core.proofs.Counting.{readings_none}
use Rattle.make_core.proofs.MadeParts.{folder_file, folder_is, no_folder}
use Rattle.make_core.proofs.MadeRuns.{listed_for, named_for, nothing_below, nothing_named}
use Rattle.make_core.proofs.Reading.{cut_by_tree, listing_failed, listing_reads, no_value}
use Rattle.package_files.specs.Sources.{values_of_letter}
use Rattle.command_core.specs.declared.values.TheConstants.{FILES}
use Rattle.make_core.proofs.packages.reading.list_names.Goals as goal

pub first_file-requires-clause-file : goal.first_file-requires-clause-file
first_file-requires-clause-file g c = folder_file c.args.values.now c.requires

pub returns-in_ok-names-in-Some-clause-names : goal.returns-in_ok-names-in-Some-clause-names
returns-in_ok-names-in-Some-clause-names g c =
    listed_for _ c.args.values.now c.in-Some.folder.now c.in_ok-names-in-Some.names
    (folder_is c.args.values.now c.in-Some.folder.now (sym (ap (option_map (λ (n : Bor (List ℕ)). n.now)) c.in-Some.is) ∙ c.first_file.ensures)) c.in_ok-names-in-Some.ensures.value

pub returns-in-None-clause-names : goal.returns-in-None-clause-names
returns-in-None-clause-names g c =
    nothing_below _ (values_of_letter FILES c.args.values.now) _ (no_folder c.args.values.now (sym (ap (option_map (λ (n : Bor (List ℕ)). n.now)) c.in-None.is) ∙ c.first_file.ensures))

pub returns-in_ok-names-in-Some-clause-order : goal.returns-in_ok-names-in-Some-clause-order
returns-in_ok-names-in-Some-clause-order g c =
    named_for c.args.values.now c.in-Some.folder.now c.in_ok-names-in-Some.names
    (folder_is c.args.values.now c.in-Some.folder.now (sym (ap (option_map (λ (n : Bor (List ℕ)). n.now)) c.in-Some.is) ∙ c.first_file.ensures)) c.in_ok-names-in-Some.ensures.order

pub returns-in-None-clause-order : goal.returns-in-None-clause-order
returns-in-None-clause-order g c =
    nothing_named (values_of_letter FILES c.args.values.now) _ (no_folder c.args.values.now (sym (ap (option_map (λ (n : Bor (List ℕ)). n.now)) c.in-None.is) ∙ c.first_file.ensures))

pub returns-in_err-names-in-Some-clause-tree : goal.returns-in_err-names-in-Some-clause-tree
returns-in_err-names-in-Some-clause-tree g c =
    let e = c.in_err-names-in-Some.ensures in
    listing_failed _ _ _ _ c.in_err-names-in-Some.field-0.0 c.from_residual.result c.from_residual.ensures.1 e.same e.goes_on e.disk e.memory e.proper

pub returns-in_err-names-in-Some-clause-cut : goal.returns-in_err-names-in-Some-clause-cut
returns-in_err-names-in-Some-clause-cut g c = cut_by_tree _ c.from_residual.result c.from_residual.ensures.1

pub returns-in_err-names-in-Some-clause-names : goal.returns-in_err-names-in-Some-clause-names
returns-in_err-names-in-Some-clause-names g c = no_value _ _ c.from_residual.result c.from_residual.ensures.1

pub returns-in_err-names-in-Some-clause-order : goal.returns-in_err-names-in-Some-clause-order
returns-in_err-names-in-Some-clause-order g c = no_value _ _ c.from_residual.result c.from_residual.ensures.1

pub returns-in_ok-names-in-Some-clause-tree : goal.returns-in_ok-names-in-Some-clause-tree
returns-in_ok-names-in-Some-clause-tree g c =
    let e = c.in_ok-names-in-Some.ensures in
    listing_reads _ _ _ _ _ e.same e.goes_on e.kept e.proper

pub returns-in_ok-names-in-Some-clause-cut : goal.returns-in_ok-names-in-Some-clause-cut
returns-in_ok-names-in-Some-clause-cut g c = tt

pub returns-in-None-clause-tree : goal.returns-in-None-clause-tree
returns-in-None-clause-tree g c = readings_none _ _ _ _

pub returns-in-None-clause-cut : goal.returns-in-None-clause-cut
returns-in-None-clause-cut g c = tt
