use Rattle.std.proofs.Common.{ap, ◌∙◌}
use Rattle.command_core.specs.Files.{without_one_leading_dot_slash}
use Rattle.command_core.specs.declared.values.TheConstants.{FILES}
use Rattle.package_files.specs.Sources.{values_of_letter}
use Rattle.make_core.proofs.MadeParts.{first_is, first_none}
use Rattle.make_core.proofs.MadeRuns.{nothing_packed, packed_for}
use Rattle.make_core.proofs.packages.reading.pack_below.Goals as goal

pub returns-in-Some-clause-read : goal.returns-in-Some-clause-read
returns-in-Some-clause-read g c = λ n.
    let first = first_is (values_of_letter FILES c.args.values.now) c.first_folder.result c.in-Some.value c.first_folder.ensures c.in-Some.is in
    packed_for _ (values_of_letter FILES c.args.values.now) c.in-Some.value.now first.0 c.without_one_leading_dot_slash-folder.result.now c.args.names.now c.pack_names.result n first.1 (c.without_one_leading_dot_slash-folder.ensures ∙ ap without_one_leading_dot_slash c.as_bytes.ensures) (c.pack_names.ensures.read n)

pub returns-in-None-clause-read : goal.returns-in-None-clause-read
returns-in-None-clause-read g c = λ n.
    nothing_packed _ (values_of_letter FILES c.args.values.now) c.args.names.now (record { folders = c.new.result; blocks = c.new-in-None.result }) n
    (first_none (values_of_letter FILES c.args.values.now) c.first_folder.result c.first_folder.ensures c.in-None.is) c.new-in-None.ensures.items c.new.ensures.items
