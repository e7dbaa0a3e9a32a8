use Rattle.std.proofs.Common.{rules, ◌∙◌, List, ℕ, arith}
use Rattle.std.specs.Prelude.{◌==◌}
use Rattle.std.proofs.lemmas.Iterator.{YieldsList-from_zip}
use Rattle.std.proofs.lemmas.Iterator.Consumers.{YieldsList-at}
use Rattle.std.proofs.lemmas.Iterator.Search.{all_from_yields_List}
use Rattle.std.proofs.lemmas.Iterator.Splits.{YieldsList-from_slice_split}
use Rattle.std.proofs.lemmas.List.Splits.{length-slice_split}
use Rattle.base_core.specs.Name.{path_parts_of}
use Rattle.change_outcome.specs.star_patterns.Patterns.{is_whole_text_matched}
use Rattle.change_report.proofs.PatternParts.{unlike, zipped}
use Rattle.change_report.proofs.pattern.do_patterns_match_parts_one_to_one.Goals as goal

pub returns-then-count_slashes : goal.returns-then-count_slashes
returns-then-count_slashes c =
    unlike (path_parts_of c.args.pattern.now) (path_parts_of c.args.folder.now) (λ same. c.if-count_slashes.true
    (omega (arith, same, length-slice_split (λ b. b == 47) c.args.pattern.now, length-slice_split (λ b. b == 47) c.args.folder.now, c.count_slashes.ensures, c.count_slashes-2.ensures)))

pub returns : goal.returns
returns c =
    all_from_yields_List (λ (p : List ℕ × List ℕ). is_whole_text_matched p.0 p.1) c.all.new.self _ _ c.all.ensures.ran
    (YieldsList-from_zip
    (YieldsList-at c.zip.ensures.first
    (YieldsList-from_slice_split _ (λ b. b == 47) c.args.pattern.now c.split.ensures.rest c.split.ensures.done c.split.ensures.closure (λ x b q k. search rules)))
    (YieldsList-at c.zip.ensures.second
    (YieldsList-from_slice_split _ (λ b. b == 47) c.args.folder.now c.split-parts.ensures.rest c.split-parts.ensures.done c.split-parts.ensures.closure (λ x b q k. search rules))))
    (λ x b q k. search rules)
    ∙ zipped (path_parts_of c.args.pattern.now) (path_parts_of c.args.folder.now)
    (omega (arith, length-slice_split (λ b. b == 47) c.args.pattern.now, length-slice_split (λ b. b == 47) c.args.folder.now, c.count_slashes.ensures, c.count_slashes-2.ensures, c.if-count_slashes.false))
