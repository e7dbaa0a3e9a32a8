use Rattle.std.proofs.Common.{ap, ◌∙◌, refl, Option, ℕ, drop}
use Rattle.std.specs.Option.{option_map}
use Rattle.package_files.specs.Sources.{found_bytes_or_missing}
use Rattle.package_files.proofs.ReadLemmas.{read_explained, explained_as, explained, tree_fault}
use Rattle.package_files.proofs.packing.read_listed.Goals as goal

pub returns-in_err-at-clause-read : goal.returns-in_err-at-clause-read
returns-in_err-at-clause-read g c = λ n. explained _ _ (λ read. tree_fault _ _ c.from_residual.result _ c.from_residual.ensures.1)

pub returns-in-Some-clause-read : goal.returns-in-Some-clause-read
returns-in-Some-clause-read g c = λ n. explained_as _ _ _ (read_explained _ _ c.args.name.now c.in_ok-at.ensures.answer n)
    (λ read e. (drop c.in-Some.at c.read_in_block.new.blocks.items, ap (found_bytes_or_missing c.args.place) (e ∙ ap (λ (o : Option ℕ). option_map (λ at. drop at c.read_in_block.new.blocks.items) o) c.in-Some.is), refl))

pub returns-in-None-clause-read : goal.returns-in-None-clause-read
returns-in-None-clause-read g c = λ n. explained_as _ _ _ (read_explained _ _ c.args.name.now c.in_ok-at.ensures.answer n)
    (λ read e. ap (found_bytes_or_missing c.args.place) (e ∙ ap (λ (o : Option ℕ). option_map (λ at. drop at c.read_in_block.new.blocks.items) o) c.in-None.is))
