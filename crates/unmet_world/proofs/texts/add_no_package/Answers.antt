use Rattle.std.specs.Prelude.{codes}
use Rattle.unmet_world.proofs.AddedTexts.{three_added}
use Rattle.unmet_world.proofs.texts.add_no_package.Goals as goal

pub returns-in_ok-extend_from_slice-in-Some : goal.returns-in_ok-extend_from_slice-in-Some
returns-in_ok-extend_from_slice-in-Some c =
    rw c.in-Some.is (three_added c.extend_from_slice-in-Some-2.result _ _ _ _ (codes "no package") (codes "; a similar name is ") c.in-Some.name.now
    c.in_ok-extend_from_slice.ensures.items c.in_ok-extend_from_slice-in-Some.ensures.items c.extend_from_slice-in-Some-2.ensures.items)
