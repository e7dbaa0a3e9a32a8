use Rattle.std.proofs.Common.{◌∙◌, ◌≤◌, ◌++◌, List, length, ap, sym, append-nil, arith}
use Rattle.dep_core.specs.Dependency.{Dependency}
use Rattle.dep_core.specs.Meets.{dependency}
use Rattle.unmet_world.specs.Lines.{world_lines}
use Rattle.std.proofs.lemmas.List.{take_all}
use Rattle.unmet_world.proofs.AddedTexts.{entry_next, line_of, no_line_of}
use Rattle.unmet_world.proofs.lines.world_lines.Goals as goal
use Rattle.unmet_world.proofs.lines.world_lines.Goals.{then-not-dep+in_ok-line+in_ok-push, else-not-dep}

pub loop-i-preserved : goal.loop-i-preserved
loop-i-preserved c =
    let world : List Dependency = c.args.sources.now.world.now in
    let listed : List Dependency = c.args.sources.now.listed.now in
    elim c.if-not-dep.branch [
      | then-not-dep+in_ok-line+in_ok-push w ↦
          entry_next listed world c.loop-i.i (dependency c.entry-dep.result) c.loop-i.lines.items _ c.entry-dep.ensures c.loop-i.invariant
          (ap (λ v. v.items) w.lines-is ∙ (w.in_ok-push.ensures.items ∙ ap (λ z. c.loop-i.lines.items ++ z) (sym (line_of listed (dependency c.entry-dep.result) _ w.if-not-dep.true (w.from_vec.ensures ∙ w.in_ok-line.ensures)))))
      | else-not-dep w ↦
          entry_next listed world c.loop-i.i (dependency c.entry-dep.result) c.loop-i.lines.items _ c.entry-dep.ensures c.loop-i.invariant
          (ap (λ v. v.items) w.lines-is ∙ (sym (append-nil c.loop-i.lines.items) ∙ ap (λ z. c.loop-i.lines.items ++ z) (sym (no_line_of listed (dependency c.entry-dep.result) w.if-not-dep.false))))
    ]

pub returns : goal.returns
returns c =
    let world : List Dependency = c.args.sources.now.world.now in
    let past : length world ≤ c.loop-i.i = omega (arith, c.len-i-end.ensures.value, c.loop-i-test.false) in
    c.loop-i.invariant ∙ (ap (world_lines c.args.sources.now.listed.now) (take_all c.loop-i.i world past) ∙ ap (world_lines c.args.sources.now.listed.now) c.requires)
