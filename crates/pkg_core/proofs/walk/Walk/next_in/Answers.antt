-- A file with contents is the next one, and one without is passed.
use Rattle.std.proofs.Common.{◌+◌, sym, ◌∙◌, ap, arith}
use Rattle.adb_schema.specs.Views.{file_value}
use Rattle.adb_schema.specs.adb_fields.ListValue.{list_value}
use Rattle.pkg_core.proofs.Listed.{some_file, other_file, no_file}
use Rattle.pkg_core.proofs.walk.Walk.next_in.Goals as goal

pub returns-then-has_contents-clause-taken : goal.returns-then-has_contents-clause-taken
returns-then-has_contents-clause-taken c =
    sym c.loop-self.invariant.2
    ∙ some_file (c.args.self.now.folder + 1) (c.loop-self.self.folder + 1) c.loop-self.self.file (list_value c.args.files) (file_value c.get-file.result) c.size.result c.hashes.result.now (grind arith) (ap (λ n. n + 1) c.loop-self.invariant.1) c.get-file.ensures (sym c.has_contents.ensures ∙ c.if-has_contents.true) c.size.ensures c.hashes.ensures

pub loop-self-preserved : goal.loop-self-preserved
loop-self-preserved c = (
  c.loop-self.invariant.0,
  c.loop-self.invariant.1,
  sym (other_file (c.args.self.now.folder + 1) c.loop-self.self.file (list_value c.args.files) (file_value c.get-file.result) (grind arith) c.get-file.ensures (sym c.has_contents.ensures ∙ c.if-has_contents.false)) ∙ c.loop-self.invariant.2,
)

pub returns-clause-taken : goal.returns-clause-taken
returns-clause-taken c =
    let none = no_file (c.args.self.now.folder + 1) (c.loop-self.self.file + 1) c.loop-self.self.file (list_value c.args.files) (grind arith) in
    (sym c.loop-self.invariant.2 ∙ none, none)
