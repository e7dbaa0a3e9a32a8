-- The next file of a folder is the next one of all, and a folder without one is passed.
use Rattle.std.proofs.Common.{◌+◌, ◌∷◌, drop, sym, ◌∙◌, arith}
use Rattle.adb_view.specs.Values.{entries_in}
use Rattle.adb_schema.specs.adb_fields.Repeated.{list_of}
use Rattle.adb_schema.specs.Views.{dir_value}
use Rattle.adb_schema.specs.adb_fields.ListValue.{list_value}
use Rattle.pkg_core.specs.Opened.{files_left_from, expected_of}
use Rattle.pkg_core.proofs.Listed.{some_left, folder_left, none_left}
use Rattle.pkg_core.proofs.walk.Walk.next.Goals as goal

pub returns-in-Some : goal.returns-in-Some
returns-in-Some c =
    sym c.loop-self.invariant.1
    ∙ (some_left c.loop-self.self.folder c.loop-self.self.file c.next_in.new.self.file (list_value c.loop-self.self.folders) (dir_value c.get.result) (list_value c.files-files.result) (expected_of c.in-Some.wanted) (grind arith) c.get.ensures c.files-files.ensures c.in-Some.ensures.taken
    ∙ (λ k. expected_of c.in-Some.wanted ∷ files_left_from (sym c.in-Some.ensures.folder k + 1) c.next_in.new.self.file (drop (sym c.in-Some.ensures.folder k) (list_of (entries_in (list_value (sym c.in-Some.ensures.folders k)))))))

pub loop-self-preserved : goal.loop-self-preserved
loop-self-preserved c = (
  c.next_in.ensures.folders ∙ c.loop-self.invariant.0,
  (λ k. files_left_from (c.next_in.ensures.folder k + 1 + 1) 0 (drop (c.next_in.ensures.folder k + 1) (list_of (entries_in (list_value (c.next_in.ensures.folders k))))))
      ∙ (sym (folder_left c.loop-self.self.folder c.loop-self.self.file (list_value c.loop-self.self.folders) (dir_value c.get.result) (list_value c.files-files.result) (grind arith) c.get.ensures c.files-files.ensures c.in-None.ensures.taken.0)
      ∙ c.loop-self.invariant.1),
)

pub returns : goal.returns
returns c =
    let none = none_left c.loop-self.self.folder c.loop-self.self.file (list_value c.loop-self.self.folders) (grind arith) in
    (sym c.loop-self.invariant.1 ∙ none, none)
