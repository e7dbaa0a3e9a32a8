use Rattle.std.proofs.Common.{sym}
use Rattle.search_choices.specs.Choices.{choices_of, install_ifs_of, pool_of}
use Rattle.search_choices.proofs.Asking.{front_of, front_past}
use Rattle.search_choices.proofs.choices.Choices.is_front_unasked.Goals as goal

pub returns-in-Some : goal.returns-in-Some
returns-in-Some c =
    front_of (pool_of c.args.self.now) (choices_of c.args.self.now) (install_ifs_of c.args.self.now) c.args.self.now.install_ifs.waiting c.args.self.now.asking_cursor c.in-Some.id c.is_triggered_by_install_if.result
    c.requires.install_ifs c.requires.unasked (sym c.in-Some.ensures) c.is_triggered_by_install_if.ensures

pub returns-in-None : goal.returns-in-None
returns-in-None c =
    front_past (pool_of c.args.self.now) (choices_of c.args.self.now) (install_ifs_of c.args.self.now) c.args.self.now.install_ifs.waiting c.args.self.now.asking_cursor
    c.requires.install_ifs c.requires.unasked (sym c.in-None.ensures)
