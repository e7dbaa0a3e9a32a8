use Rattle.change_outcome.proofs.package.differs.Goals as goal

pub returns : goal.returns
returns c = c.told.ensures _ c.package_differs.ensures
