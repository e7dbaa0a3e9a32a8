-- The letters of options with values.
use Rattle.std.proofs.Common.{◌≡◌, true, refl}
use Rattle.std.specs.List.{list_all}
use Rattle.command_core.specs.declared.command.Applet.{Applet}
use Rattle.command_core.specs.declared.command.Applet.TheVariants.{Add, Del, Upgrade, Fix, Info, Mkpkg, Mkndx, Version}
use Rattle.words_core.specs.Options.{own_options}
use Rattle.words_core.specs.Rows.{are_values_stored_under_short_letter}

pub letters : (applet : Applet) → list_all are_values_stored_under_short_letter (own_options applet) ≡ true
letters Add = refl
letters Del = refl
letters Upgrade = refl
letters Fix = refl
letters Info = refl
letters Mkpkg = refl
letters Mkndx = refl
letters Version = refl
letters applet = refl
