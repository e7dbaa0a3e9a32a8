-- Each option is explained by a line of help, and each command is listed.
use Rattle.std.proofs.Common.{true, refl, ◌++◌, ◌≡◌}
use Rattle.command_core.specs.declared.command.Applet.{Applet}
use Rattle.command_core.specs.declared.command.Applet.TheVariants.{Add}
use Rattle.words_core.specs.Explained.{are_help_lines_of_options, are_applets_listed_in_help, help_and_version_options}
use Rattle.words_core.specs.HelpTexts.{common_option_help, option_help}
use Rattle.words_core.specs.Options.{applets, common_options, own_options}

pub own_explained : (applet : Applet) → are_help_lines_of_options (option_help applet) (own_options applet) ≡ true
own_explained Add = refl
own_explained applet = refl

pub common_explained : are_help_lines_of_options common_option_help (common_options ++ help_and_version_options) ≡ true
unfolding common_options
common_explained = refl

pub all_listed : are_applets_listed_in_help applets ≡ true
all_listed = refl
