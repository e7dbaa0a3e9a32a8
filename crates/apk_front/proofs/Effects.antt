-- What a command line may do below its root.
use Rattle.std.proofs.Common.{◌≡◌, ◌⊎◌, inl, inr, ℕ, List, Result, Ok, Err, sym, ap, subst, ◌∙◌}
use Rattle.command_core.specs.Command.{CommandLine}
use Rattle.command_core.specs.declared.command.Applet.{Applet}
use Rattle.command_core.specs.declared.command.Applet.TheVariants.{Adbdump, Adbgen, Add, Audit, Del, Demo, Fix, Help, Info, List as ListApplet, Manifest, Mkndx, Mkpkg, Policy, ProgramVersion, Search, Upgrade, Verify, Version}
use Rattle.outcome.specs.Effect.{does_neither_recover_nor_write, effect_of, do_arguments_neither_recover_nor_write}
use Rattle.words_core.specs.Faults.{IsWordsFault}
use Rattle.words_core.specs.Grammar.{command_of}
use Rattle.words_core.specs.declared.read.WordsFault.{WordsFault}
use Rattle.words_core.specs.declared.read.WordsFault.TheVariants.{Usage}
use Rattle.apk_front.specs.Effects.{root_access_if_read_only}
use Rattle.apk_front.specs.declared.judge.RootAccess.{RootAccess}
use Rattle.apk_front.specs.declared.judge.RootAccess.TheVariants.{Read, Write}

of_applet : (a applet : Applet) → applet ≡ a → root_access_if_read_only (does_neither_recover_nor_write (effect_of a)) ≡ root_access_if_read_only (does_neither_recover_nor_write (effect_of applet))
of_applet a applet is = ap (λ (x : Applet). root_access_if_read_only (does_neither_recover_nor_write (effect_of x))) (sym is)

pub reads_one : (applet : Applet) → (applet ≡ Verify) ⊎ ((applet ≡ Adbdump) ⊎ ((applet ≡ Adbgen) ⊎ ((applet ≡ Version) ⊎ ((applet ≡ Demo) ⊎ ((applet ≡ Help) ⊎ (applet ≡ ProgramVersion)))))) → Read ≡ root_access_if_read_only (does_neither_recover_nor_write (effect_of applet))
reads_one applet (inl is) = of_applet Verify applet is
reads_one applet (inr (inl is)) = of_applet Adbdump applet is
reads_one applet (inr (inr (inl is))) = of_applet Adbgen applet is
reads_one applet (inr (inr (inr (inl is)))) = of_applet Version applet is
reads_one applet (inr (inr (inr (inr (inl is))))) = of_applet Demo applet is
reads_one applet (inr (inr (inr (inr (inr (inl is)))))) = of_applet Help applet is
reads_one applet (inr (inr (inr (inr (inr (inr is)))))) = of_applet ProgramVersion applet is

pub writes_one : (applet : Applet) → (applet ≡ Info) ⊎ ((applet ≡ Audit) ⊎ ((applet ≡ Manifest) ⊎ ((applet ≡ ListApplet) ⊎ ((applet ≡ Search) ⊎ ((applet ≡ Policy) ⊎ ((applet ≡ Mkpkg) ⊎ ((applet ≡ Mkndx) ⊎ ((applet ≡ Add) ⊎ ((applet ≡ Del) ⊎ ((applet ≡ Upgrade) ⊎ (applet ≡ Fix))))))))))) → Write ≡ root_access_if_read_only (does_neither_recover_nor_write (effect_of applet))
writes_one applet (inl is) = of_applet Info applet is
writes_one applet (inr (inl is)) = of_applet Audit applet is
writes_one applet (inr (inr (inl is))) = of_applet Manifest applet is
writes_one applet (inr (inr (inr (inl is)))) = of_applet ListApplet applet is
writes_one applet (inr (inr (inr (inr (inl is))))) = of_applet Search applet is
writes_one applet (inr (inr (inr (inr (inr (inl is)))))) = of_applet Policy applet is
writes_one applet (inr (inr (inr (inr (inr (inr (inl is))))))) = of_applet Mkpkg applet is
writes_one applet (inr (inr (inr (inr (inr (inr (inr (inl is)))))))) = of_applet Mkndx applet is
writes_one applet (inr (inr (inr (inr (inr (inr (inr (inr (inl is))))))))) = of_applet Add applet is
writes_one applet (inr (inr (inr (inr (inr (inr (inr (inr (inr (inl is)))))))))) = of_applet Del applet is
writes_one applet (inr (inr (inr (inr (inr (inr (inr (inr (inr (inr (inl is))))))))))) = of_applet Upgrade applet is
writes_one applet (inr (inr (inr (inr (inr (inr (inr (inr (inr (inr (inr is))))))))))) = of_applet Fix applet is

pub access_by : (words : List (List ℕ)) (command : CommandLine) (applet : Applet) (access : RootAccess) → command_of words ≡ Ok command → applet ≡ command.applet → access ≡ root_access_if_read_only (does_neither_recover_nor_write (effect_of applet))
    → access ≡ root_access_if_read_only (do_arguments_neither_recover_nor_write (command_of words))
access_by words command applet access is same a =
    a ∙ ap (λ (x : Applet). root_access_if_read_only (does_neither_recover_nor_write (effect_of x))) same ∙ ap (λ (r : Result CommandLine ℕ). root_access_if_read_only (do_arguments_neither_recover_nor_write r)) (sym is)

pub access_usage : (words : List (List ℕ)) (place : ℕ) (fault : WordsFault) → fault ≡ Usage place → IsWordsFault fault (command_of words) → Read ≡ root_access_if_read_only (do_arguments_neither_recover_nor_write (command_of words))
access_usage words place fault is of =
    let read : command_of words ≡ Err place = subst (λ (f : WordsFault). IsWordsFault f (command_of words)) is of in
    ap (λ (r : Result CommandLine ℕ). root_access_if_read_only (do_arguments_neither_recover_nor_write r)) (sym read)
