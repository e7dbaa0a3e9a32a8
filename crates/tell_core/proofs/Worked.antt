-- Worked cases: what each form tells of two packages.
use Rattle.std.proofs.Common.{◌≡◌, ℕ, List, [], ◌∷◌, Some, None, Ok, Err, refl}
use Rattle.std.specs.Prelude.{codes}
use Rattle.adb_view.specs.Plain.{Plain, arr, blob, more, none, null, obj}
use Rattle.command_core.specs.declared.operands.Operand.{Operand}
use Rattle.report_core.specs.declared.refusal.Refusal.TheVariants.{NotInstalled}
use Rattle.tell_core.specs.Info.{form_info, report_and_refusal}
use Rattle.tell_core.specs.declared.info.reporting.Form.TheVariants.{Contents, Depends, Description, Installed, Owner}

abbrev operand : ℕ → List ℕ → Operand
operand place text = record { place = place; text = text }

-- hello 1.0-r0, which lists usr/bin/hello
abbrev hello : Plain
hello =
    obj (more (obj (more (blob (codes "hello")) (more (blob (codes "1.0-r0")) (more null (more (blob (codes "a greeting")) none)))))
    (more (arr (more (obj (more (blob (codes "usr/bin")) (more null (more (arr (more (obj (more (blob (codes "hello")) none)) none)) none)))) none)) none))

-- base 1, which says no more of itself
abbrev base : Plain
base = obj (more (obj (more (blob (codes "base")) (more (blob (codes "1")) none))) none)

abbrev packages : List Plain
packages = hello ∷ (base ∷ [])

-- the words `info -x hello none`
abbrev hello_none : List Operand
hello_none = operand 3 (codes "hello") ∷ (operand 4 (codes "none") ∷ [])

names_in_byte_order : form_info Description packages [] ≡ Ok (report_and_refusal (codes "base\nhello\n") None)
names_in_byte_order = refl

descriptions_in_the_order_given :
    form_info Description packages (operand 2 (codes "hello") ∷ (operand 3 (codes "base") ∷ []))
    ≡ Ok (report_and_refusal (codes "hello-1.0-r0 description:\na greeting\n\nbase-1 description:\n\n\n") None)
descriptions_in_the_order_given = refl

paths_of_hello : form_info Contents packages (operand 3 (codes "hello") ∷ []) ≡ Ok (report_and_refusal (codes "hello-1.0-r0 contains:\nusr/bin/hello\n\n") None)
paths_of_hello = refl

base_depends_on_nothing : form_info Depends packages (operand 3 (codes "base") ∷ []) ≡ Ok (report_and_refusal (codes "base-1 depends on:\n\n") None)
base_depends_on_nothing = refl

owner_of_a_path : form_info Owner packages (operand 3 (codes "/usr/bin/hello") ∷ []) ≡ Ok (report_and_refusal (codes "/usr/bin/hello is owned by hello-1.0-r0\n") None)
owner_of_a_path = refl

a_folder_has_no_owner : form_info Owner packages (operand 3 (codes "usr/bin") ∷ []) ≡ Err (NotInstalled 3)
a_folder_has_no_owner = refl

only_installed_is_refused_late : form_info Installed packages hello_none ≡ Ok (report_and_refusal (codes "hello\n") (Some (NotInstalled 4)))
only_installed_is_refused_late = refl

others_are_refused_before : form_info Contents packages hello_none ≡ Err (NotInstalled 4)
others_are_refused_before = refl

a_name_is_told_as_often_as_it_is_given :
    form_info Installed packages (operand 3 (codes "base") ∷ (operand 4 (codes "base") ∷ [])) ≡ Ok (report_and_refusal (codes "base\nbase\n") None)
a_name_is_told_as_often_as_it_is_given = refl
