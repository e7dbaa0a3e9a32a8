-- Lemmas about the lines of help: the rest of a list behind a place, and a text that grows line by line.
use Rattle.std.proofs.Common.{List, Some, [], ap, append-nil, append_assoc, arith, codes, drop, get_or, length, map, refl, suc, sym, zero, ℕ, ◌++◌, ◌+◌, ◌∙◌, ◌<◌, ◌∷◌, ◌≡◌, ◌≤◌}
use Rattle.std.specs.List.{slice_get}
use Rattle.std.specs.Prelude.{Result, Ok, Err, OnOk, if◌then◌else◌, is_ok}
use Rattle.command_core.specs.declared.operands.Operand.{Operand}
use Rattle.command_core.specs.declared.command.Applet.{Applet}
use Rattle.words_core.specs.HelpTexts.{HelpLine, command_column, command_help_line, commands_text, common_option_help, common_options_text, first_steps_text, help_line, help_line_text, help_lines_text, listed_commands, option_column, program_help, program_usage, purpose, section_text, help_topic_of, synopsis_line_with_prefix, synopsis_text_with_first_prefix}
use Rattle.words_core.specs.Options.{applet_of, applet_word}

pub drop_all : {X : Type 0} (xs : List X) (i : ℕ) → length xs ≤ i → drop i xs ≡ []
drop_all [] zero l = refl
drop_all [] (suc i) l = refl
drop_all (x ∷ xs) zero l = absurd (omega (arith, l))
drop_all (x ∷ xs) (suc i) l = drop_all xs i (omega (arith, l))

pub drop_at : {X : Type 0} (xs : List X) (i : ℕ) (d : X) → i < length xs → drop i xs ≡ get_or xs i d ∷ drop (i + 1) xs
drop_at [] i d l = absurd (omega (arith, l))
drop_at (x ∷ xs) zero d l = refl
drop_at (x ∷ xs) (suc i) d l =
    let next : suc (i + 1) ≡ suc i + 1 = omega arith in
    drop_at xs i d (omega (arith, l)) ∙ ap (λ n. get_or xs i d ∷ drop n (x ∷ xs)) next

-- one more text
pub more_text : (old text rest new : List ℕ) → new ≡ old ++ text → old ++ (text ++ rest) ≡ new ++ rest
more_text old text rest new e = sym (append_assoc old text rest) ∙ ap (λ t. t ++ rest) (sym e)

-- one more line
pub lines_left : {X : Type 0} (column : ℕ) (f : X → HelpLine) (xs : List X) (i : ℕ) (d : X) (all text new : List ℕ) → i < length xs → new ≡ text ++ help_line_text column (f (get_or xs i d)) → all ≡ text ++ help_lines_text column (map f (drop i xs)) → all ≡ new ++ help_lines_text column (map f (drop (i + 1) xs))
lines_left column f xs i d all text new l e kept =
    kept
    ∙ (ap (λ ys. text ++ help_lines_text column (map f ys)) (drop_at xs i d l)
    ∙ more_text text (help_line_text column (f (get_or xs i d))) (help_lines_text column (map f (drop (i + 1) xs))) new e)

pub lines_done : {X : Type 0} (column : ℕ) (f : X → HelpLine) (xs : List X) (i : ℕ) (text : List ℕ) → length xs ≤ i → text ++ help_lines_text column (map f (drop i xs)) ≡ text
lines_done column f xs i text l = ap (λ ys. text ++ help_lines_text column (map f ys)) (drop_all xs i l) ∙ append-nil text

-- one more line of usage
pub usage_left : {X : Type 0} (f : X → List ℕ) (xs : List X) (i : ℕ) (d : X) (front all text new : List ℕ) → i < length xs → new ≡ text ++ synopsis_line_with_prefix front (f (get_or xs i d)) → all ≡ text ++ synopsis_text_with_first_prefix front (map f (drop i xs)) → all ≡ new ++ synopsis_text_with_first_prefix (codes "       ") (map f (drop (i + 1) xs))
usage_left f xs i d front all text new l e kept =
    kept
    ∙ (ap (λ ys. text ++ synopsis_text_with_first_prefix front (map f ys)) (drop_at xs i d l)
    ∙ more_text text (synopsis_line_with_prefix front (f (get_or xs i d))) (synopsis_text_with_first_prefix (codes "       ") (map f (drop (i + 1) xs))) new e)

pub usage_done : {X : Type 0} (f : X → List ℕ) (xs : List X) (i : ℕ) (front text : List ℕ) → length xs ≤ i → text ++ synopsis_text_with_first_prefix front (map f (drop i xs)) ≡ text
usage_done f xs i front text l = ap (λ ys. text ++ synopsis_text_with_first_prefix front (map f ys)) (drop_all xs i l) ∙ append-nil text

-- the operand that is asked about
pub topic_first : (operands : List Operand) (operand : Operand) → slice_get operands 0 ≡ Some operand → applet_of operand.text ≡ help_topic_of operands
topic_first [] operand h = absurd (cc)
topic_first (o ∷ operands) operand h = (let same : o ≡ operand = cc in ap (λ (x : Operand). applet_of x.text) (sym same))

-- ---- the parts of a help

pub command_pushed : (column : ℕ) (text new word does : List ℕ) (applet : Applet) → new ≡ text ++ help_line_text column (help_line word does) → word ≡ applet_word applet → does ≡ purpose applet → new ≡ text ++ help_line_text column (command_help_line applet)
command_pushed column text new word does applet e w p =
    e ∙ (ap (λ x. text ++ help_line_text column (help_line x does)) w ∙ ap (λ x. text ++ help_line_text column (help_line (applet_word applet) x)) p)

pub commands_are : (old one new : List ℕ) → one ≡ old ++ codes "\nCommands:\n" → new ≡ one ++ help_lines_text command_column (map command_help_line listed_commands) → new ≡ old ++ commands_text
unfolding commands_text
commands_are old one new a b = b ∙ sym (more_text old (codes "\nCommands:\n") (help_lines_text command_column (map command_help_line listed_commands)) one a)

pub common_is : (old new : List ℕ) (lines : List HelpLine) → new ≡ old ++ section_text (codes "\nOptions of every command:\n") option_column lines → lines ≡ common_option_help → new ≡ old ++ common_options_text
unfolding common_options_text
common_is old new lines a r = a ∙ ap (λ x. old ++ section_text (codes "\nOptions of every command:\n") option_column x) r

-- a text behind others
pub then_text : (old text more one new : List ℕ) → one ≡ old ++ text → new ≡ one ++ more → new ≡ old ++ (text ++ more)
then_text old text more one new a b = b ∙ (ap (λ t. t ++ more) a ∙ append_assoc old text more)

-- the last text behind others, which may fail
pub last_text : {T E : Type 0} (r : Result T E) (old text last one new : List ℕ) → one ≡ old ++ text → new ≡ (if is_ok r then one ++ last else one) → OnOk r (new ≡ old ++ (text ++ last))
last_text (Ok x) old text last one new a b = then_text old text last one new a b
last_text (Err e) old text last one new a b = tt

pub program_told : {T E : Type 0} (r : Result T E) (old t1 t2 t3 t4 new : List ℕ) (common : List HelpLine) → t1 ≡ old ++ program_usage → t2 ≡ t1 ++ codes "\nCommands:\n" → t3 ≡ t2 ++ help_lines_text command_column (map command_help_line listed_commands) → t4 ≡ t3 ++ section_text (codes "\nOptions of every command:\n") option_column common → common ≡ common_option_help → new ≡ (if is_ok r then t4 ++ first_steps_text else t4) → OnOk r (new ≡ old ++ program_help)
program_told r old t1 t2 t3 t4 new common a b c d same e =
    last_text r old (program_usage ++ commands_text ++ common_options_text) first_steps_text t4 new
    (then_text old (program_usage ++ commands_text) common_options_text t3 t4
    (then_text old program_usage commands_text t1 t3 a (commands_are t1 t2 t3 b c))
    (common_is t3 t4 common d same)) e

pub nine_texts : {T E : Type 0} (r : Result T E) (old p1 p2 p3 p4 p5 p6 p7 p8 p9 t1 t2 t3 t4 t5 t6 t7 t8 t9 : List ℕ) → t1 ≡ old ++ p1 → t2 ≡ t1 ++ p2 → t3 ≡ t2 ++ p3 → t4 ≡ t3 ++ p4 → t5 ≡ t4 ++ p5 → t6 ≡ t5 ++ p6 → t7 ≡ t6 ++ p7 → t8 ≡ t7 ++ p8 → t9 ≡ (if is_ok r then t8 ++ p9 else t8) → OnOk r (t9 ≡ old ++ ((((((((p1 ++ p2) ++ p3) ++ p4) ++ p5) ++ p6) ++ p7) ++ p8) ++ p9))
nine_texts r old p1 p2 p3 p4 p5 p6 p7 p8 p9 t1 t2 t3 t4 t5 t6 t7 t8 t9 a b c d e f g h i =
    last_text r old _ p9 t8 t9 (then_text old _ p8 t7 t8 (then_text old _ p7 t6 t7 (then_text old _ p6 t5 t6
    (then_text old _ p5 t4 t5 (then_text old _ p4 t3 t4 (then_text old _ p3 t2 t3 (then_text old p1 p2 t1 t2 a b) c) d) e) f) g) h) i

-- a text between two line ends, and a heading
pub between_line_ends : (text purpose : List ℕ) → ((text ++ codes "\n") ++ purpose) ++ codes "\n\nOptions:\n" ≡ (((text ++ codes "\n") ++ purpose) ++ codes "\n") ++ codes "\nOptions:\n"
between_line_ends text purpose = sym (append_assoc ((text ++ codes "\n") ++ purpose) (codes "\n") (codes "\nOptions:\n"))
