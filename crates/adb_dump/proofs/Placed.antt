-- Where lines stand: after one another, deeper, and after a dash or a name.
use Rattle.std.proofs.Common.{◌≡◌, ℕ, zero, suc, Bool, true, false, List, [], ◌∷◌, ◌++◌, refl, sym, ap, ◌∙◌, append_assoc}
use Rattle.std.specs.Prelude.{codes}
use Rattle.std.proofs.lemmas.List.Concat.{flat_map-cons}
use Rattle.adb_dump.specs.Dump.{Line, indent, lines_with_dash_before_first, name_line_above_indented_lines, named_line, dump_text_of_lines}
use Rattle.adb_dump.specs.Margin.{margin, margin_unless_begun, indented_lines_text}

-- all lines but the first are at the margin
laid_first : (d : ℕ) (b : Bool) (x : Line) (xs ys : List Line) → indented_lines_text d false (xs ++ ys) ≡ indented_lines_text d false xs ++ indented_lines_text d false ys → indented_lines_text d b ((x ∷ xs) ++ ys) ≡ indented_lines_text d b (x ∷ xs) ++ indented_lines_text d false ys
laid_first d b x xs ys h =
    ap (λ (t : List ℕ). margin_unless_begun d b ++ (x ++ (codes "\n" ++ t))) h
    ∙ sym (append_assoc (margin_unless_begun d b) (x ++ (codes "\n" ++ indented_lines_text d false xs)) (indented_lines_text d false ys) ∙ ap (λ (t : List ℕ). margin_unless_begun d b ++ t) (append_assoc x (codes "\n" ++ indented_lines_text d false xs) (indented_lines_text d false ys)))

laid-append : (d : ℕ) (xs ys : List Line) → indented_lines_text d false (xs ++ ys) ≡ indented_lines_text d false xs ++ indented_lines_text d false ys
laid-append d [] ys = refl
laid-append d (x ∷ xs) ys = laid_first d false x xs ys (laid-append d xs ys)

pub laid_after : (d : ℕ) (b : Bool) (x : Line) (xs ys : List Line) → indented_lines_text d b ((x ∷ xs) ++ ys) ≡ indented_lines_text d b (x ∷ xs) ++ indented_lines_text d false ys
laid_after d b x xs ys = laid_first d b x xs ys (laid-append d xs ys)

margin-more : (d : ℕ) (l : Line) → margin d ++ (codes "  " ++ l) ≡ codes "  " ++ (margin d ++ l)
margin-more zero l = refl
margin-more (suc d) l = ap (λ (t : List ℕ). codes "  " ++ t) (margin-more d l)

laid-indent : (d : ℕ) (ls : List Line) → indented_lines_text d false (indent ls) ≡ indented_lines_text (suc d) false ls
laid-indent d [] = refl
laid-indent d (l ∷ ls) =
    margin-more d (l ++ (codes "\n" ++ indented_lines_text d false (indent ls))) ∙ ap (λ (t : List ℕ). codes "  " ++ (margin d ++ (l ++ (codes "\n" ++ t)))) (laid-indent d ls)

-- what is after a dash stands one deeper
pub laid_dashed : (d : ℕ) (b : Bool) (l : Line) (ls rest : List Line) → indented_lines_text d b (lines_with_dash_before_first (l ∷ ls) ++ rest) ≡ (margin_unless_begun d b ++ codes "- ") ++ (indented_lines_text (suc d) true (l ∷ ls) ++ indented_lines_text d false rest)
laid_dashed d b l ls rest =
    ap (λ (t : List ℕ). margin_unless_begun d b ++ (codes "- " ++ (l ++ (codes "\n" ++ t)))) (laid-append d (indent ls) rest ∙ ap (λ (t : List ℕ). t ++ indented_lines_text d false rest) (laid-indent d ls))
    ∙ sym (append_assoc (margin_unless_begun d b) (codes "- ") (indented_lines_text (suc d) true (l ∷ ls) ++ indented_lines_text d false rest) ∙ ap (λ (t : List ℕ). margin_unless_begun d b ++ (codes "- " ++ t)) (append_assoc l (codes "\n" ++ indented_lines_text (suc d) false ls) (indented_lines_text d false rest)))

regroup : (a name sep rest : List ℕ) → a ++ ((name ++ sep) ++ rest) ≡ ((a ++ name) ++ sep) ++ rest
regroup a name sep rest = sym (ap (λ (t : List ℕ). t ++ rest) (append_assoc a name sep) ∙ append_assoc a (name ++ sep) rest)

-- a value of one line follows the name
pub laid_on_line : (d : ℕ) (b : Bool) (name l : Line) → indented_lines_text d b (named_line name l) ≡ (((margin_unless_begun d b ++ name) ++ codes ":") ++ codes " ") ++ indented_lines_text d true (l ∷ [])
laid_on_line d b name l =
    ap (λ (t : List ℕ). margin_unless_begun d b ++ t) (append_assoc name (codes ": " ++ l) (codes "\n")) ∙ sym (append_assoc (margin_unless_begun d b) name (codes ": " ++ (l ++ codes "\n")))
    ∙ sym (append_assoc ((margin_unless_begun d b ++ name) ++ codes ":") (codes " ") (l ++ codes "\n") ∙ append_assoc (margin_unless_begun d b ++ name) (codes ":") (codes " " ++ (l ++ codes "\n")))

-- others are below it
pub laid_below : (d : ℕ) (b : Bool) (name : Line) (ls : List Line) → indented_lines_text d b (name_line_above_indented_lines name ls) ≡ (((margin_unless_begun d b ++ name) ++ codes ":") ++ codes "\n") ++ indented_lines_text (suc d) false ls
laid_below d b name ls =
    ap (λ (t : List ℕ). margin_unless_begun d b ++ ((name ++ codes ":") ++ (codes "\n" ++ t))) (laid-indent d ls)
    ∙ regroup (margin_unless_begun d b) name (codes ":") (codes "\n" ++ indented_lines_text (suc d) false ls)
    ∙ sym (append_assoc ((margin_unless_begun d b ++ name) ++ codes ":") (codes "\n") (indented_lines_text (suc d) false ls))

-- a line of its own
pub laid_line : (d : ℕ) (b : Bool) (l : Line) → (margin_unless_begun d b ++ l) ++ codes "\n" ≡ indented_lines_text d b (l ∷ [])
laid_line d b l = append_assoc (margin_unless_begun d b) l (codes "\n")

-- at no depth lines are a text
pub laid_text : (ls : List Line) → indented_lines_text 0 false ls ≡ dump_text_of_lines ls
laid_text [] = refl
laid_text (l ∷ ls) = ap (λ (t : List ℕ). l ++ (codes "\n" ++ t)) (laid_text ls) ∙ sym (append_assoc l (codes "\n") (dump_text_of_lines ls)) ∙ sym (flat_map-cons (λ (x : Line). x ++ codes "\n") l ls)
