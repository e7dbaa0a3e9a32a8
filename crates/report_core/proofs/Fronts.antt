-- A front of several texts.
use Rattle.std.proofs.Common.{◌≡◌, ◌<◌, ◌+◌, ◌/◌, ◌%◌, ℕ, List, [], ◌∷◌, ◌++◌, length, take, drop, get_or, slice_index, Option, Some, None, refl, sym, ap, ◌∙◌, append_assoc, append-nil, take-append-drop, subst}
use Rattle.std.proofs.lemmas.List.{take_more}
use Rattle.base_core.specs.Sink.{AddsBytesToSink, AddsPrefixToSink}
use Rattle.hex.specs.Hex.{encode_with, encode_lower, lower_digits}
use Rattle.base_core.proofs.Added.{AddsBytesToSink-more}
use Rattle.report_core.specs.Pieces.{piece_text, pieces_text}
use Rattle.report_core.specs.declared.lines.Piece.{Piece}

-- more might have followed
pub AddsPrefixToSink-grows : (old new : Option (List ℕ)) (bytes more : List ℕ) → AddsPrefixToSink old new bytes → AddsPrefixToSink old new (bytes ++ more)
AddsPrefixToSink-grows old new bytes more h = record { front = h.front; rest = h.rest ++ more; whole = ap (λ b. b ++ more) h.whole ∙ append_assoc h.front h.rest more; added = h.added }

-- something came before
pub AddsPrefixToSink-after : (old mid new : Option (List ℕ)) (a b : List ℕ) → AddsBytesToSink old mid a → AddsPrefixToSink mid new b → AddsPrefixToSink old new (a ++ b)
AddsPrefixToSink-after old mid new a b h k = record { front = a ++ k.front; rest = k.rest; whole = ap (λ x. a ++ x) k.whole ∙ sym (append_assoc a k.front k.rest); added = AddsBytesToSink-more old mid new a k.front h k.added }

-- ---- a text of a list, which has the texts of its entries one behind another

abbrev pub Chains : {A : Type 0} → (List A → List ℕ) → Type 0
Chains {A} text = (a b : List A) → text (a ++ b) ≡ text a ++ text b

text-more : {A : Type 0} (text : List A → List ℕ) → Chains text → (xs : List A) (i : ℕ) (d : A) → i < length xs → text (take (i + 1) xs) ≡ text (take i xs) ++ text (get_or xs i d ∷ [])
text-more text chains xs i d lt = ap text (take_more xs i d lt) ∙ chains (take i xs) (get_or xs i d ∷ [])

text-split : {A : Type 0} (text : List A → List ℕ) → Chains text → (xs : List A) (i : ℕ) → text xs ≡ text (take i xs) ++ text (drop i xs)
text-split text chains xs i = ap text (sym (take-append-drop i xs)) ∙ chains (take i xs) (drop i xs)

pub added-more : {A : Type 0} (text : List A → List ℕ) → Chains text → (old mid new : Option (List ℕ)) (xs : List A) (i : ℕ) (d : A) (bytes : List ℕ) → bytes ≡ text (get_or xs i d ∷ [])
    → i < length xs → AddsBytesToSink old mid (text (take i xs)) → AddsBytesToSink mid new bytes → AddsBytesToSink old new (text (take (i + 1) xs))
added-more text chains old mid new xs i d bytes is lt h k =
    subst (AddsBytesToSink old new) (ap (λ b. text (take i xs) ++ b) is ∙ sym (text-more text chains xs i d lt)) (AddsBytesToSink-more old mid new (text (take i xs)) bytes h k)

pub front-more : {A : Type 0} (text : List A → List ℕ) → Chains text → (old mid new : Option (List ℕ)) (xs : List A) (i : ℕ) (d : A) (bytes : List ℕ) → bytes ≡ text (get_or xs i d ∷ [])
    → i < length xs → AddsBytesToSink old mid (text (take i xs)) → AddsPrefixToSink mid new bytes → AddsPrefixToSink old new (text xs)
front-more text chains old mid new xs i d bytes is lt h k =
    let e : (text (take i xs) ++ bytes) ++ text (drop (i + 1) xs) ≡ text xs =
    ap (λ (b : List ℕ). (text (take i xs) ++ b) ++ text (drop (i + 1) xs)) is
    ∙ ap (λ (b : List ℕ). b ++ text (drop (i + 1) xs)) (sym (text-more text chains xs i d lt))
    ∙ sym (text-split text chains xs (i + 1)) in
    subst (AddsPrefixToSink old new) e (AddsPrefixToSink-grows old new (text (take i xs) ++ bytes) (text (drop (i + 1) xs)) (AddsPrefixToSink-after old mid new (text (take i xs)) bytes h k))

-- ---- the two texts

pub pieces_chain : Chains pieces_text
pieces_chain [] b = refl
pieces_chain (p ∷ a) b = ap (λ x. piece_text p ++ x) (pieces_chain a b) ∙ sym (append_assoc (piece_text p) (pieces_text a) (pieces_text b))

pub one_piece : (p : Piece) → piece_text p ≡ pieces_text (p ∷ [])
one_piece p = sym (append-nil (piece_text p))

pub digits_chain : Chains encode_lower
unfolding encode_with
digits_chain [] b = refl
digits_chain (x ∷ a) b = ap (λ l. slice_index lower_digits (x / 16) ∷ slice_index lower_digits (x % 16) ∷ l) (digits_chain a b)

pub no_digits : (old : Option (List ℕ)) → AddsBytesToSink old old (encode_lower [])
unfolding encode_with
no_digits None = refl
no_digits (Some x) = ap Some (sym (append-nil x))
