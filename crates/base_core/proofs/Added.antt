-- What a sink has got after several writes.
use Rattle.std.proofs.Common.{◌≡◌, ℕ, List, [], ◌++◌, take, drop, Option, Some, None, refl, ◌-◌, length, arith, take_all, length-drop, sym, ap, ◌∙◌, append_assoc, append-nil, take-append-drop}
use Rattle.std.specs.Option.{option_map}
use Rattle.base_core.specs.Sink.{AddsBytesToSink, AddsPrefixToSink}

pub AddsBytesToSink-none : (old : Option (List ℕ)) → AddsBytesToSink old old []
AddsBytesToSink-none None = refl
AddsBytesToSink-none (Some b) = ap Some (sym (append-nil b))

pub AddsBytesToSink-more : (old mid new : Option (List ℕ)) (a b : List ℕ) → AddsBytesToSink old mid a → AddsBytesToSink mid new b → AddsBytesToSink old new (a ++ b)
AddsBytesToSink-more None mid new a b h k = k ∙ ap (option_map (λ x. x ++ b)) h
AddsBytesToSink-more (Some x) mid new a b h k = k ∙ ap (option_map (λ x. x ++ b)) h ∙ ap Some (append_assoc x a b)

-- all is a front that the sink has got, and this rest
pub record IsUnderWay (old new : Option (List ℕ)) (all rest : List ℕ) : Type 0 where
  pub front : List ℕ
  pub whole : all ≡ front ++ rest
  pub added : AddsBytesToSink old new front

pub started : (old : Option (List ℕ)) (all : List ℕ) → IsUnderWay old old all all
started old all = record { front = []; whole = refl; added = AddsBytesToSink-none old }

pub one_more : (old mid new : Option (List ℕ)) (all rest : List ℕ) (n : ℕ) → IsUnderWay old mid all rest → AddsBytesToSink mid new (take n rest) → IsUnderWay old new all (drop n rest)
one_more old mid new all rest n h k = record {
  front = h.front ++ take n rest;
  whole = h.whole ∙ ap (λ r. h.front ++ r) (sym (take-append-drop n rest)) ∙ sym (append_assoc h.front (take n rest) (drop n rest));
  added = AddsBytesToSink-more old mid new h.front (take n rest) h.added k;
}

pub ended : (old new : Option (List ℕ)) (all rest : List ℕ) → IsUnderWay old new all rest → rest ≡ [] → AddsBytesToSink old new all
ended old new all rest h e = h.added ∙ ap (λ a. option_map (λ x. x ++ a) old) (sym (h.whole ∙ ap (λ r. h.front ++ r) e ∙ append-nil h.front))

pub cut : (old mid new : Option (List ℕ)) (all rest : List ℕ) → IsUnderWay old mid all rest → new ≡ mid → AddsPrefixToSink old new all
cut old mid new all rest h e = record { front = h.front; rest = rest; whole = h.whole; added = e ∙ h.added }

-- the range behind the first n
pub take-behind : (n : ℕ) (l : List ℕ) → take (length l - n) (drop n l) ≡ drop n l
take-behind n l = take_all (length l - n) (drop n l) (omega (arith, length-drop n l))
