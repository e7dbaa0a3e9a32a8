-- What is put in piece by piece.
use Rattle.std.proofs.Common.{◌≡◌, ℕ, List, [], ◌++◌, refl, sym, ap, ◌∙◌, append_assoc, append-nil, subst}
use Rattle.std.specs.Prelude.{Result, Ok, Err, OnOk}
use Rattle.adb_view.specs.Adb.{payload_of}
use Rattle.adb_view.specs.declared.adb.Adb.{Adb}
use Rattle.adb_dump.specs.Out.{Puts, PutsForAnyPayload}

-- the same bytes, told otherwise
told : {O : Type 0} (holds : O → List ℕ → Type 0) (out : O) (xs ys : List ℕ) → xs ≡ ys → holds out xs → holds out ys
told holds out xs ys e h = subst (holds out) e h

pub puts_told : {O : Type 0} (holds : O → List ℕ → Type 0) (old new : O) (xs ys : List ℕ) → xs ≡ ys → Puts holds old new xs → Puts holds old new ys
puts_told holds old new xs ys e put before h = told holds new (before ++ xs) (before ++ ys) (ap (λ (x : List ℕ). before ++ x) e) (put before h)

pub puts_none : {O : Type 0} (holds : O → List ℕ → Type 0) (out : O) → Puts holds out out []
puts_none holds out before h = told holds out before (before ++ []) (sym (append-nil before)) h

-- one piece after another
pub puts_on : {O : Type 0} (holds : O → List ℕ → Type 0) (old mid new : O) (xs ys : List ℕ) → Puts holds old mid xs → Puts holds mid new ys → Puts holds old new (xs ++ ys)
puts_on holds old mid new xs ys p q before h = told holds new ((before ++ xs) ++ ys) (before ++ (xs ++ ys)) (append_assoc before xs ys) (q (before ++ xs) (p before h))

-- of one payload and of an equal one
pub puts_of : {O : Type 0} (holds : List ℕ → O → List ℕ → Type 0) (adb other : Adb) (old new : O) (bytes : List ℕ) → adb ≡ other → Puts (holds (payload_of adb)) old new bytes → Puts (holds (payload_of other)) old new bytes
puts_of holds adb other old new bytes e put = subst (λ (a : Adb). Puts (holds (payload_of a)) old new bytes) e put

-- where the last piece is a call's answer
pub on_ok_then : {T E : Type 0} (r : Result T E) (P Q : Type 0) → (P → Q) → OnOk r P → OnOk r Q
on_ok_then (Ok x) P Q f h = f h
on_ok_then (Err e) P Q f h = h

-- ---- within a loop

-- so much was put in, and what is left comes to all
pub record IsSoFar {O : Type 0} (holds : O → List ℕ → Type 0) (old new : O) (left all : List ℕ) : Type 0 where
  pub bytes : List ℕ
  pub put : Puts holds old new bytes
  pub rest : bytes ++ left ≡ all

pub so_far_none : {O : Type 0} (holds : O → List ℕ → Type 0) (out : O) (all : List ℕ) → IsSoFar holds out out all all
so_far_none holds out all = record { bytes = []; put = puts_none holds out; rest = refl }

-- a piece moves from what is left to what was put in
pub so_far_more : {O : Type 0} (holds : O → List ℕ → Type 0) (old mid new : O) (piece left left' all : List ℕ) → left ≡ piece ++ left' → Puts holds mid new piece → IsSoFar holds old mid left all → IsSoFar holds old new left' all
so_far_more holds old mid new piece left left' all e put s = record {
  bytes = s.bytes ++ piece;
  put = puts_on holds old mid new s.bytes piece s.put put;
  rest = append_assoc s.bytes piece left' ∙ ap (λ (x : List ℕ). s.bytes ++ x) (sym e) ∙ s.rest;
}

-- what is left, told otherwise
pub so_far_told : {O : Type 0} (holds : O → List ℕ → Type 0) (old new : O) (left left' all : List ℕ) → left ≡ left' → IsSoFar holds old new left all → IsSoFar holds old new left' all
so_far_told holds old new left left' all e s = record { bytes = s.bytes; put = s.put; rest = ap (λ (x : List ℕ). s.bytes ++ x) (sym e) ∙ s.rest }

-- nothing is left
pub so_far_all : {O : Type 0} (holds : O → List ℕ → Type 0) (old new : O) (left all : List ℕ) → left ≡ [] → IsSoFar holds old new left all → Puts holds old new all
so_far_all holds old new left all e s = puts_told holds old new s.bytes all (sym (append-nil s.bytes) ∙ ap (λ (x : List ℕ). s.bytes ++ x) (sym e) ∙ s.rest) s.put

-- ---- the same, whatever payload it is of

pub any_told : {O : Type 0} (holds : List ℕ → O → List ℕ → Type 0) (old new : O) (xs ys : List ℕ) → xs ≡ ys → PutsForAnyPayload holds old new xs → PutsForAnyPayload holds old new ys
any_told holds old new xs ys e put p = puts_told (holds p) old new xs ys e (put p)

pub any_on : {O : Type 0} (holds : List ℕ → O → List ℕ → Type 0) (old mid new : O) (xs ys : List ℕ) → PutsForAnyPayload holds old mid xs → PutsForAnyPayload holds mid new ys → PutsForAnyPayload holds old new (xs ++ ys)
any_on holds old mid new xs ys put then p = puts_on (holds p) old mid new xs ys (put p) (then p)

abbrev pub IsSoFarForAny : {O : Type 0} → (List ℕ → O → List ℕ → Type 0) → O → O → List ℕ → List ℕ → Type 0
IsSoFarForAny holds old new left all = (p : List ℕ) → IsSoFar (holds p) old new left all

pub any_so_far_none : {O : Type 0} (holds : List ℕ → O → List ℕ → Type 0) (out : O) (all : List ℕ) → IsSoFarForAny holds out out all all
any_so_far_none holds out all p = so_far_none (holds p) out all

pub any_so_far_more : {O : Type 0} (holds : List ℕ → O → List ℕ → Type 0) (old mid new : O) (piece left left' all : List ℕ) → left ≡ piece ++ left' → PutsForAnyPayload holds mid new piece → IsSoFarForAny holds old mid left all → IsSoFarForAny holds old new left' all
any_so_far_more holds old mid new piece left left' all e put s p = so_far_more (holds p) old mid new piece left left' all e (put p) (s p)

pub any_so_far_told : {O : Type 0} (holds : List ℕ → O → List ℕ → Type 0) (old new : O) (left left' all : List ℕ) → left ≡ left' → IsSoFarForAny holds old new left all → IsSoFarForAny holds old new left' all
any_so_far_told holds old new left left' all e s p = so_far_told (holds p) old new left left' all e (s p)

pub any_so_far_all : {O : Type 0} (holds : List ℕ → O → List ℕ → Type 0) (old new : O) (left all : List ℕ) → left ≡ [] → IsSoFarForAny holds old new left all → PutsForAnyPayload holds old new all
any_so_far_all holds old new left all e s p = so_far_all (holds p) old new left all e (s p)
