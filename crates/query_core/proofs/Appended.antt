-- What is put into a report piece by piece.
use Rattle.std.proofs.Common.{◌≡◌, ℕ, List, [], ◌++◌, refl, sym, ap, ◌∙◌, append_assoc, append-nil, subst}
use Rattle.std.specs.Prelude.{Result, Ok, Err, OnOk}
use Rattle.query_core.specs.Appends.{Appends}

module _ {O : Type 0} (holds : O → List ℕ → Type 0) where
  -- the same bytes, in other words
  pub appends_same : (old new : O) (xs ys : List ℕ) → xs ≡ ys → Appends holds old new xs → Appends holds old new ys
  appends_same old new xs ys e put before h = subst (λ (zs : List ℕ). holds new (before ++ zs)) e (put before h)

  pub appends_nothing : (out : O) → Appends holds out out []
  appends_nothing out before h = subst (holds out) (sym (append-nil before)) h

  -- one piece after another
  pub appends_both : (old mid new : O) (xs ys : List ℕ) → Appends holds old mid xs → Appends holds mid new ys → Appends holds old new (xs ++ ys)
  appends_both old mid new xs ys p q before h = subst (holds new) (append_assoc before xs ys) (q (before ++ xs) (p before h))

  -- the last piece is what a call puts
  pub ends_with : {T E : Type 0} (r : Result T E) (old mid new : O) (xs ys all : List ℕ) → xs ++ ys ≡ all → Appends holds old mid xs → OnOk r (Appends holds mid new ys) → OnOk r (Appends holds old new all)
  ends_with (Ok x) old mid new xs ys all e p q = appends_same old new (xs ++ ys) all e (appends_both old mid new xs ys p q)
  ends_with (Err e) old mid new xs ys all is p q = q

  pub ends_same : {T E : Type 0} (r : Result T E) (old new : O) (xs ys : List ℕ) → xs ≡ ys → OnOk r (Appends holds old new xs) → OnOk r (Appends holds old new ys)
  ends_same (Ok x) old new xs ys e p = appends_same old new xs ys e p
  ends_same (Err e) old new xs ys is p = p

  -- ---- within a loop

  -- some bytes were put in, and what is left comes to all
  pub record IsSoFar (old new : O) (left all : List ℕ) : Type 0 where
    pub bytes : List ℕ
    pub put : Appends holds old new bytes
    pub rest : bytes ++ left ≡ all

  pub so_far_nothing : (out : O) (all : List ℕ) → IsSoFar out out all all
  so_far_nothing out all = record { bytes = []; put = appends_nothing out; rest = refl }

  -- a piece moves from what is left to what was put in
  pub so_far_more : (old mid new : O) (piece left later all : List ℕ) → left ≡ piece ++ later → Appends holds mid new piece → IsSoFar old mid left all → IsSoFar old new later all
  so_far_more old mid new piece left later all e put s = record {
    bytes = s.bytes ++ piece;
    put = appends_both old mid new s.bytes piece s.put put;
    rest = append_assoc s.bytes piece later ∙ ap (λ (x : List ℕ). s.bytes ++ x) (sym e) ∙ s.rest;
  }

  -- what is left, in other words
  pub so_far_same : (old new : O) (left later all : List ℕ) → left ≡ later → IsSoFar old new left all → IsSoFar old new later all
  so_far_same old new left later all e s = record { bytes = s.bytes; put = s.put; rest = ap (λ (x : List ℕ). s.bytes ++ x) (sym e) ∙ s.rest }

  -- nothing is left
  pub so_far_all : (old new : O) (left all : List ℕ) → left ≡ [] → IsSoFar old new left all → Appends holds old new all
  so_far_all old new left all e s = appends_same old new s.bytes all (sym (append-nil s.bytes) ∙ ap (λ (x : List ℕ). s.bytes ++ x) (sym e) ∙ s.rest) s.put
