-- The core of the package search over few facts of a pool: reasons, walks, and that a list of choices whose better
-- options are all ruled out is the first walk.
use Rattle.std.proofs.Common.{◌≡◌, ◌⊎◌, inl, inr, ℕ, ◌≤◌, List, [], ◌∷◌, ◌++◌, refl, sym, subst, ap, ◌∙◌, append_assoc, append-nil, arith, zero, suc, length}
use Rattle.std.specs.Prelude.{Option, Some, None}
use Rattle.std.proofs.lemmas.Bool.{cases_eq}
use Rattle.pool_core.specs.candidate_core.Options.{IsIn as In}
use Rattle.search_tables.specs.Selection.{AreAllMembersOf as Sub}

pub in_left : {X : Type 0} (c : X) (xs ys : List X) → In c xs → In c (xs ++ ys)
in_left c [] ys h = absurd h
in_left c (x ∷ xs) ys (inl e) = inl e
in_left c (x ∷ xs) ys (inr h) = inr (in_left c xs ys h)

pub in_right : {X : Type 0} (c : X) (xs ys : List X) → In c ys → In c (xs ++ ys)
in_right c [] ys h = h
in_right c (x ∷ xs) ys h = inr (in_right c xs ys h)

pub in_append : {X : Type 0} (c : X) (xs ys : List X) → In c (xs ++ ys) → In c xs ⊎ In c ys
in_append c [] ys h = inr h
in_append c (x ∷ xs) ys (inl e) = inl (inl e)
in_append c (x ∷ xs) ys (inr h) = elim (in_append c xs ys h) [
  | inl a ↦ inl (inr a)
  | inr b ↦ inr b
]

pub sub_snoc : {X : Type 0} (u S : List X) (c : X) → Sub u S → In c S → Sub (u ++ c ∷ []) S
sub_snoc {X} u S c us cs o h = elim (in_append o u (c ∷ []) h) [
  | inl a ↦ us o a
  | inr b ↦ elim b [
    | inl e ↦ subst (λ (z : X). In z S) (sym e) cs
    | inr bad ↦ absurd bad
  ]
]

-- R holds of each element and each later one.
abbrev pub Sorted : (ℕ → ℕ → Type 0) → List ℕ → Type 0
Sorted R [] = Unit {0}
Sorted R (x ∷ xs) = ((y : ℕ) → In y xs → R x y) × Sorted R xs

-- of a sorted list, what follows a member is after it
pub sorted_split : (R : ℕ → ℕ → Type 0) (xs ys : List ℕ) (c o : ℕ) → Sorted R (xs ++ c ∷ ys) → In o (xs ++ c ∷ ys) → In o xs ⊎ ((o ≡ c) ⊎ R c o)
sorted_split R [] ys c o sorted (inl e) = inr (inl e)
sorted_split R [] ys c o sorted (inr h) = inr (inr (sorted.0 o h))
sorted_split R (x ∷ xs) ys c o sorted (inl e) = inl (inl e)
sorted_split R (x ∷ xs) ys c o sorted (inr h) = elim (sorted_split R xs ys c o sorted.1 h) [
  | inl a ↦ inl (inr a)
  | inr b ↦ inr b
]

pub decide_in : (c : ℕ) (xs : List ℕ) → In c xs ⊎ (In c xs → ⊥)
decide_in c [] = inr (λ h. h)
decide_in c (x ∷ xs) = elim (cases_eq c x) [
  | inl e ↦ inl (inl e)
  | inr n ↦ elim (decide_in c xs) [
    | inl a ↦ inl (inr a)
    | inr b ↦ inr (λ h. elim h [ inl e ↦ n e | inr a ↦ b a ])
  ]
]

pub none_or_some : {X : Type 0} (o : Option X) → (o ≡ None) ⊎ ((x : X) × (o ≡ Some x))
none_or_some None = inl refl
none_or_some (Some x) = inr (x, refl)

-- an option with a value is not without one
some_or_none : {X : Type 0} (o : Option X) (x : X) → o ≡ Some x → o ≡ None → ⊥
some_or_none o x some none = cc

-- an option has one value
one_value : {X : Type 0} (o : Option X) (x y : X) → o ≡ Some x → o ≡ Some y → x ≡ y
one_value o x y one other = cc

-- lists with the same first item and the same rest are the same
same_list : (x y : ℕ) (xs ys : List ℕ) → x ≡ y → xs ≡ ys → x ∷ xs ≡ y ∷ ys
same_list x y xs ys first rest = cc

-- a number that is one more than another is not 0
not_zero : (n m : ℕ) → n ≡ suc m → n ≤ zero → ⊥
not_zero n m longer none = omega arith

-- of two numbers, the second of which is less by one, the second has a limit that is less by one
one_less : (n m limit : ℕ) → n ≡ suc m → n ≤ suc limit → m ≤ limit
one_less n m limit longer within = omega arith

pub removed : (c : ℕ) (xs : List ℕ) → In c xs → (ys : List ℕ) × (length xs ≡ suc (length ys)) × ((o : ℕ) → In o xs → (o ≡ c) ⊎ In o ys)
removed c [] h = absurd h
removed c (x ∷ xs) (inl e) = (xs, refl, λ o h. elim h [ inl q ↦ inl (q ∙ sym e) | inr a ↦ inr a ])
removed c (x ∷ xs) (inr h) = let r = removed c xs h in (
  x ∷ r.0,
  ap suc r.1,
  λ o k. elim k [
    | inl q ↦ inr (inl q)
    | inr a ↦ elim (r.2 o a) [ inl e ↦ inl e | inr b ↦ inr (inr b) ]
  ],
)

-- The facts of one sealed pool and one world. `Needs t q` is q ∈ needs t.
pub record Facts (Need : Type 0) (next : List ℕ → Option Need) (Needs : List ℕ → Need → Type 0) (Meets : ℕ → Need → Type 0) (Good : ℕ → Type 0) (Clean : List ℕ → Type 0) (Apart : ℕ → ℕ → Type 0) (options : Need → List ℕ) (Better : Need → ℕ → ℕ → Type 0) : Type 0 where
  pub needs_mono : (t u : List ℕ) (q : Need) → Sub t u → Needs t q → Needs u q
  pub next_some : (t : List ℕ) (q : Need) → next t ≡ Some q → Needs t q × (((m : ℕ) × In m t × Meets m q) → ⊥)
  pub next_none : (t : List ℕ) (q : Need) → next t ≡ None → Needs t q → (m : ℕ) × In m t × Meets m q
  pub clean_good : (S : List ℕ) (c : ℕ) → Clean S → In c S → Good c
  pub clean_apart : (S : List ℕ) (a b : ℕ) → Clean S → In a S → In b S → Apart a b → ⊥
  pub listed : (q : Need) (c : ℕ) → Good c → Meets c q → In c (options q)
  pub only : (q : Need) (c : ℕ) → In c (options q) → Good c × Meets c q
  pub clean_snoc : (t : List ℕ) (c : ℕ) → Clean t → Good c → (In c t → ⊥) → ((m : ℕ) → In m t → Apart m c → ⊥) → Clean (t ++ c ∷ [])
  pub split : (q : Need) (xs ys : List ℕ) (c o : ℕ) → options q ≡ xs ++ c ∷ ys → In o (options q) → In o xs ⊎ ((o ≡ c) ⊎ Better q c o)

module _ {Need : Type 0} {next : List ℕ → Option Need} {Needs : List ℕ → Need → Type 0} {Meets : ℕ → Need → Type 0} {Good : ℕ → Type 0} {Clean : List ℕ → Type 0} {Apart : ℕ → ℕ → Type 0} {options : Need → List ℕ} {Better : Need → ℕ → ℕ → Type 0} (F : Facts Need next Needs Meets Good Clean Apart options Better) where
  abbrev pub Met : Need → List ℕ → Type 0
  Met q t = (m : ℕ) × In m t × Meets m q

  abbrev pub Sat : List ℕ → Type 0
  Sat S = Clean S × (next S ≡ None)

  abbrev pub Best : List ℕ → Need → ℕ → Type 0
  Best S q c = In c S × Meets c q × ((o : ℕ) → In o S → Meets o q → (o ≡ c) ⊎ Better q c o)

  abbrev pub WalkFrom : List ℕ → List ℕ → List ℕ → Type 0
  WalkFrom S u [] = next u ≡ None
  WalkFrom S u (c ∷ v) = (q : Need) × (next u ≡ Some q) × Best S q c × WalkFrom S (u ++ c ∷ []) v

  abbrev pub BeforeFrom : List ℕ → List ℕ → List ℕ → Type 0
  BeforeFrom u [] w = ⊥
  BeforeFrom u (c ∷ v) [] = ⊥
  BeforeFrom u (c ∷ v) (d ∷ w) = ((q : Need) × (next u ≡ Some q) × Better q c d) ⊎ ((c ≡ d) × BeforeFrom (u ++ c ∷ []) v w)

  abbrev pub FirstAll : List ℕ → Type 0
  FirstAll t = Sat t × WalkFrom t [] t × ((S w : List ℕ) → Sat S → WalkFrom S [] w → (w ≡ t) ⊎ BeforeFrom [] t w)

  abbrev pub Dead : List ℕ → Type 0
  Dead E = (S : List ℕ) → Sat S → Sub E S → ⊥

  abbrev pub Raises : List ℕ → Need → Type 0
  Raises E q = (S : List ℕ) → Sat S → Sub E S → Met q S

  abbrev pub AllDead : List ℕ → List ℕ → Type 0
  AllDead u xs = (o : ℕ) → In o xs → Dead (o ∷ u)

  abbrev pub Led : List ℕ → List ℕ → Type 0
  Led u [] = Unit {0}
  Led u (c ∷ v) = ((q : Need) × (xs : List ℕ) × (ys : List ℕ) × (next u ≡ Some q) × (options q ≡ xs ++ c ∷ ys) × AllDead u xs) × Led (u ++ c ∷ []) v

  pub forced : (S t : List ℕ) (q : Need) → Sat S → Sub t S → Needs t q → Met q S
  forced S t q s ts n = F.next_none S q s.1 (F.needs_mono t S q ts n)

  pub dead_mono : (E G : List ℕ) → Sub E G → Dead E → Dead G
  dead_mono E G sub dead S s gs = dead S s (λ c h. gs c (sub c h))

  pub dead_apart : (a b : ℕ) → Apart a b → Dead (a ∷ b ∷ [])
  dead_apart a b ap S s sub = F.clean_apart S a b s.0 (sub a (inl refl)) (sub b (inr (inl refl))) ap

  pub raises_all : (t : List ℕ) (q : Need) → Needs t q → Raises t q
  raises_all t q n S s ts = forced S t q s ts n

  pub dead_need : (E G : List ℕ) (q : Need) → Raises E q → AllDead G (options q) → Dead (E ++ G)
  dead_need E G q raises dead S s sub =
      let met = raises S s (λ c h. sub c (in_left c E G h)) in
      dead met.0 (F.listed q met.0 (F.clean_good S met.0 s.0 met.1) met.2) S s (λ c h. elim h [
        | inl e ↦ subst (λ (z : ℕ). In z S) (sym e) met.1
        | inr g ↦ sub c (in_right c E G g)
      ])

  -- No member of a Sat S that holds u is an option that is dead with u.
  pub not_dead : (S u : List ℕ) (o : ℕ) → Sat S → Sub u S → In o S → Dead (o ∷ u) → ⊥
  not_dead S u o s us os dead = dead S s (λ c h. elim h [
    | inl e ↦ subst (λ (z : ℕ). In z S) (sym e) os
    | inr g ↦ us c g
  ])

  some_is_none : (q : Need) (t : List ℕ) → next t ≡ Some q → next t ≡ None → ⊥
  some_is_none q t a b = some_or_none (next t) q a b

  same_some : (q r : Need) (t : List ℕ) → next t ≡ Some q → next t ≡ Some r → q ≡ r
  same_some q r t a b = one_value (next t) q r a b

  -- a led list is the walk of each Sat S that holds it.
  pub led_walk : (S u v : List ℕ) → Led u v → Sat S → Sub (u ++ v) S → next (u ++ v) ≡ None → WalkFrom S u v
  led_walk S u [] led s sub end = subst (λ (z : List ℕ). next z ≡ None) (append-nil u) end
  led_walk S u (c ∷ v) led s sub end =
      let here = led.0 in
      let again = append_assoc u (c ∷ []) v in
      let cs = sub c (in_right c u (c ∷ v) (inl refl)) in (
        here.0,
        here.3,
        (
          cs,
          (F.only here.0 c (subst (λ (z : List ℕ). In c z) (sym here.4) (in_right c here.1 (c ∷ here.2) (inl refl)))).1,
          λ o os om. elim (F.split here.0 here.1 here.2 c o here.4 (F.listed here.0 o (F.clean_good S o s.0 os) om)) [
            | inl dead ↦ absurd (not_dead S u o s (λ d h. sub d (in_left d u (c ∷ v) h)) os (here.5 o dead))
            | inr rest ↦ rest
          ],
        ),
        led_walk S (u ++ c ∷ []) v led.1 s (subst (λ (z : List ℕ). Sub z S) (sym again) sub) (subst (λ (z : List ℕ). next z ≡ None) (sym again) end),
      )

  -- a led, closed list is the walk of a Sat S or is before it.
  pub led_before : (S u v w : List ℕ) → Led u v → next (u ++ v) ≡ None → Sat S → Sub u S → WalkFrom S u w → (w ≡ v) ⊎ BeforeFrom u v w
  led_before S u [] [] led end s us walk = inl refl
  led_before S u [] (d ∷ w) led end s us walk = absurd (some_is_none walk.0 u walk.1 (subst (λ (z : List ℕ). next z ≡ None) (append-nil u) end))
  led_before S u (c ∷ v) [] led end s us walk = absurd (some_is_none led.0.0 u led.0.3 walk)
  led_before S u (c ∷ v) (d ∷ w) led end s us walk =
      let here = led.0 in
      let best = walk.2 in
      let same = same_some walk.0 here.0 u walk.1 here.3 in
      let dm = subst (λ (z : Need). Meets d z) same best.1 in
      elim (F.split here.0 here.1 here.2 c d here.4 (F.listed here.0 d (F.clean_good S d s.0 best.0) dm)) [
        | inl dead ↦ absurd (not_dead S u d s us best.0 (here.5 d dead))
        | inr rest ↦ elim rest [
          | inl e ↦ elim (led_before S (u ++ c ∷ []) v w led.1 (subst (λ (z : List ℕ). next z ≡ None) (sym (append_assoc u (c ∷ []) v)) end) s (sub_snoc u S c us (subst (λ (z : ℕ). In z S) e best.0)) (subst (λ (z : ℕ). WalkFrom S (u ++ z ∷ []) w) e walk.3)) [
            | inl wv ↦ inl (same_list d c w v e wv)
            | inr b ↦ inr (inr (sym e, b))
          ]
          | inr better ↦ inr (inl (here.0, here.3, better))
        ]
      ]

  -- a led, closed, conflict-free list is the first walk
  pub first_of_led : (t : List ℕ) → Led [] t → Clean t → next t ≡ None → FirstAll t
  first_of_led t led clean end = ((clean, end), led_walk t [] t led (clean, end) (λ c h. h) end, λ S w s walk. led_before S [] t w led end s (λ c h. absurd h) walk)

  -- The bracket of Led at one place.
  abbrev pub Step : List ℕ → ℕ → Type 0
  Step u c = (q : Need) × (xs : List ℕ) × (ys : List ℕ) × (next u ≡ Some q) × (options q ≡ xs ++ c ∷ ys) × AllDead u xs

  -- a led list with one more choice
  pub led_snoc : (u v : List ℕ) (c : ℕ) → Led u v → Step (u ++ v) c → Led u (v ++ c ∷ [])
  led_snoc u [] c led step = (subst (λ (z : List ℕ). Step z c) (append-nil u) step, tt)
  led_snoc u (d ∷ v) c led step = (led.0, led_snoc (u ++ d ∷ []) v c led.1 (subst (λ (z : List ℕ). Step z c) (sym (append_assoc u (d ∷ []) v)) step))

  -- the options of the next need, of which those in front are dead
  abbrev pub Open : List ℕ → List ℕ × List ℕ → Type 0
  Open t f = (q : Need) × (next t ≡ Some q) × (options q ≡ f.0 ++ f.1) × AllDead t f.0

  pub take_clean : (t xs ys : List ℕ) (c : ℕ) → Open t (xs, c ∷ ys) → Clean t → ((m : ℕ) → In m t → Apart m c → ⊥) → Clean (t ++ c ∷ [])
  take_clean t xs ys c top clean free =
      let fit = F.only top.0 c (subst (λ (z : List ℕ). In c z) (sym top.2) (in_right c xs (c ∷ ys) (inl refl))) in
      F.clean_snoc t c clean fit.0 (λ h. (F.next_some t top.0 top.1).1 (c, h, fit.1)) free

  -- if all options are dead, the choices are
  pub open_spent : (t xs : List ℕ) → Open t (xs, []) → Dead t
  open_spent t xs top =
      let all = subst (λ (z : List ℕ). AllDead t z) (sym (top.2 ∙ append-nil xs)) top.3 in
      dead_mono (t ++ t) t (λ c h. elim (in_append c t t h) [ inl a ↦ a | inr b ↦ b ]) (dead_need t t top.0 (raises_all t top.0 (F.next_some t top.0 top.1).0) all)

  -- options, each with the other members of its reason
  abbrev pub firsts : List (ℕ × List ℕ) → List ℕ
  firsts [] = []
  firsts (p ∷ ps) = p.0 ∷ firsts ps

  abbrev pub others : List (ℕ × List ℕ) → List ℕ
  others [] = []
  others (p ∷ ps) = p.1 ++ others ps

  abbrev pub AllWhy : List ℕ → List (ℕ × List ℕ) → Type 0
  AllWhy t [] = Unit {0}
  AllWhy t (p ∷ ps) = Sub p.1 t × Dead (p.0 ∷ p.1) × AllWhy t ps

  pub why_dead : (t : List ℕ) (ps : List (ℕ × List ℕ)) → AllWhy t ps → AllDead t (firsts ps)
  why_dead t [] why o h = absurd h
  why_dead t (p ∷ ps) why o (inl e) = subst (λ (z : ℕ). Dead (z ∷ t)) (sym e) (dead_mono (p.0 ∷ p.1) (p.0 ∷ t) (λ c h. elim h [
    | inl a ↦ inl a
    | inr b ↦ inr (why.0 c b)
  ]) why.1)
  why_dead t (p ∷ ps) why o (inr h) = why_dead t ps why.2 o h

  -- a walk has members of the selection alone
  pub walk_sub : (S u v : List ℕ) → WalkFrom S u v → Sub v S
  walk_sub S u [] walk c h = absurd h
  walk_sub S u (d ∷ v) walk c (inl e) = subst (λ (z : ℕ). In z S) (sym e) walk.2.0
  walk_sub S u (d ∷ v) walk c (inr h) = walk_sub S (u ++ d ∷ []) v walk.3 c h

  pub walk_closed : (S u v : List ℕ) → WalkFrom S u v → next (u ++ v) ≡ None
  walk_closed S u [] walk = subst (λ (z : List ℕ). next z ≡ None) (sym (append-nil u)) walk
  walk_closed S u (d ∷ v) walk = subst (λ (z : List ℕ). next z ≡ None) (append_assoc u (d ∷ []) v) (walk_closed S (u ++ d ∷ []) v walk.3)

  walk_clean : (S u v : List ℕ) → Sat S → Clean u → Sub u S → WalkFrom S u v → Clean (u ++ v)
  walk_clean S u [] s cu us walk = subst (λ (z : List ℕ). Clean z) (sym (append-nil u)) cu
  walk_clean S u (d ∷ v) s cu us walk =
      let b = walk.2 in
      subst (λ (z : List ℕ). Clean z) (append_assoc u (d ∷ []) v) (walk_clean S (u ++ d ∷ []) v s
      (F.clean_snoc u d cu (F.clean_good S d s.0 b.0) (λ h. (F.next_some u walk.0 walk.1).1 (d, h, b.1)) (λ m h ap. F.clean_apart S m d s.0 (us m h) b.0 ap))
      (sub_snoc u S d us b.0) walk.3)

  -- the walk of a satisfying selection satisfies
  pub law : (S w : List ℕ) → Clean [] → Sat S → WalkFrom S [] w → Sat w
  law S w none s walk = (walk_clean S [] w s none (λ c h. absurd h) walk, walk_closed S [] w walk)

  -- a list that has the walk's members, and no others than S, has the same walk.
  pub walk_in : (S X u v : List ℕ) → Sub v X → Sub X S → WalkFrom S u v → WalkFrom X u v
  walk_in S X u [] vx xs walk = walk
  walk_in S X u (d ∷ v) vx xs walk = (walk.0, walk.1, (vx d (inl refl), walk.2.1, λ o h m. walk.2.2 o (xs o h) m), walk_in S X (u ++ d ∷ []) v (λ c h. vx c (inr h)) xs walk.3)

  pub walk_idem : (S w : List ℕ) → WalkFrom S [] w → WalkFrom w [] w
  walk_idem S w walk = walk_in S w [] w (λ c h. h) (walk_sub S [] w walk) walk

  -- of two walks of Sat selections one is before the other, or they are equal.
  pub before_total : ((q : Need) (c d : ℕ) → Good c → Good d → Meets c q → Meets d q → (c ≡ d) ⊎ (Better q c d ⊎ Better q d c)) → (S X u v w : List ℕ) → Sat S → Sat X → WalkFrom S u v → WalkFrom X u w → (v ≡ w) ⊎ (BeforeFrom u v w ⊎ BeforeFrom u w v)
  before_total total S X u [] [] s x vw ww = inl refl
  before_total total S X u [] (d ∷ w) s x vw ww = absurd (some_is_none ww.0 u ww.1 vw)
  before_total total S X u (c ∷ v) [] s x vw ww = absurd (some_is_none vw.0 u vw.1 ww)
  before_total total S X u (c ∷ v) (d ∷ w) s x vw ww =
      let same = same_some ww.0 vw.0 u ww.1 vw.1 in
      let dm = subst (λ (z : Need). Meets d z) same ww.2.1 in
      elim (total vw.0 c d (F.clean_good S c s.0 vw.2.0) (F.clean_good X d x.0 ww.2.0) vw.2.1 dm) [
        | inl e ↦ elim (before_total total S X (u ++ c ∷ []) v w s x vw.3 (subst (λ (z : ℕ). WalkFrom X (u ++ z ∷ []) w) (sym e) ww.3)) [
          | inl q ↦ inl (same_list c d v w e q)
          | inr r ↦ elim r [
            | inl b ↦ inr (inl (inr (e, b)))
            | inr b ↦ inr (inr (inr (sym e, subst (λ (z : ℕ). BeforeFrom (u ++ z ∷ []) w v) e b)))
          ]
        ]
        | inr r ↦ elim r [
          | inl b ↦ inr (inl (inl (vw.0, vw.1, b)))
          | inr b ↦ inr (inr (inl (vw.0, vw.1, b)))
        ]
      ]

  pub before_asym : ((q : Need) (c d : ℕ) → Better q c d → Better q d c → ⊥) → (u v w : List ℕ) → BeforeFrom u v w → BeforeFrom u w v → ⊥
  before_asym asym u [] w a b = a
  before_asym asym u (c ∷ v) [] a b = a
  before_asym asym u (c ∷ v) (d ∷ w) (inl a) (inl b) = asym a.0 c d a.2 (subst (λ (z : Need). Better z d c) (same_some b.0 a.0 u b.1 a.1) b.2)
  before_asym asym u (c ∷ v) (d ∷ w) (inl a) (inr b) = asym a.0 c d a.2 (subst (λ (z : ℕ). Better a.0 d z) b.0 (subst (λ (z : ℕ). Better a.0 z d) (sym b.0) a.2))
  before_asym asym u (c ∷ v) (d ∷ w) (inr a) (inl b) = asym b.0 d c b.2 (subst (λ (z : ℕ). Better b.0 c z) a.0 (subst (λ (z : ℕ). Better b.0 z c) (sym a.0) b.2))
  before_asym asym u (c ∷ v) (d ∷ w) (inr a) (inr b) = before_asym asym (u ++ c ∷ []) v w a.1 (subst (λ (z : ℕ). BeforeFrom (u ++ z ∷ []) w v) (sym a.0) b.1)

  pub walk_unique : ((q : Need) (c d : ℕ) → Better q c d → Better q d c → ⊥) → (S u v w : List ℕ) → WalkFrom S u v → WalkFrom S u w → v ≡ w
  walk_unique asym S u [] [] a b = refl
  walk_unique asym S u [] (d ∷ w) a b = absurd (some_is_none b.0 u b.1 a)
  walk_unique asym S u (c ∷ v) [] a b = absurd (some_is_none a.0 u a.1 b)
  walk_unique asym S u (c ∷ v) (d ∷ w) a b =
      let same = same_some b.0 a.0 u b.1 a.1 in
      let dm = subst (λ (z : Need). Meets d z) same b.2.1 in
      let cm = subst (λ (z : Need). Meets c z) (sym same) a.2.1 in
      let one : c ≡ d = elim (a.2.2 d b.2.0 dm) [
        | inl e ↦ sym e
        | inr x ↦ elim (b.2.2 c a.2.0 cm) [
          | inl e ↦ e
          | inr y ↦ absurd (asym a.0 c d x (subst (λ (z : Need). Better z d c) same y))
        ]
      ] in
      let rest = walk_unique asym S (u ++ c ∷ []) v w a.3 (subst (λ (z : ℕ). WalkFrom S (u ++ z ∷ []) w) (sym one) b.3) in
      cc

  -- the first of a sorted list that is in S.
  pub best_in : (q : Need) (S l : List ℕ) → Sorted (Better q) l → (m : ℕ) → In m l → In m S → (c : ℕ) × In c l × In c S × ((o : ℕ) → In o l → In o S → (o ≡ c) ⊎ Better q c o)
  best_in q S [] sorted m ml ms = absurd ml
  best_in q S (x ∷ l) sorted m ml ms = elim (decide_in x S) [
    | inl yes_in ↦ (
      x,
      inl refl,
      yes_in,
      λ o ol os. elim ol [
        | inl e ↦ inl e
        | inr r ↦ inr (sorted.0 o r)
      ],
    )
    | inr out ↦ elim ml [
      | inl e ↦ absurd (out (subst (λ (z : ℕ). In z S) e ms))
      | inr r ↦ let b = best_in q S l sorted.1 m r ms in (
        b.0,
        inr b.1,
        b.2,
        λ o ol os. elim ol [
          | inl e ↦ absurd (out (subst (λ (z : ℕ). In z S) e os))
          | inr p ↦ b.3 o p os
        ],
      )
    ]
  ]

  pub best_exists : ((q : Need) → Sorted (Better q) (options q)) → (S t : List ℕ) (q : Need) → Sat S → Sub t S → next t ≡ Some q → (c : ℕ) × Best S q c
  best_exists sorted S t q s ts e =
      let met = forced S t q s ts (F.next_some t q e).0 in
      let b = best_in q S (options q) (sorted q) met.0 (F.listed q met.0 (F.clean_good S met.0 s.0 met.1) met.2) met.1 in
      (b.0, (b.2, (F.only q b.0 b.1).1, λ o os om. b.3 o (F.listed q o (F.clean_good S o s.0 os) om) os))

  -- the walk of a Sat selection ends. R holds the members of S that are not in u, perhaps more.
  pub walk_exists : ((q : Need) → Sorted (Better q) (options q)) → (fuel : ℕ) (S R u : List ℕ) → Sat S → Sub u S → length R ≤ fuel → ((c : ℕ) → In c S → In c u ⊎ In c R) → (v : List ℕ) × WalkFrom S u v
  walk_exists sorted zero S R u s us len parts = elim (none_or_some (next u)) [
    | inl e ↦ ([], e)
    | inr some ↦
        let b = best_exists sorted S u some.0 s us some.1 in
        elim (parts b.0 b.1.0) [
          | inl old ↦ absurd ((F.next_some u some.0 some.1).1 (b.0, old, b.1.1))
          | inr new ↦ let r = removed b.0 R new in absurd (not_zero (length R) (length r.0) r.1 len)
        ]
  ]
  walk_exists sorted (suc fuel) S R u s us len parts = elim (none_or_some (next u)) [
    | inl e ↦ ([], e)
    | inr some ↦
        let b = best_exists sorted S u some.0 s us some.1 in
        elim (parts b.0 b.1.0) [
          | inl old ↦ absurd ((F.next_some u some.0 some.1).1 (b.0, old, b.1.1))
          | inr new ↦
              let r = removed b.0 R new in
              let rest = walk_exists sorted fuel S r.0 (u ++ b.0 ∷ []) s (sub_snoc u S b.0 us b.1.0) (one_less (length R) (length r.0) fuel r.1 len) (λ c h. elim (parts c h) [
                | inl old ↦ inl (in_left c u (b.0 ∷ []) old)
                | inr more ↦ elim (r.2 c more) [
                  | inl e ↦ inl (in_right c u (b.0 ∷ []) (inl e))
                  | inr left ↦ inr left
                ]
              ]) in
              (b.0 ∷ rest.0, (some.0, some.1, b.1, rest.1))
        ]
  ]

  pub walk_of_sat : ((q : Need) → Sorted (Better q) (options q)) → (S : List ℕ) → Sat S → (v : List ℕ) × WalkFrom S [] v
  walk_of_sat sorted S s = walk_exists sorted (length S) S S [] s (λ c h. absurd h) (omega arith) (λ c h. inr h)
