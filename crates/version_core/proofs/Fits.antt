-- A token that is_wanted_token_met_by one that is not the last is not the last either.
use Rattle.std.proofs.Common.{◌≡◌, ℕ, Bool, true, false, ◌&&◌, ◌||◌, cond, eqb, List, [], ◌∷◌, refl, ap, sym, ◌∙◌, nat_cmp}
use Rattle.std.specs.Ordering.{ordering_then, is_eq}
use Rattle.std.specs.declared.cmp.Ordering.{Ordering}
use Rattle.std.specs.declared.cmp.Ordering.TheVariants.{Less, Equal, Greater}
use Rattle.std.proofs.lemmas.Bool.{false≢true}
use Rattle.std.proofs.lemmas.Cmp.{ranked}
use Rattle.version_core.specs.declared.token.Class.{Class}
use Rattle.version_core.specs.declared.token.Class.TheVariants.{Stray, PreRelease, End, Revision, Hash, SuffixNumber, Suffix, Letter, ZeroComponent, Component}
use Rattle.version_core.specs.Token.{Token}
use Rattle.version_core.specs.Order.{class_rank, is_end_or_stray_class, token_cmp}
use Rattle.version_core.specs.Matching.{are_wanted_tokens_met_by, is_prefix_of, is_wanted_token_met_by, is_zero_component}

abbrev is_last_rank : ℕ → Bool
is_last_rank rank = eqb rank 2 || eqb rank 0

is_last_rank-class_rank : (class : Class) → is_last_rank (class_rank class) ≡ is_end_or_stray_class class
is_last_rank-class_rank Stray = refl
is_last_rank-class_rank PreRelease = refl
is_last_rank-class_rank End = refl
is_last_rank-class_rank Revision = refl
is_last_rank-class_rank Hash = refl
is_last_rank-class_rank SuffixNumber = refl
is_last_rank-class_rank Suffix = refl
is_last_rank-class_rank Letter = refl
is_last_rank-class_rank ZeroComponent = refl
is_last_rank-class_rank Component = refl

first_equal : (o p : Ordering) → is_eq (ordering_then o p) ≡ true → o ≡ Equal
first_equal Less p h = absurd (false≢true h)
first_equal Equal p h = refl
first_equal Greater p h = absurd (false≢true h)

pub nat_cmp-Equal : (m n : ℕ) → nat_cmp m n ≡ Equal → m ≡ n
nat_cmp-Equal m n h = ranked m n Equal (sym h)

equal_tokens : (f w : Token) → is_eq (token_cmp f w) ≡ true → is_end_or_stray_class f.class ≡ is_end_or_stray_class w.class
equal_tokens f w h =
    sym (is_last_rank-class_rank f.class)
    ∙ ap is_last_rank (nat_cmp-Equal (class_rank f.class) (class_rank w.class) (first_equal _ _ h))
    ∙ is_last_rank-class_rank w.class

zero_is_not_last : (class : Class) → is_zero_component class ≡ true → is_end_or_stray_class class ≡ false
zero_is_not_last ZeroComponent h = refl
zero_is_not_last Stray h = absurd (false≢true h)
zero_is_not_last PreRelease h = absurd (false≢true h)
zero_is_not_last End h = absurd (false≢true h)
zero_is_not_last Revision h = absurd (false≢true h)
zero_is_not_last Hash h = absurd (false≢true h)
zero_is_not_last SuffixNumber h = absurd (false≢true h)
zero_is_not_last Suffix h = absurd (false≢true h)
zero_is_not_last Letter h = absurd (false≢true h)
zero_is_not_last Component h = absurd (false≢true h)

fits_by : (a b c : Bool) (w f : Class) → (a ≡ true → is_end_or_stray_class f ≡ false) → (c ≡ true → is_end_or_stray_class f ≡ false) → cond a b c ≡ true → is_end_or_stray_class f ≡ false
fits_by true b c w f g k h = g refl
fits_by false b c w f g k h = k h

both : (a b : Bool) → (a && b) ≡ true → b ≡ true
both true b h = h
both false b h = absurd (false≢true h)

pub fits_not_last : (w f : Token) → is_end_or_stray_class w.class ≡ false → is_wanted_token_met_by w f ≡ true → is_end_or_stray_class f.class ≡ false
unfolding is_wanted_token_met_by
fits_not_last w f last h =
    fits_by (is_zero_component w.class && is_zero_component f.class) (is_prefix_of w.text f.text) (is_eq (token_cmp f w)) w.class f.class
    (λ z. zero_is_not_last f.class (both _ _ z)) (λ e. equal_tokens f w e ∙ last) h

are_wanted_tokens_met_by-step : (w f : Token) (ws fs : List Token) → is_end_or_stray_class w.class ≡ false → is_wanted_token_met_by w f ≡ true → are_wanted_tokens_met_by (w ∷ ws) (f ∷ cond (is_end_or_stray_class f.class) [] fs) ≡ are_wanted_tokens_met_by ws fs
are_wanted_tokens_met_by-step w f ws fs last h = rw (fits_not_last w f last h, last, h) refl

-- after two tokens that fit, the others decide
pub all_fit_after : (wanted found : List Token) (w f : Token) (ws fs : List Token) → wanted ≡ w ∷ cond (is_end_or_stray_class w.class) [] ws → found ≡ f ∷ cond (is_end_or_stray_class f.class) [] fs → is_end_or_stray_class w.class ≡ false → is_wanted_token_met_by w f ≡ true → are_wanted_tokens_met_by wanted found ≡ are_wanted_tokens_met_by ws fs
all_fit_after wanted found w f ws fs first second last h =
    (λ i. are_wanted_tokens_met_by (first i) (second i))
    ∙ ap (λ b. are_wanted_tokens_met_by (w ∷ cond b [] ws) (f ∷ cond (is_end_or_stray_class f.class) [] fs)) last
    ∙ are_wanted_tokens_met_by-step w f ws fs last h
