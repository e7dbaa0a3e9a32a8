-- What `is_ne` tells of an order that is followed by another.
use Rattle.std.proofs.Common.{◌≡◌, Ordering, true, false, refl, sym}
use Rattle.std.specs.Ordering.{ordering_then, is_eq, is_ne}
use Rattle.std.specs.declared.cmp.Ordering.TheVariants.{Less, Equal, Greater}
use Rattle.std.proofs.lemmas.Bool.{false≢true}

pub then-decided : (o p : Ordering) → is_ne o ≡ true → ordering_then o p ≡ o
then-decided Less p h = refl
then-decided Equal p h = absurd (false≢true h)
then-decided Greater p h = refl

pub then-tied : (o p : Ordering) → is_ne o ≡ false → ordering_then o p ≡ p
then-tied Less p h = absurd (false≢true (sym h))
then-tied Equal p h = refl
then-tied Greater p h = absurd (false≢true (sym h))

pub tied : (o : Ordering) → is_ne o ≡ false → o ≡ Equal
tied Less h = absurd (false≢true (sym h))
tied Equal h = refl
tied Greater h = absurd (false≢true (sym h))

pub not_equal : (o : Ordering) → is_ne o ≡ true → is_eq o ≡ false
not_equal Less h = refl
not_equal Equal h = absurd (false≢true h)
not_equal Greater h = refl
