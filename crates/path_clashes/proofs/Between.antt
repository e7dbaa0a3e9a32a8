-- What stands in byte order between two names below a folder is below it; and folders of one name.
use Rattle.std.proofs.Common.{◌≡◌, ⊎_elim, ℕ, ◌<◌, true, false, List, [], ◌∷◌, ◌++◌, length, take, refl, sym, ap, ◌∙◌, append_assoc, arith, true≢false}
use Rattle.std.specs.Ordering.{is_lt, nat_cmp, ordering_reverse, ordering_then}
use Rattle.std.specs.declared.cmp.Ordering.{Ordering}
use Rattle.std.specs.declared.cmp.Ordering.TheVariants.{Less, Equal, Greater}
use Rattle.std.proofs.lemmas.Bool.{cases_Bool}
use Rattle.std.proofs.lemmas.Cmp.{nat_cmp_total}
use Rattle.std.proofs.lemmas.List.{take_all}
use Rattle.std.proofs.lemmas.Map.Lookups.{exact_unsigned}
use Rattle.base_core.specs.Files.{IsFolderOf}
use Rattle.base_core.specs.ByteOrder.{bytes_cmp, precedes}
use Rattle.base_core.proofs.Folders.{at_folder}
use Rattle.path_clashes.proofs.Above.{name_behind, shared_folder}
use Rattle.path_clashes.proofs.OneFirst.{one_name}

-- ---- between two names

record IsHeaded (x : ℕ) (low high b : List ℕ) : Type 0 where
  pub rest : List ℕ
  pub is : b ≡ x ∷ rest
  pub low_end : precedes rest low ≡ false
  pub high_end : precedes high rest ≡ false

headed : (x : ℕ) (low high b : List ℕ) → precedes b (x ∷ low) ≡ false → precedes (x ∷ high) b ≡ false → IsHeaded x low high b
headed x low high [] from upto = absurd (cc)
headed x low high (y ∷ rest) from upto = by (nat_cmp y x) refl from
  where
    by : (o : Ordering) → nat_cmp y x ≡ o → is_lt (ordering_then o (bytes_cmp rest low)) ≡ false → IsHeaded x low high (y ∷ rest)
    by Less is from = absurd (cc)
    by Equal is from =
        let same : y ≡ x = exact_unsigned y x is in
        record {
          rest = rest;
          is = ap (λ z. z ∷ rest) same;
          low_end = from;
          high_end = ap (λ o. is_lt (ordering_then o (bytes_cmp high rest))) (sym (nat_cmp_total.antisymm x y ∙ ap ordering_reverse is)) ∙ upto;
        }
    by Greater is from = absurd (true≢false (ap (λ o. is_lt (ordering_then o (bytes_cmp high rest))) (sym (nat_cmp_total.antisymm x y ∙ ap ordering_reverse is)) ∙ upto))

pub between : (folder low high b : List ℕ) → precedes b (folder ++ 47 ∷ low) ≡ false → precedes (folder ++ 47 ∷ high) b ≡ false → IsFolderOf folder b
between [] low high b from upto = let h = headed 47 low high b from upto in (h.rest, h.is)
between (x ∷ folder) low high b from upto =
    let h = headed x (folder ++ 47 ∷ low) (folder ++ 47 ∷ high) b from upto in
    let rest = between folder low high h.rest h.low_end h.high_end in
    (rest.0, h.is ∙ ap (λ (l : List ℕ). x ∷ l) rest.1)

pub between_names : (folder one other b : List ℕ) → IsFolderOf folder one → IsFolderOf folder other → precedes b one ≡ false → precedes other b ≡ false → IsFolderOf folder b
between_names folder one other b (low, is_one) (high, is_other) from upto =
    between folder low high b (ap (precedes b) (sym is_one) ∙ from) (ap (λ (l : List ℕ). precedes l b) (sym is_other) ∙ upto)

-- ---- folders of one name

pub folder_trans : (a b c : List ℕ) → IsFolderOf a b → IsFolderOf b c → IsFolderOf a c
folder_trans a b c (r, is_b) (s, is_c) = (r ++ 47 ∷ s, is_c ∙ (ap (λ (l : List ℕ). l ++ 47 ∷ s) is_b ∙ append_assoc a (47 ∷ r) (47 ∷ s)))

pub shorter_folder : (short long name : List ℕ) → IsFolderOf short name → IsFolderOf long name → length short < length long → IsFolderOf short long
shorter_folder short long name above also less =
    shared_folder long name short (length long) (omega arith) (take_all (length long) long (omega arith) ∙ sym (at_folder long name also).2) above less

pub same_folder : (one other name : List ℕ) → IsFolderOf one name → IsFolderOf other name → length one ≡ length other → one ≡ other
same_folder one other name above also same =
    sym (at_folder one name above).2 ∙ (ap (λ n. take n name) same ∙ (at_folder other name also).2)

-- a folder comes before what is below it
pub folder_first : (folder name : List ℕ) → IsFolderOf folder name → precedes folder name ≡ true
folder_first folder name above =
    ⊎_elim (λ less. less)
    (λ more. let same : folder ≡ name = one_name folder name more (name_behind folder name above) in absurd (omega (arith, ap length same, (at_folder folder name above).0)))
    (cases_Bool (precedes folder name))
