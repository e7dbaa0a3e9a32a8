-- The names after a change without a clash: no one is a folder of another.
use Rattle.std.proofs.Common.{◌≡◌, ⊎_elim, ℕ, true, false, List, Option, IsSome, sym, ◌∙◌, true≢false}
use Rattle.std.specs.Prelude.{not, ◌&&◌, ◌||◌, is_some}
use Rattle.std.proofs.lemmas.Bool.{and_parts, cases_Bool, or_cases, or_parts}
use Rattle.base_core.specs.Files.{Files, HasNoFileAsFolder}
use Rattle.path_clashes.specs.Clash.{HasNoClash, NameChange, is_present_after_change}

-- a name that is there and does not count as written stands
unwritten_stands : (change : NameChange) (files : Files) (name : List ℕ) → is_present_after_change change files name ≡ true → change.counts_as_written name ≡ false → IsSome (files name)
unwritten_stands change files name after off =
    ⊎_elim (λ present_files. (and_parts (is_some (files name)) (not (change.does_release name)) present_files).0) (λ counts. absurd (true≢false (sym counts ∙ off)))
    (or_cases (is_some (files name) && not (change.does_release name)) (change.counts_as_written name) after)

pub folder_like : {X : Type 0} (change : NameChange) (files : Files) (after : List ℕ → Option X) → HasNoFileAsFolder files → HasNoClash change files
    → ((name : List ℕ) → IsSome (after name) → is_present_after_change change files name ≡ true) → HasNoFileAsFolder after
folder_like change files after like none within p q above there_p there_q =
    ⊎_elim (λ counts. none (record { path = p; other = q }) (record { folder = above; path_after = within p there_p; other_after = within q there_q; written = counts }))
    (λ off. let both = or_parts (change.counts_as_written p) (change.counts_as_written q) off in
    like p q above (unwritten_stands change files p (within p there_p) both.0) (unwritten_stands change files q (within q there_q) both.1))
    (cases_Bool (change.counts_as_written p || change.counts_as_written q))
