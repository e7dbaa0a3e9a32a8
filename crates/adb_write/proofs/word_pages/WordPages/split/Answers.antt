use Rattle.std.proofs.Common.{◌≡◌, ℕ, ◌+◌, ◌^◌, ◌<◌, ◌≤◌, List, length, map, drop, refl, sym, ap, ◌∙◌, arith}
use Rattle.std.proofs.lemmas.List.{length-map}
use Rattle.std.proofs.lemmas.Result.{IfOk-from_err}
use Rattle.adb_write.specs.WordPages.{HALF, page_at, pages_of}
use Rattle.adb_write.proofs.Pages.{page_of_map, split_vectors, upper_copy}
use Rattle.adb_write.proofs.WriterSteps.{on_err}
use Rattle.adb_write.proofs.word_pages.WordPages.split.Goals as goal

-- the page is that of a vector
page_within : {V : Type 0} (f : V → List ℕ) (vs : List V) (page n : ℕ) → page < length (map f vs) → n ≡ length vs → page < n
page_within f vs page n lt e = omega (arith, lt, e, length-map vs f)

-- the page behind it is within the vectors, or at their end
next_within : (page n : ℕ) → page < n → page + 1 ≤ n
next_within page n lt = omega arith

-- with one vector more, the page is still that of a vector
still_within : (page n m : ℕ) → page < n → m ≡ n + 1 → page < m
still_within page n m lt e = omega arith

-- the number of the page behind it has 64 bits
next_fits : (page n cap : ℕ) → page < n → n ≤ cap → cap < 2 ^ 63 → page + 1 < 2 ^ 64
next_fits page n cap lt le small = omega arith

-- a page with more than half of the most words has the first half
half_within : (xs ys : List ℕ) → HALF < length xs → xs ≡ ys → HALF ≤ length ys
half_within xs ys more e = omega (arith, more, ap length e)

pub returns-clause-ok : goal.returns-clause-ok
returns-clause-ok c =
    let old = c.args.self.now.pages.items in
    let within : c.args.page < length old = omega (arith, c.requires.inside, length-map old (λ page. page.items)) in
    let upper : c.extend_from_slice.new.self.items ≡ drop HALF (page_at (pages_of c.args.self.now) c.args.page) =
    c.in_ok-extend_from_slice.ensures.items ∙ upper_copy (λ page. page.items) old c.args.page c.in_ok-upper.upper.items c.deref.result.now c.index.result.now within c.in_ok-upper.ensures.items c.deref.ensures.value c.index.ensures in
    split_vectors (λ page. page.items) old c.insert.new.self.items c.args.page c.extend_from_slice.new.self c.shrink_to.new.self c.index_mut-lower.result.now within c.in_ok-insert.ensures.items c.index_mut-lower.ensures.value (c.shrink_to.ensures.items ∙ c.truncate.ensures.items) upper

pub returns-in_err-upper-clause-ok : goal.returns-in_err-upper-clause-ok
returns-in_err-upper-clause-ok c = IfOk-from_err c.from_residual.result _ c.from_residual.ensures.0

pub returns-in_err-upper-clause-err : goal.returns-in_err-upper-clause-err
returns-in_err-upper-clause-err c = on_err c.from_residual.result _ refl

pub returns-in_err-extend_from_slice-clause-ok : goal.returns-in_err-extend_from_slice-clause-ok
returns-in_err-extend_from_slice-clause-ok c = IfOk-from_err c.from_residual-in_err-extend_from_slice.result _ c.from_residual-in_err-extend_from_slice.ensures.0

pub returns-in_err-extend_from_slice-clause-err : goal.returns-in_err-extend_from_slice-clause-err
returns-in_err-extend_from_slice-clause-err c = on_err c.from_residual-in_err-extend_from_slice.result _ refl

pub returns-in_err-add-clause-ok : goal.returns-in_err-add-clause-ok
returns-in_err-add-clause-ok c = IfOk-from_err c.from_residual-in_err-add.result _ c.from_residual-in_err-add.ensures.0

pub returns-in_err-add-clause-err : goal.returns-in_err-add-clause-err
returns-in_err-add-clause-err c = on_err c.from_residual-in_err-add.result _ refl

pub returns-in_err-insert-clause-ok : goal.returns-in_err-insert-clause-ok
returns-in_err-insert-clause-ok c = IfOk-from_err c.from_residual-in_err-insert.result _ c.from_residual-in_err-insert.ensures.0

pub returns-in_err-insert-clause-err : goal.returns-in_err-insert-clause-err
returns-in_err-insert-clause-err c = on_err c.from_residual-in_err-insert.result _ (ap (map (λ page. page.items)) c.in_err-insert.ensures.items)

pub index-requires : goal.index-requires
index-requires c = page_within (λ page. page.items) c.args.self.now.pages.items c.args.page _ c.requires.inside c.args.self.now.pages.ok.0

pub insert-requires : goal.insert-requires
insert-requires c = next_within _ _ (page_within (λ page. page.items) c.args.self.now.pages.items c.args.page _ c.requires.inside c.args.self.now.pages.ok.0)

pub index_mut-lower-requires : goal.index_mut-lower-requires
index_mut-lower-requires c = still_within _ _ _ (page_within (λ page. page.items) c.args.self.now.pages.items c.args.page _ c.requires.inside c.args.self.now.pages.ok.0) c.in_ok-insert.ensures.len

pub slice_bounds-extend_from_slice-count : goal.slice_bounds-extend_from_slice-count
slice_bounds-extend_from_slice-count c =
    let old = c.args.self.now.pages.items in
    let within : c.args.page < length old = page_within (λ page. page.items) old c.args.page (length old) c.requires.inside refl in
    let here : page_at (pages_of c.args.self.now) c.args.page ≡ c.deref.result.now = page_of_map (λ page. page.items) old c.args.page c.index.result.now within ∙ ap (λ page. page.items) (sym c.index.ensures) ∙ sym c.deref.ensures.value in
    half_within _ _ c.requires.full here

pub overflow_add-page : goal.overflow_add-page
overflow_add-page c = record { fits = next_fits _ _ _ (page_within (λ page. page.items) c.args.self.now.pages.items c.args.page _ c.requires.inside c.args.self.now.pages.ok.0) c.args.self.now.pages.ok.1 c.args.self.now.pages.small }

pub overflow_add-page-2 : goal.overflow_add-page-2
overflow_add-page-2 c = record { fits = next_fits _ _ _ (page_within (λ page. page.items) c.args.self.now.pages.items c.args.page _ c.requires.inside c.args.self.now.pages.ok.0) c.args.self.now.pages.ok.1 c.args.self.now.pages.small }
