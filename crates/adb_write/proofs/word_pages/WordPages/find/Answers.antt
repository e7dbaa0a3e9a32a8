use Rattle.std.proofs.Common.{◌≡◌, ◌≤◌, ◌<◌, ℕ, List, length, get_or, take, drop, sym, ap, subst, ◌∙◌, arith}
use Rattle.std.specs.declared.cmp.Ordering.TheVariants.{Less, Greater}
use Rattle.std.proofs.lemmas.List.{length-map}
use Rattle.adb_view.specs.Adb.{payload_of}
use Rattle.adb_write.specs.Keys.{key_with_fingerprint, key_of_locator, HaveRisingKeys}
use Rattle.adb_write.specs.WordPages.{AllCompareToKey, page_at, pages_of}
use Rattle.adb_write.proofs.Rising.{cmp}
use Rattle.adb_write.proofs.Pages.{page_of_map, page_rising, slot_in, found_at, between_at, no_page}
use Rattle.adb_write.proofs.word_pages.WordPages.find.Goals as goal

pub returns-in_default : goal.returns-in_default
returns-in_default c =
    no_page (payload_of c.args.adb.now) (key_with_fingerprint c.args.fingerprint c.args.parts.now) (pages_of c.args.self.now) c.page_of-page.result c.page_of-page.ensures
    (omega (arith, c.in_default.ensures.lookup.3, c.deref.ensures.value, length-map c.args.self.now.pages.items (λ page. page.items)))

pub search-requires : goal.search-requires
search-requires c =
    let p : List ℕ = payload_of c.args.adb.now in
    let k : ℕ = c.page_of-page.result in
    let look = subst (λ vs. (k < length vs) × (c.in-Some.words.now ≡ get_or vs k c.in-Some.words.now)) c.deref.ensures.value (c.in-Some.ensures.lookup.3.0, c.in-Some.ensures.lookup.3.1 c.in-Some.words.now) in
    let page : page_at (pages_of c.args.self.now) k ≡ c.deref-2.result.now = page_of_map (λ page. page.items) c.args.self.now.pages.items k c.in-Some.words.now look.0 ∙ ap (λ page. page.items) (sym look.1) ∙ sym c.deref-2.ensures.value in
    record { rising = subst (HaveRisingKeys p) page (page_rising p (pages_of c.args.self.now) k c.requires.rising) }

pub returns-in-Ok : goal.returns-in-Ok
returns-in-Ok c =
    let p : List ℕ = payload_of c.args.adb.now in
    let key : List ℕ = key_with_fingerprint c.args.fingerprint c.args.parts.now in
    let k : ℕ = c.page_of-page.result in
    let look = subst (λ vs. (k < length vs) × (c.in-Some.words.now ≡ get_or vs k c.in-Some.words.now)) c.deref.ensures.value (c.in-Some.ensures.lookup.3.0, c.in-Some.ensures.lookup.3.1 c.in-Some.words.now) in
    let page : page_at (pages_of c.args.self.now) k ≡ c.deref-2.result.now = page_of_map (λ page. page.items) c.args.self.now.pages.items k c.in-Some.words.now look.0 ∙ ap (λ page. page.items) (sym look.1) ∙ sym c.deref-2.ensures.value in
    let ws : List ℕ = c.deref-2.result.now in
    let i : ℕ = c.in-Ok.index in
    let w : ℕ = c.index.result.now in
    let here : w ≡ get_or ws i w = c.index.ensures ∙ ap (λ (l : List ℕ). get_or l i w) (sym c.deref-2.ensures.value) in
    found_at p (pages_of c.args.self.now) key k i w (omega (arith, ap length page, c.in-Ok.ensures.0)) (here ∙ ap (λ (l : List ℕ). get_or l i w) (sym page)) (ap (λ v. cmp key (key_of_locator p v)) here ∙ c.in-Ok.ensures.1 w)

pub returns-in-Err : goal.returns-in-Err
returns-in-Err c =
    let p : List ℕ = payload_of c.args.adb.now in
    let key : List ℕ = key_with_fingerprint c.args.fingerprint c.args.parts.now in
    let k : ℕ = c.page_of-page.result in
    let look = subst (λ vs. (k < length vs) × (c.in-Some.words.now ≡ get_or vs k c.in-Some.words.now)) c.deref.ensures.value (c.in-Some.ensures.lookup.3.0, c.in-Some.ensures.lookup.3.1 c.in-Some.words.now) in
    let page : page_at (pages_of c.args.self.now) k ≡ c.deref-2.result.now = page_of_map (λ page. page.items) c.args.self.now.pages.items k c.in-Some.words.now look.0 ∙ ap (λ page. page.items) (sym look.1) ∙ sym c.deref-2.ensures.value in
    let i : ℕ = c.in-Err.index in
    let within : k < length (pages_of c.args.self.now) = omega (arith, look.0, length-map c.args.self.now.pages.items (λ page. page.items)) in
    let upto : i ≤ length (page_at (pages_of c.args.self.now) k) = omega (arith, ap length page, c.in-Err.ensures.0) in
    between_at p (pages_of c.args.self.now) key k i c.page_of-page.ensures (slot_in (pages_of c.args.self.now) k i within upto)
    (subst (λ (l : List ℕ). AllCompareToKey Greater p key (take i l)) (sym page) c.in-Err.ensures.1)
    (subst (λ (l : List ℕ). AllCompareToKey Less p key (drop i l)) (sym page) c.in-Err.ensures.2)
