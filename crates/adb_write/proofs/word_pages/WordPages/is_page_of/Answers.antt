use Rattle.std.proofs.Common.{◌≡◌, ◌+◌, ◌<◌, ℕ, suc, List, length, get_or, false, sym, ap, subst, ◌∙◌, arith}
use Rattle.std.proofs.lemmas.List.{length-map}
use Rattle.adb_view.specs.Adb.{payload_of}
use Rattle.adb_write.specs.Keys.{key_with_fingerprint}
use Rattle.adb_write.specs.WordPages.{page_begins_above_key, page_at, pages_of}
use Rattle.adb_write.proofs.Pages.{page_of_map, next_begins}
use Rattle.adb_write.proofs.word_pages.WordPages.is_page_of.Goals as goal

pub returns-in-Some-get : goal.returns-in-Some-get
returns-in-Some-get c =
    let p : List ℕ = payload_of c.args.adb.now in
    let key : List ℕ = key_with_fingerprint c.args.fingerprint c.args.parts.now in
    let pages : List (List ℕ) = pages_of c.args.self.now in
    let k : ℕ = c.args.page in
    let look = subst (λ vs. (k < length vs) × (c.in-Some.here.now ≡ get_or vs k c.in-Some.here.now)) c.deref.ensures.value (c.in-Some.ensures.lookup.3.0, c.in-Some.ensures.lookup.3.1 c.in-Some.here.now) in
    let page : page_at pages k ≡ c.deref-2.result.now = page_of_map (λ page. page.items) c.args.self.now.pages.items k c.in-Some.here.now look.0 ∙ ap (λ page. page.items) (sym look.1) ∙ sym c.deref-2.ensures.value in
    let look_next = subst (λ vs. (k + 1 < length vs) × (c.in-Some-get.next.now ≡ get_or vs (k + 1) c.in-Some-get.next.now)) c.deref-3.ensures.value (c.in-Some-get.ensures.lookup.3.0, c.in-Some-get.ensures.lookup.3.1 c.in-Some-get.next.now) in
    let next_page : page_at pages (k + 1) ≡ c.deref-in-Some-get.result.now = page_of_map (λ page. page.items) c.args.self.now.pages.items (k + 1) c.in-Some-get.next.now look_next.0 ∙ ap (λ page. page.items) (sym look_next.1) ∙ sym c.deref-in-Some-get.ensures.value in
    let here : page_begins_above_key p key (page_at pages k) ≡ false = ap (page_begins_above_key p key) page ∙ sym c.begins_after.ensures ∙ c.if-begins_after.false in
    let next : c.begins_after-in-Some-get.result ≡ page_begins_above_key p key (page_at pages (suc k)) = c.begins_after-in-Some-get.ensures ∙ ap (page_begins_above_key p key) (sym next_page ∙ ap (page_at pages) (omega arith)) in
    next_begins p key pages k c.begins_after-in-Some-get.result (omega (arith, look.0, length-map c.args.self.now.pages.items (λ page. page.items))) here next
