use Rattle.std.proofs.Common.{◌<◌, ◌++◌, ◌∷◌, ℕ, List, length, sym, ap, subst, ◌∙◌, arith}
use Rattle.std.specs.List.{concat}
use Rattle.std.proofs.lemmas.List.{length-map}
use Rattle.adb_write.specs.WordPages.{HaveNoEmptyPage, pages_of, locators_before_slot, locators_from_slot}
use Rattle.adb_write.proofs.Pages.{slot_page, slot_long, insert_vectors, same_vectors, same_words, filled_vectors}
use Rattle.adb_write.proofs.WriterSteps.{on_err}
use Rattle.adb_write.proofs.word_pages.WordPages.insert.Goals as goal

pub index_mut-requires : goal.index_mut-requires
index_mut-requires c =
    let same = c.in_ok-slot.ensures.ok in
    let page = slot_page (pages_of c.make_room.new.self) c.in_ok-slot.slot.page c.in_ok-slot.slot.index c.make_room.ensures.some same.inside in
    omega (arith, page, length-map c.make_room.new.self.pages.items (λ page. page.items), c.make_room.new.self.pages.ok.0)

pub insert_in_page-requires : goal.insert_in_page-requires
insert_in_page-requires c =
    let same = c.in_ok-slot.ensures.ok in
    let page = slot_page (pages_of c.make_room.new.self) c.in_ok-slot.slot.page c.in_ok-slot.slot.index c.make_room.ensures.some same.inside in
    let within : c.in_ok-slot.slot.page < length c.make_room.new.self.pages.items = omega (arith, page, length-map c.make_room.new.self.pages.items (λ page. page.items)) in
    omega (arith, slot_long (λ page. page.items) c.make_room.new.self.pages.items c.in_ok-slot.slot.page c.in_ok-slot.slot.index c.index_mut.result.now within c.index_mut.ensures.value same.inside, c.index_mut.result.now.ok.0)

pub returns-in_err-insert_in_page-clause-filled : goal.returns-in_err-insert_in_page-clause-filled
returns-in_err-insert_in_page-clause-filled c =
    let same = c.in_ok-slot.ensures.ok in
    let page = slot_page (pages_of c.make_room.new.self) c.in_ok-slot.slot.page c.in_ok-slot.slot.index c.make_room.ensures.some same.inside in
    let within : c.in_ok-slot.slot.page < length c.make_room.new.self.pages.items = omega (arith, page, length-map c.make_room.new.self.pages.items (λ page. page.items)) in
    subst HaveNoEmptyPage (sym (same_vectors (λ page. page.items) c.make_room.new.self.pages.items c.in_ok-slot.slot.page c.insert_in_page.new.page c.index_mut.result.now within c.index_mut.ensures.value c.in_err-insert_in_page.ensures.err)) c.make_room.ensures.filled

pub returns-in_err-insert_in_page-clause-err : goal.returns-in_err-insert_in_page-clause-err
returns-in_err-insert_in_page-clause-err c =
    let same = c.in_ok-slot.ensures.ok in
    let page = slot_page (pages_of c.make_room.new.self) c.in_ok-slot.slot.page c.in_ok-slot.slot.index c.make_room.ensures.some same.inside in
    let within : c.in_ok-slot.slot.page < length c.make_room.new.self.pages.items = omega (arith, page, length-map c.make_room.new.self.pages.items (λ page. page.items)) in
    on_err c.from_residual-in_err-insert_in_page.result _
    (ap concat (same_vectors (λ page. page.items) c.make_room.new.self.pages.items c.in_ok-slot.slot.page c.insert_in_page.new.page c.index_mut.result.now within c.index_mut.ensures.value c.in_err-insert_in_page.ensures.err) ∙ same_words (pages_of c.args.self.now) (pages_of c.make_room.new.self) c.args.slot c.in_ok-slot.slot same)

pub returns-clause-filled : goal.returns-clause-filled
returns-clause-filled c =
    filled_vectors (λ page. page.items) c.make_room.new.self.pages.items c.in_ok-slot.slot.page c.in_ok-slot.slot.index c.args.locator c.insert_in_page.new.page c.index_mut.result.now c.make_room.ensures.filled c.in_ok-insert_in_page.ensures.ok

pub returns-clause-ok : goal.returns-clause-ok
returns-clause-ok c =
    let same = c.in_ok-slot.ensures.ok in
    let page = slot_page (pages_of c.make_room.new.self) c.in_ok-slot.slot.page c.in_ok-slot.slot.index c.make_room.ensures.some same.inside in
    let within : c.in_ok-slot.slot.page < length c.make_room.new.self.pages.items = omega (arith, page, length-map c.make_room.new.self.pages.items (λ page. page.items)) in
    insert_vectors (λ page. page.items) c.make_room.new.self.pages.items c.in_ok-slot.slot.page c.in_ok-slot.slot.index c.args.locator c.insert_in_page.new.page c.index_mut.result.now within c.index_mut.ensures.value c.in_ok-insert_in_page.ensures.ok
    ∙ ap (λ (x : List ℕ). x ++ c.args.locator ∷ locators_from_slot (pages_of c.make_room.new.self) c.in_ok-slot.slot.page c.in_ok-slot.slot.index) same.before
    ∙ ap (λ (x : List ℕ). locators_before_slot (pages_of c.args.self.now) c.args.slot.page c.args.slot.index ++ c.args.locator ∷ x) same.behind
