use Rattle.std.proofs.Common.{◌≡◌, ◌<◌, length, sym, ap, subst, ◌∙◌, arith}
use Rattle.std.proofs.lemmas.List.{length-map}
use Rattle.adb_write.specs.WordPages.{HALF, HaveNoEmptyPage, page_at, pages_of}
use Rattle.adb_write.proofs.Pages.{slot_page, slot_index, page_of_map, split_filled, lower_slot, upper_slot}
use Rattle.adb_write.proofs.word_pages.WordPages.make_room.Goals as goal

pub index-requires : goal.index-requires
index-requires c =
    let page = slot_page (pages_of c.args.self.now) c.args.slot.page c.args.slot.index c.requires.some c.requires.inside in
    omega (arith, page, length-map c.args.self.now.pages.items (λ page. page.items), c.args.self.now.pages.ok.0)

pub split-requires-clause-inside : goal.split-requires-clause-inside
split-requires-clause-inside c = slot_page (pages_of c.args.self.now) c.args.slot.page c.args.slot.index c.requires.some c.requires.inside

pub split-requires-clause-full : goal.split-requires-clause-full
split-requires-clause-full c =
    let page = slot_page (pages_of c.args.self.now) c.args.slot.page c.args.slot.index c.requires.some c.requires.inside in
    let within : c.args.slot.page < length c.args.self.now.pages.items = omega (arith, page, length-map c.args.self.now.pages.items (λ page. page.items)) in
    let here : page_at (pages_of c.args.self.now) c.args.slot.page ≡ c.index.result.now.items =
    page_of_map (λ page. page.items) c.args.self.now.pages.items c.args.slot.page c.index.result.now within ∙ ap (λ page. page.items) (sym c.index.ensures) in
    omega (arith, ap length here, c.if-len-lt-FULL.false, c.len.ensures, c.index.result.now.ok.0)

pub returns-then-slot-le-HALF-clause-filled : goal.returns-then-slot-le-HALF-clause-filled
returns-then-slot-le-HALF-clause-filled c =
    let inside = slot_page (pages_of c.args.self.now) c.args.slot.page c.args.slot.index c.requires.some c.requires.inside in
    let within : c.args.slot.page < length c.args.self.now.pages.items = omega (arith, inside, length-map c.args.self.now.pages.items (λ page. page.items)) in
    let here : page_at (pages_of c.args.self.now) c.args.slot.page ≡ c.index.result.now.items =
    page_of_map (λ page. page.items) c.args.self.now.pages.items c.args.slot.page c.index.result.now within ∙ ap (λ page. page.items) (sym c.index.ensures) in
    let full : HALF < length (page_at (pages_of c.args.self.now) c.args.slot.page) = omega (arith, ap length here, c.if-len-lt-FULL.false, c.len.ensures, c.index.result.now.ok.0) in
    subst HaveNoEmptyPage (sym c.in_ok-split.ensures.ok) (split_filled (pages_of c.args.self.now) c.args.slot.page c.requires.filled full)

pub returns-then-slot-le-HALF-clause-ok : goal.returns-then-slot-le-HALF-clause-ok
returns-then-slot-le-HALF-clause-ok c =
    let inside = slot_page (pages_of c.args.self.now) c.args.slot.page c.args.slot.index c.requires.some c.requires.inside in
    let within : c.args.slot.page < length c.args.self.now.pages.items = omega (arith, inside, length-map c.args.self.now.pages.items (λ page. page.items)) in
    let here : page_at (pages_of c.args.self.now) c.args.slot.page ≡ c.index.result.now.items =
    page_of_map (λ page. page.items) c.args.self.now.pages.items c.args.slot.page c.index.result.now within ∙ ap (λ page. page.items) (sym c.index.ensures) in
    let full : HALF < length (page_at (pages_of c.args.self.now) c.args.slot.page) = omega (arith, ap length here, c.if-len-lt-FULL.false, c.len.ensures, c.index.result.now.ok.0) in
    let p = lower_slot (pages_of c.args.self.now) (pages_of c.split.new.self) c.args.slot.page c.args.slot.index c.in_ok-split.ensures.ok inside full c.if-slot-le-HALF.true in
    record { inside = p.0; before = p.1; behind = p.2 }

pub overflow_add-result : goal.overflow_add-result
overflow_add-result c =
    let page = slot_page (pages_of c.args.self.now) c.args.slot.page c.args.slot.index c.requires.some c.requires.inside in
    omega (arith, page, length-map c.args.self.now.pages.items (λ page. page.items), c.args.self.now.pages.ok.0)

pub returns-clause-filled : goal.returns-clause-filled
returns-clause-filled c =
    let inside = slot_page (pages_of c.args.self.now) c.args.slot.page c.args.slot.index c.requires.some c.requires.inside in
    let within : c.args.slot.page < length c.args.self.now.pages.items = omega (arith, inside, length-map c.args.self.now.pages.items (λ page. page.items)) in
    let here : page_at (pages_of c.args.self.now) c.args.slot.page ≡ c.index.result.now.items =
    page_of_map (λ page. page.items) c.args.self.now.pages.items c.args.slot.page c.index.result.now within ∙ ap (λ page. page.items) (sym c.index.ensures) in
    let full : HALF < length (page_at (pages_of c.args.self.now) c.args.slot.page) = omega (arith, ap length here, c.if-len-lt-FULL.false, c.len.ensures, c.index.result.now.ok.0) in
    subst HaveNoEmptyPage (sym c.in_ok-split.ensures.ok) (split_filled (pages_of c.args.self.now) c.args.slot.page c.requires.filled full)

pub returns-clause-ok : goal.returns-clause-ok
returns-clause-ok c =
    let inside = slot_page (pages_of c.args.self.now) c.args.slot.page c.args.slot.index c.requires.some c.requires.inside in
    let within : c.args.slot.page < length c.args.self.now.pages.items = omega (arith, inside, length-map c.args.self.now.pages.items (λ page. page.items)) in
    let here : page_at (pages_of c.args.self.now) c.args.slot.page ≡ c.index.result.now.items =
    page_of_map (λ page. page.items) c.args.self.now.pages.items c.args.slot.page c.index.result.now within ∙ ap (λ page. page.items) (sym c.index.ensures) in
    let full : HALF < length (page_at (pages_of c.args.self.now) c.args.slot.page) = omega (arith, ap length here, c.if-len-lt-FULL.false, c.len.ensures, c.index.result.now.ok.0) in
    let long = slot_index (pages_of c.args.self.now) c.args.slot.page c.args.slot.index c.requires.some c.requires.inside in
    let p = upper_slot (pages_of c.args.self.now) (pages_of c.split.new.self) c.args.slot.page c.args.slot.index c.in_ok-split.ensures.ok inside long (omega (arith, c.if-slot-le-HALF.false)) in
    record { inside = p.0; before = p.1; behind = p.2 }
