use Rattle.std.proofs.Common.{◌≡◌, ◌≤◌, ◌<◌, ◌+◌, ◌-◌, ℕ, List, length, get_or, take, drop, subst, arith, rules}
use Rattle.std.specs.Ordering.{ordering_reverse}
use Rattle.std.specs.declared.cmp.Ordering.TheVariants.{Less, Equal}
use Rattle.std.proofs.lemmas.Fn.{always_returns_same}
use Rattle.std.proofs.lemmas.List.{length-take, length-drop}
use Rattle.adb_view.specs.Adb.{payload_of}
use Rattle.adb_write.specs.Keys.{kind_and_comparison_numbers, key_with_fingerprint, key_of_locator}
use Rattle.adb_write.specs.WordPages.{AllCompareToKey}
use Rattle.adb_write.proofs.Nearby.{low_joined, high_joined, holds_joined, rising_part}
use Rattle.adb_write.proofs.Pages.{reversed, searched_low, searched_high}
use Rattle.adb_write.proofs.Rising.{cmp, searchable}
use Rattle.adb_write.proofs.word_pages.search.Goals as goal

pub returns-in-Ok : goal.returns-in-Ok
returns-in-Ok c =
    let p : List ℕ = payload_of c.args.adb.now in
    let key : List ℕ = key_with_fingerprint c.args.fingerprint c.args.parts.now in
    let page : List ℕ = c.args.page.now in
    let from : ℕ = c.lower_end-from.result in
    let n : ℕ = c.upper_end-to.result - from in
    let near : List ℕ = take n (drop from page) in
    let i : ℕ = c.in-Ok.index in
    let long = length-take n (drop from page) in
    let found = c.in-Ok.ensures.position (λ w. ordering_reverse (cmp key (key_of_locator p w))) (always_returns_same _ _ _ (λ a r f k. search rules)) in
    let within : i < n = omega (arith, c.in-Ok.ensures.bound, long) in
    let inside : from + i < length page = omega (arith, c.in-Ok.ensures.bound, long, length-drop from page) in
    (inside, holds_joined (λ w. cmp key (key_of_locator p w) ≡ Equal) page from n i within (λ d. reversed (cmp key (key_of_locator p (get_or near i d))) Equal (found d)))

pub returns-in-Err : goal.returns-in-Err
returns-in-Err c =
    let p : List ℕ = payload_of c.args.adb.now in
    let key : List ℕ = key_with_fingerprint c.args.fingerprint c.args.parts.now in
    let content : List ℕ = kind_and_comparison_numbers c.args.parts.now in
    let page : List ℕ = c.args.page.now in
    let from : ℕ = c.lower_end-from.result in
    let n : ℕ = c.upper_end-to.result - from in
    let near : List ℕ = take n (drop from page) in
    let i : ℕ = c.in-Err.index in
    let long = length-take n (drop from page) in
    let found = c.in-Err.ensures.position (λ w. ordering_reverse (cmp key (key_of_locator p w))) (always_returns_same _ _ _ (λ a r f k. search rules)) in
    let point = found (searchable p near key (rising_part p page from n c.requires.rising)) in
    let upto : i ≤ n = omega (arith, c.in-Err.ensures.bound, long) in
    let end : c.upper_end-to.result ≡ from + n = omega (arith, c.lower_end-from.ensures.inside, c.upper_end-to.ensures.behind) in
    let inside : from + i ≤ length page = omega (arith, upto, end, c.upper_end-to.ensures.inside) in
    let back : AllCompareToKey Less p key (drop (from + n) page) = subst (λ (m : ℕ). AllCompareToKey Less p key (drop m page)) end (c.upper_end-to.ensures.higher p content c.requires.rising) in
    (inside, low_joined p key page from n i upto (c.lower_end-from.ensures.lower p content c.requires.rising) (searched_low p key near i point.0), high_joined p key page from n i upto (searched_high p key near i point.1) back)
