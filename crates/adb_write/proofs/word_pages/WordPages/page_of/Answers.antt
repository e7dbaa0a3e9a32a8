use Rattle.std.proofs.Common.{ℕ, List, map, sym, subst, rules}
use Rattle.std.specs.Prelude.{not}
use Rattle.std.specs.List.{concat}
use Rattle.std.proofs.lemmas.List.Sorted.{IsPartitionPoint-from_clause}
use Rattle.adb_view.specs.Adb.{payload_of}
use Rattle.adb_write.specs.Keys.{key_with_fingerprint, HaveRisingKeys}
use Rattle.adb_write.specs.WordPages.{HaveNoEmptyPage, IsPageFor, page_begins_above_key, pages_of}
use Rattle.adb_write.proofs.Pages.{parted, page_for, page_for_at}
use Rattle.adb_write.proofs.word_pages.WordPages.page_of.Goals as goal

pub returns : goal.returns
returns c =
    let p : List ℕ = payload_of c.args.adb.now in
    let key : List ℕ = key_with_fingerprint c.args.fingerprint c.args.parts.now in
    let filled = subst (λ vs. HaveNoEmptyPage (map (λ page. page.items) vs)) (sym c.deref.ensures.value) c.requires.filled in
    let rising = subst (λ vs. HaveRisingKeys p (concat (map (λ page. page.items) vs))) (sym c.deref.ensures.value) c.requires.rising in
    let point =
    IsPartitionPoint-from_clause (λ page. not (page_begins_above_key p key page.items)) _ _ c.partition_point.ensures.partitioned (parted (λ page. page.items) p key c.deref.result.now filled rising)
    (λ a r f k. search rules) in
    subst (λ vs. IsPageFor p (map (λ page. page.items) vs) key c.saturating_sub.result) c.deref.ensures.value
    (page_for (λ page. page.items) p key c.deref.result.now c.partition_point.result c.saturating_sub.result filled rising c.partition_point.ensures.bound c.saturating_sub.ensures point)

pub returns-then-is_page_of : goal.returns-then-is_page_of
returns-then-is_page_of c =
    page_for_at (payload_of c.args.adb.now) (key_with_fingerprint c.args.fingerprint c.args.parts.now) (pages_of c.args.self.now) c.page_of-likely.result c.requires.filled c.requires.rising c.if-is_page_of.ensures
