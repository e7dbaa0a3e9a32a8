-- The locators of a writer, in pages. Serves the contracts of `src/word_pages.rt`. How locators are
-- stored is described in the README of this crate.
use Rattle.std.specs.Prelude.{◌≡◌, ℕ, zero, suc, Bool, false, true, ◌≤◌, ◌<◌, List, [], ◌∷◌, ◌++◌, length, get_or, map, take, drop, Result, Ok, Err}
use Rattle.std.specs.List.{AllByRecursion, HoldsAt, concat}
use Rattle.std.specs.Ordering.{nat_cmp, is_lt}
use Rattle.std.specs.Cmp.Lexicographic.{slice_cmp}
use Rattle.std.specs.declared.cmp.Ordering.{Ordering}
use Rattle.std.specs.declared.cmp.Ordering.TheVariants.{Less, Equal, Greater}
use Rattle.adb_write.specs.Keys.{key_of_locator}
use Rattle.adb_write.specs.declared.word_pages.Slot.{Slot}
use Rattle.adb_write.specs.declared.word_pages.WordPages.{WordPages}

-- the locators of the program's pages: for each page the list of its locators
abbrev pub pages_of : WordPages → List (List ℕ)
pages_of words = map (λ page. page.items) words.pages.items

-- all locators before a slot: those of the first k pages, and the first `index` locators of page k, counted from 0
abbrev pub locators_before_slot : List (List ℕ) → ℕ → ℕ → List ℕ
locators_before_slot [] k index = []
locators_before_slot (page ∷ pages) zero index = take index page
locators_before_slot (page ∷ pages) (suc k) index = page ++ locators_before_slot pages k index

-- all locators from a slot on: those of page k from `index` on, and those of all later pages
abbrev pub locators_from_slot : List (List ℕ) → ℕ → ℕ → List ℕ
locators_from_slot [] k index = []
locators_from_slot (page ∷ pages) zero index = drop index page ++ concat pages
locators_from_slot (page ∷ pages) (suc k) index = locators_from_slot pages k index

-- the locators of the page with the index k, counted from 0; none if there is no such page
abbrev pub page_at : List (List ℕ) → ℕ → List ℕ
page_at pages k = get_or pages k []

-- page k (counted from 0) and `index` are a slot of these pages: `index` is that of a locator in page k, or just after
-- the last one. Without pages both numbers are 0
abbrev pub IsSlotIn : List (List ℕ) → ℕ → ℕ → Type 0
IsSlotIn [] k index = (k ≡ 0) × (index ≡ 0)
IsSlotIn (page ∷ pages) zero index = index ≤ length page
IsSlotIn (page ∷ []) (suc k) index = ⊥
IsSlotIn (page ∷ next ∷ pages) (suc k) index = IsSlotIn (next ∷ pages) k index

-- no page is empty
abbrev pub HaveNoEmptyPage : List (List ℕ) → Type 0
HaveNoEmptyPage = AllByRecursion (λ page. 0 < length page)

-- the slot `there` of the new pages is between the same locators as the slot `slot` of the old pages
pub record IsSameSlot (old : List (List ℕ)) (slot : Slot) (new : List (List ℕ))
    (there : Slot) : Type 0 where
  -- `there` is a slot of the new pages
  pub inside : IsSlotIn new there.page there.index
  -- before it are the same locators as before the old slot
  pub before : locators_before_slot new there.page there.index
      ≡ locators_before_slot old slot.page slot.index
  -- after it are the same locators as after the old slot
  pub behind : locators_from_slot new there.page there.index ≡ locators_from_slot old slot.page slot.index

-- how many locators remain in a page that is split: half of a full one of 512
abbrev pub HALF : ℕ
HALF = 256

-- the pages, after page k (counted from 0) was split in two
abbrev pub with_page_split : List (List ℕ) → ℕ → List (List ℕ)
with_page_split [] k = []
with_page_split (page ∷ pages) zero = take HALF page ∷ drop HALF page ∷ pages
with_page_split (page ∷ pages) (suc k) = page ∷ with_page_split pages k

-- whether the first locator of a page has a higher key than `key`; false for an empty page
abbrev pub page_begins_above_key : List ℕ → List ℕ → List ℕ → Bool
page_begins_above_key payload key [] = false
page_begins_above_key payload key (word ∷ words) =
    is_lt (slice_cmp nat_cmp key (key_of_locator payload word))

-- `order` is the result of comparing `key` with the key of each of these locators (`Greater`: all their keys are lower)
abbrev pub AllCompareToKey : Ordering → List ℕ → List ℕ → List ℕ → Type 0
AllCompareToKey order payload key =
    AllByRecursion (λ word. slice_cmp nat_cmp key (key_of_locator payload word) ≡ order)

-- `word` is one of the locators `words`, and its item in the payload has the key `key`
pub record IsLocatorWithKey (payload : List ℕ) (words : List ℕ) (key : List ℕ) (word : ℕ) : Type 0 where
  -- the locators before `word`
  pub before : List ℕ
  -- the locators after `word`
  pub behind : List ℕ
  -- `word` is between these locators
  pub is : words ≡ before ++ word ∷ behind
  -- the item of the locator `word` has this key
  pub equal : slice_cmp nat_cmp key (key_of_locator payload word) ≡ Equal

-- the slot is between the locators with lower keys than `key` and those with higher keys, so no locator has this key
pub record IsBetween (payload : List ℕ) (pages : List (List ℕ)) (key : List ℕ)
    (slot : Slot) : Type 0 where
  -- the slot is one of these pages
  pub inside : IsSlotIn pages slot.page slot.index
  -- all locators before the slot have lower keys
  pub lower : AllCompareToKey Greater payload key (locators_before_slot pages slot.page slot.index)
  -- all locators after the slot have higher keys
  pub higher : AllCompareToKey Less payload key (locators_from_slot pages slot.page slot.index)

-- page k (counted from 0) is the one into which a locator with the key `key` belongs
pub record IsPageFor (payload : List ℕ) (pages : List (List ℕ)) (key : List ℕ)
    (k : ℕ) : Type 0 where
  -- there is a page k; or there are no pages, and k is 0
  pub inside : IsSlotIn pages k 0
  -- all locators in the pages before page k have lower keys
  pub lower : AllCompareToKey Greater payload key (locators_before_slot pages k 0)
  -- all locators in the pages after page k have higher keys
  pub higher : AllCompareToKey Less payload key (locators_from_slot pages (suc k) 0)

-- page k (counted from 0) does not begin with a higher key than `key`, and the next page, if there is one, does
pub record IsPageAt (payload : List ℕ) (pages : List (List ℕ)) (key : List ℕ)
    (k : ℕ) : Type 0 where
  -- there is a page k
  pub inside : k < length pages
  -- page k does not begin with a higher key
  pub here : page_begins_above_key payload key (page_at pages k) ≡ false
  -- the next page, if there is one, begins with a higher key
  pub next : suc k < length pages → page_begins_above_key payload key (page_at pages (suc k)) ≡ true

-- the result of a search for `key` in one page: Ok with the index of the locator with this key, or else the index
-- between the locators with lower keys and those with higher keys
abbrev pub IsPageSearchResult : List ℕ → List ℕ → List ℕ → Result ℕ ℕ → Type 0
IsPageSearchResult payload page key (Ok index) =
    (index < length page)
    × HoldsAt (λ word. slice_cmp nat_cmp key (key_of_locator payload word) ≡ Equal) page index
IsPageSearchResult payload page key (Err index) =
    (index ≤ length page)
    × AllCompareToKey Greater payload key (take index page)
    × AllCompareToKey Less payload key (drop index page)

-- the result of a search for `key` in all pages: Ok with the locator that has this key, or else the slot between the
-- locators with lower keys and those with higher keys
abbrev pub IsSearchResult : List ℕ → List (List ℕ) → List ℕ → Result ℕ Slot → Type 0
IsSearchResult payload pages key (Ok word) = IsLocatorWithKey payload (concat pages) key word
IsSearchResult payload pages key (Err slot) = IsBetween payload pages key slot
