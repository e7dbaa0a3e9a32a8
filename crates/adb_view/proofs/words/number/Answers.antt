use Rattle.std.proofs.Common.{lit<, ◌∙◌}
use Rattle.adb_view.specs.declared.words.Width.TheVariants.{One, Two, Four, Eight}
use Rattle.adb_view.proofs.Numbers.{byte_within, number_read, one_byte}
use Rattle.adb_view.proofs.words.number.Goals as goal

pub bounds-x-0 : goal.bounds-x-0
bounds-x-0 c = byte_within 0 c.args.width One c.args.bytes.now c.args.at _ _ c.in-One.is c.bytes.ensures c.in_ok-x.ensures (lit< tt)

pub bounds-x-0-in-Two : goal.bounds-x-0-in-Two
bounds-x-0-in-Two c = byte_within 0 c.args.width Two c.args.bytes.now c.args.at _ _ c.in-Two.is c.bytes.ensures c.in_ok-x.ensures (lit< tt)

pub bounds-x-1 : goal.bounds-x-1
bounds-x-1 c = byte_within 1 c.args.width Two c.args.bytes.now c.args.at _ _ c.in-Two.is c.bytes.ensures c.in_ok-x.ensures (lit< tt)

pub bounds-x-0-in-Four : goal.bounds-x-0-in-Four
bounds-x-0-in-Four c = byte_within 0 c.args.width Four c.args.bytes.now c.args.at _ _ c.in-Four.is c.bytes.ensures c.in_ok-x.ensures (lit< tt)

pub bounds-x-1-in-Four : goal.bounds-x-1-in-Four
bounds-x-1-in-Four c = byte_within 1 c.args.width Four c.args.bytes.now c.args.at _ _ c.in-Four.is c.bytes.ensures c.in_ok-x.ensures (lit< tt)

pub bounds-x-2 : goal.bounds-x-2
bounds-x-2 c = byte_within 2 c.args.width Four c.args.bytes.now c.args.at _ _ c.in-Four.is c.bytes.ensures c.in_ok-x.ensures (lit< tt)

pub bounds-x-3 : goal.bounds-x-3
bounds-x-3 c = byte_within 3 c.args.width Four c.args.bytes.now c.args.at _ _ c.in-Four.is c.bytes.ensures c.in_ok-x.ensures (lit< tt)

pub bounds-x-0-in-Eight : goal.bounds-x-0-in-Eight
bounds-x-0-in-Eight c = byte_within 0 c.args.width Eight c.args.bytes.now c.args.at _ _ c.in-Eight.is c.bytes.ensures c.in_ok-x.ensures (lit< tt)

pub bounds-x-1-in-Eight : goal.bounds-x-1-in-Eight
bounds-x-1-in-Eight c = byte_within 1 c.args.width Eight c.args.bytes.now c.args.at _ _ c.in-Eight.is c.bytes.ensures c.in_ok-x.ensures (lit< tt)

pub bounds-x-2-in-Eight : goal.bounds-x-2-in-Eight
bounds-x-2-in-Eight c = byte_within 2 c.args.width Eight c.args.bytes.now c.args.at _ _ c.in-Eight.is c.bytes.ensures c.in_ok-x.ensures (lit< tt)

pub bounds-x-3-in-Eight : goal.bounds-x-3-in-Eight
bounds-x-3-in-Eight c = byte_within 3 c.args.width Eight c.args.bytes.now c.args.at _ _ c.in-Eight.is c.bytes.ensures c.in_ok-x.ensures (lit< tt)

pub bounds-x-4 : goal.bounds-x-4
bounds-x-4 c = byte_within 4 c.args.width Eight c.args.bytes.now c.args.at _ _ c.in-Eight.is c.bytes.ensures c.in_ok-x.ensures (lit< tt)

pub bounds-x-5 : goal.bounds-x-5
bounds-x-5 c = byte_within 5 c.args.width Eight c.args.bytes.now c.args.at _ _ c.in-Eight.is c.bytes.ensures c.in_ok-x.ensures (lit< tt)

pub bounds-x-6 : goal.bounds-x-6
bounds-x-6 c = byte_within 6 c.args.width Eight c.args.bytes.now c.args.at _ _ c.in-Eight.is c.bytes.ensures c.in_ok-x.ensures (lit< tt)

pub bounds-x-7 : goal.bounds-x-7
bounds-x-7 c = byte_within 7 c.args.width Eight c.args.bytes.now c.args.at _ _ c.in-Eight.is c.bytes.ensures c.in_ok-x.ensures (lit< tt)

pub returns-in-One-clause-value : goal.returns-in-One-clause-value
returns-in-One-clause-value c = number_read c.args.width One c.args.bytes.now c.args.at _ _ _ c.in-One.is c.bytes.ensures c.in_ok-x.ensures (c.from.ensures ∙ one_byte c.in_ok-x.x.now)

pub returns-in-Two-clause-value : goal.returns-in-Two-clause-value
returns-in-Two-clause-value c = number_read c.args.width Two c.args.bytes.now c.args.at _ _ _ c.in-Two.is c.bytes.ensures c.in_ok-x.ensures (c.from-in-Two.ensures ∙ c.from_le_bytes.ensures)

pub returns-in-Four-clause-value : goal.returns-in-Four-clause-value
returns-in-Four-clause-value c = number_read c.args.width Four c.args.bytes.now c.args.at _ _ _ c.in-Four.is c.bytes.ensures c.in_ok-x.ensures (c.from-in-Four.ensures ∙ c.from_le_bytes-in-Four.ensures)

pub returns-in-Eight-clause-value : goal.returns-in-Eight-clause-value
returns-in-Eight-clause-value c = number_read c.args.width Eight c.args.bytes.now c.args.at _ _ _ c.in-Eight.is c.bytes.ensures c.in_ok-x.ensures c.from_le_bytes-in-Eight.ensures
