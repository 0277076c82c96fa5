-- What a call is lent to read.
use Rattle.calls.specs.Buffers.{Buffers, buffers_of}
use Rattle.tables.specs.declared.shop.Shop.{Shop}

-- the three buffers
abbrev pub lent : Shop → Buffers
lent shop = buffers_of shop.ledger.now shop.card.titles.now shop.card.rules.now
