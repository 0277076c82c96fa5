-- Demand 3 of every stream that is served from a formatted ledger and card.
-- Assumes nothing.
use Rattle.tables.proofs.History.{formatted_history}
use Rattle.music_counter.specs.Serve.{stream_of}
use Rattle.music_counter.specs.History.{ServedHistory}

pub served_history : ServedHistory
served_history pair ledger titles rules rows application card_application l c s =
    formatted_history pair ledger titles rules rows application card_application l c (stream_of s).requests
