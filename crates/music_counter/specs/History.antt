-- Demand 3 of what the code does: a ledger and a card are formatted, and then a stream of requests is served.
use Rattle.std.specs.Prelude.{ℕ, ◌≡◌, List}
use Rattle.formats.specs.declared.head.Pair.{Pair}
use Rattle.calls.specs.History.{After}
use Rattle.tables.specs.Format.{ledger_formatting, card_formatting}
use Rattle.tables.specs.History.{formatted}
use Rattle.music_counter.specs.Serve.{served_run}

-- the run of which `Serves` says that serving a stream answers and leaves it, from what formatting left: every title granted in it
-- adds up
abbrev pub ServedHistory : Type 0
ServedHistory =
    (pair : Pair) (ledger titles rules : List ℕ) (rows application card_application : ℕ) → ledger_formatting ledger rows ≡ 0 → card_formatting titles rules ≡ 0
    → (s : List ℕ) → After (served_run pair s (formatted pair ledger titles rules rows application card_application).buffers)
