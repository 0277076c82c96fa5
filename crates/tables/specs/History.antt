-- Demand 3 of what the code makes: the list starts from the buffers that formatting leaves.
use Rattle.std.specs.Prelude.{ℕ, ◌≡◌, List}
use Rattle.formats.specs.declared.head.Pair.{Pair}
use Rattle.requests.specs.declared.request.Request.{Request}
use Rattle.calls.specs.Buffers.{buffers_of}
use Rattle.calls.specs.History.{Run, from, run, After}
use Rattle.tables.specs.Format.{ledger_formatting, formatted_ledger, card_formatting, formatted_titles, formatted_rules}

-- no call yet, and the buffers after a ledger and a card were formatted, whatever stood in them
abbrev pub formatted : Pair → List ℕ → List ℕ → List ℕ → ℕ → ℕ → ℕ → Run
formatted pair ledger titles rules rows application card_application =
    from (buffers_of (formatted_ledger ledger rows application) (formatted_titles pair titles rules) (formatted_rules pair titles rules card_application))

-- After every list of calls from a ledger and a card whose formatting answered 0, of every title granted in it.
abbrev pub FormattedHistory : Type 0
FormattedHistory =
    (pair : Pair) (ledger titles rules : List ℕ) (rows application card_application : ℕ) → ledger_formatting ledger rows ≡ 0 → card_formatting titles rules ≡ 0
    → (ks : List Request) → After (run pair ks (formatted pair ledger titles rules rows application card_application))
