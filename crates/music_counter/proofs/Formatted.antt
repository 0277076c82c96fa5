-- A stream served on a ledger and a card that were formatted first.
-- Assumes nothing.
use Prim.Native.Nat.{ℕ, ◌+◌, ◌*◌}
use mathlib.Core.Path.{◌≡◌, sym, ◌∙◌}
use mathlib.Core.List.{List, []}
use mathlib.Core.Bool.{true}
use lib.ListN.{length}
use lib.Dec.{eqb}
use borrow.Author.Tests.{eq-eqb}
use Rattle.formats.specs.Facts.{numbered}
use Rattle.formats.specs.declared.head.Pair.{Pair}
use Rattle.calls.specs.Buffers.{Buffers, buffers_of, fresh}
use Rattle.calls.proofs.Refusals.{holds, end}
use Rattle.tables.specs.Format.{ledger_formatting, formatted_ledger, card_formatting, formatted_titles, formatted_rules}
use Rattle.tables.proofs.History.{ledger_fresh, titles_fresh, rules_fresh}
use Rattle.music_counter.specs.declared.serve.Served.{Served}
use Rattle.music_counter.specs.declared.serve.Note.{Note}
use Rattle.music_counter.specs.Serve.{Serves}

formats_ledger : (l : List ℕ) (rows : ℕ) → numbered rows ≡ true → length l ≡ 24 * (rows + 1) → ledger_formatting l rows ≡ 0
unfolding ledger_formatting
formats_ledger l rows n e = sym (holds 4 (numbered rows) _ n (holds 7 (eqb (length l) (24 * (rows + 1))) [] (eq-eqb (length l) (24 * (rows + 1)) e) end))

formats_card : (t r : List ℕ) → length t ≡ 16000 → length r ≡ 32000 → card_formatting t r ≡ 0
unfolding card_formatting
formats_card t r e f = sym (holds 8 (eqb (length t) 16000) _ (eq-eqb (length t) 16000 e) (holds 9 (eqb (length r) 32000) [] (eq-eqb (length r) 32000 f) end))

-- what formatting left, whatever stood there, is fresh
module _ (pair : Pair) (rows : ℕ) (is_number : numbered rows ≡ true) where
  pub served_fresh : (l t r : List ℕ) → length l ≡ 24 * (rows + 1) → length t ≡ 16000 → length r ≡ 32000
      → {s : List ℕ} {ledger titles rules : List ℕ} {served : Served} {after : Buffers} {notes notes' : List Note}
      → ledger ≡ formatted_ledger l rows 0 → titles ≡ formatted_titles pair t r → rules ≡ formatted_rules pair t r 0
      → Serves pair s (buffers_of ledger titles rules) served after notes notes'
      → Serves pair s (fresh pair rows 0 0) served after notes notes'
  served_fresh l t r n m k ledger titles rules serves =
      rw
      (ledger ∙ ledger_fresh l rows 0 (formats_ledger l rows is_number n), titles ∙ titles_fresh pair t r (formats_card t r m k), rules ∙ rules_fresh pair t r (formats_card t r m k) 0)
      at serves
