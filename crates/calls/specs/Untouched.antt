-- Which row and which halves a call writes, and that everything else stays as it was, byte for byte.
use Rattle.std.specs.Prelude.{ℕ, ◌+◌, ◌*◌, ◌≤◌, ◌≡◌, ◌≢◌, List, cond, length, Option, None, Some}
use Rattle.formats.specs.Entry.{is_full}
use Rattle.formats.specs.Part.{part}
use Rattle.requests.specs.declared.request.Request.{Request}
use Rattle.requests.specs.declared.request.Request.TheVariants.{Register, Record, CheckOut, CheckIn, MoveOut, MoveIn, Delete}
use Rattle.calls.specs.Buffers.{Buffers, kind_at, content_at}

-- the row that a call writes; a copy is deleted with "its row neither tested nor touched"
abbrev pub row_written : Request → Buffers → Option ℕ
row_written (Register c f) b = Some c.0
row_written (Record c j f h) b = Some c.0
row_written (CheckOut c j) b = Some c.0
row_written (CheckIn j f1) b = Some (content_at b j.0)
row_written (MoveOut j h f) b = Some (content_at b j.0)
row_written (MoveIn c j h) b = Some c.0
row_written (Delete j f) b = cond (is_full (kind_at b j.0)) (Some (content_at b j.0)) None

-- the entry whose title half it writes: register is lent no card
abbrev pub title_written : Request → Option ℕ
title_written (Register c f) = None
title_written (Record c j f h) = Some j.0
title_written (CheckOut c j) = Some j.0
title_written (CheckIn j f1) = Some j.0
title_written (MoveOut j h f) = Some j.0
title_written (MoveIn c j h) = Some j.0
title_written (Delete j f) = Some j.0

-- the entry whose rule half it writes; a copy's is not touched
abbrev pub rule_written : Request → Buffers → Option ℕ
rule_written (Register c f) b = None
rule_written (Record c j f h) b = Some j.0
rule_written (CheckOut c j) b = None
rule_written (CheckIn j f1) b = None
rule_written (MoveOut j h f) b = Some j.0
rule_written (MoveIn c j h) b = Some j.0
rule_written (Delete j f) b = cond (is_full (kind_at b j.0)) (Some j.0) None

-- a table of slots of one width, of which the first is its head: no slot differs but the one written, and the head does not
pub record SlotsKept (width : ℕ) (written : Option ℕ) (old new : List ℕ) : Type 0 where
  pub same_length : length new ≡ length old
  pub head : part new 0 width ≡ part old 0 width
  pub others : (i : ℕ) → width * i + width ≤ length old → written ≢ Some i → part new (width * i) width ≡ part old (width * i) width

-- every row, title half and rule half but those that the call writes, and the heads
pub record Untouched (k : Request) (b after : Buffers) : Type 0 where
  pub rows : SlotsKept 24 (row_written k b) b.ledger after.ledger
  pub titles : SlotsKept 16 (title_written k) b.titles after.titles
  pub rules : SlotsKept 32 (rule_written k b) b.rules after.rules
