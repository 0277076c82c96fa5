-- What each call changes when it is done.
use Rattle.std.specs.Prelude.{ℕ, cond, eqb}
use Rattle.formats.specs.Entry.{is_full}
use Rattle.formats.specs.Half.{wiped}
use Rattle.formats.specs.Title.{title_half}
use Rattle.formats.specs.Rule.{rule_half, wiped_rule}
use Rattle.formats.specs.Row.{here_row, plain_row, with_permits}
use Rattle.formats.specs.declared.facts.Facts.{Facts}
use Rattle.formats.specs.declared.facts.Fillers.{Fillers}
use Rattle.requests.specs.declared.request.Request.{Request}
use Rattle.requests.specs.declared.request.Request.TheVariants.{Register, Record, CheckOut, CheckIn, MoveOut, MoveIn, Delete}
use Rattle.calls.specs.Count.{one_less, one_more}
use Rattle.calls.specs.Buffers.{Buffers, row_at, title_at, rule_at, row_facts, kind_at, content_at, facts_at, with_row, with_title, with_rule}

-- "rights less 1, or 15 unchanged": the facts after a move
abbrev pub after_move : Facts → Facts
after_move f =
    record {
      cci = f.cci;
      trigger = f.trigger;
      rights = one_less f.rights;
      permits = f.permits;
      title_key = f.title_key;
      sti_key = f.sti_key;
    }

-- the CCI of a copy: "check-out writes CCI 3 where the row has 2; 0 and 3 pass through"
unfoldable pub copy_cci : ℕ → ℕ
copy_cci cci = cond (eqb cci 2) 3 cci

-- row c with other permits: no byte but 4 changes
abbrev pub set_permits : ℕ → ℕ → Buffers → Buffers
set_permits c permits b = with_row c (with_permits (row_at b.ledger c) permits) b

-- entry j full, with ID c, the facts f and h
abbrev pub write_entry : ℕ → ℕ → Facts → ℕ → Buffers → Buffers
write_entry c j f h b = with_title j (title_half f.cci f.title_key c) (with_rule j (rule_half f h c) b)

-- the title half of entry j wiped; both halves wiped
abbrev pub wipe_title : ℕ → ℕ → Buffers → Buffers
wipe_title j f1 b = with_title j (wiped (title_at b.titles j) f1) b

abbrev pub wipe_entry : ℕ → Fillers → Buffers → Buffers
wipe_entry j f b = wipe_title j f.f1 (with_rule j (wiped_rule (rule_at b.rules j) f) b)

-- 1 register: row "becomes here with the facts"
-- 2 record: "row away, entry full with the facts and h"
-- 3 check-out: "title half written with the row's CCI and key; permits less 1, or 15 unchanged. The rule half is untouched.";
-- in place of the row's CCI W3 puts that of a copy
-- 4 check-in: "wiped; permits plus 1, or 15 unchanged"
-- 5 move out: "row here with the entry's facts; both halves wiped; rights less 1, or 15 unchanged"
-- 6 move in: "entry full with the row's facts and h; rights less 1, or 15 unchanged; row away"
-- 7 delete: "a copy has its title half wiped ..; a full entry has both halves wiped and its row, away, becomes gone"
unfoldable pub effect : Request → Buffers → Buffers
effect (Register c f) b = with_row c.0 (here_row f) b
effect (Record c j f h) b = write_entry c.0 j.0 f h (with_row c.0 (plain_row 2) b)
effect (CheckOut c j) b =
    let f = row_facts b c.0 in
    with_title j.0 (title_half (copy_cci f.cci) f.title_key c.0) (set_permits c.0 (one_less f.permits) b)
effect (CheckIn j f1) b =
    let c = content_at b j.0 in
    wipe_title j.0 f1 (set_permits c (one_more (row_facts b c).permits) b)
effect (MoveOut j h f) b = wipe_entry j.0 f (with_row (content_at b j.0) (here_row (after_move (facts_at b j.0))) b)
effect (MoveIn c j h) b = write_entry c.0 j.0 (after_move (row_facts b c.0)) h (with_row c.0 (plain_row 2) b)
effect (Delete j f) b =
    cond (is_full (kind_at b j.0)) (wipe_entry j.0 f (with_row (content_at b j.0) (plain_row 3) b)) (wipe_title j.0 f.f1 b)
