-- `requests::request::fits`: no request within its limits is longer than the longest.
-- Assumes nothing.
use Rattle.std.proofs.Common.{◌≤◌, sym, ◌∙◌, arith, length}
use borrow.Author.Tests.{le-leb}
use Rattle.requests.specs.Values.{written_numbers}
use Rattle.requests.proofs.request.Longest.{numbers_within}
use Rattle.requests.proofs.request.fits.Goals as goal

pub returns-then-room-ge-LONGEST : goal.returns-then-room-ge-LONGEST
returns-then-room-ge-LONGEST c =
    let most = numbers_within c.args.kind c.args.values.now c.requires.kind_passes c.requires.values_pass c.fits-values in
    let room : length (written_numbers c.args.kind c.args.values.now) ≤ c.args.room = omega (arith, most, c.if-room-ge-LONGEST.true) in
    le-leb _ c.args.room c.if-room-ge-LONGEST.true ∙ sym (le-leb (length (written_numbers c.args.kind c.args.values.now)) c.args.room room)
