-- The promises of specs/Forms.
-- Assumes nothing.
use Rattle.requests.specs.Forms.{GroupsOfSeven, NumberForm, NumberRefused, LengthsFromTable, RequestForm}
use Rattle.std.proofs.Common.{refl, ap, arith, length}
use Rattle.requests.proofs.number.Lengths.{at_leading_zeros}
use Rattle.requests.proofs.number.Laws.{groups_last, groups_bytes, groups_read, only_groups, reading_undoes_writing, above_refused, only_written, read_below}
use Rattle.requests.proofs.number.Refused.{ends_inside, only_ends_inside, not_shortest, too_large, only_these, read_else}
use Rattle.requests.proofs.request.Longest.{request_within}
use Rattle.requests.proofs.request.Laws.{reading_undoes_writing_request, request_form, read_request_stays, refused_request_stays}

pub groups_of_seven : GroupsOfSeven
groups_of_seven = record { are_bytes = groups_bytes; reading_undoes_writing = groups_read; only_written = λ s v k. only_groups s }

pub number_form : NumberForm
number_form =
    record {
      reading_undoes_writing = reading_undoes_writing;
      above_refused = above_refused;
      only_written = λ s v k bytes h. (only_written s bytes h, read_below s bytes h);
    }

pub number_refused : NumberRefused
number_refused =
    record {
      ends_inside = ends_inside;
      only_ends_inside = only_ends_inside;
      not_shortest = not_shortest;
      too_large = too_large;
      only_these = only_these;
      read_else = read_else;
    }

pub lengths_from_table : LengthsFromTable
lengths_from_table = record { size = refl; zero = ap length (groups_last 0 (omega arith)); by_leading_zeros = at_leading_zeros }

pub one_written_form : RequestForm
one_written_form =
    record {
      reading_undoes_writing = reading_undoes_writing_request;
      only_written = λ s q k bytes h. let f = request_form s h in (f.form bytes, f.passes, f.below bytes);
      read_stays = λ s rest q k. read_request_stays s rest;
      refused_stays = λ s rest w. refused_request_stays s rest;
      at_most_53 = request_within;
    }
