-- What a till gives in plain values, as the calls take it.
use Rattle.std.specs.Prelude.{ℕ, Bool, true, false, Option}
use Rattle.formats.specs.declared.head.Pair.{Pair}
use Rattle.formats.specs.declared.head.Pair.TheVariants.{Audio, Picture}
use Rattle.formats.specs.declared.facts.ContentId.{ContentId}
use Rattle.formats.specs.declared.facts.EntryNumber.{EntryNumber}
use Rattle.formats.specs.declared.facts.Facts.{Facts}
use Rattle.formats.specs.declared.facts.Fillers.{Fillers}
use Rattle.requests.specs.Values.{request_in}
use Rattle.requests.specs.declared.request.Request.{Request}
use Rattle.till.specs.declared.given.CounterRequest.{CounterRequest}

-- `bool pair`: COUNTER_AUDIO is false, COUNTER_PICTURE true
abbrev pub pair_of : Bool → Pair
pair_of false = Audio
pair_of true = Picture

abbrev pub title : ℕ → ContentId
title content = record { 0 = content }

abbrev pub place : ℕ → EntryNumber
place entry = record { 0 = entry }

-- "Facts are CCI, trigger, rights, permits, title key, STI key"
abbrev pub facts : ℕ → ℕ → ℕ → ℕ → ℕ → ℕ → Facts
facts cci trigger rights permits title_key sti_key =
    record { cci = cci; trigger = trigger; rights = rights; permits = permits; title_key = title_key; sti_key = sti_key }

-- "f1 to f4 are 64-bit fillers"
abbrev pub fillers : ℕ → ℕ → ℕ → ℕ → Fillers
fillers f1 f2 f3 f4 = record { f1 = f1; f2 = f2; f3 = f3; f4 = f4 }

-- `struct counter_request`: the request of a kind from 1 to 7 with these arguments, and else none
abbrev pub request_given : CounterRequest → Option Request
request_given r = request_in r.kind r.arguments
