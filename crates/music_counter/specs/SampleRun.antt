-- The input of document 01's sample run, as bytes.
use Rattle.std.specs.Prelude.{ℕ, ◌≡◌, List, [], ◌∷◌}
use Rattle.calls.specs.SampleRun.{sample_requests}
use Rattle.music_counter.specs.Serve.{stream_of}

-- "01 01 02 00 01 01 05 06, 03 01 07, 03 01 08, 06 01 09 00, 04 07 09, 06 01 09 00"
abbrev pub sample_bytes : List ℕ
sample_bytes =
    0x01 ∷ 0x01 ∷ 0x02 ∷ 0x00 ∷ 0x01 ∷ 0x01 ∷ 0x05 ∷ 0x06
    ∷ 0x03 ∷ 0x01 ∷ 0x07
    ∷ 0x03 ∷ 0x01 ∷ 0x08
    ∷ 0x06 ∷ 0x01 ∷ 0x09 ∷ 0x00
    ∷ 0x04 ∷ 0x07 ∷ 0x09
    ∷ 0x06 ∷ 0x01 ∷ 0x09 ∷ 0x00
    ∷ []

-- they are read as those six requests, and no byte is left: "end 0"
abbrev pub SampleStream : Type 0
SampleStream = stream_of sample_bytes ≡ record { requests = sample_requests; stop = 0 }
