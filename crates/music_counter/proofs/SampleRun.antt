-- The bytes of the sample run are its requests.
-- Assumes nothing.
use mathlib.Core.Path.{refl}
use Rattle.requests.specs.Number.{read_groups, exceeds, read_number}
use Rattle.requests.specs.Request.{schema, request_of, read_arguments, read_request}
use Rattle.music_counter.specs.Serve.{read_stream, stream_of}
use Rattle.music_counter.specs.SampleRun.{SampleStream}

pub sample_stream : SampleStream
unfolding read_groups exceeds read_number schema request_of read_arguments read_request read_stream stream_of
sample_stream = refl
