pub mod Answer
pub mod Serve
pub mod Preview
pub mod SampleRun
pub mod History
