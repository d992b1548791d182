pub mod Numbers
pub mod ColorNumbers
pub mod EncoderNumbers
pub mod RecordNumbers
pub mod StateNumbers
