pub mod RoundTrip
pub mod Valid
