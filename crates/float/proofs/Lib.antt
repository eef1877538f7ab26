pub mod Nans
pub mod Truncating
pub mod Rounding
pub mod AtMost
