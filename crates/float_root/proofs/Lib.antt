pub mod WholeRoot
pub mod RootRound
pub mod RootNear
pub mod RootLaw
pub mod LibraryRoot
pub mod BitsOrder
pub mod AtLeastZero
