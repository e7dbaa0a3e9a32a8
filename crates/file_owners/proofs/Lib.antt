pub mod OneWay
pub mod OneOwner
pub mod Gathering
pub mod Claiming
pub mod NamedPlaces
mod ReadWords
mod AnyOfFront
mod AskedQuestions
mod Staying
mod SoundMembers
