pub mod Growing
pub mod Kinded
pub mod OneMore
pub mod Others
pub mod Products
pub mod Typed
pub mod Typing
