pub mod Numeral
pub mod Written
pub mod Arises
