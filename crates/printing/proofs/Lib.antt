pub mod PutLaws
pub mod Decimal
pub mod PairLaws
pub mod PrintLaws
