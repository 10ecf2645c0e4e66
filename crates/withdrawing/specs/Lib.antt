pub mod Withdraw
