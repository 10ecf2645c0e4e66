-- Which rows meet. Read: Matrix, Rows, Laws, Lists, Part, Descent.
pub mod Matrix
pub mod Part
pub mod Descent
pub mod Rows
pub mod Lists
pub mod Laws
