-- 02, job 2: the check stepped by a host. Read: State, Laws, Cases. Begun and Standing are of the code's own terms.
pub mod State
pub mod Begun
pub mod Standing
pub mod Laws
pub mod Cases
