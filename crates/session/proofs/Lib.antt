pub mod Advancing
pub mod Behind
pub mod Endings
pub mod Feeding
pub mod Unstarted
-- The laws of runs, passed on to servers over a session.
pub use Rattle.session_laws.proofs.Answered
pub use Rattle.session_laws.proofs.Asking
pub use Rattle.session_laws.proofs.Causes
pub use Rattle.trust_laws.proofs.Trusted
