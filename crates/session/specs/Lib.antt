pub mod Bringing
pub mod Looping
pub mod Ran
pub mod Reading
-- What a run is and what it answers, passed on to servers over a session.
pub use Rattle.session_laws.specs.Course
pub use Rattle.session_laws.specs.Headline
pub use Rattle.session_laws.specs.Input
pub use Rattle.session_laws.specs.Meaning
pub use Rattle.session_laws.specs.Run
pub use Rattle.session_laws.specs.RunEnds
pub use Rattle.session_laws.specs.SessionError
pub use Rattle.session_laws.specs.Texts
