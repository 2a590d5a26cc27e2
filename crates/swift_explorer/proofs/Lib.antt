pub mod Prelude
mod Copies
mod Followed
mod First
mod Ended
mod Orderly
mod Used
mod Past
mod Paths
mod HistoriesTaken
mod Sound
mod SameMoves
mod EachMove
mod Written
mod Alike
mod Nodes
mod PartsKnown
mod KeptNodes
mod Growing
mod KeySets
mod Keeping
mod Trying
mod Noting
mod Seeing
mod KnownEnds
mod Complete
mod Completing
mod Texts
pub mod Bytes
pub mod Codes
pub mod FrameCodes
pub mod DigestCodes
pub mod Within
pub mod Steps
pub mod CardSteps
mod CardsNoted
mod LogsRead
mod LooksAway
mod InvariantsOfActors
mod StartInvariants
mod RunningAhead
mod MarksRead
mod FlagsRead
mod UnnamedRoots
mod Trial
