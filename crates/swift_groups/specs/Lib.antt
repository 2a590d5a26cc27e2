pub mod Groups
pub mod Next
pub mod Close
pub mod Answers
pub mod Inside
pub mod KeysInside
pub mod GroupsInside
