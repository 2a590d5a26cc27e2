-- Models that only proofs use: what the fields of a queue keep, and what its private functions say. No public clause
-- names these.
pub mod List
pub mod Lists
pub mod PriorityLists
pub mod ListsInvariant
pub mod ArrivalOf
pub mod QueueInvariant
