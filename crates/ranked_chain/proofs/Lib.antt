pub mod Slots
pub mod RankedRow
pub mod RanksFit
pub mod RaisedLists
pub mod RankedRecords
pub mod Ranking
pub mod Chunked
