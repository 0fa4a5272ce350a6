pub mod Merging
pub mod Halves
pub mod Ranking
pub mod RankKeys
pub mod SameComparisons
